use Rattle.std.proofs.Common.{◌||◌, cond, Some, None, ap, ◌∙◌}
use Rattle.std.specs.BTreeMap.{insert_entry}
use Rattle.std.specs.Option.{option_or}
use Rattle.reference_track.specs.Sets.{id_cmp, is_id, is_one_of, keys, spelling}
use Rattle.reference_track.proofs.SetLemmas.{is_one_of-insert, spelling-insert}
use Rattle.reference_track.proofs.id_set.IdSet.put.Goals as goal

pub returns-clause-members : goal.returns-clause-members
returns-clause-members c = λ x.
    ap (λ es. is_one_of x (keys es)) c.in_ok-put.ensures.pairs ∙ ap (λ k. is_one_of x (keys (insert_entry id_cmp c.self.inside.members k tt))) c.in_ok-clone.ensures.cases
    ∙ is_one_of-insert x c.args.id.now tt c.self.inside.members c.in_ok-put.ensures.rising ∙ ap (λ ids. is_id x c.args.id.now || is_one_of x ids) c.self.view_is

pub returns-clause-spellings : goal.returns-clause-spellings
returns-clause-spellings c = λ x.
    ap (λ es. spelling x (keys es)) c.in_ok-put.ensures.pairs ∙ ap (λ k. spelling x (keys (insert_entry id_cmp c.self.inside.members k tt))) c.in_ok-clone.ensures.cases
    ∙ spelling-insert x c.args.id.now tt c.self.inside.members c.in_ok-put.ensures.rising
    ∙ ap (λ ids. option_or (spelling x ids) (cond (is_id x c.args.id.now) (Some c.args.id.now) None)) c.self.view_is
