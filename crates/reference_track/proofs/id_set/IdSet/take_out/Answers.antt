use Rattle.std.proofs.Common.{◌∙◌, ap, not, ◌&&◌, cond, None}
use Rattle.reference_track.specs.Sets.{is_id, is_one_of, spelling, keys}
use Rattle.reference_track.proofs.SetLemmas.{is_one_of-remove, spelling-remove}
use Rattle.reference_track.proofs.id_set.IdSet.take_out.Goals as goal

pub returns-clause-members : goal.returns-clause-members
returns-clause-members c = λ x.
    ap (λ es. is_one_of x (keys es)) c.in_ok-take_out.ensures.pairs ∙ is_one_of-remove x c.args.id.now c.self.inside.members c.in_ok-take_out.ensures.rising
    ∙ ap (λ ids. not (is_id x c.args.id.now) && is_one_of x ids) c.self.view_is

pub returns-clause-spellings : goal.returns-clause-spellings
returns-clause-spellings c = λ x.
    ap (λ es. spelling x (keys es)) c.in_ok-take_out.ensures.pairs ∙ spelling-remove x c.args.id.now c.self.inside.members c.in_ok-take_out.ensures.rising
    ∙ ap (λ ids. cond (is_id x c.args.id.now) None (spelling x ids)) c.self.view_is
