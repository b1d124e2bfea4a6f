use Rattle.std.proofs.Common.{cond, ap, ◌∙◌}
use Rattle.std.specs.BTreeMap.{insert_entry}
use Rattle.reference_track.specs.Sets.{id_cmp, is_id, is_one_of}
use Rattle.reference_track.specs.Tracks.{is_pair}
use Rattle.index_version.proofs.TableLemmas.{loaded_is, results_with}
use Rattle.index_version.proofs.kept.Kept.put_given.Goals as goal

pub returns-clause-results : goal.returns-clause-results
returns-clause-results c =
    results_with c.args.self.given c.in_ok-put.field-0 c.args.id.now c.args.given
    (c.in_ok-put.ensures
    ∙ ap (λ id. insert_entry id_cmp c.args.self.given id c.args.given) c.in_ok-clone.ensures.cases)

pub returns-clause-pairs : goal.returns-clause-pairs
returns-clause-pairs c = λ x y.
    c.in_ok-referrers.ensures x y
    ∙ ap (λ loads. cond (is_id x c.args.id.now) (is_one_of y loads) (is_pair x y c.args.self.referrers)) c.as_slice.ensures
    ∙ ap (λ b. cond (is_id x c.args.id.now) b (is_pair x y c.args.self.referrers)) (loaded_is y c.loads.result.now c.args.given c.loads.ensures)
