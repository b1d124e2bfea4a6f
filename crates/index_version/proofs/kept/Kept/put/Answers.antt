use Rattle.std.proofs.Common.{cond, sym, ap, ◌∙◌}
use Rattle.std.proofs.lemmas.Result.{IfOk-weaker}
use Rattle.spec_data.specs.Folding.{folded}
use Rattle.reference_track.specs.Sets.{is_id}
use Rattle.reference_track.specs.Tracks.{is_pair}
use Rattle.index_version.specs.Kept.{is_loaded}
use Rattle.index_version.proofs.kept.Kept.put.Goals as goal

pub returns-in-None-clause-pairs : goal.returns-in-None-clause-pairs
returns-in-None-clause-pairs c =
    IfOk-weaker c.take_out.result _ _ (λ kept h x y. h x y ∙ ap (λ o. cond (is_id x c.args.id.now) (is_loaded (folded y) o) (is_pair x y c.args.self.referrers)) (sym c.in-None.is)) c.take_out.ensures.pairs
