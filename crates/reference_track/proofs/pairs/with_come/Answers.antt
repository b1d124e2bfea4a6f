use Rattle.std.proofs.Common.{◌||◌, ◌&&◌, ap, ◌∙◌}
use Rattle.std.proofs.lemmas.Result.{IfOk-weaker}
use Rattle.reference_track.specs.Sets.{is_id, is_one_of}
use Rattle.reference_track.specs.Tracks.{tracked}
use Rattle.reference_track.proofs.pairs.with_come.Goals as goal

pub returns : goal.returns
returns c = IfOk-weaker c.with_each.result _ _ (λ m is x y.
    is x y ∙ ap (λ ids. (is_one_of y ids && is_id x c.args.id.now) || is_one_of x (tracked y c.args.sets)) c.as_slice.ensures
    ∙ ap (λ b. (b && is_id x c.args.id.now) || is_one_of x (tracked y c.args.sets)) (c.in_ok-come.ensures y)) c.with_each.ensures
