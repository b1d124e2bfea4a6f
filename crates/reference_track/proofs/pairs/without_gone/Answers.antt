use Rattle.std.proofs.Common.{not, ◌&&◌, ap, ◌∙◌}
use Rattle.std.proofs.lemmas.Result.{IfOk-weaker}
use Rattle.reference_track.specs.Sets.{is_id, is_one_of}
use Rattle.reference_track.specs.Tracks.{tracked}
use Rattle.reference_track.proofs.pairs.without_gone.Goals as goal

pub returns : goal.returns
returns c = IfOk-weaker c.without_each.result _ _ (λ m is x y.
    is x y ∙ ap (λ ids. not (is_one_of y ids && is_id x c.args.id.now) && is_one_of x (tracked y c.args.sets)) c.as_slice-2.ensures
    ∙ ap (λ b. not (b && is_id x c.args.id.now) && is_one_of x (tracked y c.args.sets))
    (c.in_ok-gone.ensures y ∙ ap (λ ids. is_one_of y ids && not (is_one_of y c.args.new.now)) (c.as_slice.ensures ∙ c.in_ok-all.ensures.all))) c.without_each.ensures
