use Rattle.std.proofs.Common.{rules, ◌<◌, length, subst, ◌∙◌, arith}
use Rattle.std.proofs.lemmas.List.{get_or-set_other, get_or_default, length-set}
use Rattle.std.specs.FinMap.{get}
use Rattle.spec_data.specs.Rows.{Row}
use Rattle.index_version.specs.Asked.{IsAnswer}
use Rattle.index_version.proofs.Zips.{one_place_more, zip_places}
use Rattle.index_version.proofs.asking.answer_each.Goals as goal

pub loop-one-preserved : goal.loop-one-preserved
loop-one-preserved g c =
    let R = IsAnswer (λ (d : Row). g.M.Mapper.meaning c.args.mapper.now d (get c.args.table.now)) in
    let k = c.loop-one.one-index in let xs = c.args.asked.now in let ys = c.loop-one.one-items in let y = c.answer.new.self in
    let inside : k < length ys = search rules in (
      length-set ys k y ∙ c.loop-one.invariant.0,
      λ i a h. get_or-set_other ys k i y a (λ e. omega arith) ∙ c.loop-one.invariant.1 i a (omega arith),
      one_place_more R xs ys k y inside (λ i a h. c.loop-one.invariant.2 i a h)
          (λ a. subst (λ x. R x y) (get_or_default ys k _ a inside ∙ c.loop-one.invariant.1 k a (omega arith)) c.answer.ensures),
    )

pub returns : goal.returns
returns g c =
    let R = IsAnswer (λ (d : Row). g.M.Mapper.meaning c.args.mapper.now d (get c.args.table.now)) in
    zip_places R c.args.asked.now c.loop-one.one-items c.loop-one.invariant.0 (λ i a within. c.loop-one.invariant.2 i a (omega (arith, within)))
