use Rattle.std.proofs.Common.{arith, ap, sym, ◌-◌, ◌∙◌, length}
use Rattle.spec_index.specs.Optimiser.{is_too_wide}
use Rattle.index_definition.specs.Order.{with_paths}
use Rattle.index_definition.specs.ShapeView.{shape_view}
use Rattle.auto_merge.proofs.Unions.{all_put, is_narrow, is_wide, one_more, too_many, views}
use Rattle.auto_merge.proofs.union.union_of.Goals as goal

pub loop-i-preserved : goal.loop-i-preserved
loop-i-preserved c = record {
  within = omega (arith, c.loop-i.invariant.within);
  so_far =
      one_more (shape_view c.args.shape.now) c.args.others.now c.loop-i.i c.index-others-i.result c.loop-i.fields c.put_alike.new.fields c.loop-i-test.true c.loop-i.invariant.within
      c.index-others-i.is c.loop-i.invariant.so_far c.in_ok-put_alike.ensures;
}

pub returns-then-len-gt-MAX_FIELDS : goal.returns-then-len-gt-MAX_FIELDS
returns-then-len-gt-MAX_FIELDS c =
    let fields =
    one_more (shape_view c.args.shape.now) c.args.others.now c.loop-i.i c.index-others-i.result c.loop-i.fields c.put_alike.new.fields c.loop-i-test.true c.loop-i.invariant.within
    c.index-others-i.is c.loop-i.invariant.so_far c.in_ok-put_alike.ensures in
    too_many (shape_view c.args.shape.now) (c.loop-i.i - 1) (views c.args.others.now) (omega (arith, c.if-len-gt-MAX_FIELDS.true, c.len.ensures, ap length fields))

pub returns-then-are_too_wide : goal.returns-then-are_too_wide
returns-then-are_too_wide c =
    is_wide (shape_view c.args.shape.now) (views c.args.others.now) c.put_all.new.self
    (all_put c.args.shape.now (views c.args.others.now) c.loop-i.i c.loop-i.fields c.put_all.new.self c.loop-i-test.false c.loop-i.invariant.so_far
    (c.in_ok-put_all.ensures ∙ ap (λ paths. with_paths paths c.loop-i.fields) c.as_slice.ensures))
    c.if-are_too_wide.ensures

pub returns : goal.returns
returns c =
    is_narrow (shape_view c.args.shape.now) (views c.args.others.now) c.in_ok-into_paths.field-0
    (c.in_ok-into_paths.ensures
    ∙ all_put c.args.shape.now (views c.args.others.now) c.loop-i.i c.loop-i.fields c.put_all.new.self c.loop-i-test.false c.loop-i.invariant.so_far
    (c.in_ok-put_all.ensures ∙ ap (λ paths. with_paths paths c.loop-i.fields) c.as_slice.ensures))
    (c.if-are_too_wide.ensures ∙ ap is_too_wide (sym c.in_ok-into_paths.ensures))
