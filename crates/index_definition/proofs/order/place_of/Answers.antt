use Rattle.std.proofs.Common.{arith}
use Rattle.index_definition.proofs.Placing.{at_end, before, found, goes_on}
use Rattle.index_definition.proofs.order.place_of.Goals as goal

pub returns-in-Less : goal.returns-in-Less
returns-in-Less c =
    before c.args.name.now c.args.path.now c.loop-i.i c.args.items.now c.index-items-i.result c.requires.name c.requires.named c.loop-i.invariant.passed c.loop-i-test.true c.index-items-i.is (cc)

pub returns-in-Equal : goal.returns-in-Equal
returns-in-Equal c =
    found c.args.name.now c.args.path.now c.loop-i.i c.args.items.now c.index-items-i.result c.requires.name c.requires.named c.loop-i.invariant.passed c.loop-i-test.true c.index-items-i.is (cc)

pub loop-i-preserved : goal.loop-i-preserved
loop-i-preserved c = record {
  within = omega arith;
  passed = goes_on c.args.name.now c.args.path.now c.loop-i.i c.args.items.now c.index-items-i.result c.requires.name c.requires.named c.loop-i.invariant.passed c.loop-i-test.true c.index-items-i.is (cc);
}

pub returns : goal.returns
returns c = at_end c.args.name.now c.args.path.now c.loop-i.i c.args.items.now c.requires.name c.requires.named c.loop-i.invariant.passed (omega (arith, c.loop-i.invariant.within, c.loop-i-test.false))
