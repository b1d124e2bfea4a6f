use Rattle.std.proofs.Common.{arith}
use Rattle.index_definition.proofs.Placing.{bytes_of, counted, is_long}
use Rattle.index_definition.proofs.order.are_too_long.Goals as goal

pub returns-then-more-bytes : goal.returns-then-more-bytes
returns-then-more-bytes c =
    is_long 65536 c.loop-pair.bytes (bytes_of c.args.items.now) c.loop-pair.pair-index c.args.items.now c.pair-item.result c.as_str-more.result.now c.requires c.loop-pair-test.true c.pair-item.is
    c.as_str-more.ensures c.loop-pair.invariant.so_far c.loop-pair.invariant.within c.if-more-bytes.true

pub loop-pair-preserved : goal.loop-pair-preserved
loop-pair-preserved c = record {
  within = omega (arith, c.loop-pair.invariant.within, c.if-more-bytes.false);
  so_far =
      counted c.loop-pair.bytes (bytes_of c.args.items.now) c.loop-pair.pair-index c.args.items.now c.pair-item.result c.as_str-more.result.now c.requires c.loop-pair-test.true c.pair-item.is
      c.as_str-more.ensures c.loop-pair.invariant.so_far;
}
