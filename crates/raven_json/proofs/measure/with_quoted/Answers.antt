use Rattle.std.proofs.Common.{arith}
use Rattle.std.proofs.lemmas.List.{drop_all}
use Rattle.raven_json.proofs.measure.with_quoted.Goals as goal

pub returns : goal.returns
returns c =
    let whole = rw (drop_all c.loop-byte.byte-index c.as_bytes-byte-items.result.now (omega arith)) at c.loop-byte.invariant.counted in
    omega arith
