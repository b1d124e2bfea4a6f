use Rattle.std.proofs.Common.{◌≡◌, ◌-◌, length, drop, true, false, ◌==◌, sym, arith, take_all, length-drop}
use Rattle.std.specs.Prelude.{slice_index}
use Rattle.raven_json.proofs.WholeNumbers.{with_minus, without_minus}
use Rattle.raven_json.proofs.direct.whole_number.Goals as goal

pub returns-then-has_minus : goal.returns-then-has_minus
returns-then-has_minus c =
    let s = c.as_bytes-bytes.result.now in
    let signed : (slice_index s 0 == 45) ≡ true = sym c.if-has_minus.ensures.value in
    let behind = take_all (length s - 1) (drop 1 s) (omega (arith, length-drop 1 s)) in
    rw c.as_bytes-bytes.ensures.value at (with_minus s c.below_zero.result signed (rw behind at c.below_zero.ensures))

pub returns-else-has_minus : goal.returns-else-has_minus
returns-else-has_minus c =
    let s = c.as_bytes-bytes.result.now in
    let unsigned : (slice_index s 0 == 45) ≡ false = sym c.if-has_minus.ensures.value in
    rw c.as_bytes-bytes.ensures.value at (without_minus s c.from_zero.result unsigned c.from_zero.ensures)
