use Rattle.std.proofs.Common.{◌≡◌, ◌==◌, ◌<◌, ◌≤◌, ℕ, List, length, get_or, sym, arith, false}
use Rattle.std.proofs.lemmas.List.Sums.{position_or_len_is}
use Rattle.std.specs.List.{position_or_len}
use Rattle.http_read.specs.Heads.{is_space}
use Rattle.http_read.proofs.target.place_of_space.Goals as goal

none : (bytes : List ℕ) (i : ℕ) → length bytes ≤ i → ((k : ℕ) → k < i → (get_or bytes k 0 == 32) ≡ false) → length bytes ≡ position_or_len is_space bytes
none bytes i h f = sym (position_or_len_is is_space bytes (length bytes) 0 (omega arith) (λ k l. f k (omega arith)) (λ l. absurd (omega arith)))

pub returns-clause-value : goal.returns-clause-value
returns-clause-value c = none c.args.bytes.now c.loop-i.i c.loop-i-test.false c.loop-i.invariant
