-- Soundness, from the members of the program's values.
use Rattle.std.proofs.Common.{◌≡◌, ℕ, zero, suc, ◌+◌, ◌<◌, List, [], ◌∷◌, length, get_or, drop, map, IsUtf8, sym, subst, arith, add-one}
use Rattle.spec_data.proofs.MemberLemmas.{pairs_of-entries_of}
use Rattle.spec_data.specs.Data.{entries_of, pairs_of}
use Rattle.spec_data.specs.Rising.{Pairs, IsRising}
use Rattle.spec_data.specs.Sound.{IsSound, HasSound}
use Rattle.raven_value.specs.View.{data_of, pair_of}
use Rattle.raven_value.specs.declared.text.Text.{Text}
use Rattle.raven_value.specs.declared.value.Value.{Value}

pub rises : (ms : Pairs) → IsRising ms → IsRising (pairs_of (entries_of ms))
rises ms h = let P : Pairs → Type 0 = λ s. IsRising s in subst P (sym (pairs_of-entries_of ms)) h

one_more_suc : (xs : List (Text × Value)) (i : ℕ) (x : Text × Value) → i < length xs → x ≡ get_or xs i x → IsUtf8 x.0 → IsSound (data_of x.1)
    → HasSound (entries_of (map pair_of (drop (suc i) xs))) → HasSound (entries_of (map pair_of (drop i xs)))
one_more_suc [] i x l e u s h = absurd (omega arith)
one_more_suc (y ∷ ys) zero x l e u s h = (subst (λ (m : Text × Value). IsUtf8 m.0) e u, (subst (λ (m : Text × Value). IsSound (data_of m.1)) e s, h))
one_more_suc (y ∷ ys) (suc i) x l e u s h = one_more_suc ys i x (omega arith) e u s h

pub one_more : (xs : List (Text × Value)) (i : ℕ) (x : Text × Value) → i < length xs → x ≡ get_or xs i x → IsUtf8 x.0 → IsSound (data_of x.1)
    → HasSound (entries_of (map pair_of (drop (i + 1) xs))) → HasSound (entries_of (map pair_of (drop i xs)))
one_more xs i x l e u s h = one_more_suc xs i x l e u s (rw (← add-one) h)

pub ruleset sounds = (rises, one_more)
