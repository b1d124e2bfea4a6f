-- If the first part of an index of several maps may have its name, so may the parts after it.
use Rattle.std.proofs.Common.{◌≡◌, ℕ, ◌+◌, ◌<◌, ◌≤◌, List, [], ◌∷◌, ◌++◌, length, Bool, true, false, cond, Option, Some, None, is_none, codes, refl, ap, arith}
use Rattle.std.proofs.lemmas.Bool.{ltb-false}
use Rattle.std.proofs.lemmas.Fmt.{decimal_digit}
use Rattle.std.proofs.lemmas.List.{length-append}
use Rattle.std.specs.Prelude.{◌==◌, nat_lt, option_map, if◌then◌else◌}
use Rattle.std.specs.Fmt.{decimal}
use Rattle.std.specs.List.{position_from}
use Rattle.spec_data.specs.Faults.{empty, too_long, control, is_control, is_fit, max_name}
use Rattle.spec_data.proofs.Clean.{IsClean, clean-append, clean-decimal, faultless}
use Rattle.spec_server.specs.Several.{part_name}

none-clean : (i : ℕ) (s : List ℕ) → position_from is_control i s ≡ None → IsClean s
none-clean i [] h = tt
none-clean i (b ∷ s) h = elim (is_control b) as (λ c. is_control b ≡ c → cond c (Some i) (position_from is_control (i + 1) s) ≡ None → (is_control b ≡ false) × IsClean s) [
  | true ↦ λ e g. absurd cc
  | false ↦ λ e g. (e, none-clean (i + 1) s g)
] refl h

no-fault : (a b : Bool) (n : ℕ) (r : Option ℕ) → is_none (if a then Some empty else (if b then Some (too_long n) else option_map control r)) ≡ true → (b ≡ false) × (r ≡ None)
no-fault true b n r h = absurd cc
no-fault false true n r h = absurd cc
no-fault false false n None h = (refl, refl)
no-fault false false n (Some k) h = absurd cc

fit-clean : (s : List ℕ) → is_fit max_name s ≡ true → IsClean s × (length s ≤ max_name)
fit-clean s h =
    let none = no-fault (length s == 0) (nat_lt max_name (length s)) (length s) (position_from is_control 0 s) h in
    (none-clean 0 s none.1, ltb-false max_name (length s) none.0)

clean-front : (xs ys : List ℕ) → IsClean (xs ++ ys) → IsClean xs
clean-front [] ys h = tt
clean-front (x ∷ xs) ys h = (h.0, clean-front xs ys h.1)

-- the names of the first nine parts are as long as each other
pub part-fit : (name : List ℕ) (n : ℕ) → n < 10 → is_fit max_name (part_name name 1) ≡ true → is_fit max_name (part_name name n) ≡ true
part-fit name n small fit =
    let first = fit-clean (part_name name 1) fit in
    let few = first.1 in
    let long = length-append name (codes "/" ++ decimal 1) in
    let one = ap length (decimal_digit 1 (omega arith)) in
    let own = length-append name (codes "/" ++ decimal n) in
    let digit = ap length (decimal_digit n small) in
    let clean = clean-append name (codes "/" ++ decimal n) (clean-front name (codes "/" ++ decimal 1) first.0) (refl, clean-decimal n (omega arith)) in
    ap is_none (faultless max_name (part_name name n) clean (omega arith) (omega arith))
