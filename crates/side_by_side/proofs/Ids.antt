-- The id of the row of a definition is fit.
use Rattle.std.proofs.Common.{◌≡◌, ℕ, ◌+◌, ◌≤◌, List, [], ◌∷◌, length, Bool, true, false, cond, Option, Some, None, refl, arith, codes}
use Rattle.std.proofs.lemmas.Bool.{ltb-false}
use Rattle.std.proofs.lemmas.List.{length-append}
use Rattle.std.specs.Prelude.{◌==◌, nat_lt, option_map, is_none, IsTrue, if◌then◌else◌}
use Rattle.std.specs.List.{position_from}
use Rattle.spec_data.specs.Faults.{empty, too_long, control, fault_of, is_control, is_fit}
use Rattle.spec_data.specs.Limits.{max_id, max_name}
use Rattle.spec_data.proofs.Clean.{IsClean, clean-append, faultless}
use Rattle.spec_index.specs.World.{index_id}

clean-none : (i : ℕ) (s : List ℕ) → position_from is_control i s ≡ None → IsClean s
clean-none i [] h = tt
clean-none i (b ∷ s) h = elim (is_control b) as (λ c. is_control b ≡ c → cond c (Some i) (position_from is_control (i + 1) s) ≡ None → (is_control b ≡ false) × IsClean s) [
  | true ↦ λ e g. absurd cc
  | false ↦ λ e g. (e, clean-none (i + 1) s g)
] refl h

fit-parts : (a b : Bool) (n : ℕ) (r : Option ℕ) → is_none (if a then Some empty else (if b then Some (too_long n) else option_map control r)) ≡ true → (b ≡ false) × (r ≡ None)
fit-parts true b n r h = absurd cc
fit-parts false true n r h = absurd cc
fit-parts false false n None h = (refl, refl)
fit-parts false false n (Some k) h = absurd cc

pub fit-short : (limit : ℕ) (s : List ℕ) → IsTrue (is_fit limit s) → IsClean s × (length s ≤ limit)
fit-short limit s h =
    let parts = fit-parts (length s == 0) (nat_lt limit (length s)) (length s) (position_from is_control 0 s) h in
    let few : nat_lt limit (length s) ≡ false = parts.0 in
    (clean-none 0 s parts.1, ltb-false limit (length s) few)

pub faultless-index_id : (name : List ℕ) → IsTrue (is_fit max_name name) → fault_of max_id (index_id name) ≡ None
faultless-index_id name fit =
    let short = fit-short max_name name fit in
    let long = length-append (codes "@index/") name in
    faultless max_id (index_id name) (clean-append (codes "@index/") name (refl, (refl, (refl, (refl, (refl, (refl, (refl, tt))))))) short.0) (omega arith) (let few = short.1 in omega arith)
