-- Names of digits are fit.
use Rattle.std.proofs.Common.{◌≡◌, ◌<◌, ◌≤◌, ◌^◌, ◌+◌, ◌-◌, ℕ, zero, suc, List, [], ◌∷◌, ◌++◌, length, Bool, true, false, cond, Option, Some, None, refl, ap, ◌∙◌, arith, codes, is_some}
use Rattle.std.proofs.lemmas.Bool.{ltb-false}
use Rattle.std.specs.Prelude.{◌==◌, nat_lt, option_map, is_none, IsTrue, if◌then◌else◌}
use Rattle.std.specs.Fmt.{decimal}
use Rattle.std.specs.List.{position_from}
use Rattle.spec_data.specs.Faults.{empty, too_long, control, fault_of, is_control, is_fit}
use Rattle.spec_data.specs.Limits.{max_name}
use Rattle.spec_data.proofs.Clean.{IsClean, clean-append, clean-decimal, faultless, few-decimal}
use Rattle.spec_index.specs.Optimiser.{free_name, first_free}
use Rattle.spec_index.specs.World.{Slot, serving}

-- A NAME WITH A NUMBER

abbrev with_number : List ℕ → ℕ → List ℕ
with_number name n = name ++ (codes "/" ++ decimal n)

-- a name of so many bytes without control characters
pub record IsShort (most : ℕ) (s : List ℕ) : Type 0 where
  pub clean : IsClean s
  pub some : 0 < length s
  pub few : length s ≤ most

length-append : (xs ys : List ℕ) → length (xs ++ ys) ≡ length xs + length ys
length-append [] ys = omega arith
length-append (x ∷ xs) ys = let h = length-append xs ys in omega arith

short-number : (most : ℕ) (name : List ℕ) (n : ℕ) → IsShort most name → n < 2 ^ 64 → IsShort (most + 21) (with_number name n)
short-number most name n h lt = record {
  clean = clean-append name (codes "/" ++ decimal n) h.clean (refl, clean-decimal n lt);
  some = let l = length-append name (codes "/" ++ decimal n) in let s = h.some in omega arith;
  few = let l = length-append name (codes "/" ++ decimal n) in let d = few-decimal n lt in let m = h.few in omega arith;
}

short-wider : (less most : ℕ) (s : List ℕ) → IsShort less s → less ≤ most → IsShort most s
short-wider less most s h le = record { clean = h.clean; some = h.some; few = let m = h.few in omega arith }

short-free : (most k n : ℕ) (name : List ℕ) (slots : List Slot) → IsShort most name → k + n < 2 ^ 64 → IsShort (most + 21) (free_name k n name slots)
short-free most zero n name slots h lt = short-number most name n h (omega arith)
short-free most (suc k) n name slots h lt =
    elim (is_some (serving slots (with_number name n))) as (λ b. IsShort (most + 21) (cond b (free_name k (n + 1) name slots) (with_number name n))) [
      | true ↦ short-free most k (n + 1) name slots h (omega arith)
      | false ↦ short-number most name n h (omega arith)
    ]

short-first : (most : ℕ) (name : List ℕ) (slots : List Slot) → IsShort most name → length slots < 2 ^ 32 → IsShort (most + 21) (first_free name slots)
short-first most name slots h few =
    elim (is_some (serving slots name)) as (λ b. IsShort (most + 21) (cond b (free_name (length slots) 2 name slots) name)) [
      | true ↦ short-free most (length slots) 2 name slots h (omega arith)
      | false ↦ short-wider most (most + 21) name h (omega arith)
    ]

short-auto : (number : ℕ) → number < 2 ^ 64 → IsShort 25 (codes "Auto/" ++ decimal number)
short-auto number lt = record {
  clean = (refl, (refl, (refl, (refl, (refl, clean-decimal number lt)))));
  some = omega arith;
  few = let d = few-decimal number lt in omega arith;
}

-- the name by number is fit
pub faultless-auto : (number : ℕ) (slots : List Slot) → number < 2 ^ 64 → length slots < 2 ^ 32 → fault_of max_name (first_free (codes "Auto/" ++ decimal number) slots) ≡ None
faultless-auto number slots lt few =
    let h = short-first 25 (codes "Auto/" ++ decimal number) slots (short-auto number lt) few in
    faultless max_name (first_free (codes "Auto/" ++ decimal number) slots) h.clean h.some (let m = h.few in omega arith)

-- TRIES

-- the next number that is tried
pub free-next : (most tries : ℕ) (name : List ℕ) (slots : List Slot) → tries < most
    → free_name (most - tries) (tries + 2) name slots ≡ cond (is_some (serving slots (with_number name (tries + 2)))) (free_name (most - (tries + 1)) (tries + 1 + 2) name slots) (with_number name (tries + 2))
free-next most tries name slots lt =
    let less : most - tries ≡ suc (most - (tries + 1)) = omega arith in
    let later : tries + 2 + 1 ≡ tries + 1 + 2 = omega arith in
    ap (λ k. free_name k (tries + 2) name slots) less
    ∙ ap (λ n. cond (is_some (serving slots (with_number name (tries + 2)))) (free_name (most - (tries + 1)) n name slots) (with_number name (tries + 2))) later

pub free-last : (most : ℕ) (name : List ℕ) (slots : List Slot) → free_name (most - most) (most + 2) name slots ≡ with_number name (most + 2)
free-last most name slots = let none : most - most ≡ 0 = omega arith in ap (λ k. free_name k (most + 2) name slots) none

pub ruleset tries = (free-next, free-last)

-- WHAT IS FIT

clean-none : (i : ℕ) (s : List ℕ) → position_from is_control i s ≡ None → IsClean s
clean-none i [] h = tt
clean-none i (b ∷ s) h = elim (is_control b) as (λ c. is_control b ≡ c → cond c (Some i) (position_from is_control (i + 1) s) ≡ None → (is_control b ≡ false) × IsClean s) [
  | true ↦ λ e g. absurd cc
  | false ↦ λ e g. (e, clean-none (i + 1) s g)
] refl h

fit-parts : (a b : Bool) (n : ℕ) (r : Option ℕ) → is_none (if a then Some empty else (if b then Some (too_long n) else option_map control r)) ≡ true → (b ≡ false) × (r ≡ None)
fit-parts true b n r h = absurd cc
fit-parts false true n r h = absurd cc
fit-parts false false n None h = (refl, refl)
fit-parts false false n (Some k) h = absurd cc

-- what is fit is short, and has no control characters
pub fit-short : (limit : ℕ) (s : List ℕ) → IsTrue (is_fit limit s) → IsClean s × (length s ≤ limit)
fit-short limit s h =
    let parts = fit-parts (length s == 0) (nat_lt limit (length s)) (length s) (position_from is_control 0 s) h in
    let few : nat_lt limit (length s) ≡ false = parts.0 in
    (clean-none 0 s parts.1, ltb-false limit (length s) few)
