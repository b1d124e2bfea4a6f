-- The names of indexes, and those of their definitions.
use Rattle.std.proofs.Common.{◌≡◌, ◌<◌, ◌≤◌, ◌+◌, ℕ, zero, suc, List, [], ◌∷◌, ◌++◌, length, Bool, true, false, cond, not, ◌&&◌, Option, Some, None, drop, take, refl, sym, ap, ◌∙◌, subst, arith, codes}
use Rattle.std.proofs.lemmas.Grind.{common_steps}
use Rattle.std.proofs.lemmas.List.{length-append, take-append-drop}
use Rattle.std.proofs.lemmas.Slice.Eq.{bytes_eq-Decides}
use Rattle.std.specs.Prelude.{◌==◌, nat_lt, is_none, option_map, if◌then◌else◌}
use Rattle.std.specs.Char.{to_ascii_lowercase}
use Rattle.std.specs.List.{position_from}
use Rattle.spec_data.specs.Faults.{Fault, empty, too_long, control, fault_of, is_control, is_fit}
use Rattle.spec_data.specs.Folding.{folded}
use Rattle.spec_data.specs.Limits.{max_name}
use Rattle.spec_data.proofs.Clean.{IsClean, clean-append, faultless}
use Rattle.spec_store.proofs.StoreLemmas.{both_true}
use Rattle.index_tree.specs.Definitions.{Definition, Static, Auto, AutoReduce}
use Rattle.spec_index.specs.World.{begins_with_auto, begins_with_replacement, is_reserved_name, replaced_name}
use Rattle.spec_server.specs.Opening.{may_be_named}
use Rattle.raven_laws.proofs.KindLemmas.{auto-no-replacement}
use Rattle.side_by_side.specs.Naming.{IsNamedAs}
use Rattle.side_by_side.proofs.Ids.{fit-short}
use Rattle.side_by_side.proofs.Names.{given-plain}
use Rattle.raven_world.specs.Kinds.{begins_as, own_part}

-- NAMES

pub both : (a b : Bool) → a ≡ true → b ≡ true → (a && b) ≡ true
both true true h g = refl
both true false h g = cc
both false b h g = absurd cc

pub never_left : (a b : Bool) → a ≡ false → (a && b) ≡ false
never_left true b h = absurd cc
never_left false b h = refl

pub never_right : (a b : Bool) → b ≡ false → (a && b) ≡ false
never_right true b h = h
never_right false b h = refl

long-fault : (n : ℕ) (empty_one : Bool) (rest : Option Fault) → nat_lt 200 n ≡ true → is_none (cond empty_one (Some empty) (cond (nat_lt 200 n) (Some (too_long n)) rest)) ≡ false
long-fault n true rest h = refl
long-fault n false rest h = ap (λ b. is_none (cond b (Some (too_long n)) rest)) h

short-fault : (s : List ℕ) → length s ≤ 200 → fault_of 200 s ≡ fault_of max_name s
short-fault s few =
    let a : nat_lt 200 (length s) ≡ false = grind (arith, common_steps) in
    let b : nat_lt max_name (length s) ≡ false = grind (arith, common_steps) in
    ap (λ long. cond (length s == 0) (Some empty) (cond long (Some (too_long (length s))) (option_map control (position_from is_control 0 s)))) (a ∙ sym b)

-- the name that a definition has
abbrev may_own : Definition → List ℕ → Bool
may_own d s = is_fit 200 s && begins_as d s

pub long-name : (d : Definition) (s : List ℕ) → 200 < length s → may_own d s ≡ false
long-name d s many = never_left (is_fit 200 s) _ (long-fault (length s) (length s == 0) _ (grind (arith, common_steps)))

pub other-name : (d : Definition) (s : List ℕ) → begins_as d s ≡ false → may_own d s ≡ false
other-name d s h = never_right (is_fit 200 s) _ h

pub unfit-name : (d : Definition) (s : List ℕ) (fault : Fault) → length s ≤ 200 → Some fault ≡ fault_of max_name s → may_own d s ≡ false
unfit-name d s fault few h = never_left (is_fit 200 s) _ (ap is_none (short-fault s few ∙ sym h))

pub fit-name : (d : Definition) (s : List ℕ) → length s ≤ 200 → None ≡ fault_of max_name s → begins_as d s ≡ true → may_own d s ≡ true
fit-name d s few fit starts = both (is_fit 200 s) _ (ap is_none (short-fault s few ∙ sym fit)) starts

pub ruleset names = (long-name, other-name, unfit-name, fit-name)

-- an index may have a name exactly if its definition may have its part of the name
by_part : (d : Definition) (s : List ℕ) → may_be_named d s ≡ may_own d (own_part d s)
by_part (Static m r t u) s = refl
by_part (Auto collection fields) s = refl
by_part (AutoReduce collection groups sums) s = refl

pub if_some : (b : Bool) (s t : List ℕ) → Some t ≡ (if b then Some s else None) → (b ≡ true) × (t ≡ s)
if_some true s t h = (refl, let same : t ≡ s = cc in same)
if_some false s t h = absurd cc

pub if_none : (b : Bool) (s : List ℕ) → (let o : Option (List ℕ) = None in o) ≡ (if b then Some s else None) → b ≡ false
if_none true s h = absurd cc
if_none false s h = refl

not_true : (b : Bool) → not b ≡ true → b ≡ false
not_true true h = absurd cc
not_true false h = refl

auto_named : (s own : List ℕ) → begins_with_auto s ≡ true → own ≡ s → (own ≡ replaced_name s) × IsNamedAs s own
auto_named s own auto is =
    let plain = auto-no-replacement s auto in
    let whole : replaced_name s ≡ s = ap (λ b. if b then drop 14 s else s) plain in
    (is ∙ sym whole, record { same = ap folded (is ∙ sym whole); plain = ap begins_with_replacement is ∙ plain })

own_named : (d : Definition) (s own : List ℕ) → may_own d (own_part d s) ≡ true → own ≡ own_part d s → (own ≡ replaced_name s) × IsNamedAs s own
own_named (Static m r t u) s own h is =
    let plain = given-plain (replaced_name s) (not_true (is_reserved_name (replaced_name s)) (both_true (is_fit 200 (replaced_name s)) _ h).1) in
    (is, record { same = ap folded is; plain = ap begins_with_replacement is ∙ plain })
own_named (Auto collection fields) s own h is = auto_named s own (both_true (is_fit 200 s) _ h).1 is
own_named (AutoReduce collection groups sums) s own h is = auto_named s own (both_true (is_fit 200 s) _ h).1 is

pub name-own : (d : Definition) (s part own : List ℕ) → part ≡ own_part d s → Some own ≡ (if may_own d part then Some part else None) → (own ≡ replaced_name s) × IsNamedAs s own
name-own d s part own is h =
    let read = if_some (may_own d part) part own h in
    own_named d s own (ap (may_own d) (sym is) ∙ read.0) (read.1 ∙ is)

-- A name of an index is fit, with what may stand before the name of its definition.
lower_control : (b : ℕ) → is_control (to_ascii_lowercase b) ≡ false → is_control b ≡ false
lower_control b h = grind (arith, common_steps)

clean-unfold : (s : List ℕ) → IsClean (folded s) → IsClean s
clean-unfold [] h = tt
clean-unfold (b ∷ bs) h = (lower_control b h.0, clean-unfold bs h.1)

folded-take : (n : ℕ) (s : List ℕ) → take n (folded s) ≡ folded (take n s)
folded-take zero s = refl
folded-take (suc n) [] = refl
folded-take (suc n) (b ∷ bs) = ap (λ xs. to_ascii_lowercase b ∷ xs) (folded-take n bs)

length-folded : (s : List ℕ) → length (folded s) ≡ length s
length-folded [] = refl
length-folded (b ∷ bs) = ap suc (length-folded bs)

prefix : (s : List ℕ) → begins_with_replacement s ≡ true → folded (take 14 s) ≡ codes "replacementof/"
prefix s h = sym (folded-take 14 s) ∙ sym ((bytes_eq-Decides (codes "replacementof/") (take 14 (folded s))).0 h)

clean-prefix : IsClean (codes "replacementof/")
clean-prefix = (refl, (refl, (refl, (refl, (refl, (refl, (refl, (refl, (refl, (refl, (refl, (refl, (refl, (refl, tt))))))))))))))

fit-whole : (s : List ℕ) → begins_with_replacement s ≡ true → is_fit 200 (drop 14 s) ≡ true → fault_of max_name s ≡ None
fit-whole s is fit =
    let front = prefix s is in
    let short = fit-short 200 (drop 14 s) fit in
    let parts : take 14 s ++ drop 14 s ≡ s = take-append-drop 14 s in
    let clean = subst IsClean parts (clean-append (take 14 s) (drop 14 s) (clean-unfold (take 14 s) (subst IsClean (sym front) clean-prefix)) short.0) in
    let first : length (take 14 s) ≡ 14 = sym (length-folded (take 14 s)) ∙ ap length front in
    let long : length s ≡ length (take 14 s) + length (drop 14 s) = ap length (sym parts) ∙ length-append (take 14 s) (drop 14 s) in
    let few = short.1 in
    faultless max_name s clean (omega (arith, first, long)) (omega (arith, first, long, few))

fit-itself : (s : List ℕ) → is_fit 200 s ≡ true → fault_of max_name s ≡ None
fit-itself s fit = let short = fit-short 200 s fit in sym (short-fault s short.1) ∙ none_in (fault_of 200 s) fit
  where
    none_in : (o : Option Fault) → is_none o ≡ true → o ≡ None
    none_in None h = refl
    none_in (Some fault) h = absurd cc

fit-part : (d : Definition) (s : List ℕ) → may_own d (own_part d s) ≡ true → fault_of max_name s ≡ None
fit-part (Static m r t u) s h =
    elim (begins_with_replacement s) as (λ b. begins_with_replacement s ≡ b → is_fit 200 (cond b (drop 14 s) s) ≡ true → fault_of max_name s ≡ None) [
      | true ↦ λ e fit. fit-whole s e fit
      | false ↦ λ e fit. fit-itself s fit
    ] refl (both_true (is_fit 200 (replaced_name s)) _ h).0
fit-part (Auto collection fields) s h = fit-itself s (both_true (is_fit 200 s) _ h).0
fit-part (AutoReduce collection groups sums) s h = fit-itself s (both_true (is_fit 200 s) _ h).0

pub whole-fit : (d : Definition) (s part own : List ℕ) → part ≡ own_part d s → Some own ≡ (if may_own d part then Some part else None) → fault_of max_name s ≡ None
whole-fit d s part own is h = fit-part d s (ap (may_own d) (sym is) ∙ (if_some (may_own d part) part own h).0)
