-- An index is automatic exactly if its name begins so: a new one, one of a client, and one that a row is read as.
use Rattle.std.proofs.Common.{◌≡◌, ℕ, zero, suc, ◌+◌, List, [], ◌∷◌, ◌++◌, length, Bool, true, false, not, cond, nat_lt, nat_eq, is_some, Some, None, refl, sym, ap, ◌∙◌, subst, codes, drop, take}
use Rattle.std.proofs.lemmas.Slice.Eq.{bytes_eq-Decides}
use Rattle.std.specs.Fmt.{decimal}
use Rattle.std.specs.List.{starts_with}
use Rattle.spec_data.specs.Faults.{is_fit}
use Rattle.spec_data.specs.Folding.{folded}
use Rattle.index_tree.specs.Definitions.{Definition, Static, Auto, AutoReduce}
use Rattle.spec_index.specs.Optimiser.{Shape, and_between, definition_of, first_free, free_name, name_of, plain_name, reduced_by, value_names}
use Rattle.spec_index.specs.World.{Slot, SlotRefusal, begins_with_auto, is_automatic, begins_with_replacement, is_reserved_name, name_refusal, serving}
use Rattle.spec_server.specs.Opening.{is_static_name, may_be_named}
use Rattle.spec_store.proofs.StoreLemmas.{both_true, either_false}

-- THE NAME OF A NEW ONE

free-begins : (k n : ℕ) (words : List ℕ) (slots : List Slot) → begins_with_auto (free_name k n (codes "Auto/" ++ words) slots) ≡ true
free-begins zero n words slots = refl
free-begins (suc k) n words slots =
    let name = codes "Auto/" ++ words in
    elim (is_some (serving slots (name ++ (codes "/" ++ decimal n)))) as (λ b. begins_with_auto (cond b (free_name k (n + 1) name slots) (name ++ (codes "/" ++ decimal n))) ≡ true) [
      | true ↦ free-begins k (n + 1) words slots
      | false ↦ refl
    ]

first-begins : (words : List ℕ) (slots : List Slot) → begins_with_auto (first_free (codes "Auto/" ++ words) slots) ≡ true
first-begins words slots =
    let name = codes "Auto/" ++ words in
    elim (is_some (serving slots name)) as (λ b. begins_with_auto (cond b (free_name (length slots) 2 name slots) name) ≡ true) [
      | true ↦ free-begins (length slots) 2 words slots
      | false ↦ refl
    ]

pub name_of-begins : (slots : List Slot) (number : ℕ) (shape : Shape) → begins_with_auto (name_of slots number shape) ≡ true
name_of-begins slots number shape =
    let plain = first_free (plain_name shape) slots in
    elim (is_fit 200 plain) as (λ b. begins_with_auto (cond b plain (first_free (codes "Auto/" ++ decimal number) slots)) ≡ true) [
      | true ↦ first-begins (shape.collection ++ (codes "/By" ++ (and_between (value_names shape) ++ reduced_by shape))) slots
      | false ↦ first-begins (decimal number) slots
    ]

-- what is made for a shape is automatic
pub definition_of-automatic : (shape : Shape) → is_automatic (definition_of shape) ≡ true
definition_of-automatic shape = elim shape.grouped as (λ b. is_automatic (cond b (AutoReduce shape.collection shape.groups shape.fields) (Auto shape.collection shape.fields)) ≡ true) [ true ↦ refl | false ↦ refl ]

-- THE NAME OF A CLIENT'S

free-of-auto : (name : List ℕ) → is_reserved_name name ≡ false → begins_with_auto name ≡ false
free-of-auto name h = (either_false (begins_with_auto name) (starts_with nat_eq (folded name) (codes "replacementof/")) h).0

pub client-name : (name : List ℕ) → name_refusal name ≡ None → is_reserved_name name ≡ false
client-name name h =
    let short = cond (nat_lt 200 (length name)) (Some (SlotRefusal.NameTooLong (length name))) None in
    elim (is_reserved_name name) as (λ b. cond b (Some SlotRefusal.ReservedName) short ≡ None → b ≡ false) [
      | true ↦ λ g. absurd cc
      | false ↦ λ g. refl
    ] h

-- THE NAME OF A ROW'S

not_true : (b : Bool) → not b ≡ true → b ≡ false
not_true true h = absurd cc
not_true false h = refl

-- a name behind the prefix of replacements is none of an automatic index
pub replacement-no-auto : (name : List ℕ) → begins_with_replacement name ≡ true → begins_with_auto name ≡ false
replacement-no-auto name h = by (folded name) h
  where
    by : (q : List ℕ) → starts_with nat_eq q (codes "replacementof/") ≡ true → starts_with nat_eq q (codes "auto/") ≡ false
    by [] g = absurd cc
    by (b ∷ bs) g =
        let same : codes "replacementof/" ≡ b ∷ take 13 bs = (bytes_eq-Decides (codes "replacementof/") (take 14 (b ∷ bs))).0 g in
        let first : b ≡ 114 = cc in
        subst (λ x. starts_with nat_eq (x ∷ bs) (codes "auto/") ≡ false) (sym first) refl

-- and the other way round
pub auto-no-replacement : (name : List ℕ) → begins_with_auto name ≡ true → begins_with_replacement name ≡ false
auto-no-replacement name h = elim (begins_with_replacement name) as (λ b. begins_with_replacement name ≡ b → b ≡ false) [
  | true ↦ λ e. absurd (let f = replacement-no-auto name e in cc)
  | false ↦ λ e. refl
] refl

-- the name of a replacement is none of an automatic index, and its rest is a name that a client may give
pub named-kind : (d : Definition) (name : List ℕ) → may_be_named d name ≡ true → is_automatic d ≡ begins_with_auto name
named-kind (Static map reduce map_text reduce_text) name h =
    elim (begins_with_replacement name) as (λ b. begins_with_replacement name ≡ b → is_static_name (cond b (drop 14 name) name) ≡ true → false ≡ begins_with_auto name) [
      | true ↦ λ e g. sym (replacement-no-auto name e)
      | false ↦ λ e g. sym (free-of-auto name (not_true (is_reserved_name name) (both_true (is_fit 200 name) (not (is_reserved_name name)) g).1))
    ] refl h
named-kind (Auto collection fields) name h = sym (both_true (is_fit 200 name) (begins_with_auto name) h).1
named-kind (AutoReduce collection groups sums) name h = sym (both_true (is_fit 200 name) (begins_with_auto name) h).1

-- the rest of the name of a replacement is a name that a client may give
pub named-given : (d : Definition) (name : List ℕ) → may_be_named d name ≡ true → begins_with_replacement name ≡ true → is_reserved_name (drop 14 name) ≡ false
named-given (Static map reduce map_text reduce_text) name h is =
    let g = ap (λ b. is_static_name (cond b (drop 14 name) name)) (sym is) ∙ h in
    not_true (is_reserved_name (drop 14 name)) (both_true (is_fit 200 (drop 14 name)) (not (is_reserved_name (drop 14 name))) g).1
named-given (Auto collection fields) name h is = absurd (let f = replacement-no-auto name is in let g = (both_true (is_fit 200 name) (begins_with_auto name) h).1 in cc)
named-given (AutoReduce collection groups sums) name h is = absurd (let f = replacement-no-auto name is in let g = (both_true (is_fit 200 name) (begins_with_auto name) h).1 in cc)
