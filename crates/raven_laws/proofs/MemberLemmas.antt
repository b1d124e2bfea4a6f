-- Members that rise are known by their names, and what is read has members that rise.
use Rattle.std.proofs.Common.{◌≡◌, ℕ, ◌≤◌, List, [], ◌∷◌, true, false, cond, length, Option, Some, None, option_map, option_and_then, Result, Ok, Err, Less, refl, sym, ap, ◌∙◌, subst, arith}
use Rattle.std.proofs.lemmas.Slice.Eq.{bytes_eq-Decides}
use Rattle.std.specs.Cmp.Lexicographic.{nat_list_eq_equiv}
use Rattle.std.specs.Str.{bytes_eq, is_utf8}
use Rattle.serde_json.specs.Data as json
use Rattle.serde_json.specs.Find.{as_i64}
use Rattle.serde_json.specs.Read.{read}
use Rattle.spec_data.proofs.MemberLemmas.{IsRising-put, below_by, pairs_of-entries_of}
use Rattle.spec_data.specs.Data.{Data, num, array, object, Entries, no_entries, entry, entries_of, items_of, pairs_of}
use Rattle.spec_data.specs.Folding.{key_cmp}
use Rattle.spec_data.specs.Json as is
use Rattle.spec_data.specs.Json.{JsonRefusal, reading, whole, or_refusal, number_not_whole, too_deep, value_of, members_of}
use Rattle.spec_data.specs.Members.{member}
use Rattle.spec_data.specs.Rising.{Pairs, IsBelowAll, IsRising, put}
use Rattle.spec_data.specs.Scan.{is_too_deep, outside}
use Rattle.spec_store.proofs.KeyedLemmas.{differ_less}

-- WHAT IS READ

-- the members of an object, if the value is one, rise
abbrev pub Rises : Data → Type 0
Rises (object ms) = IsRising (pairs_of ms)
Rises other = Unit {0}

same_pairs : (a b : Pairs) → Some a ≡ Some b → a ≡ b
same_pairs a b h = cc

same_value : (a b : Data) → Some a ≡ Some b → a ≡ b
same_value a b h = cc

same_read : (a b : Data) → (let r : Result Data JsonRefusal = Ok a in r) ≡ Ok b → a ≡ b
same_read a b h = cc

members_rise : (js : json.Members) (found ms : Pairs) → IsRising found → members_of js found ≡ Some ms → IsRising ms
members_rise json.no_members found ms up h = subst (λ (x : Pairs). IsRising x) (same_pairs found ms h) up
members_rise (json.member k j js) found ms up h =
    elim (value_of j) as (λ o. option_and_then (λ v. members_of js (put k v found)) o ≡ Some ms → IsRising ms) [
      | None ↦ λ g. absurd cc
      | Some v ↦ λ g. members_rise js (put k v found) ms (IsRising-put k v found up) g
    ] h

value_rises : (j : json.Data) (d : Data) → value_of j ≡ Some d → Rises d
value_rises json.null d h = subst Rises (same_value _ d h) tt
value_rises (json.boolean b) d h = subst Rises (same_value _ d h) tt
value_rises (json.number n) d h = elim (as_i64 n) as (λ o. option_map num o ≡ Some d → Rises d) [ None ↦ λ g. absurd cc | Some z ↦ λ g. subst Rises (same_value _ d g) tt ] h
value_rises (json.string s) d h = subst Rises (same_value _ d h) tt
value_rises (json.array js) d h = elim (is.items_of js []) as (λ o. option_map (λ vs. array (items_of vs)) o ≡ Some d → Rises d) [
  | None ↦ λ g. absurd cc
  | Some vs ↦ λ g. subst Rises (same_value _ d g) tt
] h
value_rises (json.object js) d h = elim (members_of js []) as (λ o. members_of js [] ≡ o → option_map (λ ps. object (entries_of ps)) o ≡ Some d → Rises d) [
  | None ↦ λ e g. absurd cc
  | Some ps ↦ λ e g. subst Rises (same_value _ d g) (subst (λ (x : Pairs). IsRising x) (sym (pairs_of-entries_of ps)) (members_rise js [] ps tt e))
] refl h

whole_rises : (o : Option json.Data) (d : Data) → whole o ≡ Ok d → Rises d
whole_rises None d h = absurd cc
whole_rises (Some j) d h = elim (value_of j) as (λ o. value_of j ≡ o → or_refusal number_not_whole o ≡ Ok d → Rises d) [
  | None ↦ λ e g. absurd cc
  | Some v ↦ λ e g. subst Rises (same_read v d g) (value_rises j v e)
] refl h

pub read_rises : (bytes : List ℕ) (d : Data) → reading bytes ≡ Ok d → Rises d
read_rises bytes d h = elim (is_too_deep outside 0 bytes) as (λ b. cond b (Err too_deep) (whole (cond (is_utf8 bytes) (read bytes) None)) ≡ Ok d → Rises d) [
  | true ↦ λ g. absurd cc
  | false ↦ λ g. whole_rises (cond (is_utf8 bytes) (read bytes) None) d g
] h

-- MEMBERS DETERMINED BY THEIR NAMES

-- each of these is a member
abbrev pub AreMembers : Pairs → Entries → Type 0
AreMembers [] ms = Unit {0}
AreMembers (p ∷ ps) ms = (member p.0 ms ≡ Some p.1) × AreMembers ps ms

-- a name above the first is looked up among the others
past_first : (k q : List ℕ) (d : Data) (rest : Entries) → key_cmp k q ≡ Less → member q (entry k d rest) ≡ member q rest
past_first k q d rest up = ap (λ b. cond b (Some d) (member q rest)) (nat_list_eq_equiv.symm q k ∙ differ_less k q up)

all_past : (k : List ℕ) (d : Data) (rest : Entries) (ps : Pairs) → IsBelowAll k ps → AreMembers ps (entry k d rest) → AreMembers ps rest
all_past k d rest [] b h = tt
all_past k d rest (p ∷ ps) b h = (sym (past_first k p.0 d rest b.0) ∙ h.0, all_past k d rest ps b.1 h.1)

below_member : (k q : List ℕ) (d : Data) (rest : Entries) → IsBelowAll k (pairs_of rest) → member q rest ≡ Some d → key_cmp k q ≡ Less
below_member k q d no_entries b h = absurd cc
below_member k q d (entry l e rest) b h =
    elim (bytes_eq q l) as (λ t. bytes_eq q l ≡ t → cond t (Some e) (member q rest) ≡ Some d → key_cmp k q ≡ Less) [
      | true ↦ λ same g. subst (λ x. key_cmp k x ≡ Less) (sym ((bytes_eq-Decides q l).0 same)) b.0
      | false ↦ λ other g. below_member k q d rest b.1 g
    ] refl h

-- either the first is the first member, or all are among the others
record Heads (p : List ℕ × Data) (ps : Pairs) (k : List ℕ) (d : Data) (rest : Entries) : Type 0 where
  pub name : k ≡ p.0
  pub value : d ≡ p.1
  pub others : AreMembers ps rest

at_head : (p : List ℕ × Data) (ps : Pairs) (k : List ℕ) (d : Data) (rest : Entries) → bytes_eq p.0 k ≡ true → IsRising (p ∷ ps) → AreMembers (p ∷ ps) (entry k d rest) → Heads p ps k d rest
at_head p ps k d rest e up h =
    let same = (bytes_eq-Decides p.0 k).0 e in
    record {
      name = sym same;
      value = same_value d p.1 (sym (ap (λ b. cond b (Some d) (member p.0 rest)) e) ∙ h.0);
      others = all_past k d rest ps (subst (λ x. IsBelowAll x ps) same up.0) h.1;
    }

behind_head : (p : List ℕ × Data) (ps : Pairs) (k : List ℕ) (d : Data) (rest : Entries) → bytes_eq p.0 k ≡ false → IsRising (p ∷ ps) → IsBelowAll k (pairs_of rest)
    → AreMembers (p ∷ ps) (entry k d rest) → AreMembers (p ∷ ps) rest
behind_head p ps k d rest e up b h =
    let there = sym (ap (λ b. cond b (Some d) (member p.0 rest)) e) ∙ h.0 in
    let less = below_member k p.0 p.1 rest b there in
    all_past k d rest (p ∷ ps) (less, below_by k p.0 ps less up.0) h

no_more_than : (ps : Pairs) (ms : Entries) → IsRising ps → IsRising (pairs_of ms) → AreMembers ps ms → length ps ≤ length (pairs_of ms)
no_more_than [] ms up rise h = omega arith
no_more_than (p ∷ ps) no_entries up rise h = absurd (let e = h.0 in cc)
no_more_than (p ∷ ps) (entry k d rest) up rise h =
    elim (bytes_eq p.0 k) as (λ t. bytes_eq p.0 k ≡ t → length (p ∷ ps) ≤ length (pairs_of (entry k d rest))) [
      | true ↦ λ e. let f = at_head p ps k d rest e up h in let le = no_more_than ps rest up.1 rise.1 f.others in omega arith
      | false ↦ λ e. let le = no_more_than (p ∷ ps) rest up rise.1 (behind_head p ps k d rest e up rise.0 h) in omega arith
    ] refl

-- members that rise are these, if they have these and are no more
pub they_are : (ps : Pairs) (ms : Entries) → IsRising ps → IsRising (pairs_of ms) → AreMembers ps ms → length (pairs_of ms) ≤ length ps → ms ≡ entries_of ps
they_are [] no_entries up rise h le = refl
they_are [] (entry k d rest) up rise h le = absurd (omega arith)
they_are (p ∷ ps) no_entries up rise h le = absurd (let e = h.0 in cc)
they_are (p ∷ ps) (entry k d rest) up rise h le =
    elim (bytes_eq p.0 k) as (λ t. bytes_eq p.0 k ≡ t → entry k d rest ≡ entries_of (p ∷ ps)) [
      | true ↦ λ e.
          let f = at_head p ps k d rest e up h in
          let same = they_are ps rest up.1 rise.1 f.others (omega arith) in
          λ i. entry (f.name i) (f.value i) (same i)
      | false ↦ λ e. absurd (let more = no_more_than (p ∷ ps) rest up rise.1 (behind_head p ps k d rest e up rise.0 h) in omega arith)
    ] refl
