-- Names of slots and of their definitions.
use Rattle.std.proofs.Common.{◌≡◌, ℕ, zero, suc, ◌<◌, ◌≤◌, List, [], ◌∷◌, Bool, true, false, not, cond, ◌||◌, ◌==◌, nat_eq, Some, None, codes, length, take, drop, find, filter, refl, sym, ap, ◌∙◌, subst, arith}
use Rattle.std.proofs.lemmas.Bool.{eqb-true}
use Rattle.std.proofs.lemmas.Slice.Eq.{bytes_eq-Decides}
use Rattle.std.specs.List.{starts_with}
use Rattle.std.specs.Prelude.{IsSomeAnd}
use Rattle.spec_data.specs.Faults.{replacement_of}
use Rattle.spec_data.specs.Folding.{folded, same_key}
use Rattle.spec_data.specs.Limits.{max_index_name}
use Rattle.spec_index.specs.World.{Slot, Version, NumbersRise, numbered, begins_with_auto, begins_with_replacement, is_reserved_name, replaced_name, serving, without}
use Rattle.side_by_side.proofs.Rising.{rise-versioned}
use Rattle.side_by_side.specs.Naming.{AreBeside, AreNamedAs, IfNumbered, IsNamedAs, IsServedBy}

-- FOLDED NAMES

length-folded : (words : List ℕ) → length (folded words) ≡ length words
length-folded [] = refl
length-folded (b ∷ bs) = ap suc (length-folded bs)

folded-drop : (n : ℕ) (words : List ℕ) → folded (drop n words) ≡ drop n (folded words)
folded-drop zero words = refl
folded-drop (suc n) [] = refl
folded-drop (suc n) (b ∷ bs) = folded-drop n bs

begins-other : (a b : List ℕ) → folded a ≡ folded b → begins_with_replacement a ≡ begins_with_replacement b
begins-other a b same = ap (λ q. starts_with nat_eq q (codes "replacementof/")) same

replaced-other : (a b : List ℕ) → folded a ≡ folded b → folded (replaced_name a) ≡ folded (replaced_name b)
replaced-other a b same =
    ap (λ t. folded (cond t (drop 14 a) a)) (begins-other a b same)
    ∙ elim (begins_with_replacement b) as (λ t. folded (cond t (drop 14 a) a) ≡ folded (cond t (drop 14 b) b)) [
      | true ↦ folded-drop 14 a ∙ ap (drop 14) same ∙ sym (folded-drop 14 b)
      | false ↦ same
    ]

replaced-itself : (n : List ℕ) → begins_with_replacement n ≡ false → replaced_name n ≡ n
replaced-itself n plain = ap (λ t. cond t (drop 14 n) n) plain

-- DEFINITIONS UNDER A NAME

pub named-itself : (n : List ℕ) → begins_with_replacement n ≡ false → IsNamedAs n n
named-itself n plain = record { same = ap folded (sym (replaced-itself n plain)); plain = plain }

pub named-beside : (s d : List ℕ) → IsServedBy d s → IsNamedAs (replacement_of s) d
named-beside s d h = record { same = h.same; plain = h.plain }

pub short-served : (d s : List ℕ) → IsServedBy d s → length s ≤ max_index_name
short-served d s h = h.short

-- the definition of a replacement may have the name that it takes
pub takes-name : (a n d : List ℕ) → IsNamedAs a d → folded a ≡ folded (replacement_of n) → IsNamedAs n d
takes-name a n d h beside =
    let same : folded d ≡ folded n = h.same ∙ replaced-other a (replacement_of n) beside in
    let plain : begins_with_replacement n ≡ false = sym (begins-other d n same) ∙ h.plain in
    record { same = same ∙ ap folded (sym (replaced-itself n plain)); plain = h.plain }

pub ruleset taking = (takes-name)

-- A name that begins as that of an automatic index is none of a replacement.
by-first : (q : List ℕ) → starts_with nat_eq q (codes "replacementof/") ≡ true → starts_with nat_eq q (codes "auto/") ≡ false
by-first [] g = absurd cc
by-first (b ∷ bs) g =
    let same : codes "replacementof/" ≡ b ∷ take 13 bs = (bytes_eq-Decides (codes "replacementof/") (take 14 (b ∷ bs))).0 g in
    let first : b ≡ 114 = cc in
    subst (λ x. starts_with nat_eq (x ∷ bs) (codes "auto/") ≡ false) (sym first) refl

auto-plain : (n : List ℕ) → begins_with_auto n ≡ true → begins_with_replacement n ≡ false
auto-plain n h = elim (begins_with_replacement n) as (λ b. begins_with_replacement n ≡ b → b ≡ false) [
  | true ↦ λ e. absurd (let f = by-first (folded n) e in cc)
  | false ↦ λ e. refl
] refl

pub named-auto : (n : List ℕ) → begins_with_auto n ≡ true → IsNamedAs n n
named-auto n h = named-itself n (auto-plain n h)

either_false : (a b : Bool) → a || b ≡ false → b ≡ false
either_false true b h = absurd cc
either_false false b h = h

pub given-plain : (n : List ℕ) → is_reserved_name n ≡ false → begins_with_replacement n ≡ false
given-plain n h = either_false (begins_with_auto n) (begins_with_replacement n) h

pub named-given : (n : List ℕ) → is_reserved_name n ≡ false → IsNamedAs n n
named-given n h = named-itself n (given-plain n h)

-- SLOTS THAT ARE FOUND

holds : (p : Slot → Bool) (slots : List Slot) (s : Slot) → find p slots ≡ Some s → p s ≡ true
holds p [] s h = absurd cc
holds p (x ∷ slots) s h = elim (p x) as (λ b. p x ≡ b → cond b (Some x) (find p slots) ≡ Some s → p s ≡ true) [
  | true ↦ λ e is. let same : x ≡ s = cc in subst (λ z. p z ≡ true) same e
  | false ↦ λ e is. holds p slots s is
] refl h

found-name : (slots : List Slot) (q : List ℕ) (s : Slot) → serving slots q ≡ Some s → folded q ≡ folded s.name
found-name slots q s h = (bytes_eq-Decides (folded q) (folded s.name)).0 (holds (λ x. same_key (folded q) (folded x.name)) slots s h)

found-short : (slots : List Slot) (q : List ℕ) (s : Slot) → serving slots q ≡ Some s → length q ≤ max_index_name → length s.name ≤ max_index_name
found-short slots q s h few =
    let long : length s.name ≡ length q = sym (length-folded s.name) ∙ ap length (sym (found-name slots q s h)) ∙ length-folded q in
    omega arith

pub found-served : (slots : List Slot) (q : List ℕ) (s : Slot) → serving slots q ≡ Some s → begins_with_replacement q ≡ false → length q ≤ max_index_name → IsServedBy q s.name
found-served slots q s h plain few = record { same = found-name slots q s h; plain = plain; short = found-short slots q s h few }

pub ruleset defining = (named-given, given-plain, named-auto)

pub ruleset replacing = (named-beside, short-served)

-- NUMBERS OF SLOTS THAT ARE FOUND

above : (low : ℕ) (p : Slot → Bool) (slots : List Slot) (s : Slot) → NumbersRise low slots → find p slots ≡ Some s → low < s.number
above low p [] s up h = absurd cc
above low p (x ∷ slots) s up h = elim (p x) as (λ b. cond b (Some x) (find p slots) ≡ Some s → low < s.number) [
  | true ↦ λ is. let same : x ≡ s = cc in subst (λ (z : Slot). low < z.number) same up.0
  | false ↦ λ is. let a = above x.number p slots s up.1 is in let b = up.0 in omega arith
] h

none-numbered : (low n : ℕ) (P : List ℕ → Type 0) (slots : List Slot) → n ≤ low → NumbersRise low slots → IfNumbered n P slots
none-numbered low n P [] le up = tt
none-numbered low n P (x ∷ slots) le up = (λ e. absurd (let a = up.0 in omega arith), none-numbered x.number n P slots (let a = up.0 in omega arith) up.1)

only-found : (low : ℕ) (P : List ℕ → Type 0) (p : Slot → Bool) (slots : List Slot) (s : Slot) → NumbersRise low slots → find p slots ≡ Some s → P s.name → IfNumbered s.number P slots
only-found low P p [] s up h is = tt
only-found low P p (x ∷ slots) s up h is = elim (p x) as (λ b. cond b (Some x) (find p slots) ≡ Some s → (x.number ≡ s.number → P x.name) × IfNumbered s.number P slots) [
  | true ↦ λ e. let same : x ≡ s = cc in
      (λ n. subst (λ (z : Slot). P z.name) (sym same) is, none-numbered x.number s.number P slots (let n : x.number ≡ s.number = ap (λ (z : Slot). z.number) same in omega arith) up.1)
  | false ↦ λ e. (λ n. absurd (let a = above x.number p slots s up.1 e in omega arith), only-found x.number P p slots s up.1 e is)
] h

-- the slot that serves the name of a replacement is that replacement, and no other has its number
pub found-beside : (slots : List Slot) (name : List ℕ) (r : Slot) → NumbersRise 0 slots → serving slots (replacement_of name) ≡ Some r → AreBeside r.number name slots
found-beside slots name r up h =
    only-found 0 (λ x. folded x ≡ folded (replacement_of name)) (λ x. same_key (folded (replacement_of name)) (folded x.name)) slots r up h (sym (found-name slots (replacement_of name) r h))

pub found-named : (slots : List Slot) (n : ℕ) (definition : List ℕ) (s : Slot) → NumbersRise 0 slots → find (λ x. x.number == n) slots ≡ Some s → s.number ≡ n → IsNamedAs s.name definition → AreNamedAs n definition slots
found-named slots n definition s up h same is = subst (λ k. AreNamedAs k definition slots) same (only-found 0 (λ x. IsNamedAs x definition) (λ x. x.number == n) slots s up h is)

passing : (n : ℕ) (P : List ℕ → Type 0) (p : Slot → Bool) (slots : List Slot) → IfNumbered n P slots → IfNumbered n P (filter p slots)
passing n P p [] h = tt
passing n P p (x ∷ slots) h = elim (p x) as (λ b. IfNumbered n P (cond b (x ∷ filter p slots) (filter p slots))) [
  | true ↦ (h.0, passing n P p slots h.1)
  | false ↦ passing n P p slots h.1
]

pub beside-without : (n other : ℕ) (name : List ℕ) (slots : List Slot) → AreBeside n name slots → AreBeside n name (without other slots)
beside-without n other name slots h = passing n (λ x. folded x ≡ folded (replacement_of name)) (λ s. not (s.number == other)) slots h

pub ruleset beside_it = (found-beside)

pub ruleset kept = (beside-without)

-- A VERSION FOR THE SLOT OF A NUMBER

pub version-named : (slots : List Slot) (n : ℕ) (definition : List ℕ) (v : Version) → NumbersRise 0 slots
    → IsSomeAnd (numbered slots n) (λ s. (s.version.definition ≡ v.definition) × IsNamedAs s.name definition) → AreNamedAs n definition slots
version-named slots n definition v up h = elim (numbered slots n) as (λ o. numbered slots n ≡ o → IsSomeAnd o (λ s. (s.version.definition ≡ v.definition) × IsNamedAs s.name definition) → AreNamedAs n definition slots) [
  | Some s ↦ λ e g. found-named slots n definition s up e (eqb-true s.number n (holds (λ x. x.number == n) slots s e)) g.1
  | None ↦ λ e g. absurd g
] refl h

pub ruleset versions = (version-named, rise-versioned)
