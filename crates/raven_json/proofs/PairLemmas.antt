-- Members of objects: which are sound, and how deep they are.
use Rattle.std.proofs.Common.{◌≡◌, ℕ, ◌≤◌, List, [], ◌∷◌, true, false, cond, Some, IsUtf8, Less, Equal, Greater, sym, ap, subst, arith}
use Rattle.std.specs.Ordering.{match_ordering}
use Rattle.std.specs.Str.{bytes_eq}
use Rattle.spec_data.specs.Data.{Data, object, Entries, no_entries, entry, depth, entries_depth, entries_of}
use Rattle.spec_data.specs.Folding.{key_cmp}
use Rattle.spec_data.specs.Members.{member}
use Rattle.spec_data.specs.Rising.{Pairs, IsRising, put}
use Rattle.spec_data.specs.Sound.{IsSound, HasSound}
use Rattle.spec_data.proofs.MemberLemmas.{pairs_of-entries_of}

-- SOUND MEMBERS

-- each name and each value is sound
abbrev pub ArePairsSound : Pairs → Type 0
ArePairsSound [] = Unit {0}
ArePairsSound (m ∷ ms) = IsUtf8 m.0 × (IsSound m.1 × ArePairsSound ms)

entries-sound : (ps : Pairs) → ArePairsSound ps → HasSound (entries_of ps)
entries-sound [] h = tt
entries-sound (p ∷ ps) h = (h.0, (h.1.0, entries-sound ps h.1.1))

pub put-sound : (k : List ℕ) (d : Data) (ps : Pairs) → IsUtf8 k → IsSound d → ArePairsSound ps → ArePairsSound (put k d ps)
put-sound k d [] u s h = (u, (s, tt))
put-sound k d (p ∷ ps) u s h = elim (key_cmp k p.0) as (λ o. ArePairsSound (match_ordering o ((k, d) ∷ p ∷ ps) ((k, d) ∷ ps) (p ∷ put k d ps))) [
  | Less ↦ (u, (s, h))
  | Equal ↦ (u, (s, h.1.1))
  | Greater ↦ (h.0, (h.1.0, put-sound k d ps u s h.1.1))
]

same_value : (a b : Data) → Some a ≡ Some b → a ≡ b
same_value a b h = cc

pub member-sound : (k : List ℕ) (ms : Entries) (d : Data) → HasSound ms → member k ms ≡ Some d → IsSound d
member-sound k no_entries d h is = absurd cc
member-sound k (entry l e ms) d h is = elim (bytes_eq k l) as (λ b. cond b (Some e) (member k ms) ≡ Some d → IsSound d) [
  | true ↦ λ g. subst IsSound (same_value e d g) h.1.0
  | false ↦ λ g. member-sound k ms d h.1.1 g
] is

pub object-sound : (ps : Pairs) → IsRising ps → ArePairsSound ps → IsSound (object (entries_of ps))
object-sound ps up h = (subst (λ (x : Pairs). IsRising x) (sym (pairs_of-entries_of ps)) up, entries-sound ps h)

-- HOW DEEP MEMBERS ARE

pub put-depth : (k : List ℕ) (d : Data) (ps : Pairs) (n : ℕ) → depth d ≤ n → entries_depth (entries_of ps) ≤ n → entries_depth (entries_of (put k d ps)) ≤ n
put-depth k d [] n le h = omega arith
put-depth k d (p ∷ ps) n le h =
    let more = put-depth k d ps n le (omega arith) in
    elim (key_cmp k p.0) as (λ o. entries_depth (entries_of (match_ordering o ((k, d) ∷ p ∷ ps) ((k, d) ∷ ps) (p ∷ put k d ps))) ≤ n) [
      | Less ↦ omega arith
      | Equal ↦ omega arith
      | Greater ↦ omega arith
    ]

pub member-depth : (k : List ℕ) (ms : Entries) (d : Data) → member k ms ≡ Some d → depth d ≤ entries_depth ms
member-depth k no_entries d is = absurd cc
member-depth k (entry l e ms) d is = elim (bytes_eq k l) as (λ b. cond b (Some e) (member k ms) ≡ Some d → depth d ≤ entries_depth (entry l e ms)) [
  | true ↦ λ g. let same = ap depth (same_value e d g) in omega arith
  | false ↦ λ g. let more = member-depth k ms d g in omega arith
] is
