-- The entries of ids that are those of some entries are these entries.
use Rattle.std.proofs.Common.{◌≡◌, ℕ, suc, zero, List, [], ◌∷◌, take, drop, Bool, true, false, cond, Option, Some, None, filter, map, Less, Ordering, refl, sym, ap, ◌∙◌}
use Rattle.std.specs.List.{cons_option}
use Rattle.std.specs.Ordering.{is_eq, is_gt, ordering_reverse}
use Rattle.spec_data.specs.Folding.{folded}
use Rattle.index_tree.specs.Meaning.{Fields}
use Rattle.spec_query.specs.Plan.{up_to}
use Rattle.spec_query.specs.Sorting.{inserted, sorted}
use Rattle.reference_track.specs.Sets.{AreInOrder, IsBelowAll, id_cmp, is_id}
use Rattle.reference_track.proofs.SetLemmas.{id_itself, id_total, is_eq-id_cmp}
use Rattle.rql_filter.specs.Entries.{EntryList, entry_at, ids_of}
use Rattle.rql_eval.specs.Pages.{entries_of}

abbrev Ids : Type 0
Ids = List (List ℕ)

-- each of these is the entry of its id
abbrev pub AreOf : EntryList → EntryList → Type 0
AreOf entries [] = Unit {0}
AreOf entries (r ∷ rs) = (entry_at (folded r.0) entries ≡ Some r) × AreOf entries rs

-- those of ids that are theirs but for the spellings
pub read_back : (entries : EntryList) (ids : Ids) (rs : EntryList) → AreOf entries rs → map folded ids ≡ map folded (ids_of rs) → entries_of entries ids ≡ rs
read_back entries [] [] are h = refl
read_back entries [] (r ∷ rs) are h = absurd cc
read_back entries (x ∷ ids) [] are h = absurd cc
read_back entries (x ∷ ids) (r ∷ rs) are h =
    let here : folded x ≡ folded r.0 = cc in
    let rest : map folded ids ≡ map folded (ids_of rs) = cc in
    ap (λ (q : List ℕ). cons_option (entry_at q entries) (entries_of entries ids)) here ∙ (ap (λ o. cons_option o (entries_of entries ids)) are.0 ∙ ap (λ l. r ∷ l) (read_back entries ids rs are.1 rest))

-- ALL ENTRIES

not_first : (x y : List ℕ) → id_cmp x y ≡ Less → is_id y x ≡ false
not_first x y h = sym (is_eq-id_cmp y x) ∙ ap is_eq (id_total.antisymm y x ∙ ap ordering_reverse h)

-- those behind the first one
behind : (e : List ℕ × Fields) (entries rs : EntryList) → IsBelowAll e.0 (ids_of rs) → AreOf entries rs → AreOf (e ∷ entries) rs
behind e entries [] below are = tt
behind e entries (r ∷ rs) below are = (ap (λ b. cond b (Some e) (entry_at (folded r.0) entries)) (not_first e.0 r.0 below.0) ∙ are.0, behind e entries rs below.1 are.1)

pub all_are : (entries : EntryList) → AreInOrder (ids_of entries) → AreOf entries entries
all_are [] up = tt
all_are (e ∷ entries) up = (ap (λ b. cond b (Some e) (entry_at (folded e.0) entries)) (id_itself e.0), behind e entries entries up.0 (all_are entries up.1))

-- SOME OF THEM

pub are-filter : (test : List ℕ × Fields → Bool) (entries rs : EntryList) → AreOf entries rs → AreOf entries (filter test rs)
are-filter test entries [] are = tt
are-filter test entries (r ∷ rs) are = elim (test r) as (λ b. AreOf entries (cond b (r ∷ filter test rs) (filter test rs))) [ true ↦ (are.0, are-filter test entries rs are.1) | false ↦ are-filter test entries rs are.1 ]

are-drop : (n : ℕ) (entries rs : EntryList) → AreOf entries rs → AreOf entries (drop n rs)
are-drop zero entries rs are = are
are-drop (suc n) entries [] are = tt
are-drop (suc n) entries (r ∷ rs) are = are-drop n entries rs are.1

are-take : (n : ℕ) (entries rs : EntryList) → AreOf entries rs → AreOf entries (take n rs)
are-take zero entries rs are = tt
are-take (suc n) entries [] are = tt
are-take (suc n) entries (r ∷ rs) are = (are.0, are-take n entries rs are.1)

pub are-cut : (start : ℕ) (size : Option ℕ) (entries rs : EntryList) → AreOf entries rs → AreOf entries (up_to size (drop start rs))
are-cut start None entries rs are = are-drop start entries rs are
are-cut start (Some n) entries rs are = are-take n entries (drop start rs) (are-drop start entries rs are)

module _ (R : List ℕ × Fields → List ℕ × Fields → Ordering) (entries : EntryList) where
  are-inserted : (r : List ℕ × Fields) (rs : EntryList) → entry_at (folded r.0) entries ≡ Some r → AreOf entries rs → AreOf entries (inserted R r rs)
  are-inserted r [] is are = (is, tt)
  are-inserted r (s ∷ rs) is are = elim (is_gt (R r s)) as (λ b. AreOf entries (cond b (s ∷ inserted R r rs) (r ∷ s ∷ rs))) [ true ↦ (are.0, are-inserted r rs is are.1) | false ↦ (is, are) ]

  pub are-sorted : (rs : EntryList) → AreOf entries rs → AreOf entries (sorted R rs)
  are-sorted [] are = tt
  are-sorted (r ∷ rs) are = are-inserted r (sorted R rs) are.0 (are-sorted rs are.1)
