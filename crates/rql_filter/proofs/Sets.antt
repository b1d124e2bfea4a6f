-- Which ids are those of the entries that meet a test.
use Rattle.std.proofs.Common.{◌≡◌, ℕ, List, [], ◌∷◌, Bool, true, false, cond, ◌||◌, Some, is_some, filter, map, Less, Equal, Greater, refl, sym, ap, ◌∙◌}
use Rattle.std.specs.Option.{option_map_or}
use Rattle.std.specs.Ordering.{is_eq, ordering_reverse}
use Rattle.spec_data.specs.Folding.{folded, same_key}
use Rattle.index_tree.specs.Meaning.{Fields}
use Rattle.reference_track.specs.Sets.{AreInOrder, IsBelowAll, id_cmp, is_id, is_one_of}
use Rattle.reference_track.proofs.SetLemmas.{id_itself, id_total, is_eq-id_cmp, is_one_of-alike, same_id}
use Rattle.rql_filter.specs.Entries.{EntryList, entry_at, ids_of}

abbrev Ids : Type 0
Ids = List (List ℕ)

-- LISTS IN ORDER

none_below : (x : List ℕ) (ids : Ids) → IsBelowAll x ids → is_one_of x ids ≡ false
none_below x [] h = refl
none_below x (y ∷ ids) h = ap (λ b. b || is_one_of x ids) (sym (is_eq-id_cmp x y) ∙ ap is_eq h.0) ∙ none_below x ids h.1

below_all : (x y : List ℕ) (ids : Ids) → id_cmp x y ≡ Less → IsBelowAll y ids → IsBelowAll x ids
below_all x y [] h b = tt
below_all x y (z ∷ ids) h b = (id_total.trans x y z h b.0, below_all x y ids h b.1)

first_is : (x : List ℕ) (ids : Ids) → is_one_of x (x ∷ ids) ≡ true
first_is x ids = ap (λ b. b || is_one_of x ids) (id_itself x)

-- an id below the first of some is none of them
none_before : (x y : List ℕ) (ids : Ids) → id_cmp x y ≡ Less → IsBelowAll y ids → is_one_of x (y ∷ ids) ≡ false
none_before x y ids h b = none_below x (y ∷ ids) (h, below_all x y ids h b)

-- spellings of the first id are none of the others
first_alone : (q x : List ℕ) (ids : Ids) → is_id q x ≡ true → IsBelowAll x ids → is_one_of q ids ≡ false
first_alone q x ids same b = is_one_of-alike q x ids (same_id q x same) ∙ none_below x ids b

-- without the first
rest_alike : (q x y : List ℕ) (xs ys : Ids) → folded x ≡ folded y → IsBelowAll x xs → IsBelowAll y ys → is_one_of q (x ∷ xs) ≡ is_one_of q (y ∷ ys) → is_one_of q xs ≡ is_one_of q ys
rest_alike q x y xs ys same below_x below_y h =
    elim (is_id q x) as (λ b. is_id q x ≡ b → is_one_of q xs ≡ is_one_of q ys) [
      | true ↦ λ e. first_alone q x xs e below_x ∙ sym (first_alone q y ys (sym spelled ∙ e) below_y)
      | false ↦ λ e. sym (ap (λ b. b || is_one_of q xs) e) ∙ (h ∙ ap (λ b. b || is_one_of q ys) (sym spelled ∙ e))
    ] refl
  where
    spelled : is_id q x ≡ is_id q y
    spelled = ap (same_key (folded q)) same

-- two lists in order of the same ids are the same but for their spellings
pub same_sets : (xs ys : Ids) → AreInOrder xs → AreInOrder ys → ((q : List ℕ) → is_one_of q xs ≡ is_one_of q ys) → map folded xs ≡ map folded ys
same_sets [] [] up_x up_y h = refl
same_sets [] (y ∷ ys) up_x up_y h = let two : false ≡ true = h y ∙ first_is y ys in absurd cc
same_sets (x ∷ xs) [] up_x up_y h = let two : true ≡ false = sym (first_is x xs) ∙ h x in absurd cc
same_sets (x ∷ xs) (y ∷ ys) up_x up_y h =
    elim (id_cmp x y) as (λ o. id_cmp x y ≡ o → map folded (x ∷ xs) ≡ map folded (y ∷ ys)) [
      | Less ↦ λ e. let two : true ≡ false = sym (first_is x xs) ∙ (h x ∙ none_before x y ys e up_y.0) in absurd cc
      | Equal ↦ λ e. both (same_id x y (sym (is_eq-id_cmp x y) ∙ ap is_eq e)) (same_sets xs ys up_x.1 up_y.1)
      | Greater ↦ λ e.
          let less : id_cmp y x ≡ Less = id_total.antisymm y x ∙ ap ordering_reverse e in
          let two : true ≡ false = sym (first_is y ys) ∙ (sym (h y) ∙ none_before y x xs less up_x.0) in absurd cc
    ] refl
  where
    both : folded x ≡ folded y → (((q : List ℕ) → is_one_of q xs ≡ is_one_of q ys) → map folded xs ≡ map folded ys) → map folded (x ∷ xs) ≡ map folded (y ∷ ys)
    both same rest = λ i. same i ∷ rest (λ q. rest_alike q x y xs ys same up_x.0 up_y.0 (h q)) i

-- ENTRIES

pub is_one_of-ids : (q : List ℕ) (es : EntryList) → is_one_of q (ids_of es) ≡ is_some (entry_at (folded q) es)
is_one_of-ids q [] = refl
is_one_of-ids q (e ∷ es) = elim (is_id q e.0) as (λ b. b || is_one_of q (ids_of es) ≡ is_some (cond b (Some e) (entry_at (folded q) es))) [ true ↦ refl | false ↦ is_one_of-ids q es ]

module _ (test : List ℕ × Fields → Bool) where
  below-filter : (x : List ℕ) (es : EntryList) → IsBelowAll x (ids_of es) → IsBelowAll x (ids_of (filter test es))
  below-filter x [] h = tt
  below-filter x (e ∷ es) h = elim (test e) as (λ b. IsBelowAll x (ids_of (cond b (e ∷ filter test es) (filter test es)))) [ true ↦ (h.0, below-filter x es h.1) | false ↦ below-filter x es h.1 ]

  pub in_order-filter : (es : EntryList) → AreInOrder (ids_of es) → AreInOrder (ids_of (filter test es))
  in_order-filter [] up = tt
  in_order-filter (e ∷ es) up = elim (test e) as (λ b. AreInOrder (ids_of (cond b (e ∷ filter test es) (filter test es)))) [ true ↦ (below-filter e.0 es up.0, in_order-filter es up.1) | false ↦ in_order-filter es up.1 ]

  pub is_one_of-filter : (q : List ℕ) (es : EntryList) → AreInOrder (ids_of es) → is_one_of q (ids_of (filter test es)) ≡ option_map_or test (entry_at (folded q) es) false
  is_one_of-filter q [] up = refl
  is_one_of-filter q (e ∷ es) up =
      elim (is_id q e.0) as (λ b. is_id q e.0 ≡ b → is_one_of q (ids_of (cond (test e) (e ∷ filter test es) (filter test es))) ≡ option_map_or test (cond b (Some e) (entry_at (folded q) es)) false) [
        | true ↦ λ h.
            elim (test e) as (λ t. is_one_of q (ids_of (cond t (e ∷ filter test es) (filter test es))) ≡ t) [
              | true ↦ ap (λ b. b || is_one_of q (ids_of (filter test es))) h
              | false ↦ first_alone q e.0 (ids_of (filter test es)) h (below-filter e.0 es up.0)
            ]
        | false ↦ λ h.
            elim (test e) as (λ t. is_one_of q (ids_of (cond t (e ∷ filter test es) (filter test es))) ≡ option_map_or test (entry_at (folded q) es) false) [
              | true ↦ ap (λ b. b || is_one_of q (ids_of (filter test es))) h ∙ is_one_of-filter q es up.1
              | false ↦ is_one_of-filter q es up.1
            ]
      ] refl

  -- those of a set in order that has just the ids of the entries that pass
  pub of_those_that_pass : (ids : Ids) (es : EntryList) → AreInOrder (ids_of es) → AreInOrder ids → ((q : List ℕ) → is_one_of q ids ≡ option_map_or test (entry_at (folded q) es) false)
      → map folded ids ≡ map folded (ids_of (filter test es))
  of_those_that_pass ids es up_es up h = same_sets ids (ids_of (filter test es)) up (in_order-filter es up_es) (λ q. h q ∙ sym (is_one_of-filter q es up_es))
