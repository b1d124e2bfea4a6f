-- The values of a field in the terms are those of the entries, in the same order.
use Rattle.std.proofs.Common.{◌≡◌, ℕ, suc, ◌≤◌, List, [], ◌∷◌, length, take, drop, Bool, true, false, cond, ◌&&◌, T, Option, Some, None, is_some, filter, map, Ordering, Equal, refl, sym, ap, ◌∙◌, arith}
use Rattle.std.specs.Ordering.{is_eq, is_gt, is_lt}
use Rattle.std.specs.Option.{option_and_then, option_map_or, unwrap_or}
use Rattle.std.specs.Map.{lookup}
use Rattle.std.specs.Str.{bytes_eq}
use Rattle.std.specs.FinMap.{entries, entries_sorted, find, get, get-entries, is_sorted, nat_cmp-IsAntisymmetric, slice_cmp-IsAntisymmetric}
use Rattle.std.specs.FinMap.Entries.{below_all, same_entries}
use Rattle.std.specs.Cmp.Lexicographic.{nat_list_cmp_total}
use Rattle.std.proofs.lemmas.List.{drop-map, length-map, take-map}
use Rattle.std.proofs.lemmas.Map.Text.{is_eq-slice_cmp}
use Rattle.std.proofs.lemmas.Slice.Eq.{bytes_eq-Decides}
use Rattle.spec_data.specs.Folding.{folded, key_cmp, same_key}
use Rattle.spec_data.specs.Scalars.{Scalar, nothing}
use Rattle.index_tree.specs.Meaning.{Fields, field_named}
use Rattle.spec_query.specs.Condition.{Condition, meets}
use Rattle.spec_query.specs.Sorting.{SortKey, inserted, key_order, sorted}
use Rattle.reference_track.specs.Sets.{AreInOrder, IsBelowAll, id_cmp}
use Rattle.reference_track.proofs.SetLemmas.{is_eq-id_cmp}
use Rattle.term_index.specs.Columns.{Columns, value_at}
use Rattle.term_index.specs.Held.{Values}
use Rattle.term_index.specs.Ordered.{by_value, values_named}
use Rattle.rql_filter.specs.Entries.{AreTermsOf, EntryList, entry_at, ids_of}
use Rattle.rql_filter.specs.OneField.{is_on, met_by, with_value}
use Rattle.rql_filter.proofs.OneField.{met_by_value}
use Rattle.rql_filter.proofs.Sets.{in_order-filter}

abbrev Entry : Type 0
Entry = List ℕ × Fields

abbrev Pairs : Type 0
Pairs = List (List ℕ × Scalar)

-- IF AS MANY PASS AS THERE ARE

module _ {X : Type 0} where
  few : (p : X → Bool) (xs : List X) → length (filter p xs) ≤ length xs
  few p [] = omega arith
  few p (x ∷ xs) = elim (p x) as (λ b. length (cond b (x ∷ filter p xs) (filter p xs)) ≤ suc (length xs)) [ true ↦ omega (arith, few p xs) | false ↦ omega (arith, few p xs) ]

  -- if as many pass as there are, all do
  all_pass : (p : X → Bool) (xs : List X) → length (filter p xs) ≡ length xs → filter p xs ≡ xs
  all_pass p [] h = refl
  all_pass p (x ∷ xs) h =
      elim (p x) as (λ b. length (cond b (x ∷ filter p xs) (filter p xs)) ≡ suc (length xs) → cond b (x ∷ filter p xs) (filter p xs) ≡ x ∷ xs) [
        | true ↦ λ same. ap (λ l. x ∷ l) (all_pass p xs (omega (arith, same)))
        | false ↦ λ same. absurd (omega (arith, same, few p xs))
      ] h

-- IN THE ORDER OF THEIR IDS

same_keys : (x y : List ℕ) → key_cmp x y ≡ Equal → x ≡ y
same_keys = slice_cmp-IsAntisymmetric nat_cmp-IsAntisymmetric

named_sorted : (field : List ℕ) (cs : Columns) → T (is_sorted key_cmp (values_named field cs))
named_sorted field cs = by (lookup (bytes_eq field) cs)
  where
    by : (o : Option Values) → T (is_sorted key_cmp (option_map_or entries o []))
    by None = tt
    by (Some m) = entries_sorted m

named_at : (field q : List ℕ) (cs : Columns) → find key_cmp q (values_named field cs) ≡ value_at field q cs
named_at field q cs = by (lookup (bytes_eq field) cs)
  where
    by : (o : Option Values) → find key_cmp q (option_map_or entries o []) ≡ option_and_then (λ m. get m q) o
    by None = refl
    by (Some m) = sym (get-entries m q)

both : (a b : Bool) → a ≡ true → T b → T (a && b)
both true b e h = h
both false b e h = absurd cc

module _ (field : List ℕ) where
  abbrev pair : Entry → List ℕ × Scalar
  pair = with_value field

  abbrev has : Entry → Bool
  has e = is_some (field_named field e.1)

  below_pairs : (x : List ℕ) (es : EntryList) → IsBelowAll x (ids_of es) → T (below_all key_cmp (folded x) (map pair es))
  below_pairs x [] below = tt
  below_pairs x (e ∷ es) below = both (is_lt (id_cmp x e.0)) (below_all key_cmp (folded x) (map pair es)) (ap is_lt below.0) (below_pairs x es below.1)

  pairs_sorted : (es : EntryList) → AreInOrder (ids_of es) → T (is_sorted key_cmp (map pair es))
  pairs_sorted [] up = tt
  pairs_sorted (e ∷ es) up = second (below_all key_cmp (folded e.0) (map pair es)) (below_pairs e.0 es up.0) (pairs_sorted es up.1)
    where
      second : (a : Bool) → T a → T (is_sorted key_cmp (map pair es)) → T (a && is_sorted key_cmp (map pair es))
      second true h g = g
      second false h g = absurd h

  -- THE VALUES OF THE ENTRIES THAT HAVE ONE

  not_behind : (x : List ℕ) (es : EntryList) → IsBelowAll x (ids_of es) → entry_at (folded x) es ≡ None
  not_behind x [] below = refl
  not_behind x (e ∷ es) below = ap (λ b. cond b (Some e) (entry_at (folded x) es)) (sym (is_eq-id_cmp x e.0) ∙ ap is_eq below.0) ∙ not_behind x es below.1

  abbrev value_of_entry : Option Entry → Option Scalar
  value_of_entry = option_and_then (λ e. field_named field e.1)

  pairs_at : (q : List ℕ) (es : EntryList) → AreInOrder (ids_of es) → find key_cmp q (map pair (filter has es)) ≡ value_of_entry (entry_at q es)
  pairs_at q [] up = refl
  pairs_at q (e ∷ es) up = by (pairs_at q es up.1) (field_named field e.1) refl
    where
      rest : List (List ℕ × Scalar)
      rest = map pair (filter has es)

      by : find key_cmp q rest ≡ value_of_entry (entry_at q es) → (o : Option Scalar) → field_named field e.1 ≡ o
          → find key_cmp q (map pair (cond (is_some (field_named field e.1)) (e ∷ filter has es) (filter has es))) ≡ value_of_entry (cond (same_key q (folded e.0)) (Some e) (entry_at q es))
      by again (Some v) is =
          ap (λ o. find key_cmp q (map pair (cond (is_some o) (e ∷ filter has es) (filter has es)))) is
          ∙ (ap (λ o. cond (is_eq (key_cmp q (folded e.0))) (Some (unwrap_or o nothing)) (find key_cmp q rest)) is
          ∙ (ap (λ b. cond b (Some v) (find key_cmp q rest)) (is_eq-slice_cmp q (folded e.0))
          ∙ elim (same_key q (folded e.0)) as (λ b. cond b (Some v) (find key_cmp q rest) ≡ value_of_entry (cond b (Some e) (entry_at q es))) [ true ↦ sym is | false ↦ again ]))
      by again None is =
          ap (λ o. find key_cmp q (map pair (cond (is_some o) (e ∷ filter has es) (filter has es)))) is
          ∙ (again
          ∙ elim (same_key q (folded e.0)) as (λ b. same_key q (folded e.0) ≡ b → value_of_entry (entry_at q es) ≡ value_of_entry (cond b (Some e) (entry_at q es))) [
            | true ↦ λ same. ap value_of_entry (ap (λ k. entry_at k es) ((bytes_eq-Decides q (folded e.0)).0 same) ∙ not_behind e.0 es up.0) ∙ sym is
            | false ↦ λ same. refl
          ] refl)

  values_are : (es : EntryList) (cs : Columns) → AreTermsOf es cs → values_named field cs ≡ map pair (filter has es)
  values_are es cs are =
      same_entries key_cmp nat_list_cmp_total same_keys (values_named field cs) (map pair (filter has es)) (named_sorted field cs) (pairs_sorted (filter has es) (in_order-filter has es are.order))
      (λ q. named_at field q cs ∙ (are.values field q ∙ sym (pairs_at q es are.order)))

  -- THOSE THAT MEET A CONDITION ON THE FIELD

  module _ (c : Condition) (on : is_on field c ≡ true) where
    abbrev met : Entry → Bool
    met e = meets c false e.1

    abbrev value_met : List ℕ × Scalar → Bool
    value_met v = met_by c false (Some v.1)

    -- entries with a value are met as their values are
    values_met : (es : EntryList) → filter value_met (map pair (filter has es)) ≡ map pair (filter met (filter has es))
    values_met [] = refl
    values_met (e ∷ es) = by (values_met es) (field_named field e.1) refl
      where
        by : filter value_met (map pair (filter has es)) ≡ map pair (filter met (filter has es)) → (o : Option Scalar) → field_named field e.1 ≡ o
            → filter value_met (map pair (cond (is_some (field_named field e.1)) (e ∷ filter has es) (filter has es))) ≡ map pair (filter met (cond (is_some (field_named field e.1)) (e ∷ filter has es) (filter has es)))
        by again None is =
            ap (λ o. filter value_met (map pair (cond (is_some o) (e ∷ filter has es) (filter has es)))) is
            ∙ (again ∙ ap (λ o. map pair (filter met (cond (is_some o) (e ∷ filter has es) (filter has es)))) (sym is))
        by again (Some v) is =
            let answer : value_met (pair e) ≡ met e =
            ap (λ o. met_by c false (Some (unwrap_or o nothing))) is ∙ (ap (met_by c false) (sym is) ∙ sym (met_by_value field c false e.1 on)) in
            ap (λ o. filter value_met (map pair (cond (is_some o) (e ∷ filter has es) (filter has es)))) is
            ∙ (ap (λ b. cond b (pair e ∷ filter value_met (map pair (filter has es))) (filter value_met (map pair (filter has es)))) answer
            ∙ (elim (met e) as (λ b. cond b (pair e ∷ filter value_met (map pair (filter has es))) (filter value_met (map pair (filter has es))) ≡ map pair (cond b (e ∷ filter met (filter has es)) (filter met (filter has es)))) [
              | true ↦ ap (λ l. pair e ∷ l) again
              | false ↦ again
            ]
            ∙ ap (λ o. map pair (filter met (cond (is_some o) (e ∷ filter has es) (filter has es)))) (sym is)))

    -- if none without a value is met, those that are have one
    valued : met_by c false None ≡ false → (es : EntryList) → filter met (filter has es) ≡ filter met es
    valued lacking [] = refl
    valued lacking (e ∷ es) = by (valued lacking es) (field_named field e.1) refl
      where
        by : filter met (filter has es) ≡ filter met es → (o : Option Scalar) → field_named field e.1 ≡ o
            → filter met (cond (is_some (field_named field e.1)) (e ∷ filter has es) (filter has es)) ≡ cond (met e) (e ∷ filter met es) (filter met es)
        by again None is =
            let answer : met e ≡ false = met_by_value field c false e.1 on ∙ (ap (met_by c false) is ∙ lacking) in
            ap (λ o. filter met (cond (is_some o) (e ∷ filter has es) (filter has es))) is
            ∙ (again ∙ ap (λ b. cond b (e ∷ filter met es) (filter met es)) (sym answer))
        by again (Some v) is =
            ap (λ o. filter met (cond (is_some o) (e ∷ filter has es) (filter has es))) is ∙ ap (λ l. cond (met e) (e ∷ l) l) again

    module _ (es : EntryList) (cs : Columns) (are : AreTermsOf es cs) where
      met_of : filter value_met (values_named field cs) ≡ map pair (filter met (filter has es))
      met_of = ap (filter value_met) (values_are es cs are) ∙ values_met es

      -- the values that meet it are those of the entries that do, if none without a value does
      pub values_of_met : met_by c false None ≡ false → filter value_met (values_named field cs) ≡ map pair (filter met es)
      values_of_met lacking = met_of ∙ ap (map pair) (valued lacking es)

      -- or if each has a value
      pub values_of_each : length (values_named field cs) ≡ length es → filter value_met (values_named field cs) ≡ map pair (filter met es)
      values_of_each each =
          met_of ∙ ap (λ l. map pair (filter met l)) (all_pass has es (sym (length-map (filter has es) pair) ∙ (sym (ap length (values_are es cs are)) ∙ each)))

-- IN THE ORDER OF A KEY

module _ (k : SortKey) where
  abbrev by_key : Entry → Entry → Ordering
  by_key a b = key_order k a.1 b.1

  abbrev values : EntryList → Pairs
  values = map (with_value k.field)

  inserted_value : (e : Entry) (es : EntryList) → inserted (by_value k.long k.desc) (with_value k.field e) (values es) ≡ values (inserted by_key e es)
  inserted_value e [] = refl
  inserted_value e (f ∷ es) =
      elim (is_gt (by_key e f)) as (λ b. cond b (with_value k.field f ∷ inserted (by_value k.long k.desc) (with_value k.field e) (values es)) (with_value k.field e ∷ with_value k.field f ∷ values es) ≡ values (cond b (f ∷ inserted by_key e es) (e ∷ f ∷ es))) [
        | true ↦ ap (λ l. with_value k.field f ∷ l) (inserted_value e es)
        | false ↦ refl
      ]

  -- entries are sorted as their values are
  sorted_values : (es : EntryList) → sorted (by_value k.long k.desc) (values es) ≡ values (sorted by_key es)
  sorted_values [] = refl
  sorted_values (e ∷ es) = ap (inserted (by_value k.long k.desc) (with_value k.field e)) (sorted_values es) ∙ inserted_value e (sorted by_key es)

  ids_of_values : (es : EntryList) → map (λ (v : List ℕ × Scalar). v.0) (values es) ≡ map folded (ids_of es)
  ids_of_values [] = refl
  ids_of_values (e ∷ es) = ap (λ (l : List (List ℕ)). folded e.0 ∷ l) (ids_of_values es)

  -- the ids of a part of the sorted values are those of that part of the sorted entries
  pub ids_of_part : (start size : ℕ) (vs : Pairs) (es : EntryList) → vs ≡ values es
      → map (λ v. v.0) (take size (drop start (sorted (by_value k.long k.desc) vs))) ≡ map folded (ids_of (take size (drop start (sorted by_key es))))
  ids_of_part start size vs es are =
      ap (λ (l : Pairs). map (λ v. v.0) (take size (drop start l))) (ap (sorted (by_value k.long k.desc)) are ∙ sorted_values es)
      ∙ (ap (λ (l : Pairs). map (λ v. v.0) (take size l)) (drop-map (with_value k.field) start (sorted by_key es))
      ∙ (ap (map (λ (v : List ℕ × Scalar). v.0)) (take-map (with_value k.field) size (drop start (sorted by_key es)))
      ∙ ids_of_values (take size (drop start (sorted by_key es)))))
