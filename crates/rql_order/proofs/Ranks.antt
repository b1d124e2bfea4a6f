-- Rows that are sorted by what the keys compare of them are in the order of the keys.
use Rattle.std.proofs.Common.{◌≡◌, ℕ, ℤ, List, [], ◌∷◌, Bool, true, false, Option, map, Ordering, Less, Equal, Greater, refl, sym, ap, ◌∙◌}
use Rattle.std.specs.Cmp.{int_cmp_total, on_total}
use Rattle.std.specs.Cmp.Lexicographic.{nat_list_cmp_total, options_total, slice_cmp}
use Rattle.std.specs.Option.{option_cmp}
use Rattle.std.specs.Ordering.{int_cmp, on, ordering_then}
use Rattle.spec_data.specs.Folding.{folded, key_cmp}
use Rattle.spec_data.specs.Scalars.{Scalar}
use Rattle.index_tree.specs.Meaning.{Fields}
use Rattle.spec_query.specs.Sorting.{SortKey, key_order, keys_order, number_form, sorted, text_form, turned, value_cmp, value_named}
use Rattle.rql_order.specs.Values.{by_number, by_text, sort_value, sort_values}
use Rattle.rql_order.specs.declared.value.SortValue.{SortValue}
use Rattle.rql_order.specs.declared.value.SortValue.TheVariants.{Number, Text, NumberDown, TextDown}
use Rattle.rql_order.proofs.Stable.{map-sorted, same_order}

abbrev text_cmp : List ℕ → List ℕ → Ordering
text_cmp = on folded key_cmp

-- how values compare that are made for one key
pub record ByForms (cmp : SortValue → SortValue → Ordering) : Type 0 where
  pub numbers : (m n : Option ℤ) → cmp (Number m) (Number n) ≡ option_cmp int_cmp m n
  pub texts : (s t : Option (List ℕ)) → cmp (Text s) (Text t) ≡ option_cmp text_cmp s t
  pub numbers_down : (m n : Option ℤ) → cmp (NumberDown (record { 0 = m })) (NumberDown (record { 0 = n })) ≡ option_cmp int_cmp n m
  pub texts_down : (s t : Option (List ℕ)) → cmp (TextDown (record { 0 = s })) (TextDown (record { 0 = t })) ≡ option_cmp text_cmp t s

module _ (cmp : SortValue → SortValue → Ordering) (by : ByForms cmp) where
  by_numbers : (desc : Bool) (m n : Option ℤ) → cmp (by_number m desc) (by_number n desc) ≡ turned desc (option_cmp int_cmp m n)
  by_numbers true m n = by.numbers_down m n ∙ (options_total int_cmp_total).antisymm n m
  by_numbers false m n = by.numbers m n

  by_texts : (desc : Bool) (s t : Option (List ℕ)) → cmp (by_text s desc) (by_text t desc) ≡ turned desc (option_cmp text_cmp s t)
  by_texts true s t = by.texts_down s t ∙ (options_total (on_total folded nat_list_cmp_total)).antisymm t s
  by_texts false s t = by.texts s t

  sort_value_order : (long desc : Bool) (field : List ℕ) (v w : Scalar) → cmp (sort_value (record { field = field; long = long; desc = desc }) v) (sort_value (record { field = field; long = long; desc = desc }) w) ≡ turned desc (value_cmp long v w)
  sort_value_order true desc field v w = by_numbers desc (number_form v) (number_form w)
  sort_value_order false desc field v w = by_texts desc (text_form v) (text_form w)

  pub sort_values_order : (keys : List SortKey) (a b : Fields) → slice_cmp cmp (sort_values keys a) (sort_values keys b) ≡ keys_order keys a b
  sort_values_order [] a b = refl
  sort_values_order (k ∷ keys) a b =
      ap (λ o. ordering_then o (slice_cmp cmp (sort_values keys a) (sort_values keys b))) (sort_value_order k.long k.desc k.field (value_named k.field a) (value_named k.field b))
      ∙ ap (ordering_then (key_order k a b)) (sort_values_order keys a b)

-- ROWS WITH THEIR VALUES

module _ {S V R : Type 0} (items : V → List S) (values : R → List S) (cmp : S → S → Ordering) (order : R → R → Ordering) (alike : (a b : R) → slice_cmp cmp (values a) (values b) ≡ order a b) where
  abbrev pub ranked : V × R → List S × R
  ranked p = (items p.0, p.1)

  abbrev pub valued : R → List S × R
  valued r = (values r, r)

  abbrev pub by_values : List S × R → List S × R → Ordering
  by_values p q = slice_cmp cmp p.0 q.0

  abbrev row : List S × R → R
  row p = p.1

  abbrev pub row_of : V × R → R
  row_of p = p.1

  rows_ranked : (ps : List (V × R)) → map row_of ps ≡ map row (map ranked ps)
  rows_ranked [] = refl
  rows_ranked (p ∷ ps) = ap (λ (l : List R). p.1 ∷ l) (rows_ranked ps)

  rows_valued : (rs : List R) → map row (map valued rs) ≡ rs
  rows_valued [] = refl
  rows_valued (r ∷ rs) = ap (λ (l : List R). r ∷ l) (rows_valued rs)

  -- the rows of sorted ranks are the sorted rows
  pub sorted_rows : (rows : List R) (before after : List (V × R)) → map ranked before ≡ map valued rows → after ≡ sorted (λ a b. by_values (ranked a) (ranked b)) before → map row_of after ≡ sorted order rows
  sorted_rows rows before after is sorts =
      ap (map row_of) sorts
      ∙ (rows_ranked (sorted (λ a b. by_values (ranked a) (ranked b)) before)
      ∙ (ap (map row) (map-sorted ranked by_values before ∙ (ap (sorted by_values) is ∙ sym (map-sorted valued by_values rows)))
      ∙ (rows_valued (sorted (λ a b. by_values (valued a) (valued b)) rows)
      ∙ same_order (λ a b. by_values (valued a) (valued b)) order alike rows)))
