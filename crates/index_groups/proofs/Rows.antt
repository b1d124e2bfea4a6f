-- The rows of groups are those that the reduce gives for the entries.
use Rattle.std.proofs.Common.{◌≡◌, ◌<◌, ◌≤◌, ◌^◌, ◌/◌, ℕ, zero, suc, ℤ, pos, negsuc, neg_ℤ, int_div, div-le_self, unsigned_abs, Bool, true, false, cond, if◌then◌else◌, Option, Some, List, [], ◌∷◌, length, map, option_map, slice_get, refl, sym, ap, subst, ◌∙◌, arith}
use Rattle.std.proofs.lemmas.Bool.{lt-ltb}
use Rattle.std.specs.declared.cmp.Ordering.{Ordering}
use Rattle.std.specs.declared.cmp.Ordering.TheVariants.{Less, Equal, Greater}
use Rattle.std.specs.Ordering.{int_eq, is_eq}
use Rattle.std.specs.Cmp.{IsTotalOrder}
use Rattle.std.specs.FinMap.{FinMap, IsAntisymmetric, empty, entries, entries-insert, from_entries, len-empty, len-entries, values}
use Rattle.std.specs.FinMap.Entries.{by_order, put as put_entry}
use Rattle.std.specs.List.{zip}
use Rattle.std.specs.Map.{values_of}
use Rattle.std.specs.Option.{unwrap_or}
use Rattle.std.specs.Str.{bytes_eq}
use Rattle.spec_data.specs.Rising.{put}
use Rattle.spec_data.specs.Scalars.{Scalar, nothing, truth, number, words}
use Rattle.index_tree.specs.Meaning.{Fields, field_named}
use Rattle.index_tree.specs.declared.reduce_query.FoldKind.TheVariants as kind
use Rattle.index_tree.specs.declared.reduce_query.FoldMember.{FoldMember}
use Rattle.index_tree.specs.declared.reduce_query.FoldValue.{FoldValue}
use Rattle.index_tree.specs.declared.reduce_query.FoldValue.TheVariants as value
use Rattle.index_tree.specs.declared.reduce_query.ReduceQuery.{ReduceQuery}
use Rattle.map_stage.specs.Words.{HasWords, IsWord}
use Rattle.paged_map.specs.Pairs.{IsRising}
use Rattle.reduce_tree.specs.Folding.{fold_of}
use Rattle.reduce_tree.specs.Tree.{Tree}
use Rattle.reduce_groups.specs.Groups.{AreSound}
use Rattle.reduce_groups.specs.Grouping.{folded_at, of_group}
use Rattle.reduce_groups.specs.Grouping as tree
use Rattle.reduce_groups.proofs.RowLemmas.{few_at, rows_are_of, rows_long}
use Rattle.reduce_folds.specs.declared.field_fold.FieldFold.{FieldFold}
use Rattle.reduce_folds.specs.declared.row_fold.RowFold.{RowFold}
use Rattle.reduce_folds.specs.Cells.{Cell, cell_of, merged_cell, merged_row, no_cell, no_row}
use Rattle.reduce_folds.specs.Cells as cells
use Rattle.reduce_folds.specs.Exact.{AreWords}
use Rattle.reduce_folds.proofs.Sums.{exact_fold, row_is, sum_size}
use Rattle.spec_index.specs.Folds.{addend, as_one, quotient_of, sum_of}
use Rattle.spec_index.specs.Rows.{Key, column, group, key_of, key_order, member_value, reduced, row_of, row_with, value_at}
use Rattle.index_groups.specs.Cells.{cell_at, divided, field_of, fold_by, fold_place, folds_of, is_same, is_within, part_at, place_of, plan_of, row_from, source_of, value_from}
use Rattle.index_groups.specs.Groups.{HaveWords, fields_of}
use Rattle.index_groups.specs.KeyLaws.{keys_tie, keys_total}
use Rattle.index_groups.specs.Trees.{AreIndexed, entries_in, key_in}
use Rattle.index_groups.proofs.FieldLemmas.{fields_rising, fields_values}
use Rattle.reference_track.proofs.FoldedMaps.{values-by_folded}
use Rattle.index_groups.proofs.Gathering.{gathered}
use Rattle.index_groups.proofs.Plans.{HasAllNeeded, HasNeeded, has, needed_folded, same_is}

map_map : {A B C : Type 0} (g : B → C) (f : A → B) (xs : List A) → map g (map f xs) ≡ map (λ x. g (f x)) xs
map_map g f [] = refl
map_map g f (x ∷ xs) = ap (λ l. g (f x) ∷ l) (map_map g f xs)

map_same : {A B : Type 0} (f g : A → B) (xs : List A) → ((x : A) → f x ≡ g x) → map f xs ≡ map g xs
map_same f g [] h = refl
map_same f g (x ∷ xs) h = λ i. h x i ∷ map_same f g xs h i

length_map : {A B : Type 0} (f : A → B) (xs : List A) → length (map f xs) ≡ length xs
length_map f [] = refl
length_map f (x ∷ xs) = ap suc (length_map f xs)

pub got_mapped : {A B : Type 0} (f : A → B) (xs : List A) (i : ℕ) → slice_get (map f xs) i ≡ option_map f (slice_get xs i)
got_mapped f [] i = refl
got_mapped f (x ∷ xs) zero = refl
got_mapped f (x ∷ xs) (suc i) = got_mapped f xs i

-- WORDS

word_small : (v : Scalar) → IsWord v → unsigned_abs (addend v) ≤ 9223372036854775808
word_small nothing w = omega arith
word_small (truth b) w = omega arith
word_small (number (pos n)) w = omega (arith, w.sfits)
word_small (number (negsuc n)) w = omega (arith, w.sfits)
word_small (words t) w = omega arith

word_at : (name : List ℕ) (fields : Fields) → HasWords fields → IsWord (value_at name fields)
word_at name [] w = tt
word_at name (f ∷ fields) w = by (bytes_eq name f.0) (word_at name fields w.1)
  where
    by : (b : Bool) → IsWord (value_at name fields) → IsWord (unwrap_or (cond b (Some f.1) (field_named name fields)) nothing)
    by true h = w.0
    by false h = h

-- GROUPS OF THE ENTRIES

module _ {V : Type 0} (f : V → Fields) (names : List (List ℕ)) where
  -- the fields of all entries, and of those of a group
  abbrev all_fields : List (List ℕ × V) → List Fields
  all_fields es = map f (values_of es)

  pub group_is : (q : Key) (es : List (List ℕ × V)) → map f (values_of (of_group key_order (key_in names f) q es)) ≡ group names q (all_fields es)
  group_is q [] = refl
  group_is q (e ∷ es) = by (is_eq (key_order q (key_of names (f e.1)))) (group_is q es)
    where
      by : (b : Bool) → map f (values_of (of_group key_order (key_in names f) q es)) ≡ group names q (all_fields es) →
          map f (values_of (cond b (e ∷ of_group key_order (key_in names f) q es) (of_group key_order (key_in names f) q es))) ≡ cond b (f e.1 ∷ group names q (all_fields es)) (group names q (all_fields es))
      by true h = ap (λ l. f e.1 ∷ l) h
      by false h = h

  group_words : (name : List ℕ) (q : Key) (es : List (List ℕ × V)) → HaveWords (fields_of f es) → AreWords (column name (group names q (all_fields es)))
  group_words name q [] w = tt
  group_words name q (e ∷ es) w = by (is_eq (key_order q (key_of names (f e.1)))) (group_words name q es w.1)
    where
      by : (b : Bool) → AreWords (column name (group names q (all_fields es))) → AreWords (column name (cond b (f e.1 ∷ group names q (all_fields es)) (group names q (all_fields es))))
      by true h = (word_small (value_at name (f e.1)) (word_at name (f e.1) w.0), h)
      by false h = h

pub fold_mapped : {A B R : Type 0} (f : A → B) (lifted : B → R) (none : R) (merged : R → R → R) (xs : List A) → fold_of (λ x. lifted (f x)) none merged xs ≡ fold_of lifted none merged (map f xs)
fold_mapped f lifted none merged [] = refl
fold_mapped f lifted none merged (x ∷ xs) = ap (merged (lifted (f x))) (fold_mapped f lifted none merged xs)

-- THE CELLS OF A GROUP AND ITS ROW

-- what the fields of the folds come to
abbrev exact_cells : List FieldFold → List Fields → List Cell
exact_cells folds es = map (λ (fold : FieldFold). (fold.kind, as_one fold.kind (column fold.field es))) folds

cells_exact : (folds : List FieldFold) (es : List Fields) → ((name : List ℕ) → AreWords (column name es)) → length es < 2 ^ 64 → fold_of (cells.row_of folds) (no_row folds) merged_row es ≡ exact_cells folds es
cells_exact folds es w l = row_is folds es
    ∙ map_same (λ (fold : FieldFold). fold_of (cell_of fold) (no_cell fold) merged_cell es) (λ (fold : FieldFold). (fold.kind, as_one fold.kind (column fold.field es))) folds (λ fold. exact_fold fold es (w fold.field) l)

-- the cell of a fold that is there
cell_exact : (fold : FieldFold) (folds : List FieldFold) (es : List Fields) → has fold folds ≡ true → cell_at (exact_cells folds es) (place_of (is_same fold) folds) ≡ as_one fold.kind (column fold.field es)
cell_exact fold [] es h = absurd (cc h)
cell_exact fold (f ∷ fs) es h = by (is_same fold f) refl (cell_exact fold fs es)
  where
    by : (b : Bool) → is_same fold f ≡ b → (has fold fs ≡ true → cell_at (exact_cells fs es) (place_of (is_same fold) fs) ≡ as_one fold.kind (column fold.field es)) → cell_at (exact_cells (f ∷ fs) es) (cond b 0 (suc (place_of (is_same fold) fs))) ≡ as_one fold.kind (column fold.field es)
    by true e k = sym (ap (λ (x : FieldFold). as_one x.kind (column x.field es)) (same_is fold f e))
    by false e k = k (sym (ap (λ b. cond b true (has fold fs)) e) ∙ h)

-- the part of a key that has a name
part_exact : (name : List ℕ) (names : List (List ℕ)) (q : Key) → length q ≡ length names → part_at q (place_of (bytes_eq name) names) ≡ value_at name (zip names q)
part_exact name [] [] l = refl
part_exact name [] (p ∷ q) l = absurd (omega (arith, l))
part_exact name (n ∷ names) [] l = absurd (omega (arith, l))
part_exact name (n ∷ names) (p ∷ q) l = by (bytes_eq name n) (part_exact name names q (omega (arith, l)))
  where
    by : (b : Bool) → part_at q (place_of (bytes_eq name) names) ≡ value_at name (zip names q) →
        part_at (p ∷ q) (cond b 0 (suc (place_of (bytes_eq name) names))) ≡ unwrap_or (cond b (Some p) (field_named name (zip names q))) nothing
    by true h = refl
    by false h = h

-- QUOTIENTS FIT

negative_within : (n : ℕ) → n < 2 ^ 127 → is_within (neg_ℤ (pos n)) ≡ true
negative_within zero l = refl
negative_within (suc n) l = lt-ltb n (2 ^ 127) (omega (arith, l))

quotient_within : (m n : ℤ) → unsigned_abs m < 2 ^ 127 → is_within (int_div m n) ≡ true
quotient_within (pos m) (pos n) l = lt-ltb (m / n) (2 ^ 127) (omega (arith, div-le_self m n, l))
quotient_within (pos m) (negsuc n) l = negative_within (m / suc n) (omega (arith, div-le_self m (suc n), l))
quotient_within (negsuc m) (pos n) l = negative_within (suc m / n) (omega (arith, div-le_self (suc m) n, l))
quotient_within (negsuc m) (negsuc n) l = lt-ltb (suc m / suc n) (2 ^ 127) (omega (arith, div-le_self (suc m) (suc n), l))

quotient_exact : (m n : ℤ) → unsigned_abs m < 2 ^ 127 → divided m n ≡ quotient_of m n
quotient_exact m n l = ap (λ b. if int_eq n (pos 0) then nothing else if b then number (int_div m n) else nothing) (quotient_within m n l)

-- each sum of these entries is below 2^127 in size
abbrev HaveSmallSums : List Fields → Type 0
HaveSmallSums es = (name : List ℕ) → unsigned_abs (sum_of (column name es)) < 2 ^ 127

few_small : (es : List Fields) → ((name : List ℕ) → AreWords (column name es)) → length es < 2 ^ 64 → HaveSmallSums es
few_small es w l = λ name. omega (arith, sum_size (column name es) (w name), length_map (value_at name) es, l)

-- THE ROW

-- the row of exact cells is that of the definition
module _ (names : List (List ℕ)) (q : Key) (es : List Fields) (folds : List FieldFold) (long : length q ≡ length names) (small : HaveSmallSums es) where
  value_exact : (v : FoldValue) → HasNeeded folds v → value_from q (exact_cells folds es) (source_of names folds v) ≡ member_value names q es v
  value_exact (value.Key name) h = part_exact name names q long
  value_exact (value.Fold kind var field) h = cell_exact (fold_by kind field) folds es h
  value_exact (value.Quotient var field by_var divisor) h =
      ap (λ v. divided (addend v) (addend (cell_at (exact_cells folds es) (fold_place kind.Sum divisor folds)))) (cell_exact (fold_by kind.Sum field) folds es h.0)
      ∙ ap (λ v. divided (sum_of (column field es)) (addend v)) (cell_exact (fold_by kind.Sum divisor) folds es h.1)
      ∙ quotient_exact (sum_of (column field es)) (sum_of (column divisor es)) (small field)

  row_exact : (row : Fields) (ms : List FoldMember) → HasAllNeeded folds ms → row_from q (exact_cells folds es) row (map (field_of names folds) ms) ≡ row_with names q es row ms
  row_exact row [] h = refl
  row_exact row (m ∷ ms) h =
      ap (λ v. row_from q (exact_cells folds es) (put m.name v row) (map (field_of names folds) ms)) (value_exact m.value h.0)
      ∙ row_exact (put m.name (member_value names q es m.value) row) ms h.1

-- MAPS FROM KEYS, VALUE BY VALUE

module _ {K X Y : Type 0} (R : K → K → Ordering) (o : IsTotalOrder R) (ties : IsAntisymmetric R) (g : K → X → Y) where
  abbrev changed : List (K × X) → List (K × Y)
  changed xs = map (λ (r : K × X). (r.0, g r.0 r.1)) xs

  changed_put : (k : K) (v : X) (xs : List (K × X)) → changed (put_entry R k v xs) ≡ put_entry R k (g k v) (changed xs)
  changed_put k v [] = refl
  changed_put k v (x ∷ xs) = by (R k x.0) refl (changed_put k v xs)
    where
      by : (r : Ordering) → R k x.0 ≡ r → changed (put_entry R k v xs) ≡ put_entry R k (g k v) (changed xs) →
          changed (by_order r ((k, v) ∷ x ∷ xs) ((x.0, v) ∷ xs) (x ∷ put_entry R k v xs)) ≡ by_order r ((k, g k v) ∷ changed (x ∷ xs)) ((x.0, g k v) ∷ changed xs) ((x.0, g x.0 x.1) ∷ put_entry R k (g k v) (changed xs))
      by Less t h = refl
      by Equal t h = ap (λ q. (x.0, g q v) ∷ changed xs) (sym (ties k x.0 t))
      by Greater t h = ap (λ l. (x.0, g x.0 x.1) ∷ l) h

  none_long : {Z : Type 0} (zs : List Z) → length zs ≡ 0 → zs ≡ []
  none_long [] h = refl
  none_long (z ∷ zs) h = absurd (omega (arith, h))

  nothing_in : (Z : Type 0) → entries (empty {X = Z} {R = R}) ≡ []
  nothing_in Z = none_long (entries (empty {X = Z} {R = R})) (sym (len-entries (empty {X = Z} {R = R})) ∙ len-empty R Z)

  pub entries_changed : (xs : List (K × X)) → changed (entries (from_entries {R = R} xs)) ≡ entries (from_entries {R = R} (changed xs))
  entries_changed [] = ap changed (nothing_in X) ∙ sym (nothing_in Y)
  entries_changed (x ∷ xs) =
      ap changed (entries-insert o (from_entries {R = R} xs) x.0 x.1) ∙ changed_put x.0 x.1 (entries (from_entries {R = R} xs))
      ∙ ap (put_entry R x.0 (g x.0 x.1)) (entries_changed xs) ∙ sym (entries-insert o (from_entries {R = R} (changed xs)) x.0 (g x.0 x.1))

-- THE ROWS

module _ {V : Type 0} (query : ReduceQuery) (f : V → Fields) where
  -- the cells of a key's group, as the trees fold them
  abbrev cells_at : RowFold → List (List ℕ × V) → Key → List Cell
  cells_at fold es q = folded_at key_order (key_in query.key f) (fold_of (λ v. cells.row_of fold.fields (f v)) (no_row fold.fields) merged_row) es q

  abbrev cells_by_key : RowFold → List (List ℕ × V) → FinMap key_order (List Cell)
  cells_by_key fold es = tree.rows_of key_order (key_in query.key f) (fold_of (λ v. cells.row_of fold.fields (f v)) (no_row fold.fields) merged_row) es

  -- each key that an entry has, with what it has
  abbrev keyed : {X : Type 0} → (Key → X) → List (List ℕ × V) → List (Key × X)
  keyed at es = map (λ (e : List ℕ × V). (key_in query.key f e.1, at (key_in query.key f e.1))) es

  -- the rows of the definition are those made of what each key has, in whatever way
  remade : {X : Type 0} (at : Key → X) (g : Key → X → Fields) (es : List (List ℕ × V)) → ((q : Key) → length q ≡ length query.key → g q (at q) ≡ row_of query (all_fields f query.key es) q) →
      map (λ (r : Key × X). g r.0 r.1) (entries (from_entries {R = key_order} (keyed at es))) ≡ reduced query (all_fields f query.key es)
  remade {X} at g es h =
      let pair : Key × X → Key × Fields = λ r. (r.0, g r.0 r.1) in
      sym (map_map (λ (r : Key × Fields). r.1) pair (entries (from_entries {R = key_order} (keyed at es))))
      ∙ ap (map (λ (r : Key × Fields). r.1)) (entries_changed key_order keys_total keys_tie g (keyed at es))
      ∙ ap (λ (xs : List (Key × Fields)). map (λ (r : Key × Fields). r.1) (entries (from_entries {R = key_order} xs))) (lists es)
    where
      lists : (xs : List (List ℕ × V)) → map {B = Key × Fields} (λ (r : Key × X). (r.0, g r.0 r.1)) (keyed at xs) ≡ map {B = Key × Fields} (λ (e : Fields). (key_of query.key e, row_of query (all_fields f query.key es) (key_of query.key e))) (map f (values_of xs))
      lists [] = refl
      lists (x ∷ xs) = λ i. (key_of query.key (f x.1), h (key_of query.key (f x.1)) (length_map (λ name. value_at name (f x.1)) query.key) i) ∷ lists xs i

  module _ (fold : RowFold) (es : List (List ℕ × V)) (folds : fold.fields ≡ folds_of query.members) (all_words : HaveWords (fields_of f es)) (few : (q : Key) → length (of_group key_order (key_in query.key f) q es) < 2 ^ 64) where
    made : (q : Key) → length q ≡ length query.key → row_from q (cells_at fold es q) [] (plan_of query) ≡ row_of query (all_fields f query.key es) q
    made q long =
        let part = values_of (of_group key_order (key_in query.key f) q es) in
        let mine = group query.key q (all_fields f query.key es) in
        let small : length mine < 2 ^ 64 = subst (λ n. n < 2 ^ 64) (sym (ap length (sym (group_is f query.key q es)) ∙ length_map f part ∙ length_map (λ (e : List ℕ × V). e.1) (of_group key_order (key_in query.key f) q es))) (few q) in
        let is : cells_at fold es q ≡ exact_cells (folds_of query.members) mine =
        fold_mapped f (cells.row_of fold.fields) (no_row fold.fields) merged_row part
        ∙ ap (fold_of (cells.row_of fold.fields) (no_row fold.fields) merged_row) (group_is f query.key q es)
        ∙ ap (λ fs. fold_of (cells.row_of fs) (no_row fs) merged_row mine) folds
        ∙ cells_exact (folds_of query.members) mine (λ name. group_words f query.key name q es all_words) small in
        ap (λ cs. row_from q cs [] (plan_of query)) is
        ∙ row_exact query.key q mine (folds_of query.members) long (few_small mine (λ name. group_words f query.key name q es all_words) small) [] query.members (needed_folded query.members)

    pub rows_made : map (λ (r : Key × List Cell). row_from r.0 r.1 [] (plan_of query)) (entries (cells_by_key fold es)) ≡ reduced query (all_fields f query.key es)
    rows_made = remade (cells_at fold es) (λ q cs. row_from q cs [] (plan_of query)) es made

  -- there are as many rows as keys
  pub as_many : (fold : RowFold) (es : List (List ℕ × V)) → length (entries (cells_by_key fold es)) ≡ length (reduced query (all_fields f query.key es))
  as_many fold es =
      sym (length_map (λ (r : Key × List Cell). row_of query (all_fields f query.key es) r.0) (entries (cells_by_key fold es)))
      ∙ ap length (remade (cells_at fold es) (λ q cs. row_of query (all_fields f query.key es) q) es (λ q long. refl))

-- THE ENTRIES OF THE TREES

module _ {V : Type 0} (query : ReduceQuery) (f : V → Fields) (fold : RowFold) (trees : List (Key × Tree RowFold (List ℕ) V)) (is : AreIndexed query f fold trees) (rises : IsRising key_order trees) where
  pub entries_are : values (entries_in f trees) ≡ map f (values_of is.all)
  entries_are =
      ap values (gathered key_order keys_total f (key_in query.key f) is.all trees is.rising rises is.grouped)
      ∙ values-by_folded (fields_of f is.all) (fields_rising f is.all is.rising) ∙ fields_values f is.all

  pub rows_are : (f2 : RowFold) → AreSound f2 trees → map (λ (r : Key × List Cell). row_from r.0 r.1 [] (plan_of query)) (entries (cells_by_key query f fold is.all)) ≡ reduced query (values (entries_in f trees))
  rows_are f2 sound =
      rows_made query f fold is.all is.folds is.words (λ q. subst (λ xs. length xs < 2 ^ 64) (is.grouped q) (few_at key_order f2 q trees sound)) ∙ ap (reduced query) (sym entries_are)

  pub row_is_at : (f2 : RowFold) → AreSound f2 trees → (place : ℕ) (r : Option (Key × List Cell)) → r ≡ slice_get (entries (cells_by_key query f fold is.all)) place
      → option_map (λ (r : Key × List Cell). row_from r.0 r.1 [] (plan_of query)) r ≡ slice_get (reduced query (values (entries_in f trees))) place
  row_is_at f2 sound place r e =
      ap (option_map (λ (r : Key × List Cell). row_from r.0 r.1 [] (plan_of query))) e
      ∙ sym (got_mapped (λ (r : Key × List Cell). row_from r.0 r.1 [] (plan_of query)) (entries (cells_by_key query f fold is.all)) place) ∙ ap (λ (rows : List Fields). slice_get rows place) (rows_are f2 sound)

  -- each tree gives a row
  pub count_is : (f2 : RowFold) → AreSound f2 trees → length trees ≡ length (reduced query (values (entries_in f trees)))
  count_is f2 sound =
      sym (rows_long key_order lifted none merged_row f2 trees sound) ∙ ap length (rows_are_of key_order lifted none merged_row f2 keys_tie (key_in query.key f) keys_total is.all trees rises sound is.grouped)
      ∙ as_many query f f2 is.all ∙ ap (λ (es : List Fields). length (reduced query es)) (sym entries_are)
    where
      lifted : RowFold → V → List Cell
      lifted x v = cells.row_of x.fields (f v)

      none : RowFold → List Cell
      none x = no_row x.fields
