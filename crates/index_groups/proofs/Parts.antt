-- The groups of several lists of entries, merged, are those of all entries.
use Rattle.std.proofs.Common.{◌≡◌, ◌<◌, ◌≤◌, ◌^◌, ℕ, suc, Bool, true, false, cond, ◌||◌, Bor, Option, Some, None, List, [], ◌∷◌, ◌++◌, filter, length, map, flat_map, slice_get, refl, sym, ap, subst, ◌∙◌, arith}
use Rattle.std.specs.declared.cmp.Ordering.{Ordering}
use Rattle.std.specs.declared.cmp.Ordering.TheVariants.{Less, Equal, Greater}
use Rattle.std.specs.Ordering.{is_eq}
use Rattle.std.specs.FinMap.{empty, entries, entries_sorted, find, from_entries, get-entries, get-from_entries, len-empty, len-entries, values}
use Rattle.std.specs.FinMap.Entries.{same_entries}
use Rattle.std.specs.List.{list_any}
use Rattle.std.specs.Option.{unwrap_or}
use Rattle.std.specs.Map.{values_of}
use Rattle.std.proofs.lemmas.List.{append-nil, map-append}
use Rattle.std.proofs.lemmas.List.Concat.{flat_map-append}
use Rattle.std.proofs.lemmas.List.Elements.{filter-append}
use Rattle.index_tree.specs.Meaning.{Fields}
use Rattle.index_tree.specs.declared.reduce_query.ReduceQuery.{ReduceQuery}
use Rattle.map_stage.specs.Words.{HasWords}
use Rattle.reduce_tree.specs.Folding.{fold_of, result_of}
use Rattle.reduce_tree.proofs.Folds.{fold_parted}
use Rattle.reduce_groups.specs.Grouping.{folded_at, of_group}
use Rattle.reduce_groups.specs.Grouping as tree
use Rattle.reduce_folds.specs.declared.row_fold.RowFold.{RowFold}
use Rattle.reduce_folds.specs.Cells.{Cell, merged_row, no_row}
use Rattle.reduce_folds.specs.Cells as cells
use Rattle.reduce_folds.specs.CellLaws.{row_assoc, row_comm, row_unit, row_unit-none}
use Rattle.spec_index.specs.Rows.{Key, group, key_of, key_order, reduced}
use Rattle.index_groups.specs.Cells.{folds_of, plan_of, row_from}
use Rattle.index_groups.specs.Groups.{Grouped, HaveWords, fields_of}
use Rattle.index_groups.specs.KeyLaws.{keys_tie, keys_total}
use Rattle.index_groups.specs.Together.{AreBy, AreOfWords, all_entries, cells_at, cells_of}
use Rattle.index_groups.specs.Trees.{key_in}
use Rattle.index_groups.proofs.Merging.{joined, merged_found, merged_lists, merged_sorted}
use Rattle.index_groups.proofs.Rows.{fold_mapped, group_is, rows_made}

-- WHAT TREES HAVE FOLDED

module _ {V : Type 0} (query : ReduceQuery) (f : V → Fields) (fold : RowFold) (folds : fold.fields ≡ folds_of query.members) (es : List (List ℕ × V)) where
  folded_same : (q : Key) → folded_at key_order (key_in query.key f) (fold_of (λ v. cells.row_of fold.fields (f v)) (no_row fold.fields) merged_row) es q ≡ cells_at query (map f (values_of es)) q
  folded_same q =
      fold_mapped f (cells.row_of fold.fields) (no_row fold.fields) merged_row (values_of (of_group key_order (key_in query.key f) q es))
      ∙ ap (fold_of (cells.row_of fold.fields) (no_row fold.fields) merged_row) (group_is f query.key q es)
      ∙ ap (λ fs. fold_of (cells.row_of fs) (no_row fs) merged_row (group query.key q (map f (values_of es)))) folds

  pub trees_cells : entries (tree.rows_of key_order (key_in query.key f) (fold_of (λ v. cells.row_of fold.fields (f v)) (no_row fold.fields) merged_row) es) ≡ cells_of query (map f (values_of es))
  trees_cells = ap (λ (xs : List (Key × List Cell)). entries (from_entries {R = key_order} xs)) (lists es)
    where
      at : Key → List Cell
      at = folded_at key_order (key_in query.key f) (fold_of (λ v. cells.row_of fold.fields (f v)) (no_row fold.fields) merged_row) es

      lists : (xs : List (List ℕ × V)) → map {B = Key × List Cell} (λ (e : List ℕ × V). (key_of query.key (f e.1), at (key_of query.key (f e.1)))) xs
          ≡ map {B = Key × List Cell} (λ (e : Fields). (key_of query.key e, cells_at query (map f (values_of es)) (key_of query.key e))) (map f (values_of xs))
      lists [] = refl
      lists (x ∷ xs) = λ i. (key_of query.key (f x.1), folded_same (key_of query.key (f x.1)) i) ∷ lists xs i

-- TWO LISTS OF ENTRIES

none_long : {Z : Type 0} (zs : List Z) → length zs ≡ 0 → zs ≡ []
none_long [] h = refl
none_long (z ∷ zs) h = absurd (omega (arith, h))

module _ (query : ReduceQuery) where
  -- what entries come to, if there are any
  abbrev found : List Fields → Option (List Cell)
  found es = result_of (cells.row_of (folds_of query.members)) (no_row (folds_of query.members)) merged_row es

  abbrev has_key : Key → Fields → Bool
  has_key q e = is_eq (key_order q (key_of query.key e))

  keyed_found : (at : Key → List Cell) (q : Key) (es : List Fields) → find key_order q (map {B = Key × List Cell} (λ e. (key_of query.key e, at (key_of query.key e))) es) ≡ cond (list_any (has_key q) es) (Some (at q)) None
  keyed_found at q [] = refl
  keyed_found at q (e ∷ es) = by (key_order q (key_of query.key e)) refl (keyed_found at q es)
    where
      by : (r : Ordering) → key_order q (key_of query.key e) ≡ r → find key_order q (map {B = Key × List Cell} (λ e. (key_of query.key e, at (key_of query.key e))) es) ≡ cond (list_any (has_key q) es) (Some (at q)) None →
          cond (is_eq r) (Some (at (key_of query.key e))) (find key_order q (map {B = Key × List Cell} (λ e. (key_of query.key e, at (key_of query.key e))) es)) ≡ cond (is_eq r || list_any (has_key q) es) (Some (at q)) None
      by Less t h = h
      by Equal t h = ap (λ k. Some (at k)) (sym (keys_tie q (key_of query.key e) t))
      by Greater t h = h

  some_if_any : (p : Fields → Bool) (es : List Fields) → cond (list_any p es) (Some (fold_of (cells.row_of (folds_of query.members)) (no_row (folds_of query.members)) merged_row (filter p es))) None ≡ found (filter p es)
  some_if_any p [] = refl
  some_if_any p (e ∷ es) = by (p e) (some_if_any p es)
    where
      folded : List Fields → List Cell
      folded xs = fold_of (cells.row_of (folds_of query.members)) (no_row (folds_of query.members)) merged_row xs

      by : (b : Bool) → cond (list_any p es) (Some (folded (filter p es))) None ≡ found (filter p es) →
          cond (b || list_any p es) (Some (folded (cond b (e ∷ filter p es) (filter p es)))) None ≡ found (cond b (e ∷ filter p es) (filter p es))
      by true h = refl
      by false h = h

  cells_found : (q : Key) (es : List Fields) → find key_order q (cells_of query es) ≡ found (group query.key q es)
  cells_found q es =
      let keyed : List (Key × List Cell) = map (λ (e : Fields). (key_of query.key e, cells_at query es (key_of query.key e))) es in
      sym (get-entries (from_entries {R = key_order} keyed) q) ∙ get-from_entries keys_total keyed q ∙ keyed_found (cells_at query es) q es ∙ some_if_any (has_key q) es

  found_parted : (es fs : List Fields) → found (es ++ fs) ≡ joined merged_row (found es) (found fs)
  found_parted [] fs = refl
  found_parted (e ∷ es) [] = ap found (append-nil (e ∷ es))
  found_parted (e ∷ es) (f ∷ fs) = ap Some (fold_parted (cells.row_of (folds_of query.members)) (no_row (folds_of query.members)) merged_row row_assoc row_comm (row_unit (folds_of query.members)) (row_unit-none (folds_of query.members)) (e ∷ es) (f ∷ fs))

  pub merged_cells : (es fs : List Fields) → merged_lists key_order merged_row (cells_of query es) (cells_of query fs) ≡ cells_of query (es ++ fs)
  merged_cells es fs =
      same_entries key_order keys_total keys_tie (merged_lists key_order merged_row (cells_of query es) (cells_of query fs)) (cells_of query (es ++ fs))
      (merged_sorted key_order merged_row keys_total (cells_of query es) (cells_of query fs) (entries_sorted _) (entries_sorted _)) (entries_sorted _)
      (λ q.
      merged_found key_order merged_row keys_total q (cells_of query es) (cells_of query fs) (entries_sorted _) (entries_sorted _)
      ∙ (λ i. joined merged_row (cells_found q es i) (cells_found q fs i))
      ∙ sym (found_parted (group query.key q es) (group query.key q fs))
      ∙ ap found (sym (filter-append (has_key q) es fs)) ∙ sym (cells_found q (es ++ fs)))

  pub no_cells : cells_of query [] ≡ []
  no_cells = none_long (cells_of query []) (sym (len-entries (empty {X = List Cell} {R = key_order})) ∙ len-empty key_order (List Cell))

-- SEVERAL

-- what references give
abbrev seen : List (Bor Grouped) → List Grouped
seen ps = map (λ (p : Bor Grouped). p.now) ps

pub none_seen : (query : ReduceQuery) (ps : List (Bor Grouped)) → None ≡ slice_get ps 0 → [] ≡ reduced query (all_entries (seen ps))
none_seen query [] e = sym (ap (map (λ (r : Key × Fields). r.1)) (none_long (entries (empty {X = Fields} {R = key_order})) (sym (len-entries (empty {X = Fields} {R = key_order})) ∙ len-empty key_order Fields)))
none_seen query (p ∷ ps) e = absurd (cc e)

pub first_by : (query : ReduceQuery) (ps : List (Bor Grouped)) (p : Bor Grouped) → Some p ≡ slice_get ps 0 → AreBy query (seen ps) → p.now.query ≡ query
first_by query [] p e a = absurd (cc e)
first_by query (x ∷ ps) p e a = ap (λ (o : Option (Bor Grouped)). (unwrap_or o p).now.query) e ∙ a.0

pub nothing_seen : (query : ReduceQuery) (ps : List (Bor Grouped)) → length ps < 1 → [] ≡ cells_of query (all_entries (seen ps))
nothing_seen query [] l = sym (no_cells query)
nothing_seen query (p ∷ ps) l = absurd (omega (arith, l))

pub words_append : (es fs : List Fields) → AreOfWords es → AreOfWords fs → AreOfWords (es ++ fs)
words_append [] fs a b = b
words_append (e ∷ es) fs a b = (a.0, words_append es fs a.1 b)

by_front : (query : ReduceQuery) (gs hs : List Grouped) → AreBy query (gs ++ hs) → AreBy query gs
by_front query [] hs a = tt
by_front query (g ∷ gs) hs a = (a.0, by_front query gs hs a.1)

by_back : (query : ReduceQuery) (gs hs : List Grouped) → AreBy query (gs ++ hs) → AreBy query hs
by_back query [] hs a = a
by_back query (g ∷ gs) hs a = by_back query gs hs a.1

-- all parts are those of the front and those of the back
module _ (ps front back : List (Bor Grouped)) (parted : ps ≡ front ++ back) where
  seen_parted : seen ps ≡ seen front ++ seen back
  seen_parted = ap seen parted ∙ map-append (λ (p : Bor Grouped). p.now) front back

  entries_parted : all_entries (seen ps) ≡ all_entries (seen front) ++ all_entries (seen back)
  entries_parted = ap all_entries seen_parted ∙ flat_map-append (λ (g : Grouped). values g.entries) (seen front) (seen back)

  pub words_parted : AreOfWords (all_entries (seen front)) → AreOfWords (all_entries (seen back)) → AreOfWords (all_entries (seen ps))
  words_parted a b = subst AreOfWords (sym entries_parted) (words_append (all_entries (seen front)) (all_entries (seen back)) a b)

  pub cells_parted : (xs ys zs : List (Key × List Cell)) → ((query : ReduceQuery) → AreBy query (seen front) → xs ≡ cells_of query (all_entries (seen front))) → ((query : ReduceQuery) → AreBy query (seen back) → ys ≡ cells_of query (all_entries (seen back)))
      → ((query : ReduceQuery) (es fs : List Fields) → xs ≡ cells_of query es → ys ≡ cells_of query fs → zs ≡ cells_of query (es ++ fs)) → (query : ReduceQuery) → AreBy query (seen ps) → zs ≡ cells_of query (all_entries (seen ps))
  cells_parted xs ys zs mine other both query alike =
      let all : AreBy query (seen front ++ seen back) = subst (AreBy query) seen_parted alike in
      both query (all_entries (seen front)) (all_entries (seen back)) (mine query (by_front query (seen front) (seen back) all)) (other query (by_back query (seen front) (seen back) all))
      ∙ ap (cells_of query) (sym entries_parted)

-- THE ROWS

pub words_of : {V : Type 0} (f : V → Fields) (es : List (List ℕ × V)) → HaveWords (fields_of f es) → AreOfWords (map f (values_of es))
words_of f [] w = tt
words_of f (e ∷ es) w = (w.0, words_of f es w.1)

-- entries under any ids
abbrev pairs : List Fields → List (List ℕ × Fields)
pairs es = map (λ e. ([], e)) es

abbrev own : Fields → Fields
own e = e

pairs_values : (es : List Fields) → map own (values_of (pairs es)) ≡ es
pairs_values [] = refl
pairs_values (e ∷ es) = ap (λ l. e ∷ l) (pairs_values es)

pairs_words : (es : List Fields) → AreOfWords es → HaveWords (fields_of own (pairs es))
pairs_words [] w = tt
pairs_words (e ∷ es) w = (w.0, pairs_words es w.1)

pairs_long : (es : List Fields) → length (pairs es) ≡ length es
pairs_long [] = refl
pairs_long (e ∷ es) = ap suc (pairs_long es)

filtered_long : {A : Type 0} (p : A → Bool) (xs : List A) → length (filter p xs) ≤ length xs
filtered_long p [] = omega arith
filtered_long p (x ∷ xs) = by (p x) (filtered_long p xs)
  where
    by : (b : Bool) → length (filter p xs) ≤ length xs → length (cond b (x ∷ filter p xs) (filter p xs)) ≤ length (x ∷ xs)
    by true h = omega (arith, h)
    by false h = omega (arith, h)

pub rows_from_cells : (query : ReduceQuery) (es : List Fields) → AreOfWords es → length es < 2 ^ 64 → map (λ (r : Key × List Cell). row_from r.0 r.1 [] (plan_of query)) (cells_of query es) ≡ reduced query es
rows_from_cells query es w l =
    let fold : RowFold = record { fields = folds_of query.members } in
    ap (map (λ (r : Key × List Cell). row_from r.0 r.1 [] (plan_of query))) (ap (cells_of query) (sym (pairs_values es)) ∙ sym (trees_cells query own fold refl (pairs es)))
    ∙ rows_made query own fold (pairs es) refl (pairs_words es w) (λ q. omega (arith, filtered_long (λ (e : List ℕ × Fields). is_eq (key_order q (key_in query.key own e.1))) (pairs es), pairs_long es, l))
    ∙ ap (reduced query) (pairs_values es)
