-- A page in the order of the values of one field.
use Rattle.std.proofs.Common.{◌≡◌, ℕ, zero, suc, ◌<◌, ◌≤◌, List, [], ◌∷◌, length, take, drop, false, Option, Some, None, filter, map, Ordering, Less, Equal, Greater, refl, sym, ap, ◌∙◌, slice_index_or, arith}
use Rattle.std.specs.Option.{unwrap_or}
use Rattle.std.specs.Ordering.{ordering_then}
use Rattle.std.proofs.lemmas.List.{length-drop, length-map}
use Rattle.raven_base.specs.Counts.{Counts}
use Rattle.spec_data.specs.Folding.{folded}
use Rattle.index_tree.specs.Meaning.{Fields}
use Rattle.spec_query.specs.Condition.{Condition, meets}
use Rattle.spec_query.specs.Plan.{Plan, meeting, page, up_to}
use Rattle.spec_query.specs.Sorting.{SortKey, key_order, keys_order, sorted}
use Rattle.reference_track.specs.Sets.{AreInOrder}
use Rattle.rql_filter.specs.Entries.{EntryList, ids_of}
use Rattle.rql_order.proofs.Stable.{same_order}
use Rattle.rql_eval.specs.Pages.{ReadsAtMost, entries_of}
use Rattle.rql_eval.proofs.Cutting.{length-sorted}
use Rattle.rql_eval.proofs.Paging.{page_no_longer, reads_less}
use Rattle.rql_eval.proofs.ReadBack.{all_are, are-cut, are-filter, are-sorted, read_back}

abbrev Entry : Type 0
Entry = List ℕ × Fields

then_equal : (o : Ordering) → ordering_then o Equal ≡ o
then_equal Less = refl
then_equal Equal = refl
then_equal Greater = refl

-- ONE KEY

-- the only one of a list
pub alone : {X : Type 0} (xs : List X) (x : X) → 1 ≤ length xs → length xs < 2 → x ≡ slice_index_or xs 0 x → xs ≡ x ∷ []
alone [] x some few is = absurd (omega (arith, some))
alone (y ∷ []) x some few is = ap (λ z. z ∷ []) (sym is)
alone (y ∷ z ∷ xs) x some few is = absurd (omega (arith, few))

-- a key alone orders as keys do of which it is the only one
one_key : (k : SortKey) (es : EntryList) → sorted (λ (a b : Entry). key_order k a.1 b.1) es ≡ sorted (λ (a b : Entry). keys_order (k ∷ []) a.1 b.1) es
one_key k = same_order (λ (a b : Entry). key_order k a.1 b.1) (λ (a b : Entry). keys_order (k ∷ []) a.1 b.1) (λ a b. sym (then_equal (key_order k a.1 b.1)))

-- THE PAGE

take-long : {X : Type 0} (n : ℕ) (xs : List X) → length xs ≤ n → take n xs ≡ xs
take-long zero [] h = refl
take-long zero (x ∷ xs) h = absurd (omega (arith, h))
take-long (suc n) [] h = refl
take-long (suc n) (x ∷ xs) h = ap (λ l. x ∷ l) (take-long n xs (omega (arith, h)))

-- as many as there are are all
up_to_total : {X : Type 0} (size : Option ℕ) (total start : ℕ) (xs : List X) → total ≡ length xs → take (unwrap_or size total) (drop start xs) ≡ up_to size (drop start xs)
up_to_total None total start xs h = take-long total (drop start xs) (omega (arith, h, length-drop start xs))
up_to_total (Some n) total start xs h = refl

-- a part of the entries that meet the condition, in the order of the only key, is the page
module _ (q : Plan) (es : EntryList) (k : SortKey) (one : q.order ≡ k ∷ []) (total start size : ℕ) (counted : total ≡ length (meeting q es)) (from : start ≡ q.start) (sized : size ≡ unwrap_or q.size total) where
  abbrev by_key : Entry → Entry → Ordering
  by_key a b = key_order k a.1 b.1

  abbrev part : ℕ → ℕ → Condition → EntryList
  part start size c = take size (drop start (sorted by_key (filter (λ e. meets c false e.1) es)))

  part_is_page : (c : Condition) → c ≡ q.condition → part start size c ≡ page q es
  part_is_page c same =
      ap (part start size) same
      ∙ (ap (λ n. part n size q.condition) from
      ∙ (ap (λ n. part q.start n q.condition) sized
      ∙ (up_to_total q.size total q.start (sorted by_key (meeting q es)) (counted ∙ sym (length-sorted by_key (meeting q es)))
      ∙ (ap (λ (l : EntryList). up_to q.size (drop q.start l)) (one_key k (meeting q es))
      ∙ ap (λ ks. up_to q.size (drop q.start (sorted (λ (a b : Entry). keys_order ks a.1 b.1) (meeting q es)))) (sym one)))))

  pub ids_given : (c : Condition) → c ≡ q.condition → (ids : List (List ℕ)) → map folded ids ≡ map folded (ids_of (part start size c)) → map folded ids ≡ map folded (ids_of (page q es))
  ids_given c same ids h = h ∙ ap (λ (l : EntryList). map folded (ids_of l)) (part_is_page c same)

module _ (q : Plan) (es : EntryList) (ids : List (List ℕ)) (are : map folded ids ≡ map folded (ids_of (page q es))) where
  -- and their entries are the page
  pub page_of_ids : AreInOrder (ids_of es) → entries_of es ids ≡ page q es
  page_of_ids up =
      let by : Entry → Entry → Ordering = λ a b. keys_order q.order a.1 b.1 in
      read_back es ids (page q es) (are-cut q.start q.size es (sorted by (meeting q es)) (are-sorted by es (meeting q es) (are-filter (λ e. meets q.condition false e.1) es es (all_are es up)))) are

  pub as_many : length ids ≡ length (page q es)
  as_many = sym (length-map ids folded) ∙ (ap length are ∙ (length-map (ids_of (page q es)) folded ∙ length-map (page q es) (λ e. e.0)))

  pub reads_few : (read : List (List ℕ)) (before after : Counts) → read ≡ ids → ReadsAtMost (length read) before after → ReadsAtMost (length (meeting q es)) before after
  reads_few read before after same h =
      let count : length read ≡ length (page q es) = ap length same ∙ as_many in
      reads_less (length read) (length (meeting q es)) before after (omega (arith, count, page_no_longer q es)) h
