-- The entries of a page, from the ids of the entries that meet the condition.
use Rattle.std.proofs.Common.{◌≡◌, ℕ, suc, ◌+◌, ◌≤◌, ◌==◌, List, [], ◌∷◌, length, drop, Option, Ordering, filter, map, true, false, refl, sym, ap, ◌∙◌, arith}
use Rattle.std.proofs.lemmas.Bool.Decides.{nat_tests}
use Rattle.raven_base.specs.Counts.{Counts}
use Rattle.spec_data.specs.Folding.{folded}
use Rattle.index_tree.specs.Meaning.{Fields}
use Rattle.spec_query.specs.Condition.{Condition, meets}
use Rattle.spec_query.specs.Plan.{Plan, meeting, page, up_to}
use Rattle.spec_query.specs.Sorting.{keys_order, sorted}
use Rattle.reference_track.specs.Sets.{AreInOrder}
use Rattle.rql_filter.specs.Entries.{EntryList, ids_of}
use Rattle.rql_order.proofs.Stable.{map-sorted}
use Rattle.rql_eval.specs.Pages.{ReadsAtMost, entries_of}
use Rattle.rql_eval.proofs.Cutting.{length-cut, length-sorted, map-cut, same-cut, unsorted}
use Rattle.rql_eval.proofs.ReadBack.{all_are, are-cut, are-filter, read_back}

length-map : {X Y : Type 0} (f : X → Y) (xs : List X) → length (map f xs) ≡ length xs
length-map f [] = refl
length-map f (x ∷ xs) = ap suc (length-map f xs)

-- without keys the page is cut from the entries that meet the condition
module _ (q : Plan) (entries : EntryList) where
  pub plain_page : q.order ≡ [] → page q entries ≡ up_to q.size (drop q.start (meeting q entries))
  plain_page plain = ap (λ l. up_to q.size (drop q.start l)) (ap (λ keys. sorted (λ (a b : List ℕ × Fields). keys_order keys a.1 b.1) (meeting q entries)) plain ∙ unsorted (meeting q entries))

  pub page_no_longer : length (page q entries) ≤ length (meeting q entries)
  page_no_longer =
      let by : List ℕ × Fields → List ℕ × Fields → Ordering = λ a b. keys_order q.order a.1 b.1 in
      omega (arith, length-cut q.start q.size (sorted by (meeting q entries)), length-sorted by (meeting q entries))

module _ (q : Plan) (entries : EntryList) (ids : List (List ℕ)) where
  -- they are the ids of these entries, but for the spellings
  abbrev pub AreMeeting : Type 0
  AreMeeting = map folded ids ≡ map folded (ids_of (meeting q entries))

  pub are_meeting : (c : Condition) → c ≡ q.condition → map folded ids ≡ map folded (ids_of (filter (λ e. meets c false e.1) entries)) → AreMeeting
  are_meeting c same are = are ∙ ap (λ k. map folded (ids_of (filter (λ e. meets k false e.1) entries))) same

  pub total_is : AreMeeting → length ids ≡ length (meeting q entries)
  total_is are = sym (length-map folded ids) ∙ (ap length are ∙ (length-map folded (ids_of (meeting q entries)) ∙ length-map (λ e. e.0) (meeting q entries)))

  pub all_read : AreInOrder (ids_of entries) → AreMeeting → entries_of entries ids ≡ meeting q entries
  all_read up are = read_back entries ids (meeting q entries) (are-filter (λ e. meets q.condition false e.1) entries entries (all_are entries up)) are

  abbrev cut : {X : Type 0} → List X → List X
  cut xs = up_to q.size (drop q.start xs)

  -- without keys the page is cut from the ids
  pub page_read : AreInOrder (ids_of entries) → AreMeeting → q.order ≡ [] → entries_of entries (up_to q.size (drop q.start ids)) ≡ page q entries
  page_read up are plain =
      read_back entries (cut ids) (cut (meeting q entries)) (are-cut q.start q.size entries (meeting q entries) (are-filter (λ e. meets q.condition false e.1) entries entries (all_are entries up)))
      (map-cut folded q.start q.size ids ∙ (ap cut are ∙ (sym (map-cut folded q.start q.size (ids_of (meeting q entries))) ∙ ap (map folded) (sym (map-cut (λ e. e.0) q.start q.size (meeting q entries))))))
      ∙ sym (plain_page q entries plain)

  pub reads_of_page : (read : List (List ℕ)) (before after : Counts) → AreMeeting → read ≡ ids → q.order ≡ [] → ReadsAtMost (length (up_to q.size (drop q.start read))) before after → ReadsAtMost (length (page q entries)) before after
  reads_of_page read before after are same plain h =
      let long : length (up_to q.size (drop q.start read)) ≡ length (page q entries) =
      ap (λ l. length (cut l)) same ∙ (same-cut q.start q.size ids (meeting q entries) (total_is are) ∙ ap length (sym (plain_page q entries plain))) in
      record { reads = omega (arith, long, h.reads); maps = h.maps; merges = h.merges }

  -- with keys it is cut from the sorted entries
  pub page_sorted : AreInOrder (ids_of entries) → AreMeeting → cut (sorted (λ a b. keys_order q.order a.1 b.1) (entries_of entries ids)) ≡ page q entries
  page_sorted up are = ap (λ l. cut (sorted (λ (a b : List ℕ × Fields). keys_order q.order a.1 b.1) l)) (all_read up are)

-- what is seen of a page of sorted items
pub cut_sorted : {X : Type 0} (q : Plan) (view : X → List ℕ × Fields) (found ordered cuts : List X) (seen : EntryList) → map view found ≡ seen → ordered ≡ sorted (λ a b. keys_order q.order (view a).1 (view b).1) found → cuts ≡ up_to q.size (drop q.start ordered)
    → map view cuts ≡ up_to q.size (drop q.start (sorted (λ a b. keys_order q.order a.1 b.1) seen))
cut_sorted q view found ordered cuts seen are sorts is =
    ap (map view) is
    ∙ (map-cut view q.start q.size ordered
    ∙ ap (λ l. up_to q.size (drop q.start l)) (ap (map view) sorts ∙ (map-sorted view (λ (a b : List ℕ × Fields). keys_order q.order a.1 b.1) found ∙ ap (sorted (λ (a b : List ℕ × Fields). keys_order q.order a.1 b.1)) are)))

-- READS

pub reads_less : (m n : ℕ) (before after : Counts) → m ≤ n → ReadsAtMost m before after → ReadsAtMost n before after
reads_less m n before after le h = record { reads = omega arith; maps = h.maps; merges = h.merges }

pub reads_same : (m n : ℕ) (before after : Counts) → m ≡ n → ReadsAtMost m before after → ReadsAtMost n before after
reads_same m n before after same h = record { reads = omega (arith, same, h.reads); maps = h.maps; merges = h.merges }

pub no_reads : (n : ℕ) (counts : Counts) → ReadsAtMost n counts counts
no_reads n counts = record { reads = omega arith; maps = refl; merges = refl }

pub reads_of : (q : Plan) (entries : EntryList) (ids read : List (List ℕ)) (before after : Counts) → AreMeeting q entries ids → read ≡ ids → ReadsAtMost (length read) before after → ReadsAtMost (length (meeting q entries)) before after
reads_of q entries ids read before after are same h = let count : length read ≡ length (meeting q entries) = ap length same ∙ total_is q entries ids are in reads_less (length read) (length (meeting q entries)) before after (omega arith) h

pub reads_in_turn : (m n : ℕ) (before between after : Counts) → ReadsAtMost m before between → ReadsAtMost n between after → ReadsAtMost (m + n) before after
reads_in_turn m n before between after h g = record { reads = omega (arith, h.reads, g.reads); maps = g.maps ∙ h.maps; merges = g.merges ∙ h.merges }

-- THE CODE'S PAGES

pub no_keys : {X : Type 0} (xs : List X) → (length xs == 0) ≡ true → xs ≡ []
no_keys [] h = refl
no_keys (x ∷ xs) h = absurd (some (length xs) h)
  where
    some : (n : ℕ) → (suc n == 0) ≡ true → ⊥
    some n e = grind (arith, nat_tests)

-- what was cut, by the numbers of the plan
pub cut_by : {X : Type 0} (q : Plan) (start : ℕ) (size : Option ℕ) (xs ys cuts : List X) → cuts ≡ up_to size (drop start xs) → start ≡ q.start → size ≡ q.size → xs ≡ ys → cuts ≡ up_to q.size (drop q.start ys)
cut_by q start size xs ys cuts is is_start is_size same =
    is ∙ (ap (λ s. up_to s (drop start xs)) is_size ∙ (ap (λ n. up_to q.size (drop n xs)) is_start ∙ ap (λ l. up_to q.size (drop q.start l)) same))
