-- What is kept, and stays kept when rows are taken.
use Rattle.std.proofs.Common.{◌≡◌, ℕ, ◌+◌, List, [], ◌∷◌, ◌++◌, Bool, true, false, cond, ◌||◌, Some, None, filter, refl, sym, ap, ◌∙◌, subst}
use Rattle.std.specs.FinMap.{FinMap, get, values, empty, get-empty}
use Rattle.std.specs.List.{cons_option, count_by, filter_map, list_any}
use Rattle.std.specs.Option.{option_and_then}
use Rattle.std.proofs.lemmas.List.Sums.{sum_by-cons}
use Rattle.spec_data.specs.Folding.{folded, key_cmp, same_key}
use Rattle.spec_data.specs.Rows.{Row, key, is_document}
use Rattle.spec_data.specs.Tables.{Table, note_row, note_rows}
use Rattle.index_tree.specs.Mapper.{Mapper, is_mapped}
use Rattle.spec_index.specs.Mapping.{entry_of, failures, has_failed, scratch}
use Rattle.spec_store.proofs.TableLemmas.{get-note_row}
use Rattle.spec_store.proofs.StoreLemmas.{same_means, same_row}
use Rattle.reference_track.specs.Tracks.{Track, is_pair}
use Rattle.reference_track.specs.Sets.{is_id}
use Rattle.index_version.specs.Kept.{AreKept, Given, IsFiled, entry_given, given_at, given_of, is_loaded}
use Rattle.index_version.specs.Renewed.{ArePaired, AreRenewed}
use Rattle.index_version.proofs.Ordered.{values_derived}

-- EACH ROW UNDER ITS OWN ID

filed_row : (T : Table) (r : Row) → IsFiled T → IsFiled (note_row T r)
filed_row T r filed q t h =
    elim (same_key q (key r)) as (λ b. same_key q (key r) ≡ b → cond b (cond (is_document r) (Some r) None) (get T q) ≡ Some t → q ≡ key t) [
      | true ↦ λ e g. same_means q (key r) e ∙ ap key (noted_is (is_document r) g)
      | false ↦ λ e g. filed q t g
    ] refl (sym (get-note_row T r q) ∙ h)
  where
    noted_is : (b : Bool) → cond b (Some r) None ≡ Some t → r ≡ t
    noted_is true g = same_row r t g
    noted_is false g = absurd cc

pub filed_rows : (T : Table) (rows : List Row) → IsFiled T → IsFiled (note_rows T rows)
filed_rows T [] filed = filed
filed_rows T (r ∷ rows) filed = filed_rows (note_row T r) rows (filed_row T r filed)

pub filed_empty : IsFiled empty
filed_empty q t h = let e = sym (get-empty key_cmp q) ∙ h in absurd cc

-- NOTHING IS KEPT OF NO DOCUMENTS

pub nothing_kept : (m : Mapper) (T : Table) (G : FinMap key_cmp Given) (L : Track) → T ≡ empty → G ≡ empty → ((x y : List ℕ) → is_pair x y L ≡ false) → AreKept m T G L
nothing_kept m T G L no_rows no_results none = record {
  filed = subst IsFiled (sym no_rows) filed_empty;
  results = λ q. no_result q ∙ ap (λ N. option_and_then (given_of m T) N) (sym (ap (λ (N : Table). get N q) no_rows ∙ get-empty key_cmp q));
  pairs = λ x y. none x y ∙ ap (is_loaded (folded y)) (sym (no_result (folded x)));
}
  where
    no_result : (q : List ℕ) → get G q ≡ None
    no_result q = ap (λ (N : FinMap key_cmp Given). get N q) no_results ∙ get-empty key_cmp q

-- FROM SCRATCH

entries_of : (m : Mapper) (T : Table) (rows : List Row) → filter_map entry_given (filter_map (given_of m T) rows) ≡ filter_map (λ d. entry_of d.id (m.meaning d T).outcome) (filter (is_mapped m) rows)
entries_of m T [] = refl
entries_of m T (d ∷ rows) = elim (is_mapped m d) as (λ b. filter_map entry_given (cons_option (cond b (Some (record { id = d.id; mapped = m.meaning d T })) None) (filter_map (given_of m T) rows)) ≡ filter_map (λ x. entry_of x.id (m.meaning x T).outcome) (cond b (d ∷ filter (is_mapped m) rows) (filter (is_mapped m) rows))) [
  | true ↦ ap (cons_option (entry_of d.id (m.meaning d T).outcome)) (entries_of m T rows)
  | false ↦ entries_of m T rows
]

-- the entries that are kept are those from scratch
pub entries_kept : (m : Mapper) (T : Table) (G : FinMap key_cmp Given) (L : Track) → AreKept m T G L → filter_map entry_given (values G) ≡ scratch m T
entries_kept m T G L kept = ap (filter_map entry_given) (values_derived (given_of m T) T G kept.results) ∙ entries_of m T (values T)

failed_of : (m : Mapper) (T : Table) (rows : List Row) → count_by (λ (g : Given). has_failed g.mapped.outcome) (filter_map (given_of m T) rows) ≡ count_by (λ d. has_failed (m.meaning d T).outcome) (filter (is_mapped m) rows)
failed_of m T [] = refl
failed_of m T (d ∷ rows) = elim (is_mapped m d) as (λ b. count_by (λ (g : Given). has_failed g.mapped.outcome) (cons_option (cond b (Some (record { id = d.id; mapped = m.meaning d T })) None) (filter_map (given_of m T) rows)) ≡ count_by (λ x. has_failed (m.meaning x T).outcome) (cond b (d ∷ filter (is_mapped m) rows) (filter (is_mapped m) rows))) [
  | true ↦
      sum_by-cons (λ (g : Given). cond (has_failed g.mapped.outcome) 1 0) (record { id = d.id; mapped = m.meaning d T }) (filter_map (given_of m T) rows)
      ∙ ap (λ n. cond (has_failed (m.meaning d T).outcome) 1 0 + n) (failed_of m T rows)
      ∙ sym (sum_by-cons (λ x. cond (has_failed (m.meaning x T).outcome) 1 0) d (filter (is_mapped m) rows))
  | false ↦ failed_of m T rows
]

pub failures_kept : (m : Mapper) (T : Table) (G : FinMap key_cmp Given) (L : Track) → AreKept m T G L → count_by (λ (g : Given). has_failed g.mapped.outcome) (values G) ≡ failures m T
failures_kept m T G L kept = ap (count_by (λ (g : Given). has_failed g.mapped.outcome)) (values_derived (given_of m T) T G kept.results) ∙ failed_of m T (values T)

-- ONE ID AFTER ANOTHER IS MAPPED AGAIN

pub any_last : (q k : List ℕ) (ids : List (List ℕ)) → list_any (same_key q) (ids ++ k ∷ []) ≡ (list_any (same_key q) ids || same_key q k)
any_last q k [] = elim (same_key q k) as (λ b. (b || false) ≡ b) [ true ↦ refl | false ↦ refl ]
any_last q k (x ∷ ids) = ap (λ b. same_key q x || b) (any_last q k ids) ∙ elim (same_key q x) as (λ b. (b || (list_any (same_key q) ids || same_key q k)) ≡ ((b || list_any (same_key q) ids) || same_key q k)) [ true ↦ refl | false ↦ refl ]

one_more : {A : Type 0} (a b : Bool) (x y z : A) → (b ≡ true → y ≡ x) → cond b y (cond a x z) ≡ cond (a || b) x z
one_more true true x y z h = h refl
one_more true false x y z h = refl
one_more false true x y z h = h refl
one_more false false x y z h = refl

pub renewed_more : (m : Mapper) (T : Table) (ids : List (List ℕ)) (k : List ℕ) (G H N : FinMap key_cmp Given) → AreRenewed m T ids G H
    → ((q : List ℕ) → get N q ≡ cond (same_key q k) (given_at m T k) (get H q)) → AreRenewed m T (ids ++ k ∷ []) G N
renewed_more m T ids k G H N so_far next = λ q.
    next q ∙ ap (cond (same_key q k) (given_at m T k)) (so_far q)
    ∙ one_more (list_any (same_key q) ids) (same_key q k) (given_at m T q) (given_at m T k) (get G q) (λ e. ap (given_at m T) (sym (same_means q k e)))
    ∙ ap (λ b. cond b (given_at m T q) (get G q)) (sym (any_last q k ids))

pub paired_more : (m : Mapper) (T : Table) (ids : List (List ℕ)) (i : List ℕ) (L H N : Track) → ArePaired m T ids L H
    → ((x y : List ℕ) → is_pair x y N ≡ cond (is_id x i) (is_loaded (folded y) (given_at m T (folded i))) (is_pair x y H)) → ArePaired m T (ids ++ folded i ∷ []) L N
paired_more m T ids i L H N so_far next = λ x y.
    next x y ∙ ap (cond (is_id x i) (is_loaded (folded y) (given_at m T (folded i)))) (so_far x y)
    ∙ one_more (list_any (same_key (folded x)) ids) (same_key (folded x) (folded i)) (is_loaded (folded y) (given_at m T (folded x))) (is_loaded (folded y) (given_at m T (folded i))) (is_pair x y L)
    (λ e. ap (λ k. is_loaded (folded y) (given_at m T k)) (sym (same_means (folded x) (folded i) e)))
    ∙ ap (λ b. cond b (is_loaded (folded y) (given_at m T (folded x))) (is_pair x y L)) (sym (any_last (folded x) (folded i) ids))

-- ALL IS KEPT AGAIN

pub kept_again : (m : Mapper) (T N : Table) (G H : FinMap key_cmp Given) (L M : Track) (ids : List (List ℕ)) → AreKept m T G L → IsFiled N
    → ((q : List ℕ) → list_any (same_key q) ids ≡ false → given_at m N q ≡ given_at m T q) → AreRenewed m N ids G H → ArePaired m N ids L M → AreKept m N H M
kept_again m T N G H L M ids kept filed others renewed paired = record {
  filed = filed;
  results = at;
  pairs = λ x y. paired x y ∙ elim (list_any (same_key (folded x)) ids) as (λ b. list_any (same_key (folded x)) ids ≡ b → cond b (is_loaded (folded y) (given_at m N (folded x))) (is_pair x y L) ≡ is_loaded (folded y) (get H (folded x))) [
    | true ↦ λ e. ap (is_loaded (folded y)) (sym (at (folded x)))
    | false ↦ λ e. kept.pairs x y ∙ ap (is_loaded (folded y)) (kept.results (folded x) ∙ sym (others (folded x) e) ∙ sym (at (folded x)))
  ] refl;
}
  where
    at : (q : List ℕ) → get H q ≡ given_at m N q
    at q = renewed q ∙ elim (list_any (same_key q) ids) as (λ b. list_any (same_key q) ids ≡ b → cond b (given_at m N q) (get G q) ≡ given_at m N q) [
      | true ↦ λ e. refl
      | false ↦ λ e. kept.results q ∙ sym (others q e)
    ] refl
