-- Tombstones under their etags, and what the maps of a store show once one is taken out.
use Rattle.std.proofs.Common.{◌≡◌, ℕ, zero, suc, ◌<◌, ◌≤◌, ◌+◌, ◌-◌, List, [], ◌∷◌, ◌++◌, Bool, true, false, not, cond, ◌&&◌, ◌||◌, nat_le, Option, Some, None, filter, length, drop, get_or, append-nil, refl, sym, ap, ◌∙◌, subst, arith}
use Rattle.std.specs.List.{list_any, slice_get}
use Rattle.std.specs.Option.{option_and_then}
use Rattle.std.specs.declared.cmp.Ordering.TheVariants.{Less, Equal, Greater}
use Rattle.std.specs.Ordering.{nat_cmp, is_eq, is_le}
use Rattle.std.specs.Cmp.{ranked}
use Rattle.std.specs.Cmp.Lexicographic.{nat_list_eq_equiv}
use Rattle.std.specs.Map.{lookup, remove_entry}
use Rattle.std.specs.BTreeMap.{insert_entry, is_at}
use Rattle.std.proofs.lemmas.Bool.{le-leb, lt-leb}
use Rattle.std.proofs.lemmas.List.{drop_all, drop_more}
use Rattle.std.proofs.lemmas.List.Elements.{filter-append}
use Rattle.std.proofs.lemmas.Map.Text.{is_eq-slice_cmp}
use Rattle.std.proofs.lemmas.Slice.Eq.{bytes_eq-Decides}
use Rattle.paged_map.specs.Pairs.{IsRising}
use Rattle.paged_map.specs.Range.{between}
use Rattle.paged_map.proofs.Laws.{lookup-remove_entry}
use Rattle.paged_map.proofs.Rising.{rising_remove}
use Rattle.spec_data.specs.Folding.{folded, same_key}
use Rattle.spec_data.specs.Rows.{Row, is_document, key}
use Rattle.spec_store.specs.Cleaning.{is_old_tombstone, old_tombstones, without_tombstones}
use Rattle.spec_store.specs.Store.{AreApart, AreRising, TombstonesPast, last_of, put, row_at}
use Rattle.spec_store.proofs.CleanLemmas.{not_old, old_means}
use Rattle.spec_store.proofs.StoreLemmas.{AreApart-filter, AreRising-filter, found_etag, found_key, found_passing, last_of-filter, only_if, passing_found, row_at-filter, same_itself, same_means, same_row}
use Rattle.doc_store.specs.Bounds.{AreCleaned, AreRows}
use Rattle.doc_store.specs.Maps.{AreFiled, Shows, by_etag, etag_in, id_cmp, is_of, rows_in, rows_of, tombstone_in, tombstones, with_tombstone, without_etag, without_key}
use Rattle.doc_store.proofs.CountLemmas.{no_longer}
use Rattle.doc_store.proofs.FilterLemmas.{filter-both, filter-swap}
use Rattle.doc_store.proofs.MapLemmas.{id_total, none_out, put-beside, same_out, without-beside}

abbrev is_tombstone : Row → Bool
is_tombstone r = not (is_document r)

abbrev other : List ℕ → Row → Bool
other k x = not (same_key k (key x))

pub AreRows-filter : (p : Row → Bool) (rows : List Row) → AreRows rows → AreRows (filter p rows)
AreRows-filter p rows s = record { rising = AreRising-filter 0 p rows s.rising; apart = AreApart-filter p rows s.apart }

-- the row of an id is not among those of which it is none
passed_over : (p : Row → Bool) (rows : List Row) (r : Row) → AreApart rows → row_at (key r) rows ≡ Some r → p r ≡ false → row_at (key r) (filter p rows) ≡ None
passed_over p rows r apart here fails = row_at-filter p (key r) rows apart ∙ ap (option_and_then (only_if p)) here ∙ ap (λ b. cond b (Some r) None) fails

-- A ROW IS PUT

tombstone_at : (k : List ℕ) (rows : List Row) → AreApart rows → tombstone_in (row_at k rows) ≡ row_at k (tombstones rows)
tombstone_at k rows apart = either (row_at k rows) ∙ sym (row_at-filter is_tombstone k rows apart)
  where
    either : (o : Option Row) → tombstone_in o ≡ option_and_then (only_if is_tombstone) o
    either None = refl
    either (Some r) = elim (is_document r) as (λ b. cond b None (Some r) ≡ cond (not b) (Some r) None) [ true ↦ refl | false ↦ refl ]

tombstones-put : (r : Row) (rows : List Row) → tombstones (put r rows) ≡ without_key (key r) (tombstones rows) ++ cond (is_document r) [] (r ∷ [])
tombstones-put r rows =
    filter-append is_tombstone (without_key (key r) rows) (r ∷ [])
    ∙ ap (λ xs. xs ++ filter is_tombstone (r ∷ [])) (filter-swap is_tombstone (other (key r)) rows)
    ∙ ap (λ xs. without_key (key r) (tombstones rows) ++ xs) (elim (is_document r) as (λ b. cond (not b) (r ∷ []) [] ≡ cond b [] (r ∷ [])) [ true ↦ refl | false ↦ refl ])

pub tombstones_with : (rows : List Row) (r : Row) (replaced : Option Row) (pairs changed : List (ℕ × Row)) → AreRows rows → last_of 0 rows < r.etag → replaced ≡ row_at (key r) rows → pairs ≡ by_etag (tombstones rows)
    → changed ≡ with_tombstone r (without_etag (etag_in (tombstone_in replaced)) pairs) → changed ≡ by_etag (tombstones (put r rows))
tombstones_with rows r replaced pairs changed s newer is shown made =
    made
    ∙ ap (λ es. with_tombstone r (without_etag (etag_in (tombstone_in replaced)) es)) shown
    ∙ ap (λ o. with_tombstone r (without_etag (etag_in o) (by_etag all))) (ap tombstone_in is ∙ tombstone_at (key r) rows s.apart)
    ∙ ap (with_tombstone r) (without-beside (key r) all (AreRows-filter is_tombstone rows s))
    ∙ elim (is_document r) as (λ b. cond b (by_etag (without_key (key r) all)) (insert_entry nat_cmp (by_etag (without_key (key r) all)) r.etag r) ≡ by_etag (without_key (key r) all ++ cond b [] (r ∷ []))) [
      | true ↦ ap by_etag (sym (append-nil (without_key (key r) all)))
      | false ↦ put-beside r all (AreRising-filter 0 is_tombstone rows s.rising) (let a = last_of-filter 0 0 is_tombstone rows s.rising (omega arith) in omega arith)
    ]
    ∙ ap by_etag (sym (tombstones-put r rows))
  where
    all : List Row
    all = tombstones rows

-- A TOMBSTONE IS TAKEN OUT

row_at-without : (q k : List ℕ) (rows : List Row) → AreApart rows → row_at q (without_key k rows) ≡ cond (same_key q k) None (row_at q rows)
row_at-without q k rows apart =
    row_at-filter (other k) q rows apart
    ∙ elim (row_at q rows) as (λ o. row_at q rows ≡ o → option_and_then (only_if (other k)) o ≡ cond (same_key q k) None o) [
      | None ↦ λ e. none (same_key q k)
      | Some x ↦ λ e. ap (λ b. cond (not b) (Some x) None) (ap (same_key k) (sym (found_key q rows x e)) ∙ nat_list_eq_equiv.symm k q) ∙ some (same_key q k) x
    ] refl
  where
    none : (b : Bool) → let n : Option Row = None in n ≡ cond b n n
    none true = refl
    none false = refl

    some : (b : Bool) (x : Row) → cond (not b) (Some x) None ≡ cond b None (Some x)
    some true x = refl
    some false x = refl

ids-without : (ids : List (List ℕ × Row)) (r : Row) (rows : List Row) → IsRising id_cmp ids → AreApart rows → ((q : List ℕ) → lookup (is_at (id_cmp q)) ids ≡ row_at (folded q) rows)
    → (q : List ℕ) → lookup (is_at (id_cmp q)) (remove_entry (is_at (id_cmp r.id)) ids) ≡ row_at (folded q) (without_key (key r) rows)
ids-without ids r rows up apart h q =
    lookup-remove_entry id_cmp id_total q r.id ids up
    ∙ ap (λ b. cond b None (lookup (is_at (id_cmp q)) ids)) (is_eq-slice_cmp (folded q) (folded r.id))
    ∙ ap (cond (same_key (folded q) (key r)) None) (h q)
    ∙ sym (row_at-without (folded q) (key r) rows apart)

AreFiled-without : (id : List ℕ) (ids : List (List ℕ × Row)) → AreFiled ids → AreFiled (remove_entry (is_at (id_cmp id)) ids)
AreFiled-without id [] h = tt
AreFiled-without id (e ∷ ids) h = elim (is_eq (id_cmp id e.0)) as (λ b. AreFiled (cond b ids (e ∷ remove_entry (is_at (id_cmp id)) ids))) [ true ↦ h.1 | false ↦ (h.0, AreFiled-without id ids h.1) ]

collections-without : (collections left : List (List ℕ × List Row)) (r : Row) (rows : List Row) → AreApart rows → row_at (key r) rows ≡ Some r
    → ((c : List ℕ) → rows_of collections c ≡ filter (is_of c) rows) → ((c : List ℕ) → rows_of left c ≡ cond (is_of c r) (without_key (key r) (rows_of collections c)) (rows_of collections c))
    → (c : List ℕ) → rows_of left c ≡ filter (is_of c) (without_key (key r) rows)
collections-without collections left r rows apart here h is c =
    is c
    ∙ ap (λ xs. cond (is_of c r) (without_key (key r) xs) xs) (h c)
    ∙ elim (is_of c r) as (λ b. is_of c r ≡ b → cond b (without_key (key r) own) own ≡ without_key (key r) own) [
      | true ↦ λ e. refl
      | false ↦ λ e. sym (none_out (key r) own (passed_over (is_of c) rows r apart here e))
    ] refl
    ∙ filter-swap (other (key r)) (is_of c) rows
  where
    own : List Row
    own = filter (is_of c) rows

further : (n a : ℕ) (rows : List Row) → n < last_of n rows → last_of a rows ≡ last_of n rows
further n a [] h = absurd (omega arith)
further n a (r ∷ rows) h = refl

-- the last row stays, if another goes
pub last_out : (a low : ℕ) (k : List ℕ) (rows : List Row) (r : Row) → AreApart rows → row_at k rows ≡ Some r → r.etag < last_of low rows → last_of a (without_key k rows) ≡ last_of low rows
last_out a low k [] r apart here before = absurd cc
last_out a low k (x ∷ rows) r apart here before =
    elim (same_key k (key x)) as (λ b. same_key k (key x) ≡ b → cond b (Some x) (row_at k rows) ≡ Some r → last_of a (cond (not b) (x ∷ without_key k rows) (without_key k rows)) ≡ last_of x.etag rows) [
      | true ↦ λ e is.
          ap (last_of a) (none_out k rows (subst (λ q. row_at q rows ≡ None) (sym (same_means k (key x) e)) apart.0))
          ∙ further x.etag a rows (subst (λ (y : Row). y.etag < last_of x.etag rows) (sym (same_row x r is)) before)
      | false ↦ λ e is. last_out x.etag x.etag k rows r apart.1 is before
    ] refl here

-- the row is among those of its collection
pub here_among : (collections : List (List ℕ × List Row)) (rows : List Row) (r : Row) → AreApart rows → row_at (key r) rows ≡ Some r → rows_of collections r.collection ≡ filter (is_of r.collection) rows
    → row_at (key r) (rows_of collections r.collection) ≡ Some r
here_among collections rows r apart here are = ap (row_at (key r)) are ∙ passing_found (is_of r.collection) (key r) rows r apart here ((bytes_eq-Decides r.collection r.collection).1 refl)

-- what the maps of a store show without a row that is not the last
pub shrunk : (ids : List (List ℕ × Row)) (collections : List (List ℕ × List Row)) (last : ℕ) (rows : List Row) (r : Row) (ids2 : List (List ℕ × Row)) (collections2 : List (List ℕ × List Row))
    → Shows ids collections last rows → row_at (key r) rows ≡ Some r → r.etag < last_of 0 rows → ids2 ≡ remove_entry (is_at (id_cmp r.id)) ids
    → ((c : List ℕ) → rows_of collections2 c ≡ cond (is_of c r) (without_key (key r) (rows_of collections c)) (rows_of collections c))
    → Shows ids2 collections2 last (without_key (key r) rows)
shrunk ids collections last rows r ids2 collections2 s here before a b = record {
  kept = record {
    store = AreRows-filter (other (key r)) rows s.kept.store;
    within = record {
      etags = let e = s.kept.within.etags in let same = stays in omega arith;
      rows = let n = no_longer (other (key r)) rows in let few = s.kept.within.rows in omega arith;
    };
  };
  rising = subst (IsRising id_cmp) (sym a) (rising_remove id_cmp r.id ids s.rising);
  filed = subst AreFiled (sym a) (AreFiled-without r.id ids s.filed);
  by_ids = λ q. ap (lookup (is_at (id_cmp q))) a ∙ ids-without ids r rows s.rising s.kept.store.apart s.by_ids q;
  by_collections = collections-without collections collections2 r rows s.kept.store.apart here s.by_collections b;
  last_is = s.last_is ∙ sym stays;
}
  where
    stays : last_of 0 (without_key (key r) rows) ≡ last_of 0 rows
    stays = last_out 0 0 (key r) rows r s.kept.store.apart here before

-- the pairs of rows without one of them
pub pairs-without : (rows : List Row) (r : Row) (pairs left : List (ℕ × Row)) → AreRows rows → row_at (key r) rows ≡ Some r → pairs ≡ by_etag rows → left ≡ remove_entry (is_at (nat_cmp r.etag)) pairs
    → left ≡ by_etag (without_key (key r) rows)
pairs-without rows r pairs left s here are is = is ∙ ap (remove_entry (is_at (nat_cmp r.etag))) are ∙ same_out 0 (key r) rows r s.rising s.apart here

pub tombstones-without : (rows : List Row) (r : Row) (pairs left : List (ℕ × Row)) → AreRows rows → row_at (key r) rows ≡ Some r → is_document r ≡ false → pairs ≡ by_etag (tombstones rows)
    → left ≡ remove_entry (is_at (nat_cmp r.etag)) pairs → left ≡ by_etag (tombstones (without_key (key r) rows))
tombstones-without rows r pairs left s here none are is =
    pairs-without (tombstones rows) r pairs left (AreRows-filter is_tombstone rows s) (passing_found is_tombstone (key r) rows r s.apart here (ap not none)) are is
    ∙ ap by_etag (filter-swap (other (key r)) is_tombstone rows)

-- no document goes with a tombstone
pub documents-without : (rows : List Row) (r : Row) → AreApart rows → row_at (key r) rows ≡ Some r → is_document r ≡ false → filter is_document rows ≡ filter is_document (without_key (key r) rows)
documents-without rows r apart here none =
    sym (none_out (key r) (filter is_document rows) (passed_over is_document rows r apart here none)) ∙ filter-swap (other (key r)) is_document rows

TombstonesPast-filter : (e : ℕ) (p : Row → Bool) (rows : List Row) → TombstonesPast e rows → TombstonesPast e (filter p rows)
TombstonesPast-filter e p [] h = tt
TombstonesPast-filter e p (r ∷ rows) h =
    elim (p r) as (λ b. TombstonesPast e (cond b (r ∷ filter p rows) (filter p rows))) [ true ↦ (h.0, TombstonesPast-filter e p rows h.1) | false ↦ TombstonesPast-filter e p rows h.1 ]

pub cleaned-without : (cleaned : ℕ) (rows : List Row) (r : Row) → AreCleaned cleaned rows → AreApart rows → row_at (key r) rows ≡ Some r → r.etag < last_of 0 rows → AreCleaned cleaned (without_key (key r) rows)
cleaned-without cleaned rows r c apart here before = record {
  behind = let e = last_out 0 0 (key r) rows r apart here before in let b = c.behind in omega arith;
  past = TombstonesPast-filter cleaned (other (key r)) rows c.past;
}

-- THE LAST OF SOME PAIRS

pub last_at : (pairs : List (ℕ × Row)) (low n : ℕ) (e : ℕ × Row) → n ≡ length pairs - 1 → slice_get pairs n ≡ Some e → e.1.etag ≡ last_of low (rows_in pairs)
last_at [] low n e is h = absurd cc
last_at (d ∷ []) low zero e is h = let same : d ≡ e = cc in ap (λ (x : ℕ × Row). x.1.etag) (sym same)
last_at (d ∷ []) low (suc n) e is h = absurd (omega arith)
last_at (d ∷ f ∷ pairs) low zero e is h = absurd (omega arith)
last_at (d ∷ f ∷ pairs) low (suc n) e is h = last_at (f ∷ pairs) d.1.etag n e (omega arith) h

pub none_at : (pairs : List (ℕ × Row)) (n : ℕ) → n ≡ length pairs - 1 → slice_get pairs n ≡ None → 0 ≡ last_of 0 (rows_in pairs)
none_at [] n is h = refl
none_at (d ∷ []) zero is h = absurd cc
none_at (d ∷ []) (suc n) is h = absurd (omega arith)
none_at (d ∷ f ∷ pairs) zero is h = absurd cc
none_at (d ∷ f ∷ pairs) (suc n) is h = absurd (let a = there (f ∷ pairs) n (omega arith) in let b : a.0 ≡ a.0 = refl in let c = a.1 in cc)
  where
    there : (es : List (ℕ × Row)) (m : ℕ) → m < length es → (e : ℕ × Row) × (slice_get es m ≡ Some e)
    there [] m lt = absurd (omega arith)
    there (x ∷ es) zero lt = (x, refl)
    there (x ∷ es) (suc m) lt = there es m (omega arith)

-- OLD TOMBSTONES

is_le-nat_cmp : (x y : ℕ) → is_le (nat_cmp x y) ≡ nat_le x y
is_le-nat_cmp x y =
    elim (nat_cmp x y) as (λ r. r ≡ nat_cmp x y → is_le r ≡ nat_le x y) [
      | Less ↦ λ e. sym (le-leb x y (let h : x < y = ranked x y Less e in omega arith))
      | Equal ↦ λ e. sym (le-leb x y (let h : x ≡ y = ranked x y Equal e in omega arith))
      | Greater ↦ λ e. sym (lt-leb x y (ranked x y Greater e))
    ] refl

up_to_bound : (upto : ℕ) (rows : List Row) → rows_in (between nat_cmp 0 upto (by_etag rows)) ≡ filter (λ r. nat_le r.etag upto) rows
up_to_bound upto [] = refl
up_to_bound upto (r ∷ rows) =
    ap (λ b. rows_in (cond b ((r.etag, r) ∷ between nat_cmp 0 upto (by_etag rows)) (between nat_cmp 0 upto (by_etag rows)))) (ap (λ b. b && is_le (nat_cmp r.etag upto)) (is_le-nat_cmp 0 r.etag ∙ le-leb 0 r.etag (omega arith)) ∙ is_le-nat_cmp r.etag upto)
    ∙ elim (nat_le r.etag upto) as (λ b. rows_in (cond b ((r.etag, r) ∷ between nat_cmp 0 upto (by_etag rows)) (between nat_cmp 0 upto (by_etag rows))) ≡ cond b (r ∷ filter (λ x. nat_le x.etag upto) rows) (filter (λ x. nat_le x.etag upto) rows)) [
      | true ↦ ap (λ xs. r ∷ xs) (up_to_bound upto rows)
      | false ↦ up_to_bound upto rows
    ]

-- the pairs up to an etag are the old tombstones
pub old_are : (pairs : List (ℕ × Row)) (rows : List Row) (upto : ℕ) → pairs ≡ by_etag (tombstones rows) → rows_in (between nat_cmp 0 upto pairs) ≡ old_tombstones upto rows
old_are pairs rows upto is = ap (λ es. rows_in (between nat_cmp 0 upto es)) is ∙ up_to_bound upto (tombstones rows) ∙ filter-both is_tombstone (λ r. nat_le r.etag upto) rows

any_old : (upto : ℕ) (rows : List Row) → list_any (λ r. nat_le r.etag upto) (tombstones rows) ≡ list_any (is_old_tombstone upto) rows
any_old upto [] = refl
any_old upto (r ∷ rows) =
    elim (is_document r) as (λ b. list_any (λ x. nat_le x.etag upto) (cond (not b) (r ∷ tombstones rows) (tombstones rows)) ≡ (not b && nat_le r.etag upto) || list_any (is_old_tombstone upto) rows) [
      | true ↦ any_old upto rows
      | false ↦ ap (λ b. nat_le r.etag upto || b) (any_old upto rows)
    ]

none_old : (upto low : ℕ) (rows : List Row) → AreRising low rows → upto ≤ low → list_any (λ r. nat_le r.etag upto) rows ≡ false
none_old upto low [] up h = refl
none_old upto low (r ∷ rows) up h =
    ap (λ b. b || list_any (λ x. nat_le x.etag upto) rows) (lt-leb r.etag upto (let a = up.0 in omega arith)) ∙ none_old upto r.etag rows up.1 (let a = up.0 in omega arith)

-- the first of rows tells whether one is old
first_old : (upto : ℕ) (r : Row) (rows : List Row) → AreRising r.etag rows → nat_le r.etag upto ≡ list_any (λ x. nat_le x.etag upto) (r ∷ rows)
first_old upto r rows up =
    elim (nat_le r.etag upto) as (λ b. nat_le r.etag upto ≡ b → b ≡ b || list_any (λ x. nat_le x.etag upto) rows) [
      | true ↦ λ e. refl
      | false ↦ λ e. sym (none_old upto r.etag rows up (far e))
    ] refl
  where
    far : nat_le r.etag upto ≡ false → upto ≤ r.etag
    far e = elim (nat_cmp r.etag upto) as (λ o. o ≡ nat_cmp r.etag upto → upto ≤ r.etag) [
      | Less ↦ λ h. absurd (let a : r.etag < upto = ranked r.etag upto Less h in let b = le-leb r.etag upto (omega arith) in cc)
      | Equal ↦ λ h. let a : r.etag ≡ upto = ranked r.etag upto Equal h in omega arith
      | Greater ↦ λ h. let a : upto < r.etag = ranked r.etag upto Greater h in omega arith
    ] refl

pub first_tells : (pairs : List (ℕ × Row)) (rows : List Row) (upto : ℕ) (e : ℕ × Row) → AreRising 0 rows → pairs ≡ by_etag (tombstones rows) → slice_get pairs 0 ≡ Some e → nat_le e.0 upto ≡ list_any (is_old_tombstone upto) rows
first_tells pairs rows upto e up is h = of (tombstones rows) (AreRising-filter 0 is_tombstone rows up) (ap (λ es. slice_get es 0) (sym is) ∙ h) ∙ any_old upto rows
  where
    of : (all : List Row) → AreRising 0 all → slice_get (by_etag all) 0 ≡ Some e → nat_le e.0 upto ≡ list_any (λ r. nat_le r.etag upto) all
    of [] up h = absurd cc
    of (r ∷ all) up h = let same : (r.etag, r) ≡ e = cc in ap (λ (x : ℕ × Row). nat_le x.0 upto) (sym same) ∙ first_old upto r all up.1

pub none_tells : (pairs : List (ℕ × Row)) (rows : List Row) (upto : ℕ) → pairs ≡ by_etag (tombstones rows) → slice_get pairs 0 ≡ None → false ≡ list_any (is_old_tombstone upto) rows
none_tells pairs rows upto is h = of (tombstones rows) (ap (λ es. slice_get es 0) (sym is) ∙ h) ∙ any_old upto rows
  where
    of : (all : List Row) → slice_get (by_etag all) 0 ≡ None → false ≡ list_any (λ r. nat_le r.etag upto) all
    of [] h = refl
    of (r ∷ all) h = absurd cc

-- ONE AFTER ANOTHER

-- the first of the old tombstones that are left
pub record IsFirstOld (upto : ℕ) (rows : List Row) (r : Row) : Type 0 where
  pub here : row_at (key r) rows ≡ Some r
  pub old : is_old_tombstone upto r ≡ true

pub first_is : (upto : ℕ) (rows gone : List Row) (i : ℕ) (r : Row) → AreRows rows → i < length gone → get_or gone i r ≡ r → old_tombstones upto rows ≡ drop i gone → IsFirstOld upto rows r
first_is upto rows gone i r s lt is left =
    let found : row_at (key r) (old_tombstones upto rows) ≡ Some r =
    ap (row_at (key r)) (left ∙ drop_more gone i r lt ∙ ap (λ x. x ∷ drop (i + 1) gone) is) ∙ ap (λ b. cond b (Some r) (row_at (key r) (drop (i + 1) gone))) (same_itself (key r)) in
    let f = found_passing (is_old_tombstone upto) (key r) rows r s.apart found in
    record { here = f.0; old = f.1 }

-- a cleaning takes no row with the greatest etag
pub before_last : (upto : ℕ) (rows : List Row) (r : Row) → AreRising 0 rows → IsFirstOld upto rows r → upto ≤ last_of 0 rows - 1 → r.etag < last_of 0 rows
before_last upto rows r up f below =
    let e = found_etag 0 (key r) rows r up f.here in let o = (old_means upto r f.old).1 in let a = e.0 in let b = e.1 in omega arith

pub old_on : (upto : ℕ) (rows gone : List Row) (i : ℕ) (r : Row) → AreRows rows → i < length gone → get_or gone i r ≡ r → old_tombstones upto rows ≡ drop i gone
    → old_tombstones upto (without_key (key r) rows) ≡ drop (i + 1) gone
old_on upto rows gone i r s lt is left =
    let rest : old_tombstones upto rows ≡ r ∷ drop (i + 1) gone = left ∙ drop_more gone i r lt ∙ ap (λ x. x ∷ drop (i + 1) gone) is in
    let apart : AreApart (r ∷ drop (i + 1) gone) = subst AreApart rest (AreApart-filter (is_old_tombstone upto) rows s.apart) in
    filter-swap (is_old_tombstone upto) (other (key r)) rows
    ∙ ap (without_key (key r)) rest
    ∙ ap (λ b. cond (not b) (r ∷ without_key (key r) (drop (i + 1) gone)) (without_key (key r) (drop (i + 1) gone))) (same_itself (key r))
    ∙ none_out (key r) (drop (i + 1) gone) apart.0

pub left_on : (upto : ℕ) (rows : List Row) (r : Row) → AreApart rows → IsFirstOld upto rows r → without_tombstones upto (without_key (key r) rows) ≡ without_tombstones upto rows
left_on upto rows r apart f =
    filter-swap (λ x. not (is_old_tombstone upto x)) (other (key r)) rows
    ∙ none_out (key r) (without_tombstones upto rows) (passed_over (λ x. not (is_old_tombstone upto x)) rows r apart f.here (ap not f.old))

none_left : (p : Row → Bool) (rows : List Row) → filter p rows ≡ [] → filter (λ r. not (p r)) rows ≡ rows
none_left p [] h = refl
none_left p (r ∷ rows) h =
    elim (p r) as (λ b. cond b (r ∷ filter p rows) (filter p rows) ≡ [] → cond (not b) (r ∷ filter (λ x. not (p x)) rows) (filter (λ x. not (p x)) rows) ≡ r ∷ rows) [
      | true ↦ λ e. absurd cc
      | false ↦ λ e. ap (λ xs. r ∷ xs) (none_left p rows e)
    ] h

-- once all old tombstones are out, the others are left
pub all_out : (upto : ℕ) (rows gone : List Row) (i : ℕ) → length gone ≤ i → old_tombstones upto rows ≡ drop i gone → without_tombstones upto rows ≡ rows
all_out upto rows gone i le left = none_left (is_old_tombstone upto) rows (left ∙ drop_all i gone le)

all_past : (upto : ℕ) (rows : List Row) → TombstonesPast upto (without_tombstones upto rows)
all_past upto [] = tt
all_past upto (r ∷ rows) =
    elim (is_old_tombstone upto r) as (λ b. is_old_tombstone upto r ≡ b → TombstonesPast upto (cond (not b) (r ∷ without_tombstones upto rows) (without_tombstones upto rows))) [
      | true ↦ λ e. all_past upto rows
      | false ↦ λ e. (not_old upto r e, all_past upto rows)
    ] refl

pub all_cleaned : (upto : ℕ) (rows : List Row) → without_tombstones upto rows ≡ rows → upto ≤ last_of 0 rows - 1 → AreCleaned upto rows
all_cleaned upto rows is below = record { behind = below; past = subst (TombstonesPast upto) is (all_past upto rows) }
