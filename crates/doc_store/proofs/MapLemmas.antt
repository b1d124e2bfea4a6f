-- What the maps of a store show after a change.
use Rattle.std.proofs.Common.{◌≡◌, ℕ, ◌<◌, ◌≤◌, ◌+◌, List, [], ◌∷◌, ◌++◌, Bool, true, false, not, cond, Option, Some, None, filter, length, take, get_or, option_map, unwrap_or, append-nil, refl, sym, ap, ◌∙◌, subst, arith}
use Rattle.std.specs.declared.cmp.Ordering.TheVariants.{Less, Equal, Greater}
use Rattle.std.specs.Str.{bytes_eq}
use Rattle.std.specs.Ordering.{nat_cmp, is_eq, match_ordering}
use Rattle.std.specs.Cmp.{IsTotalOrder, nat_cmp_is, nat_cmp_total, on_total}
use Rattle.std.specs.Cmp.Lexicographic.{nat_list_cmp_total, nat_list_eq_equiv}
use Rattle.std.specs.Map.{lookup, remove_entry}
use Rattle.std.specs.BTreeMap.{is_at, insert_entry}
use Rattle.std.proofs.lemmas.List.{map-append, take_more}
use Rattle.std.proofs.lemmas.List.Elements.{filter-append}
use Rattle.std.proofs.lemmas.Map.Text.{is_eq-slice_cmp}
use Rattle.std.proofs.lemmas.Slice.Eq.{bytes_eq-Decides}
use Rattle.spec_data.specs.Folding.{folded, key_cmp, same_key}
use Rattle.spec_data.specs.Rows.{Row, is_document, key}
use Rattle.spec_store.specs.Store.{row_at, put, last_of, AreRising, AreApart, Store, IsStore, with_row}
use Rattle.spec_store.proofs.StoreLemmas.{row_at-put, found_etag, found_passing, passing_found, none_still, same_means, same_row, last_of-put, AreRising-put, AreApart-put, AreRising-filter, last_of-append, last_of-filter}
use Rattle.spec_store.proofs.KeyedLemmas.{key_ties}
use Rattle.paged_map.specs.Pairs.{AllAnswer, IsRising}
use Rattle.paged_map.proofs.Laws.{lookup-insert_entry, lookup-remove_entry, insert_last}
use Rattle.paged_map.proofs.Rising.{rising_insert}
use Rattle.doc_store.specs.Maps.{AreFrom, id_cmp, AreFiled, rows_in, by_etag, without_etag, etag_in, is_of, rows_of, ShowsByEtag, Shows, ShowsStore, tombstones}
use Rattle.doc_store.specs.Steps.{MayStand}
use Rattle.doc_store.specs.Bounds.{AreCleaned, AreRows, AreWithin, IsWithin}
use Rattle.doc_store.proofs.FilterLemmas.{filter-swap}

-- NUMBERS

pub less : (m n : ℕ) → m < n → nat_cmp m n ≡ Less
less m n h = sym (nat_cmp_is m n Less h)

pub equal : (m n : ℕ) → m ≡ n → nat_cmp m n ≡ Equal
equal m n h = sym (nat_cmp_is m n Equal h)

pub greater : (m n : ℕ) → n < m → nat_cmp m n ≡ Greater
greater m n h = sym (nat_cmp_is m n Greater h)

-- BY ETAG

pub rows_in-by_etag : (rows : List Row) → rows_in (by_etag rows) ≡ rows
rows_in-by_etag [] = refl
rows_in-by_etag (r ∷ rows) = ap (λ rs. r ∷ rs) (rows_in-by_etag rows)

abbrev other : List ℕ → Row → Bool
other k x = not (same_key k (key x))

-- an id without a row takes nothing out
pub none_out : (k : List ℕ) (rows : List Row) → row_at k rows ≡ None → filter (λ x. not (same_key k (key x))) rows ≡ rows
none_out k [] h = refl
none_out k (x ∷ rows) h =
    elim (same_key k (key x)) as (λ b. cond b (Some x) (row_at k rows) ≡ None → cond (not b) (x ∷ filter (other k) rows) (filter (other k) rows) ≡ x ∷ rows) [
      | true ↦ λ e. absurd cc
      | false ↦ λ e. ap (λ rs. x ∷ rs) (none_out k rows e)
    ] h

-- to take out the row of an id is to take out its etag
pub same_out : (low : ℕ) (k : List ℕ) (rows : List Row) (old : Row) → AreRising low rows → AreApart rows → row_at k rows ≡ Some old
    → remove_entry (is_at (nat_cmp old.etag)) (by_etag rows) ≡ by_etag (filter (λ x. not (same_key k (key x))) rows)
same_out low k [] old up apart h = absurd cc
same_out low k (x ∷ rows) old up apart h =
    elim (same_key k (key x)) as (λ b. same_key k (key x) ≡ b → cond b (Some x) (row_at k rows) ≡ Some old → cond (is_eq (nat_cmp old.etag x.etag)) (by_etag rows) ((x.etag, x) ∷ remove_entry (is_at (nat_cmp old.etag)) (by_etag rows)) ≡ by_etag (cond (not b) (x ∷ filter (other k) rows) (filter (other k) rows))) [
      | true ↦ λ e is.
          let tie : nat_cmp old.etag x.etag ≡ Equal = equal old.etag x.etag (ap (λ (y : Row). y.etag) (sym (same_row x old is))) in
          ap (λ r. cond (is_eq r) (by_etag rows) ((x.etag, x) ∷ remove_entry (is_at (nat_cmp old.etag)) (by_etag rows))) tie
          ∙ ap by_etag (sym (none_out k rows (subst (λ q. row_at q rows ≡ None) (sym (same_means k (key x) e)) apart.0)))
      | false ↦ λ e is.
          let past : nat_cmp old.etag x.etag ≡ Greater = greater old.etag x.etag (found_etag x.etag k rows old up.1 is).0 in
          ap (λ r. cond (is_eq r) (by_etag rows) ((x.etag, x) ∷ remove_entry (is_at (nat_cmp old.etag)) (by_etag rows))) past
          ∙ ap (λ es. (x.etag, x) ∷ es) (same_out x.etag k rows old up.1 apart.1 is)
    ] refl h

all_below : (e low : ℕ) (rows : List Row) → AreRising low rows → last_of low rows < e → AllAnswer nat_cmp e Greater (by_etag rows)
all_below e low [] up h = tt
all_below e low (x ∷ rows) up h = (greater e x.etag (before x.etag rows up.1 h), all_below e x.etag rows up.1 h)
  where
    before : (n : ℕ) (xs : List Row) → AreRising n xs → last_of n xs < e → n < e
    before n [] u g = g
    before n (y ∷ ys) u g = let a = u.0 in let b = before y.etag ys u.1 g in omega arith

-- a row past all others goes to the end
pub appended : (r : Row) (rows : List Row) → AreRising 0 rows → last_of 0 rows < r.etag → insert_entry nat_cmp (by_etag rows) r.etag r ≡ by_etag (rows ++ r ∷ [])
appended r rows up h = insert_last nat_cmp nat_cmp_total r.etag r (by_etag rows) (all_below r.etag 0 rows up h) ∙ sym (map-append (λ x. (x.etag, x)) rows (r ∷ []))

-- the rows beside that of an id rise, and go no further
below : (k : List ℕ) (rows : List Row) (e : ℕ) → AreRising 0 rows → last_of 0 rows < e → last_of 0 (filter (other k) rows) < e
below k rows e up h = let a = last_of-filter 0 0 (other k) rows up (omega arith) in omega arith

-- a row that is put past those beside its id is put into all
pub put-beside : (r : Row) (rows : List Row) → AreRising 0 rows → last_of 0 rows < r.etag
    → insert_entry nat_cmp (by_etag (filter (λ x. not (same_key (key r) (key x))) rows)) r.etag r ≡ by_etag (put r rows)
put-beside r rows up h = appended r (filter (other (key r)) rows) (AreRising-filter 0 (other (key r)) rows up) (below (key r) rows r.etag up h)

-- the pairs without the etag of an id's row are the rows beside that of the id
pub without-beside : (k : List ℕ) (rows : List Row) → AreRows rows → without_etag (etag_in (row_at k rows)) (by_etag rows) ≡ by_etag (filter (λ x. not (same_key k (key x))) rows)
without-beside k rows s =
    elim (row_at k rows) as (λ o. row_at k rows ≡ o → without_etag (option_map (λ (x : Row). x.etag) o) (by_etag rows) ≡ by_etag (filter (λ x. not (same_key k (key x))) rows)) [
      | None ↦ λ none. ap by_etag (sym (none_out k rows none))
      | Some old ↦ λ is. same_out 0 k rows old s.rising s.apart is
    ] refl

pub put_is : (rows : List Row) (r : Row) (pairs : List (ℕ × Row)) → AreRows rows → last_of 0 rows < r.etag
    → pairs ≡ insert_entry nat_cmp (without_etag (etag_in (row_at (key r) rows)) (by_etag rows)) r.etag r → pairs ≡ by_etag (put r rows)
put_is rows r pairs s newer is = is ∙ ap (λ es. insert_entry nat_cmp es r.etag r) (without-beside (key r) rows s) ∙ put-beside r rows s.rising newer

pub AreRows-put : (rows : List Row) (r : Row) → AreRows rows → last_of 0 rows < r.etag → AreRows (put r rows)
AreRows-put rows r s newer = record { rising = AreRising-put 0 r rows s.rising newer; apart = AreApart-put r rows s.apart }

pub shown_by_etag : (pairs : List (ℕ × Row)) (last documents : ℕ) (least : Option (List ℕ)) (rows : List Row) → rows_in pairs ≡ rows → ShowsByEtag pairs last documents least (rows_in pairs)
    → ShowsByEtag pairs last documents least rows
shown_by_etag pairs last documents least rows is s = subst (ShowsByEtag pairs last documents least) is s

pub put_shown : (rows : List Row) (r : Row) (pairs : List (ℕ × Row)) (last documents : ℕ) (least : Option (List ℕ)) → AreRows rows → last_of 0 rows < r.etag → pairs ≡ by_etag (put r rows) → last ≡ r.etag
    → documents ≡ length (filter is_document (put r rows)) → AreFrom least (put r rows) → ShowsByEtag pairs last documents least (rows_in pairs)
put_shown rows r pairs last documents least s newer is e d f = subst (ShowsByEtag pairs last documents least) (sym (ap rows_in is ∙ rows_in-by_etag (put r rows))) (record {
  store = AreRows-put rows r s newer;
  pairs = is;
  last_is = e ∙ sym (last_of-put 0 r rows);
  documents_are = d;
  from = f;
})

-- all rows at once

pub pairs_on : (rows : List Row) (i : ℕ) (r taken : Row) (etag : ℕ) (pairs more : List (ℕ × Row)) → i < length rows → get_or rows i r ≡ r → taken ≡ r → etag ≡ r.etag → pairs ≡ by_etag (take i rows) → more ≡ pairs ++ (etag, taken) ∷ []
    → more ≡ by_etag (take (i + 1) rows)
pairs_on rows i r taken etag pairs more lt is same e was made =
    made ∙ ap (λ es. es ++ (etag, taken) ∷ []) was ∙ ap (λ n. by_etag (take i rows) ++ (n, taken) ∷ []) e ∙ ap (λ (x : Row). by_etag (take i rows) ++ (r.etag, x) ∷ []) same
    ∙ sym (ap by_etag (take_more rows i r lt ∙ ap (λ x. take i rows ++ x ∷ []) is) ∙ map-append (λ x. (x.etag, x)) (take i rows) (r ∷ []))

pub last_on : (rows : List Row) (i : ℕ) (r : Row) (etag : ℕ) → i < length rows → get_or rows i r ≡ r → etag ≡ r.etag → etag ≡ last_of 0 (take (i + 1) rows)
last_on rows i r etag lt is e = e ∙ sym (ap (last_of 0) (take_more rows i r lt ∙ ap (λ x. take i rows ++ x ∷ []) is) ∙ last_of-append 0 (take i rows) (r ∷ []))

all_above : (e low : ℕ) (rows : List Row) → e ≤ low → AreRising low rows → AllAnswer nat_cmp e Less (by_etag rows)
all_above e low [] le up = tt
all_above e low (r ∷ rows) le up = (less e r.etag (let a = up.0 in omega arith), all_above e r.etag rows (let a = up.0 in omega arith) up.1)

pub by_etag-rises : (low : ℕ) (rows : List Row) → AreRising low rows → IsRising nat_cmp (by_etag rows)
by_etag-rises low [] up = tt
by_etag-rises low (r ∷ rows) up = (all_above r.etag r.etag rows (omega arith) up.1, by_etag-rises r.etag rows up.1)

pub all_shown : (pairs : List (ℕ × Row)) (last documents : ℕ) (least : Option (List ℕ)) (rows : List Row) → AreRows rows → pairs ≡ by_etag rows → last ≡ last_of 0 rows → documents ≡ length (filter is_document rows) → AreFrom least rows
    → ShowsByEtag pairs last documents least (rows_in pairs)
all_shown pairs last documents least rows s is e d f =
    subst (ShowsByEtag pairs last documents least) (sym (ap rows_in is ∙ rows_in-by_etag rows)) (record { store = s; pairs = is; last_is = e; documents_are = d; from = f })

-- BY ID

pub id_total : IsTotalOrder id_cmp
id_total = on_total folded nat_list_cmp_total

pub ids-with : (ids : List (List ℕ × Row)) (r : Row) (rows : List Row) → ((q : List ℕ) → lookup (is_at (id_cmp q)) ids ≡ row_at (folded q) rows)
    → (q : List ℕ) → lookup (is_at (id_cmp q)) (insert_entry id_cmp ids r.id r) ≡ row_at (folded q) (put r rows)
ids-with ids r rows h q =
    lookup-insert_entry id_cmp id_total q r.id r ids
    ∙ ap (λ b. cond b (Some r) (lookup (is_at (id_cmp q)) ids)) (is_eq-slice_cmp (folded q) (folded r.id))
    ∙ ap (cond (same_key (folded q) (key r)) (Some r)) (h q)
    ∙ sym (row_at-put (folded q) r rows)

-- each row goes on standing under its own id
AreFiled-with : (ids : List (List ℕ × Row)) (r : Row) → AreFiled ids → AreFiled (insert_entry id_cmp ids r.id r)
AreFiled-with [] r h = (refl, tt)
AreFiled-with (e ∷ ids) r h =
    elim (id_cmp r.id e.0) as (λ o. id_cmp r.id e.0 ≡ o → AreFiled (match_ordering o ((r.id, r) ∷ e ∷ ids) ((e.0, r) ∷ ids) (e ∷ insert_entry id_cmp ids r.id r))) [
      | Less ↦ λ t. (refl, h)
      | Equal ↦ λ t. (sym (key_ties (folded r.id) (folded e.0) t), h.1)
      | Greater ↦ λ t. (h.0, AreFiled-with ids r h.1)
    ] refl

-- BY COLLECTION

-- of the rows that pass the new one is put among those, if it passes where the earlier one does
filter-put : (p : Row → Bool) (r : Row) (rows : List Row) → AreApart rows → ((x : Row) → row_at (key r) rows ≡ Some x → p x ≡ p r)
    → filter p (put r rows) ≡ cond (p r) (put r (filter p rows)) (filter p rows)
filter-put p r rows apart same =
    filter-append p (filter (other (key r)) rows) (r ∷ [])
    ∙ ap (λ xs. xs ++ filter p (r ∷ [])) (filter-swap p (other (key r)) rows)
    ∙ elim (p r) as (λ b. p r ≡ b → filter (other (key r)) (filter p rows) ++ cond b (r ∷ []) [] ≡ cond b (put r (filter p rows)) (filter p rows)) [
      | true ↦ λ e. refl
      | false ↦ λ e. append-nil (filter (other (key r)) (filter p rows)) ∙ none_out (key r) (filter p rows) (absent e)
    ] refl
  where
    absent : p r ≡ false → row_at (key r) (filter p rows) ≡ None
    absent e =
        elim (row_at (key r) (filter p rows)) as (λ o. row_at (key r) (filter p rows) ≡ o → o ≡ None) [
          | None ↦ λ is. refl
          | Some x ↦ λ is. absurd (let f = found_passing p (key r) rows x apart is in let g = sym (same x f.0 ∙ e) ∙ f.1 in cc)
        ] refl

read : (b : Bool) (found : List Row) (o : Option (List Row)) → unwrap_or (cond b (Some found) (cond b None o)) [] ≡ cond b found (unwrap_or o [])
read true found o = refl
read false found o = refl

-- the rows of a collection are taken out, and changed ones put back
pub changed_among_is : (f : List Row → List Row) (collections changed : List (List ℕ × List Row)) (r : Row) (name : List ℕ) (found new : List Row) → IsRising key_cmp collections → name ≡ r.collection
    → found ≡ rows_of collections name → new ≡ f found → changed ≡ insert_entry key_cmp (remove_entry (is_at (key_cmp name)) collections) name new
    → (c : List ℕ) → rows_of changed c ≡ cond (is_of c r) (f (rows_of collections c)) (rows_of collections c)
changed_among_is f collections changed r name found new up named is made all c =
    ap (λ pairs. rows_of pairs c) all
    ∙ ap (λ o. unwrap_or o [])
    (lookup-insert_entry key_cmp nat_list_cmp_total c name new (remove_entry (is_at (key_cmp name)) collections)
    ∙ ap (cond (is_eq (key_cmp c name)) (Some new)) (lookup-remove_entry key_cmp nat_list_cmp_total c name collections up))
    ∙ read (is_eq (key_cmp c name)) new (lookup (is_at (key_cmp c)) collections)
    ∙ ap (λ b. cond b new (rows_of collections c)) (is_eq-slice_cmp c name ∙ nat_list_eq_equiv.symm c name ∙ ap (λ n. bytes_eq n c) named)
    ∙ elim (is_of c r) as (λ b. is_of c r ≡ b → cond b new (rows_of collections c) ≡ cond b (f (rows_of collections c)) (rows_of collections c)) [
      | true ↦ λ e. made ∙ ap f (is ∙ ap (rows_of collections) (named ∙ (bytes_eq-Decides r.collection c).0 e))
      | false ↦ λ e. refl
    ] refl

collections-with : (collections changed : List (List ℕ × List Row)) (r : Row) (rows : List Row) → AreApart rows → ((x : Row) → row_at (key r) rows ≡ Some x → x.collection ≡ r.collection)
    → ((c : List ℕ) → rows_of collections c ≡ filter (is_of c) rows) → ((c : List ℕ) → rows_of changed c ≡ cond (is_of c r) (put r (rows_of collections c)) (rows_of collections c))
    → (c : List ℕ) → rows_of changed c ≡ filter (is_of c) (put r rows)
collections-with collections changed r rows apart same h is c =
    is c ∙ ap (λ xs. cond (is_of c r) (put r xs) xs) (h c) ∙ sym (filter-put (is_of c) r rows apart (λ x old. ap (λ w. bytes_eq w c) (same x old)))

-- the row of an id is among those of its collection
row_at-of : (rows : List Row) (r : Row) → AreApart rows → ((x : Row) → row_at (key r) rows ≡ Some x → x.collection ≡ r.collection) → row_at (key r) rows ≡ row_at (key r) (filter (is_of r.collection) rows)
row_at-of rows r apart same =
    elim (row_at (key r) rows) as (λ o. row_at (key r) rows ≡ o → o ≡ row_at (key r) (filter (is_of r.collection) rows)) [
      | None ↦ λ is. sym (none_still (is_of r.collection) (key r) rows apart is)
      | Some x ↦ λ is. sym (passing_found (is_of r.collection) (key r) rows x apart is ((bytes_eq-Decides x.collection r.collection).1 (same x is)))
    ] refl

-- IN THE CODE'S WORDS

pub shown : (ids : List (List ℕ × Row)) (collections : List (List ℕ × List Row)) (gone : List (ℕ × Row)) (last cleaned : ℕ) (rows : List Row) (S : Store) → record { rows = rows; cleaned = cleaned } ≡ S
    → ShowsStore ids collections gone last cleaned rows → Shows ids collections last S.rows
shown ids collections gone last cleaned rows S is s = subst (λ (T : Store). Shows ids collections last T.rows) is s.shows

pub shown_cleaned : (ids : List (List ℕ × Row)) (collections : List (List ℕ × List Row)) (gone : List (ℕ × Row)) (last cleaned : ℕ) (rows : List Row) (S : Store) → record { rows = rows; cleaned = cleaned } ≡ S
    → ShowsStore ids collections gone last cleaned rows → AreCleaned S.cleaned S.rows
shown_cleaned ids collections gone last cleaned rows S is s = subst (λ (T : Store). AreCleaned T.cleaned T.rows) is s.cleaned_is

pub gone_shown : (ids : List (List ℕ × Row)) (collections : List (List ℕ × List Row)) (gone : List (ℕ × Row)) (last cleaned : ℕ) (rows : List Row) (S : Store) → record { rows = rows; cleaned = cleaned } ≡ S
    → ShowsStore ids collections gone last cleaned rows → gone ≡ by_etag (tombstones S.rows)
gone_shown ids collections gone last cleaned rows S is s = subst (λ (T : Store). gone ≡ by_etag (tombstones T.rows)) is s.gone_are

pub store_shown : (ids : List (List ℕ × Row)) (collections : List (List ℕ × List Row)) (gone : List (ℕ × Row)) (last cleaned : ℕ) (rows : List Row) (S : Store) → record { rows = rows; cleaned = cleaned } ≡ S
    → ShowsStore ids collections gone last cleaned rows → IsStore S
store_shown ids collections gone last cleaned rows S is s =
    let shows = shown ids collections gone last cleaned rows S is s in
    let c = shown_cleaned ids collections gone last cleaned rows S is s in
    record { rising = shows.kept.store.rising; apart = shows.kept.store.apart; behind = c.behind; past = c.past }

-- what the row has to meet among those of its collection
pub replaced_among : (ids : List (List ℕ × Row)) (collections : List (List ℕ × List Row)) (last : ℕ) (S : Store) (r : Row) (replaced : Option Row)
    → Shows ids collections last S.rows → MayStand S r → replaced ≡ row_at (key r) S.rows → replaced ≡ row_at (key r) (rows_of collections r.collection)
replaced_among ids collections last S r replaced s m e =
    e ∙ row_at-of S.rows r s.kept.store.apart m.same ∙ ap (row_at (key r)) (sym (s.by_collections r.collection))

pub newer_than : (ids : List (List ℕ × Row)) (collections : List (List ℕ × List Row)) (last : ℕ) (S : Store) (r : Row)
    → Shows ids collections last S.rows → MayStand S r → last_of 0 (rows_of collections r.collection) < r.etag
newer_than ids collections last S r s m =
    let same = ap (last_of 0) (s.by_collections r.collection) in
    let no_more = last_of-filter 0 0 (is_of r.collection) S.rows s.kept.store.rising (omega arith) in
    let newer = m.newer in omega arith

pub grown : (ids : List (List ℕ × Row)) (collections : List (List ℕ × List Row)) (last : ℕ) (S : Store) (r : Row) (ids2 : List (List ℕ × Row)) (collections2 : List (List ℕ × List Row)) (last2 : ℕ)
    → Shows ids collections last S.rows → MayStand S r → IsWithin (with_row S r) → ids2 ≡ insert_entry id_cmp ids r.id r
    → ((c : List ℕ) → rows_of collections2 c ≡ cond (is_of c r) (put r (rows_of collections c)) (rows_of collections c)) → last2 ≡ r.etag
    → Shows ids2 collections2 last2 (put r S.rows)
grown ids collections last S r ids2 collections2 last2 s m w a b e = record {
  kept = record { store = AreRows-put S.rows r s.kept.store m.newer; within = w };
  rising = subst (IsRising id_cmp) (sym a) (rising_insert id_cmp id_total r.id r ids s.rising);
  filed = subst AreFiled (sym a) (AreFiled-with ids r s.filed);
  by_ids = λ q. ap (lookup (is_at (id_cmp q))) a ∙ ids-with ids r S.rows s.by_ids q;
  by_collections = collections-with collections collections2 r S.rows s.kept.store.apart m.same s.by_collections b;
  last_is = e ∙ sym (last_of-put 0 r S.rows);
}

-- maps that are made of all rows at once
pub all_show : (pairs ids : List (List ℕ × Row)) (collections : List (List ℕ × List Row)) (last : ℕ) (rows shared : List Row) → shared ≡ rows → AreRows rows → AreWithin rows → ids ≡ pairs
    → ((q : List ℕ) → lookup (is_at (id_cmp q)) pairs ≡ row_at (folded q) shared) → AreFiled pairs → IsRising id_cmp pairs → ((c : List ℕ) → rows_of collections c ≡ filter (is_of c) shared) → last ≡ last_of 0 rows
    → Shows ids collections last rows
all_show pairs ids collections last rows shared same s w made found filed up by_collections e = record {
  kept = record { store = s; within = w };
  rising = subst (IsRising id_cmp) (sym made) up;
  filed = subst AreFiled (sym made) filed;
  by_ids = λ q. ap (lookup (is_at (id_cmp q))) made ∙ found q ∙ ap (row_at (folded q)) same;
  by_collections = λ c. by_collections c ∙ ap (filter (is_of c)) same;
  last_is = e;
}
