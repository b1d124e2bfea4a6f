-- The rows of the map by id, in order of etag, are those of the store, and as many.
use Rattle.std.proofs.Common.{◌≡◌, ℕ, ◌<◌, ◌+◌, List, [], ◌∷◌, Bool, true, false, cond, Option, Some, None, is_some, length, refl, sym, ap, ◌∙◌, subst, arith}
use Rattle.std.specs.declared.cmp.Ordering.TheVariants.{Less, Equal, Greater}
use Rattle.std.specs.Ordering.{nat_cmp, is_eq}
use Rattle.std.specs.Cmp.{nat_cmp_total}
use Rattle.std.specs.Cmp.Lexicographic.{nat_list_cmp_total}
use Rattle.std.specs.FinMap.{entries, values, len, from_entries, find as entry_at, put as put_entry, get-from_entries, entries-insert, len-entries, len-empty, len-insert, same_map, nat_cmp-IsAntisymmetric}
use Rattle.std.specs.Map.{lookup}
use Rattle.std.specs.BTreeMap.{is_at}
use Rattle.std.proofs.lemmas.List.{length-map}
use Rattle.spec_data.specs.Folding.{folded, key_cmp, same_key}
use Rattle.spec_data.specs.Rows.{Row, key}
use Rattle.spec_data.specs.Tables.{table_of}
use Rattle.spec_store.specs.Store.{row_at, put, last_of, AreApart, AreRising, Store, empty_store}
use Rattle.spec_store.proofs.StoreLemmas.{found_etag, same_itself, same_means, same_row, TombstonesPast-put, TombstonesPast-rising, last_of-put}
use Rattle.spec_store.proofs.KeyedLemmas.{get-table_of}
use Rattle.paged_map.specs.Pairs.{IsRising}
use Rattle.doc_store.specs.Bounds.{AreCleaned, AreRows}
use Rattle.doc_store.specs.Maps.{id_cmp, rows_in, by_etag, ordered_by_etag, AreFiled, Shows, ShowsStore}
use Rattle.doc_store.proofs.MapLemmas.{less, equal, greater, rows_in-by_etag}
use Rattle.doc_store.proofs.IdLemmas.{in_order, keyed, keyed_apart, same_rows}

-- THE ROW OF AN ETAG

abbrev at_etag : ℕ → List Row → Option Row
at_etag n rows = entry_at nat_cmp n (by_etag rows)

has_etag : (n : ℕ) (rows : List Row) (r : Row) → AreApart rows → at_etag n rows ≡ Some r → (n ≡ r.etag) × (row_at (key r) rows ≡ Some r)
has_etag n [] r apart h = absurd cc
has_etag n (x ∷ rows) r apart h =
    elim (nat_cmp n x.etag) as (λ o. nat_cmp n x.etag ≡ o → cond (is_eq o) (Some x) (at_etag n rows) ≡ Some r → (n ≡ r.etag) × (row_at (key r) (x ∷ rows) ≡ Some r)) [
      | Less ↦ λ t is. later (has_etag n rows r apart.1 is)
      | Equal ↦ λ t is.
          subst (λ (y : Row). (n ≡ y.etag) × (row_at (key y) (x ∷ rows) ≡ Some y)) (same_row x r is)
          (nat_cmp-IsAntisymmetric n x.etag t, ap (λ b. cond b (Some x) (row_at (key x) rows)) (same_itself (key x)))
      | Greater ↦ λ t is. later (has_etag n rows r apart.1 is)
    ] refl h
  where
    later : (n ≡ r.etag) × (row_at (key r) rows ≡ Some r) → (n ≡ r.etag) × (row_at (key r) (x ∷ rows) ≡ Some r)
    later f = (
      f.0,
      elim (same_key (key r) (key x)) as (λ b. same_key (key r) (key x) ≡ b → cond b (Some x) (row_at (key r) rows) ≡ Some r) [
        | true ↦ λ e. absurd (let none = subst (λ k. row_at k rows ≡ None) (sym (same_means (key r) (key x) e)) apart.0 in let some = f.1 in cc)
        | false ↦ λ e. f.1
      ] refl,
    )

is_at_etag : (low : ℕ) (q : List ℕ) (rows : List Row) (r : Row) → AreRising low rows → row_at q rows ≡ Some r → at_etag r.etag rows ≡ Some r
is_at_etag low q [] r up h = absurd cc
is_at_etag low q (x ∷ rows) r up h =
    elim (same_key q (key x)) as (λ b. cond b (Some x) (row_at q rows) ≡ Some r → cond (is_eq (nat_cmp r.etag x.etag)) (Some x) (at_etag r.etag rows) ≡ Some r) [
      | true ↦ λ is. ap (λ o. cond (is_eq o) (Some x) (at_etag r.etag rows)) (equal r.etag x.etag (ap (λ (y : Row). y.etag) (sym (same_row x r is)))) ∙ is
      | false ↦ λ is. ap (λ o. cond (is_eq o) (Some x) (at_etag r.etag rows)) (greater r.etag x.etag (found_etag x.etag q rows r up.1 is).0) ∙ is_at_etag x.etag q rows r up.1 is
    ] h

rest_none : (b : Bool) (x : Row) (o : Option Row) → cond b (Some x) o ≡ None → o ≡ None
rest_none true x o h = absurd cc
rest_none false x o h = h

not_none : (q : List ℕ) (rows : List Row) (r : Row) → at_etag r.etag rows ≡ None → row_at q rows ≡ Some r → ⊥
not_none q [] r none h = absurd cc
not_none q (x ∷ rows) r none h =
    elim (same_key q (key x)) as (λ b. cond b (Some x) (row_at q rows) ≡ Some r → ⊥) [
      | true ↦ λ is.
          let found = ap (λ o. cond (is_eq o) (Some x) (at_etag r.etag rows)) (equal r.etag x.etag (ap (λ (y : Row). y.etag) (sym (same_row x r is)))) in
          let nothing : Some x ≡ None = sym found ∙ none in absurd cc
      | false ↦ λ is. not_none q rows r (rest_none (is_eq (nat_cmp r.etag x.etag)) x (at_etag r.etag rows) none) is
    ] h

-- lists with the same rows under each id have the same rows under each etag
same_etags : (some rows : List Row) → AreApart some → AreRows rows → ((q : List ℕ) → row_at q some ≡ row_at q rows) → (n : ℕ) → at_etag n some ≡ at_etag n rows
same_etags some rows apart s same n =
    elim (at_etag n some) as (λ o. at_etag n some ≡ o → o ≡ at_etag n rows) [
      | None ↦ λ none. elim (at_etag n rows) as (λ o. at_etag n rows ≡ o → None ≡ o) [
        | None ↦ λ h. refl
        | Some r ↦ λ h. let f = has_etag n rows r s.apart h in absurd (not_none (key r) some r (ap (λ m. at_etag m some) (sym f.0) ∙ none) (same (key r) ∙ f.1))
      ] refl
      | Some r ↦ λ h. let f = has_etag n some r apart h in sym (ap (λ m. at_etag m rows) f.0 ∙ is_at_etag 0 (key r) rows r s.rising (sym (same (key r)) ∙ f.1))
    ] refl

-- IN ORDER

put_first : (r : Row) (rows : List Row) → AreRising r.etag rows → put_entry nat_cmp r.etag r (by_etag rows) ≡ by_etag (r ∷ rows)
put_first r [] up = refl
put_first r (x ∷ rows) up = rw (less r.etag x.etag up.0) refl

pub none_long : {A : Type 0} (es : List A) → length es ≡ 0 → es ≡ []
none_long [] h = refl
none_long (e ∷ es) h = absurd (omega arith)

entries_are : (low : ℕ) (rows : List Row) → AreRising low rows → entries (from_entries {R = nat_cmp} (by_etag rows)) ≡ by_etag rows
entries_are low [] up = none_long (entries (from_entries {R = nat_cmp} (by_etag []))) (sym (len-entries (from_entries {R = nat_cmp} (by_etag []))) ∙ len-empty nat_cmp Row)
entries_are low (r ∷ rows) up =
    entries-insert nat_cmp_total (from_entries (by_etag rows)) r.etag r ∙ ap (put_entry nat_cmp r.etag r) (entries_are r.etag rows up.1) ∙ put_first r rows up.1

order_is : (some rows : List Row) → AreApart some → AreRows rows → ((q : List ℕ) → row_at q some ≡ row_at q rows) → ordered_by_etag some ≡ rows
unfolding ordered_by_etag
order_is some rows apart s same =
    ap values (same_map nat_cmp_total nat_cmp-IsAntisymmetric (from_entries (by_etag some)) (from_entries (by_etag rows)) (λ n.
    get-from_entries nat_cmp_total (by_etag some) n ∙ same_etags some rows apart s same n ∙ sym (get-from_entries nat_cmp_total (by_etag rows) n)))
    ∙ ap rows_in (entries_are 0 rows s.rising) ∙ rows_in-by_etag rows

-- BY ID

order_of : (ids : List (List ℕ × Row)) (rows : List Row) → IsRising id_cmp ids → AreFiled ids → ((q : List ℕ) → lookup (is_at (id_cmp q)) ids ≡ row_at (folded q) rows)
    → AreRows rows → ordered_by_etag (rows_in ids) ≡ rows
order_of ids rows up filed is s = order_is (rows_in ids) rows (keyed_apart (rows_in ids) (keyed ids up filed)) s (same_rows ids rows filed is)

order_shown : (ids : List (List ℕ × Row)) (collections : List (List ℕ × List Row)) (last : ℕ) (rows : List Row) → Shows ids collections last rows → ordered_by_etag (rows_in ids) ≡ rows
order_shown ids collections last rows s = order_of ids rows s.rising s.filed s.by_ids s.kept.store

pub kept_in_order : (ids : List (List ℕ × Row)) (collections : List (List ℕ × List Row)) (gone : List (ℕ × Row)) (last cleaned : ℕ) (rows : List Row) → ShowsStore ids collections gone last cleaned rows
    → ShowsStore ids collections gone last cleaned (ordered_by_etag (rows_in ids))
kept_in_order ids collections gone last cleaned rows s = subst (ShowsStore ids collections gone last cleaned) (sym (order_shown ids collections last rows s.shows)) s

pub same_store : (ids : List (List ℕ × Row)) (collections : List (List ℕ × List Row)) (last cleaned : ℕ) (S : Store) → Shows ids collections last S.rows → cleaned ≡ S.cleaned
    → (let T : Store = record { rows = ordered_by_etag (rows_in ids); cleaned = cleaned } in T) ≡ S
same_store ids collections last cleaned S s is =
    ap (λ (rows : List Row). let T : Store = record { rows = rows; cleaned = cleaned } in T) (order_shown ids collections last S.rows s) ∙ ap (λ (n : ℕ). let T : Store = record { rows = S.rows; cleaned = n } in T) is

-- rows of which nothing is cleaned
pub uncleaned : (rows : List Row) → AreRising 0 rows → AreCleaned 0 rows
uncleaned rows up = record { behind = omega arith; past = TombstonesPast-rising 0 0 rows up (omega arith) }

-- a new row is past all that is cleaned
pub cleaned_put : (cleaned : ℕ) (r : Row) (rows : List Row) → AreCleaned cleaned rows → last_of 0 rows < r.etag → AreCleaned cleaned (put r rows)
cleaned_put cleaned r rows c newer = record {
  behind = let a = c.behind in let b = last_of-put 0 r rows in omega arith;
  past = TombstonesPast-put cleaned r rows c.past (let a = c.behind in omega arith);
}

len_of : (rows : List Row) → AreApart rows → len (table_of rows) ≡ length rows
len_of [] apart = len-empty key_cmp Row
len_of (r ∷ rows) apart =
    let rest = len_of rows apart.1 in
    let more : len (table_of (r ∷ rows)) ≡ len (table_of rows) + 1 =
    len-insert nat_list_cmp_total (table_of rows) (key r) r ∙ ap (λ o. cond (is_some o) (len (table_of rows)) (len (table_of rows) + 1)) (get-table_of (key r) rows ∙ apart.0) in
    omega arith

-- the map by id has as many pairs as there are rows
pub as_many : (ids : List (List ℕ × Row)) (collections : List (List ℕ × List Row)) (last : ℕ) (rows : List Row) → Shows ids collections last rows → length ids ≡ length rows
as_many ids collections last rows s =
    sym (length-map ids (λ e. e.1)) ∙ ap length (in_order ids rows s.rising s.filed s.by_ids) ∙ length-map (entries (table_of rows)) (λ e. e.1) ∙ sym (len-entries (table_of rows))
    ∙ len_of rows s.kept.store.apart

-- a store without rows
pub none_shown : (ids : List (List ℕ × Row)) (collections : List (List ℕ × List Row)) → ids ≡ [] → collections ≡ [] → Shows ids collections 0 []
none_shown ids collections a b =
    subst (λ pairs. Shows pairs collections 0 []) (sym a) (subst (λ pairs. Shows [] pairs 0 []) (sym b) (record {
      kept = record { store = record { rising = tt; apart = tt }; within = record { etags = omega arith; rows = omega arith } };
      rising = tt;
      filed = tt;
      by_ids = λ q. refl;
      by_collections = λ c. refl;
      last_is = refl;
    }))

pub empty_if : (S : Store) → AreCleaned S.cleaned S.rows → length S.rows ≡ 0 → S ≡ empty_store
empty_if S c h =
    let none = none_long S.rows h in
    let zero_is : S.cleaned ≡ 0 = let a = c.behind in let b = ap (last_of 0) none in omega arith in
    ap (λ (rows : List Row). let T : Store = record { rows = rows; cleaned = S.cleaned } in T) none ∙ ap (λ (n : ℕ). let T : Store = record { rows = []; cleaned = n } in T) zero_is
