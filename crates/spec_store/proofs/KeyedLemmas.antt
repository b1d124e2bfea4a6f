-- A list of rows in order of their keys is a table, and stays in order when rows are noted.
use Rattle.std.proofs.Common.{◌≡◌, ℕ, List, [], ◌∷◌, true, false, cond, Option, Some, None, length, map, refl, sym, ap, ◌∙◌, subst, arith}
use Rattle.std.specs.declared.cmp.Ordering.TheVariants.{Less, Equal, Greater}
use Rattle.std.specs.Ordering.{match_ordering, is_eq, ordering_reverse}
use Rattle.std.specs.Cmp.{IsTotalOrder}
use Rattle.std.specs.Cmp.Lexicographic.{nat_list_cmp_total}
use Rattle.std.specs.FinMap.{get, entries, values, find as entry_at, put as put_entry, get-from_entries, entries-insert, len-entries, len-empty, same_map, nat_cmp-IsAntisymmetric, slice_cmp-IsAntisymmetric}
use Rattle.spec_data.specs.Folding.{key_cmp, same_key}
use Rattle.spec_data.specs.Rows.{Row, key, is_document}
use Rattle.spec_store.specs.Store.{row_at}
use Rattle.spec_data.specs.Tables.{Table, table_of, note_row, note_rows}
use Rattle.spec_store.specs.Keyed.{IsBelowFirst, AreKeyed, in_front, noted_list, noted_lists}
use Rattle.spec_store.proofs.StoreLemmas.{swapped, shadowed, not_both, same_means}
use Rattle.spec_store.proofs.TableLemmas.{tied, get-note_row}

-- WHAT THE TABLE OF A LIST HAS

abbrev by_key : Row → List ℕ × Row
by_key r = (key r, r)

entry_of_row : (q : List ℕ) (rows : List Row) → entry_at key_cmp q (map by_key rows) ≡ row_at q rows
entry_of_row q [] = refl
entry_of_row q (r ∷ rows) = ap (λ b. cond b (Some r) (entry_at key_cmp q (map by_key rows))) (tied q (key r)) ∙ ap (cond (same_key q (key r)) (Some r)) (entry_of_row q rows)

pub get-table_of : (q : List ℕ) (rows : List Row) → get (table_of rows) q ≡ row_at q rows
get-table_of q rows = get-from_entries nat_list_cmp_total (map by_key rows) q ∙ entry_of_row q rows

pub same_table : (T U : Table) → ((q : List ℕ) → get T q ≡ get U q) → T ≡ U
same_table = same_map nat_list_cmp_total (slice_cmp-IsAntisymmetric nat_cmp-IsAntisymmetric)

total : IsTotalOrder key_cmp
total = nat_list_cmp_total

-- keys that compare as equal are the same
pub key_ties : (a b : List ℕ) → key_cmp a b ≡ Equal → a ≡ b
key_ties = slice_cmp-IsAntisymmetric nat_cmp-IsAntisymmetric

pub key_turned : (a b : List ℕ) → key_cmp a b ≡ Greater → key_cmp b a ≡ Less
key_turned a b e = total.antisymm b a ∙ ap ordering_reverse e

pub differ_less : (a b : List ℕ) → key_cmp a b ≡ Less → same_key a b ≡ false
differ_less a b e = sym (tied a b) ∙ ap is_eq e

pub differ_greater : (a b : List ℕ) → key_cmp a b ≡ Greater → same_key a b ≡ false
differ_greater a b e = sym (tied a b) ∙ ap is_eq e

-- IN ORDER

pub IsBelowFirst-less : (k l : List ℕ) (rows : List Row) → key_cmp k l ≡ Less → IsBelowFirst l rows → IsBelowFirst k rows
IsBelowFirst-less k l [] e h = tt
IsBelowFirst-less k l (r ∷ rows) e h = total.trans k l (key r) e h

-- a key below the first is below all, so it has no row
pub row_at-below : (k : List ℕ) (rows : List Row) → IsBelowFirst k rows → AreKeyed rows → row_at k rows ≡ None
row_at-below k [] h up = refl
row_at-below k (r ∷ rows) h up =
    ap (λ b. cond b (Some r) (row_at k rows)) (differ_less k (key r) h) ∙ row_at-below k rows (IsBelowFirst-less k (key r) rows h up.0) up.1

put_first : (r : Row) (rows : List Row) → IsBelowFirst (key r) rows → put_entry key_cmp (key r) r (map by_key rows) ≡ map by_key (r ∷ rows)
put_first r [] h = refl
put_first r (x ∷ rows) h = rw h

none_long : (es : List (List ℕ × Row)) → length es ≡ 0 → es ≡ []
none_long [] h = refl
none_long (e ∷ es) h = absurd (omega arith)

pub entries-table_of : (rows : List Row) → AreKeyed rows → entries (table_of rows) ≡ map by_key rows
entries-table_of [] up = none_long (entries (table_of [])) (sym (len-entries (table_of [])) ∙ len-empty key_cmp Row)
entries-table_of (r ∷ rows) up =
    entries-insert nat_list_cmp_total (table_of rows) (key r) r ∙ ap (put_entry key_cmp (key r) r) (entries-table_of rows up.1) ∙ put_first r rows up.0

rows_back : (rows : List Row) → map (λ e. e.1) (map by_key rows) ≡ rows
rows_back [] = refl
rows_back (r ∷ rows) = ap (λ more. r ∷ more) (rows_back rows)

-- the rows of the table are those of the list, in its order
pub values-table_of : (rows : List Row) → AreKeyed rows → values (table_of rows) ≡ rows
values-table_of rows up = ap (map (λ e. e.1)) (entries-table_of rows up) ∙ rows_back rows

-- A ROW IS NOTED

in_front-AreKeyed : (r : Row) (rows : List Row) → IsBelowFirst (key r) rows → AreKeyed rows → AreKeyed (in_front r rows)
in_front-AreKeyed r rows h up = elim (is_document r) as (λ b. AreKeyed (cond b (r ∷ rows) rows)) [ true ↦ (h, up) | false ↦ up ]

in_front-below : (k : List ℕ) (r : Row) (rows : List Row) → key_cmp k (key r) ≡ Less → IsBelowFirst k rows → IsBelowFirst k (in_front r rows)
in_front-below k r rows e h = elim (is_document r) as (λ b. IsBelowFirst k (cond b (r ∷ rows) rows)) [ true ↦ e | false ↦ h ]

noted_list-below : (k : List ℕ) (r : Row) (rows : List Row) → key_cmp k (key r) ≡ Less → IsBelowFirst k rows → AreKeyed rows → IsBelowFirst k (noted_list r rows)
noted_list-below k r [] e h up = in_front-below k r [] e tt
noted_list-below k r (x ∷ rows) e h up =
    elim (key_cmp (key r) (key x)) as (λ o. IsBelowFirst k (match_ordering o (in_front r (x ∷ rows)) (in_front r rows) (x ∷ noted_list r rows))) [
      | Less ↦ in_front-below k r (x ∷ rows) e h
      | Equal ↦ in_front-below k r rows e (IsBelowFirst-less k (key x) rows h up.0)
      | Greater ↦ h
    ]

pub noted_list-AreKeyed : (r : Row) (rows : List Row) → AreKeyed rows → AreKeyed (noted_list r rows)
noted_list-AreKeyed r [] up = in_front-AreKeyed r [] tt tt
noted_list-AreKeyed r (x ∷ rows) up =
    elim (key_cmp (key r) (key x)) as (λ o. key_cmp (key r) (key x) ≡ o → AreKeyed (match_ordering o (in_front r (x ∷ rows)) (in_front r rows) (x ∷ noted_list r rows))) [
      | Less ↦ λ e. in_front-AreKeyed r (x ∷ rows) e up
      | Equal ↦ λ e. in_front-AreKeyed r rows (subst (λ k. IsBelowFirst k rows) (sym (key_ties (key r) (key x) e)) up.0) up.1
      | Greater ↦ λ e. (noted_list-below (key x) r rows (key_turned (key r) (key x) e) up.0 up.1, noted_list-AreKeyed r rows up.1)
    ] refl

row_at-in_front : (q : List ℕ) (r : Row) (rows : List Row) → row_at (key r) rows ≡ None → row_at q (in_front r rows) ≡ cond (same_key q (key r)) (cond (is_document r) (Some r) None) (row_at q rows)
row_at-in_front q r rows none =
    elim (is_document r) as (λ b. row_at q (cond b (r ∷ rows) rows) ≡ cond (same_key q (key r)) (cond b (Some r) None) (row_at q rows)) [
      | true ↦ refl
      | false ↦ elim (same_key q (key r)) as (λ b. same_key q (key r) ≡ b → row_at q rows ≡ cond b None (row_at q rows)) [
        | true ↦ λ e. subst (λ k. row_at k rows ≡ None) (sym (same_means q (key r) e)) none
        | false ↦ λ e. refl
      ] refl
    ]

pub row_at-noted_list : (q : List ℕ) (r : Row) (rows : List Row) → AreKeyed rows → row_at q (noted_list r rows) ≡ cond (same_key q (key r)) (cond (is_document r) (Some r) None) (row_at q rows)
row_at-noted_list q r [] up = row_at-in_front q r [] refl
row_at-noted_list q r (x ∷ rows) up =
    elim (key_cmp (key r) (key x)) as (λ o. key_cmp (key r) (key x) ≡ o → row_at q (match_ordering o (in_front r (x ∷ rows)) (in_front r rows) (x ∷ noted_list r rows)) ≡ cond (same_key q (key r)) kept (cond (same_key q (key x)) (Some x) (row_at q rows))) [
      | Less ↦ λ e. row_at-in_front q r (x ∷ rows) (row_at-below (key r) (x ∷ rows) e up)
      | Equal ↦ λ e. let one : key r ≡ key x = key_ties (key r) (key x) e in
          row_at-in_front q r rows (row_at-below (key r) rows (subst (λ k. IsBelowFirst k rows) (sym one) up.0) up.1)
          ∙ shadowed (same_key q (key r)) (same_key q (key x)) kept (Some x) (row_at q rows) (λ h. subst (λ k. same_key q k ≡ true) (sym one) h)
      | Greater ↦ λ e. ap (cond (same_key q (key x)) (Some x)) (row_at-noted_list q r rows up.1)
          ∙ swapped (same_key q (key r)) (same_key q (key x)) kept (Some x) (row_at q rows) (not_both q (key r) (key x) (differ_greater (key r) (key x) e))
    ] refl
  where
    kept : Option Row
    kept = cond (is_document r) (Some r) None

-- the table of the list with the row noted is the table with the row noted
pub table_of-noted_list : (r : Row) (rows : List Row) → AreKeyed rows → table_of (noted_list r rows) ≡ note_row (table_of rows) r
table_of-noted_list r rows up = same_table (table_of (noted_list r rows)) (note_row (table_of rows) r) (λ q.
    get-table_of q (noted_list r rows) ∙ row_at-noted_list q r rows up
    ∙ ap (cond (same_key q (key r)) (cond (is_document r) (Some r) None)) (sym (get-table_of q rows))
    ∙ sym (get-note_row (table_of rows) r q))

-- ROWS ARE NOTED, ONE AFTER ANOTHER

pub noted_lists-AreKeyed : (more rows : List Row) → AreKeyed rows → AreKeyed (noted_lists more rows)
noted_lists-AreKeyed [] rows up = up
noted_lists-AreKeyed (r ∷ more) rows up = noted_lists-AreKeyed more (noted_list r rows) (noted_list-AreKeyed r rows up)

pub table_of-noted_lists : (more rows : List Row) → AreKeyed rows → table_of (noted_lists more rows) ≡ note_rows (table_of rows) more
table_of-noted_lists [] rows up = refl
table_of-noted_lists (r ∷ more) rows up =
    table_of-noted_lists more (noted_list r rows) (noted_list-AreKeyed r rows up) ∙ ap (λ T. note_rows T more) (table_of-noted_list r rows up)
