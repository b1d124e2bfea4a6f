-- The rows of the map by id are those of the store, in order of their folded ids.
use Rattle.std.proofs.Common.{◌≡◌, ℕ, List, [], ◌∷◌, Bool, true, false, cond, Some, None, filter, refl, sym, ap, ◌∙◌, subst, arith}
use Rattle.std.specs.Char.{to_ascii_lowercase}
use Rattle.std.specs.Option.{option_and_then}
use Rattle.std.specs.Ordering.{is_eq}
use Rattle.std.specs.FinMap.{values}
use Rattle.std.specs.Map.{lookup}
use Rattle.std.specs.BTreeMap.{is_at}
use Rattle.std.proofs.lemmas.Bool.Decides.{nat_tests}
use Rattle.std.proofs.lemmas.Map.Text.{is_eq-slice_cmp}
use Rattle.spec_data.specs.Folding.{folded, key_cmp, same_key}
use Rattle.spec_data.specs.Rows.{Row, key}
use Rattle.spec_store.specs.Store.{row_at, AreApart}
use Rattle.spec_data.specs.Tables.{table_of}
use Rattle.spec_store.specs.Keyed.{IsBelowFirst, AreKeyed}
use Rattle.spec_store.proofs.StoreLemmas.{same_itself, same_means, only_if, row_at-filter}
use Rattle.spec_store.proofs.KeyedLemmas.{get-table_of, same_table, IsBelowFirst-less, row_at-below, values-table_of}
use Rattle.paged_map.specs.Pairs.{IsRising}
use Rattle.doc_store.specs.Maps.{id_cmp, rows_in, AreFiled}

-- FOLDED FORMS

same_letter : (c : ℕ) → to_ascii_lowercase (to_ascii_lowercase c) ≡ to_ascii_lowercase c
same_letter c = grind (arith, nat_tests)

folded_once : (text : List ℕ) → folded (folded text) ≡ folded text
folded_once [] = refl
folded_once (c ∷ text) = λ i. same_letter c i ∷ folded_once text i

-- what is no folded form is the id of no row
never : (q : List ℕ) → same_key q (folded q) ≡ false → (rows : List Row) → row_at q rows ≡ None
never q other [] = refl
never q other (x ∷ rows) =
    elim (same_key q (key x)) as (λ b. same_key q (key x) ≡ b → cond b (Some x) (row_at q rows) ≡ None) [
      | true ↦ λ e.
          let is : q ≡ folded x.id = same_means q (key x) e in
          let own : q ≡ folded q = is ∙ sym (folded_once x.id) ∙ ap folded (sym is) in
          absurd (let t = subst (λ k. same_key q k ≡ true) own (same_itself q) in cc)
      | false ↦ λ e. never q other rows
    ] refl

-- BY ID

pub keyed : (ids : List (List ℕ × Row)) → IsRising id_cmp ids → AreFiled ids → AreKeyed (rows_in ids)
keyed [] up filed = tt
keyed (e ∷ []) up filed = (tt, tt)
keyed (e ∷ d ∷ ids) up filed = (ap (λ k. key_cmp k (key d.1)) (sym filed.0) ∙ ap (key_cmp (folded e.0)) (sym filed.1.0) ∙ up.0.0, keyed (d ∷ ids) up.1 filed.1)

found_in : (q : List ℕ) (ids : List (List ℕ × Row)) → AreFiled ids → row_at (folded q) (rows_in ids) ≡ lookup (is_at (id_cmp q)) ids
found_in q [] filed = refl
found_in q (e ∷ ids) filed =
    ap (λ b. cond b (Some e.1) (row_at (folded q) (rows_in ids))) (ap (same_key (folded q)) (sym filed.0) ∙ sym (is_eq-slice_cmp (folded q) (folded e.0)))
    ∙ ap (cond (is_eq (id_cmp q e.0)) (Some e.1)) (found_in q ids filed.1)

pub same_rows : (ids : List (List ℕ × Row)) (rows : List Row) → AreFiled ids → ((q : List ℕ) → lookup (is_at (id_cmp q)) ids ≡ row_at (folded q) rows)
    → (q : List ℕ) → row_at q (rows_in ids) ≡ row_at q rows
same_rows ids rows filed is q =
    elim (same_key q (folded q)) as (λ b. same_key q (folded q) ≡ b → row_at q (rows_in ids) ≡ row_at q rows) [
      | true ↦ λ e. let own : q ≡ folded q = same_means q (folded q) e in ap (λ k. row_at k (rows_in ids)) own ∙ found_in q ids filed ∙ is q ∙ ap (λ k. row_at k rows) (sym own)
      | false ↦ λ e. never q e (rows_in ids) ∙ sym (never q e rows)
    ] refl

pub in_order : (ids : List (List ℕ × Row)) (rows : List Row) → IsRising id_cmp ids → AreFiled ids → ((q : List ℕ) → lookup (is_at (id_cmp q)) ids ≡ row_at (folded q) rows)
    → rows_in ids ≡ values (table_of rows)
in_order ids rows up filed is =
    sym (values-table_of (rows_in ids) (keyed ids up filed))
    ∙ ap values (same_table (table_of (rows_in ids)) (table_of rows) (λ q. get-table_of q (rows_in ids) ∙ same_rows ids rows filed is q ∙ sym (get-table_of q rows)))

-- THOSE THAT PASS A TEST

below_passing : (p : Row → Bool) (k : List ℕ) (rows : List Row) → IsBelowFirst k rows → AreKeyed rows → IsBelowFirst k (filter p rows)
below_passing p k [] h up = tt
below_passing p k (r ∷ rows) h up =
    elim (p r) as (λ b. IsBelowFirst k (cond b (r ∷ filter p rows) (filter p rows))) [
      | true ↦ h
      | false ↦ below_passing p k rows (IsBelowFirst-less k (key r) rows h up.0) up.1
    ]

AreKeyed-filter : (p : Row → Bool) (rows : List Row) → AreKeyed rows → AreKeyed (filter p rows)
AreKeyed-filter p [] up = tt
AreKeyed-filter p (r ∷ rows) up =
    elim (p r) as (λ b. AreKeyed (cond b (r ∷ filter p rows) (filter p rows))) [
      | true ↦ (below_passing p (key r) rows up.0 up.1, AreKeyed-filter p rows up.1)
      | false ↦ AreKeyed-filter p rows up.1
    ]

pub keyed_apart : (rows : List Row) → AreKeyed rows → AreApart rows
keyed_apart [] up = tt
keyed_apart (r ∷ rows) up = (row_at-below (key r) rows up.0 up.1, keyed_apart rows up.1)

pub passing_in_order : (p : Row → Bool) (ids : List (List ℕ × Row)) (rows : List Row) → IsRising id_cmp ids → AreFiled ids → ((q : List ℕ) → lookup (is_at (id_cmp q)) ids ≡ row_at (folded q) rows)
    → AreApart rows → filter p (rows_in ids) ≡ values (table_of (filter p rows))
passing_in_order p ids rows up filed is apart =
    sym (values-table_of passing (AreKeyed-filter p (rows_in ids) (keyed ids up filed)))
    ∙ ap values (same_table (table_of passing) (table_of (filter p rows)) (λ q. get-table_of q passing ∙ same q ∙ sym (get-table_of q (filter p rows))))
  where
    passing : List Row
    passing = filter p (rows_in ids)

    same : (q : List ℕ) → row_at q passing ≡ row_at q (filter p rows)
    same q =
        row_at-filter p q (rows_in ids) (keyed_apart (rows_in ids) (keyed ids up filed)) ∙ ap (option_and_then (only_if p)) (same_rows ids rows filed is q)
        ∙ sym (row_at-filter p q rows apart)
