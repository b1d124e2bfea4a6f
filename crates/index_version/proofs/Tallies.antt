-- How the numbers of entries and failures follow a change of the results.
use Rattle.std.proofs.Common.{◌≡◌, ℕ, ◌+◌, ◌≤◌, List, [], ◌∷◌, Bool, true, false, cond, Some, length, refl, sym, ap, subst, arith}
use Rattle.std.specs.declared.cmp.Ordering.TheVariants.{Less, Equal, Greater}
use Rattle.std.specs.Ordering.{match_ordering, is_eq}
use Rattle.std.specs.BTreeMap.{is_at, insert_entry}
use Rattle.std.specs.List.{filter_map}
use Rattle.std.specs.Map.{lookup, remove_entry, values_of}
use Rattle.std.proofs.lemmas.List.Sums.{sum_by-cons}
use Rattle.index_tree.specs.Meaning.{Entry, NoEntry, Failed}
use Rattle.paged_map.specs.Pairs.{IsRising}
use Rattle.paged_map.proofs.Rising.{less_after, lookup_none, rising_insert, rising_remove}
use Rattle.reference_track.specs.Sets.{id_cmp}
use Rattle.reference_track.proofs.SetLemmas.{id_total}
use Rattle.index_version.specs.Kept.{AreCounted, Given, entries_among, entry_given, failures_among, has_entry, is_entry, is_failure, one_if}

abbrev pub Pairs : Type 0
Pairs = List (List ℕ × Given)

-- ONE AFTER ANOTHER

entries_step : (e : List ℕ × Given) (es : Pairs) → entries_among (e ∷ es) ≡ cond (is_entry e.1) 1 0 + entries_among es
entries_step e es = elim e.1.mapped.outcome as (λ o. length (filter_map entry_given ((let g : Given = record { id = e.1.id; mapped = record { outcome = o; loads = e.1.mapped.loads } } in g) ∷ values_of es)) ≡ cond (has_entry o) 1 0 + length (filter_map entry_given (values_of es))) [
  | Entry fields ↦ omega arith
  | NoEntry ↦ omega arith
  | Failed ↦ omega arith
]

failures_step : (e : List ℕ × Given) (es : Pairs) → failures_among (e ∷ es) ≡ cond (is_failure e.1) 1 0 + failures_among es
failures_step e es = sum_by-cons (λ (g : Given). cond (is_failure g) 1 0) e.1 (values_of es)

one_le : (b : Bool) → cond b 1 0 ≤ 1
one_le true = omega arith
one_le false = omega arith

-- A NUMBER OF THOSE THAT PASS A TEST

module _ (test : Given → Bool) (among : Pairs → ℕ) (of_none : among [] ≡ 0) (step : (e : List ℕ × Given) (es : Pairs) → among (e ∷ es) ≡ cond (test e.1) 1 0 + among es) where
  among_put : (k : List ℕ) (g : Given) (es : Pairs) → IsRising id_cmp es → among (insert_entry id_cmp es k g) + one_if test (lookup (is_at (id_cmp k)) es) ≡ among es + one_if test (Some g)
  among_put k g [] up = let made : among ((k, g) ∷ []) + 0 ≡ among [] + cond (test g) 1 0 = (let own : among ((k, g) ∷ []) ≡ cond (test g) 1 0 + among [] = step (k, g) [] in omega (arith, own)) in made
  among_put k g (e ∷ es) up =
      elim (id_cmp k e.0) as (λ r. id_cmp k e.0 ≡ r → among (match_ordering r ((k, g) ∷ e ∷ es) ((e.0, g) ∷ es) (e ∷ insert_entry id_cmp es k g)) + one_if test (cond (is_eq r) (Some e.1) (lookup (is_at (id_cmp k)) es)) ≡ among (e ∷ es) + one_if test (Some g)) [
        | Less ↦ λ h.
            let own : among ((k, g) ∷ e ∷ es) ≡ cond (test g) 1 0 + among (e ∷ es) = step (k, g) (e ∷ es) in
            let made : among ((k, g) ∷ e ∷ es) + one_if test (lookup (is_at (id_cmp k)) es) ≡ among (e ∷ es) + cond (test g) 1 0 =
            rw (lookup_none id_cmp k es (less_after id_cmp id_total k e.0 es h up.0)) (omega (arith, own)) in
            made
        | Equal ↦ λ h.
            let own : among ((e.0, g) ∷ es) ≡ cond (test g) 1 0 + among es = step (e.0, g) es in
            let made : among ((e.0, g) ∷ es) + cond (test e.1) 1 0 ≡ among (e ∷ es) + cond (test g) 1 0 = omega (arith, own, step e es) in
            made
        | Greater ↦ λ h.
            let own = step e (insert_entry id_cmp es k g) in
            let later : among (insert_entry id_cmp es k g) + one_if test (lookup (is_at (id_cmp k)) es) ≡ among es + cond (test g) 1 0 = among_put k g es up.1 in
            let made : among (e ∷ insert_entry id_cmp es k g) + one_if test (lookup (is_at (id_cmp k)) es) ≡ among (e ∷ es) + cond (test g) 1 0 = omega (arith, own, later, step e es) in
            made
      ] refl

  among_removed : (k : List ℕ) (es : Pairs) → among (remove_entry (is_at (id_cmp k)) es) + one_if test (lookup (is_at (id_cmp k)) es) ≡ among es
  among_removed k [] = let made : among [] + 0 ≡ among [] = omega arith in made
  among_removed k (e ∷ es) =
      elim (is_eq (id_cmp k e.0)) as (λ b. among (cond b es (e ∷ remove_entry (is_at (id_cmp k)) es)) + one_if test (cond b (Some e.1) (lookup (is_at (id_cmp k)) es)) ≡ among (e ∷ es)) [
        | true ↦ let made : among es + cond (test e.1) 1 0 ≡ among (e ∷ es) = omega (arith, step e es) in made
        | false ↦
            let own = step e (remove_entry (is_at (id_cmp k)) es) in
            let later = among_removed k es in
            let made : among (e ∷ remove_entry (is_at (id_cmp k)) es) + one_if test (lookup (is_at (id_cmp k)) es) ≡ among (e ∷ es) = omega (arith, own, later, step e es) in
            made
      ]

  among_few : (es : Pairs) → among es ≤ length es
  among_few [] = omega (arith, of_none)
  among_few (e ∷ es) = omega (arith, step e es, one_le (test e.1), among_few es)

-- WHAT IS KEPT

pub counted_none : (es : Pairs) → es ≡ [] → AreCounted es 0 0
counted_none es none = subst (λ xs. AreCounted xs 0 0) (sym none) (record { rising = tt; entries_are = refl; errors_are = refl })

-- what counts at a key is among what is counted
pub entries_there : (es : Pairs) (k : List ℕ) (entries errors old : ℕ) → AreCounted es entries errors → old ≡ one_if is_entry (lookup (is_at (id_cmp k)) es) → old ≤ entries
entries_there es k entries errors old counted is = let all = among_removed is_entry entries_among refl entries_step k es in let are = counted.entries_are in omega (arith, all, are, is)

pub errors_there : (es : Pairs) (k : List ℕ) (entries errors old : ℕ) → AreCounted es entries errors → old ≡ one_if is_failure (lookup (is_at (id_cmp k)) es) → old ≤ errors
errors_there es k entries errors old counted is = let all = among_removed is_failure failures_among refl failures_step k es in let are = counted.errors_are in omega (arith, all, are, is)

-- a result that goes in, and the one that was there
pub record Replaced (es new : Pairs) (k : List ℕ) (g : Given) (entries errors old_entries old_errors new_entries new_errors : ℕ) : Type 0 where
  pub counted : AreCounted es entries errors
  pub put : new ≡ insert_entry id_cmp es k g
  pub old_entry : old_entries ≡ one_if is_entry (lookup (is_at (id_cmp k)) es)
  pub old_error : old_errors ≡ one_if is_failure (lookup (is_at (id_cmp k)) es)
  pub new_entry : new_entries ≡ one_if is_entry (Some g)
  pub new_error : new_errors ≡ one_if is_failure (Some g)

pub entries_put : (es new : Pairs) (k : List ℕ) (g : Given) (entries errors old_entries old_errors new_entries new_errors : ℕ) → Replaced es new k g entries errors old_entries old_errors new_entries new_errors → entries_among new + old_entries ≡ entries + new_entries
entries_put es new k g entries errors old_entries old_errors new_entries new_errors r =
    let all = among_put is_entry entries_among refl entries_step k g es r.counted.rising in
    let made = ap entries_among r.put in
    let are = r.counted.entries_are in
    let before = r.old_entry in
    let now = r.new_entry in
    omega (arith, all, made, are, before, now)

pub errors_put : (es new : Pairs) (k : List ℕ) (g : Given) (entries errors old_entries old_errors new_entries new_errors : ℕ) → Replaced es new k g entries errors old_entries old_errors new_entries new_errors → failures_among new + old_errors ≡ errors + new_errors
errors_put es new k g entries errors old_entries old_errors new_entries new_errors r =
    let all = among_put is_failure failures_among refl failures_step k g es r.counted.rising in
    let made = ap failures_among r.put in
    let are = r.counted.errors_are in
    let before = r.old_error in
    let now = r.new_error in
    omega (arith, all, made, are, before, now)

pub few_entries : (es : Pairs) → entries_among es ≤ length es
few_entries es = among_few is_entry entries_among refl entries_step es

pub few_errors : (es : Pairs) → failures_among es ≤ length es
few_errors es = among_few is_failure failures_among refl failures_step es

pub counted_put : (es new : Pairs) (k : List ℕ) (g : Given) (entries errors old_entries old_errors new_entries new_errors more_entries more_errors : ℕ) → Replaced es new k g entries errors old_entries old_errors new_entries new_errors
    → more_entries + old_entries ≡ entries + new_entries → more_errors + old_errors ≡ errors + new_errors → AreCounted new more_entries more_errors
counted_put es new k g entries errors old_entries old_errors new_entries new_errors more_entries more_errors r of_entries of_errors = record {
  rising = subst (IsRising id_cmp) (sym r.put) (rising_insert id_cmp id_total k g es r.counted.rising);
  entries_are = let all = entries_put es new k g entries errors old_entries old_errors new_entries new_errors r in omega (arith, all, of_entries);
  errors_are = let all = errors_put es new k g entries errors old_entries old_errors new_entries new_errors r in omega (arith, all, of_errors);
}

pub counted_out : (es new : Pairs) (k : List ℕ) (entries errors old_entries old_errors less_entries less_errors : ℕ) → AreCounted es entries errors → new ≡ remove_entry (is_at (id_cmp k)) es
    → old_entries ≡ one_if is_entry (lookup (is_at (id_cmp k)) es) → old_errors ≡ one_if is_failure (lookup (is_at (id_cmp k)) es)
    → less_entries + old_entries ≡ entries → less_errors + old_errors ≡ errors → AreCounted new less_entries less_errors
counted_out es new k entries errors old_entries old_errors less_entries less_errors counted made old_entry old_error of_entries of_errors = record {
  rising = subst (IsRising id_cmp) (sym made) (rising_remove id_cmp k es counted.rising);
  entries_are =
      let all = among_removed is_entry entries_among refl entries_step k es in
      let out = ap entries_among made in
      let are = counted.entries_are in
      omega (arith, all, out, are, old_entry, of_entries);
  errors_are =
      let all = among_removed is_failure failures_among refl failures_step k es in
      let out = ap failures_among made in
      let are = counted.errors_are in
      omega (arith, all, out, are, old_error, of_errors);
}
