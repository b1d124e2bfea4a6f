-- The groups of an index are of the entries that its map gives, and a batch changes few of them.
use Rattle.std.proofs.Common.{◌≡◌, ℕ, ◌≤◌, ◌+◌, ◌*◌, ◌^◌, List, [], ◌∷◌, Bool, true, false, cond, Option, Some, None, is_some, filter, map, length, option_map, refl, sym, ap, ◌∙◌, subst, arith}
use Rattle.std.specs.FinMap.{FinMap, empty, get, values, get-empty}
use Rattle.std.specs.List.{cons_option, filter_map, list_any}
use Rattle.std.specs.Option.{option_and_then}
use Rattle.std.specs.Prelude.{IfSome}
use Rattle.raven_base.specs.Counts.{Counts}
use Rattle.spec_data.specs.Folding.{folded, key_cmp, same_key}
use Rattle.spec_data.specs.Rows.{Row}
use Rattle.spec_data.specs.Tables.{Table, note_rows}
use Rattle.index_tree.specs.Definitions.{Definition}
use Rattle.index_tree.specs.Mapper.{Mapper, mapper_of}
use Rattle.index_tree.specs.Meaning.{Fields, Outcome, Entry, NoEntry, Failed}
use Rattle.index_tree.specs.declared.reduce_query.ReduceQuery.{ReduceQuery}
use Rattle.spec_index.specs.Mapping.{entry_of, touched}
use Rattle.spec_index.specs.World.{Version}
use Rattle.spec_index.specs.Rows.{group, reduced}
use Rattle.paged_map.specs.Merges.{MergesAtMost}
use Rattle.reference_track.specs.Sets.{AreInOrder}
use Rattle.reference_track.specs.Tracks.{Track}
use Rattle.index_groups.specs.Groups.{AreSmall, Entries, Grouped}
use Rattle.reference_track.specs.Folded.{by_folded}
use Rattle.index_version.specs.Kept.{AreKept, Given, entry_given, given_at}
use Rattle.index_version.specs.Reduced.{AreReduced, AreSmallBy, HasEntries, HasSmallGroups, KeepCollections, entries_at, entries_of, fields_given, no_entries, reduce_of, rows_by, with_entry}
use Rattle.index_version.specs.Renewed.{AreRenewed}
use Rattle.index_version.proofs.Keeping.{entries_kept}
use Rattle.index_version.proofs.Ordered.{values_derived}
use Rattle.index_version.proofs.GroupChanges.{few_entries}
use Rattle.index_version.proofs.Touching.{AreTouched, few, mapped_touched, once, touched_before}

-- THE ENTRIES

abbrev outcome_entry : Outcome → Option Fields
outcome_entry (Entry fields) = Some fields
outcome_entry NoEntry = None
outcome_entry Failed = None

abbrev given_entry : Given → Option Fields
given_entry g = outcome_entry g.mapped.outcome

one_given : (g : Given) → option_map fields_given (with_entry (Some g)) ≡ given_entry g
one_given g = elim g.mapped.outcome as (λ o. option_map fields_given (with_entry (Some (let h : Given = record { id = g.id; mapped = record { outcome = o; loads = g.mapped.loads } } in h))) ≡ outcome_entry o) [
  | Entry fields ↦ refl
  | NoEntry ↦ refl
  | Failed ↦ refl
]

all_given : (o : Option Given) → option_map fields_given (with_entry o) ≡ option_and_then given_entry o
all_given None = refl
all_given (Some g) = one_given g

fields_only : (gs : List Given) → filter_map given_entry gs ≡ map (λ e. e.1) (filter_map entry_given gs)
fields_only [] = refl
fields_only (g ∷ gs) = by g.mapped.outcome (fields_only gs)
  where
    by : (o : Outcome) → filter_map given_entry gs ≡ map (λ e. e.1) (filter_map entry_given gs) → cons_option (outcome_entry o) (filter_map given_entry gs) ≡ map (λ e. e.1) (cons_option (entry_of g.id o) (filter_map entry_given gs))
    by (Entry fields) h = ap (λ l. fields ∷ l) h
    by NoEntry h = h
    by Failed h = h

-- the entries in groups are those from scratch, in their order
pub entries_are : (d : Definition) (T : Table) (G : FinMap key_cmp Given) (L : Track) (g : Grouped) → AreKept (mapper_of d) T G L → HasEntries G g → values g.entries ≡ entries_of d T
entries_are d T G L g kept has =
    values_derived given_entry G g.entries (λ q. has q ∙ all_given (get G q)) ∙ fields_only (values G) ∙ ap (map (λ e. e.1)) (entries_kept (mapper_of d) T G L kept)

-- THE GROUPS

pub nothing_grouped : (query : Option ReduceQuery) (G : FinMap key_cmp Given) (groups : Option Grouped) → G ≡ empty → groups ≡ option_map no_entries query → AreReduced query G groups
nothing_grouped query G groups none is = subst (AreReduced query G) (sym is) (by query)
  where
    no_entry : (q : List ℕ) → get (let E : Entries = empty in E) q ≡ option_map fields_given (with_entry (get G q))
    no_entry q = get-empty key_cmp q ∙ sym (ap (λ o. option_map fields_given (with_entry o)) (ap (λ (M : FinMap key_cmp Given). get M q) none ∙ get-empty key_cmp q))

    by : (o : Option ReduceQuery) → AreReduced o G (option_map no_entries o)
    by None = record { queries = refl; entries = tt }
    by (Some query) = record { queries = refl; entries = no_entry }

-- the query of groups that are there is that of the definition
query_is : (query : Option ReduceQuery) (g : Grouped) → option_map (λ g. g.query) (Some g) ≡ query → query ≡ Some g.query
query_is query g e = sym e

pub rows_grouped : (d : Definition) (T : Table) (G : FinMap key_cmp Given) (L : Track) (query : Option ReduceQuery) (groups : Option Grouped) (g : Grouped) → AreKept (mapper_of d) T G L → AreReduced query G groups → groups ≡ Some g
    → reduced g.query (values g.entries) ≡ rows_by query (entries_of d T)
rows_grouped d T G L query groups g kept is some =
    let all : AreReduced query G (Some g) = subst (AreReduced query G) some is in
    ap (reduced g.query) (entries_are d T G L g kept all.entries) ∙ ap (λ (q : Option ReduceQuery). rows_by q (entries_of d T)) (all.queries)

pub rows_ungrouped : (d : Definition) (T : Table) (G : FinMap key_cmp Given) (query : Option ReduceQuery) (groups : Option Grouped) → AreReduced query G groups → groups ≡ None → [] ≡ rows_by query (entries_of d T)
rows_ungrouped d T G query groups is none =
    let all : AreReduced query G None = subst (AreReduced query G) none is in
    ap (λ (q : Option ReduceQuery). rows_by q (entries_of d T)) all.queries

pub small_groups : (d : Definition) (T : Table) (G : FinMap key_cmp Given) (L : Track) (query : Option ReduceQuery) (groups : Option Grouped) → AreKept (mapper_of d) T G L → AreReduced query G groups → (h : ℕ) → AreSmallBy h query (entries_of d T) → IfSome groups (AreSmall h)
small_groups d T G L query groups kept is h small = by groups is
  where
    by : (o : Option Grouped) → AreReduced query G o → IfSome o (AreSmall h)
    by None all = tt
    by (Some g) all =
        let own : AreSmallBy h (Some g.query) (entries_of d T) = subst (λ q. AreSmallBy h q (entries_of d T)) (sym all.queries) small in
        λ key. subst (λ es. length (group g.query.key key es) ≤ 16 ^ h) (sym (entries_are d T G L g kept all.entries)) (own key)

-- HOW MANY ENTRIES CHANGE

filtered_long : (p : List ℕ → Bool) (xs : List (List ℕ)) → length (filter p xs) ≤ length xs
filtered_long p [] = omega arith
filtered_long p (x ∷ xs) = by (p x) (filtered_long p xs)
  where
    by : (b : Bool) → length (filter p xs) ≤ length xs → length (cond b (x ∷ filter p xs) (filter p xs)) ≤ length (x ∷ xs)
    by true h = omega (arith, h)
    by false h = omega (arith, h)

module _ (m : Mapper) (T : Table) (L : Track) (rows : List Row) (ids : List (List ℕ)) where
  -- of what was given before
  pub few_gone : (before : List (List ℕ × Given)) → AreKept m T (by_folded before) L → AreTouched L rows ids → AreInOrder ids → KeepCollections m T rows → length (entries_at before ids) ≤ length (touched m T rows)
  few_gone before kept are order keeps =
      let mine = few_entries m T before kept.results ids in
      let some = few (λ q. is_some (given_at m T q)) (map folded ids) (touched m T rows) (once ids order) (touched_before m T (by_folded before) L rows ids kept are keeps) in
      let all = filtered_long (λ q. is_some (given_at m T q)) (touched m T rows) in
      omega (arith, mine, some, all)

  -- of what is given after
  pub few_come : (before after : List (List ℕ × Given)) → AreKept m T (by_folded before) L → AreTouched L rows ids → AreInOrder ids → ((q : List ℕ) → get (by_folded after) q ≡ given_at m (note_rows T rows) q) → length (entries_at after ids) ≤ length (touched m T rows)
  few_come before after kept are order given =
      let mine = few_entries m (note_rows T rows) after given ids in
      let some = few (λ q. is_some (given_at m (note_rows T rows) q)) (map folded ids) (touched m T rows) (once ids order) (mapped_touched m T (by_folded before) L rows ids kept are) in
      let all = filtered_long (λ q. is_some (given_at m (note_rows T rows) q)) (touched m T rows) in
      omega (arith, mine, some, all)

-- WHAT IS COUNTED

-- groups that are not there cost nothing
pub ungrouped : (query : Option ReduceQuery) (G : FinMap key_cmp Given) (groups : Option Grouped) → AreReduced query G groups → query ≡ None → groups ≡ None
ungrouped query G groups is none = by groups (is.queries ∙ none)
  where
    by : (o : Option Grouped) → option_map (λ g. g.query) o ≡ None → o ≡ None
    by None e = refl
    by (Some g) e = absurd (cc e)

-- only what is given for these ids has changed
pub others_taken : (m : Mapper) (N : Table) (ids : List (List ℕ)) (G H : FinMap key_cmp Given) → AreRenewed m N ids G H → (q : List ℕ) → list_any (same_key q) ids ≡ false → get H q ≡ get G q
others_taken m N ids G H renewed q none = renewed q ∙ ap (λ b. cond b (given_at m N q) (get G q)) none

-- the groups are of the reduce of the new definition, which is the old one
pub reduced_taken : (d shared : Definition) (before after : List (List ℕ × Given)) (groups new : Option Grouped) → AreReduced (reduce_of d) (by_folded before) groups → shared ≡ d → option_map (λ g. g.query) new ≡ option_map (λ g. g.query) groups
    → IfSome new (HasEntries (by_folded after)) → AreReduced (reduce_of shared) (by_folded after) new
reduced_taken d shared before after groups new is same queries entries = record { queries = queries ∙ is.queries ∙ ap reduce_of (sym same); entries = entries }

-- without a reduce nothing is merged
pub plain_taken : (d : Definition) (w : Version) (G : FinMap key_cmp Given) (groups : Option Grouped) (old middle new : ℕ) → AreReduced (reduce_of d) G groups → d ≡ w.definition → (groups ≡ None → new ≡ middle)
    → middle ≡ old → reduce_of w.definition ≡ None → new ≡ old
plain_taken d w G groups old middle new is same costs counted none = costs (ungrouped (reduce_of d) G groups is (ap reduce_of same ∙ none)) ∙ counted

pub merges_taken : (v w x : Version) (before after : List (List ℕ × Given)) (L M : Track) (rows : List Row) (ids items : List (List ℕ)) (groups new : Option Grouped) (old middle end : Counts) → v ≡ w
    → AreKept (mapper_of v.definition) v.table (by_folded before) L → AreTouched L rows ids → AreInOrder ids → items ≡ ids → x.definition ≡ v.definition → x.table ≡ note_rows v.table rows → AreKept (mapper_of x.definition) x.table (by_folded after) M
    → AreReduced (reduce_of v.definition) (by_folded before) groups → AreReduced (reduce_of x.definition) (by_folded after) new → middle.merges ≡ old.merges
    → ((m h : ℕ) → length (entries_at before items) ≤ m → length (entries_at after items) ≤ m → 1 ≤ h → IfSome groups (AreSmall h) → IfSome new (AreSmall h) → MergesAtMost (128 * m * (h + 1)) middle end)
    → (h : ℕ) → 1 ≤ h → KeepCollections (mapper_of w.definition) w.table rows → HasSmallGroups h w → HasSmallGroups h x → end.merges ≤ old.merges + 128 * length (touched (mapper_of w.definition) w.table rows) * (h + 1)
merges_taken v w x before after L M rows ids items groups new old middle end same kept are order listed defined noted kept_too is is_too unmerged told h one =
    subst (λ (u : Version). KeepCollections (mapper_of u.definition) u.table rows → HasSmallGroups h u → HasSmallGroups h x → end.merges ≤ old.merges + 128 * length (touched (mapper_of u.definition) u.table rows) * (h + 1)) same bound
  where
    given : (q : List ℕ) → get (by_folded after) q ≡ given_at (mapper_of v.definition) (note_rows v.table rows) q
    given q = kept_too.results q ∙ ap (λ d. given_at (mapper_of d) x.table q) defined ∙ ap (λ (T : Table). given_at (mapper_of v.definition) T q) noted

    bound : KeepCollections (mapper_of v.definition) v.table rows → HasSmallGroups h v → HasSmallGroups h x → end.merges ≤ old.merges + 128 * length (touched (mapper_of v.definition) v.table rows) * (h + 1)
    bound keeps small small_too =
        let m = length (touched (mapper_of v.definition) v.table rows) in
        let gone : length (entries_at before items) ≤ m = subst (λ xs. length (entries_at before xs) ≤ m) (sym listed) (few_gone (mapper_of v.definition) v.table L rows ids before kept are order keeps) in
        let come : length (entries_at after items) ≤ m = subst (λ xs. length (entries_at after xs) ≤ m) (sym listed) (few_come (mapper_of v.definition) v.table L rows ids before after kept are order given) in
        let told_of = told m h gone come one (small_groups v.definition v.table (by_folded before) L (reduce_of v.definition) groups kept is h small)
        (small_groups x.definition x.table (by_folded after) M (reduce_of x.definition) new kept_too is_too h small_too) in
        omega (arith, told_of.merges, unmerged)
