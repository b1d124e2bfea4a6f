-- The entries from scratch are found under their ids, and by their terms.
use Rattle.std.proofs.Common.{◌≡◌, ℕ, List, [], ◌∷◌, Bool, true, false, cond, ◌||◌, Option, Some, None, filter, is_some, find, map, refl, sym, ap, ◌∙◌, subst}
use Rattle.std.specs.declared.cmp.Ordering.TheVariants.{Less, Equal, Greater}
use Rattle.std.specs.FinMap.{FinMap, get, entries, find as found_at, get-entries}
use Rattle.std.specs.List.{cons_option, filter_map, list_any, slice_get}
use Rattle.std.specs.Map.{lookup, values_of}
use Rattle.std.specs.Option.{option_and_then, option_map_or}
use Rattle.std.specs.Ordering.{is_eq, is_lt}
use Rattle.std.specs.Str.{bytes_eq}
use Rattle.std.proofs.lemmas.Slice.Eq.{bytes_eq-Decides}
use Rattle.spec_data.specs.Folding.{folded, key_cmp, same_key}
use Rattle.spec_data.specs.Rows.{Row, key}
use Rattle.spec_data.specs.Tables.{Table}
use Rattle.spec_store.proofs.StoreLemmas.{same_itself}
use Rattle.spec_store.proofs.TableLemmas.{tied}
use Rattle.index_tree.specs.Mapper.{Mapper, is_mapped, mapper_of}
use Rattle.index_tree.specs.Meaning.{Fields, Outcome, Entry, NoEntry, Failed, field_named}
use Rattle.index_definition.specs.DefinitionView.{definition_view}
use Rattle.index_definition.specs.Reading.{fields}
use Rattle.index_definition.specs.declared.definition.DefBody.{DefBody}
use Rattle.spec_index.specs.Mapping.{entry_of, scratch}
use Rattle.paged_map.specs.Pairs.{AllAnswer, IsRising}
use Rattle.reference_track.specs.Folded.{folded_entries}
use Rattle.reference_track.specs.Sets.{AreInOrder, IsBelowAll}
use Rattle.reference_track.specs.Tracks.{Track}
use Rattle.term_index.specs.Columns.{Columns, HasFields, value_at, value_of}
use Rattle.index_version.specs.Entries.{is_past}
use Rattle.index_version.specs.Kept.{AreKept, Given, entry_given, given_of, outcome_fields}
use Rattle.index_version.specs.Reduced.{reduce_of}
use Rattle.index_version.specs.Termed.{AreTermed, given_fields, names_of}
use Rattle.index_version.proofs.FieldNames.{not_in_entry}
use Rattle.index_version.proofs.Keeping.{entries_kept}
use Rattle.index_version.proofs.Ordered.{derived, derived-found, derived-rising, derived-values, entries_rise, in_front, none_past}

abbrev EntryPair : Type 0
EntryPair = List ℕ × Fields

-- UNDER ITS OWN ID

abbrev pub AreOwn : List (List ℕ × Given) → Type 0
AreOwn [] = Unit {0}
AreOwn (e ∷ es) = (folded e.1.id ≡ e.0) × AreOwn es

all_own : (es : List (List ℕ × Given)) → IsRising key_cmp es → ((q : List ℕ) (g : Given) → found_at key_cmp q es ≡ Some g → folded g.id ≡ q) → AreOwn es
all_own [] up own = tt
all_own (e ∷ es) up own = (
  own e.0 e.1 (ap (λ b. cond b (Some e.1) (found_at key_cmp e.0 es)) (tied e.0 e.0 ∙ same_itself e.0)),
  all_own es up.1 (λ q g h. own q g (elim (key_cmp q e.0) as (λ r. key_cmp q e.0 ≡ r → cond (is_eq r) (Some e.1) (found_at key_cmp q es) ≡ Some g) [
    | Less ↦ λ t. h
    | Equal ↦ λ t. let none = none_past q e.0 es t up.0 in absurd cc
    | Greater ↦ λ t. h
  ] refl)),
)

own_id : (m : Mapper) (T : Table) (G : FinMap key_cmp Given) (L : Track) → AreKept m T G L → (q : List ℕ) (g : Given) → get G q ≡ Some g → folded g.id ≡ q
own_id m T G L kept q g h =
    elim (get T q) as (λ o. get T q ≡ o → option_and_then (given_of m T) o ≡ Some g → folded g.id ≡ q) [
      | None ↦ λ t is. absurd cc
      | Some d ↦ λ t is. of_row d (is_mapped m d) is ∙ sym (kept.filed q d t)
    ] refl (sym (kept.results q) ∙ h)
  where
    of_row : (d : Row) (b : Bool) → cond b (Some (let r : Given = record { id = d.id; mapped = m.meaning d T } in r)) None ≡ Some g → folded g.id ≡ key d
    of_row d true is = let same : (let r : Given = record { id = d.id; mapped = m.meaning d T } in r) ≡ g = cc in ap (λ (x : Given). folded x.id) (sym same)
    of_row d false is = absurd cc

-- THE ENTRIES UNDER THEIR IDS

abbrev HaveIds : List (List ℕ × EntryPair) → Type 0
HaveIds [] = Unit {0}
HaveIds (p ∷ ps) = (folded p.1.0 ≡ p.0) × HaveIds ps

ids_on : (k : List ℕ) (g : Given) (ps : List (List ℕ × EntryPair)) → folded g.id ≡ k → HaveIds ps → HaveIds (in_front entry_given k (entry_given g) ps)
ids_on k g ps own ids = by g.mapped.outcome
  where
    by : (o : Outcome) → HaveIds (in_front entry_given k (entry_of g.id o) ps)
    by (Entry fs) = (own, ids)
    by NoEntry = ids
    by Failed = ids

have_ids : (es : List (List ℕ × Given)) → AreOwn es → HaveIds (derived entry_given es)
have_ids [] own = tt
have_ids (e ∷ es) own = ids_on e.0 e.1 (derived entry_given es) own.0 (have_ids es own.1)

by_values : (q : List ℕ) (ps : List (List ℕ × EntryPair)) → HaveIds ps → find (λ (e : EntryPair). same_key q (folded e.0)) (values_of ps) ≡ found_at key_cmp q ps
by_values q [] ids = refl
by_values q (p ∷ ps) ids =
    ap (λ k. cond (same_key q k) (Some p.1) (find (λ (e : EntryPair). same_key q (folded e.0)) (values_of ps))) ids.0
    ∙ ap (λ b. cond b (Some p.1) (find (λ (e : EntryPair). same_key q (folded e.0)) (values_of ps))) (sym (tied q p.0))
    ∙ ap (cond (is_eq (key_cmp q p.0)) (Some p.1)) (by_values q ps ids.1)

below_values : (x k : List ℕ) (ps : List (List ℕ × EntryPair)) → folded x ≡ k → AllAnswer key_cmp k Less ps → HaveIds ps → IsBelowAll x (map (λ (e : EntryPair). e.0) (values_of ps))
below_values x k [] is below ids = tt
below_values x k (p ∷ ps) is below ids = (ap (key_cmp (folded x)) ids.0 ∙ ap (λ y. key_cmp y p.0) is ∙ below.0, below_values x k ps is below.1 ids.1)

values_in_order : (ps : List (List ℕ × EntryPair)) → IsRising key_cmp ps → HaveIds ps → AreInOrder (map (λ (e : EntryPair). e.0) (values_of ps))
values_in_order [] up ids = tt
values_in_order (p ∷ ps) up ids = (below_values p.1.0 p.0 ps ids.0 up.0 ids.1, values_in_order ps up.1 ids.1)

module _ (m : Mapper) (T : Table) (G : FinMap key_cmp Given) (L : Track) (kept : AreKept m T G L) where
  pub own : AreOwn (entries G)
  own = all_own (entries G) (entries_rise G) (λ q g h. own_id m T G L kept q g (get-entries G q ∙ h))

  from_scratch : values_of (derived entry_given (entries G)) ≡ scratch m T
  from_scratch = derived-values entry_given (entries G) ∙ entries_kept m T G L kept

  -- the entry of a folded id is that which is kept for it
  pub entry_found : (q : List ℕ) → find (λ (e : EntryPair). same_key q (folded e.0)) (scratch m T) ≡ option_and_then entry_given (get G q)
  entry_found q =
      ap (find (λ (e : EntryPair). same_key q (folded e.0))) (sym from_scratch)
      ∙ by_values q (derived entry_given (entries G)) (have_ids (entries G) own)
      ∙ derived-found entry_given q (entries G) (entries_rise G)
      ∙ ap (option_and_then entry_given) (sym (get-entries G q))

  pub entries_in_order : AreInOrder (map (λ (e : EntryPair). e.0) (scratch m T))
  entries_in_order = subst (λ es. AreInOrder (map (λ (e : EntryPair). e.0) es)) from_scratch
      (values_in_order (derived entry_given (entries G)) (derived-rising entry_given (entries G) (entries_rise G)) (have_ids (entries G) own))

-- the first entry of those that are kept past an id is the first past it
module _ (q : Option (List ℕ)) where
  past_own : (x k : List ℕ) → folded x ≡ k → is_past q x ≡ option_map_or (λ r. is_lt (key_cmp r k)) q true
  past_own x k is = ap (λ f. option_map_or (λ r. is_lt (key_cmp r f)) q true) is

  pub first_past : (pairs : List (List ℕ × Given)) → AreOwn (folded_entries pairs) → slice_get (filter_map entry_given (values_of (filter (λ e. is_past q e.0) pairs))) 0 ≡ find (λ (e : EntryPair). is_past q e.0) (filter_map entry_given (values_of pairs))
  first_past [] _ = refl
  first_past (e ∷ es) under =
      let here = past_own e.1.id (folded e.0) under.0 in
      let rest = first_past es under.1 in
      elim (is_past q e.0) as (λ b. is_past q e.0 ≡ b → slice_get (filter_map entry_given (values_of (cond b (e ∷ filter (λ e. is_past q e.0) es) (filter (λ e. is_past q e.0) es)))) 0 ≡ find (λ (e : EntryPair). is_past q e.0) (cons_option (entry_given e.1) (filter_map entry_given (values_of es)))) [
        | true ↦ λ h. kept e.1.mapped.outcome (here ∙ h) rest
        | false ↦ λ h. passed e.1.mapped.outcome (here ∙ h) rest
      ] refl
    where
      kept : (o : Outcome) → is_past q e.1.id ≡ true → slice_get (filter_map entry_given (values_of (filter (λ e. is_past q e.0) es))) 0 ≡ find (λ (e : EntryPair). is_past q e.0) (filter_map entry_given (values_of es))
          → slice_get (cons_option (entry_of e.1.id o) (filter_map entry_given (values_of (filter (λ e. is_past q e.0) es)))) 0 ≡ find (λ (e : EntryPair). is_past q e.0) (cons_option (entry_of e.1.id o) (filter_map entry_given (values_of es)))
      kept (Entry fs) h rest = ap (λ b. cond b (Some (e.1.id, fs)) (find (λ (e : EntryPair). is_past q e.0) (filter_map entry_given (values_of es)))) (sym h)
      kept NoEntry h rest = rest
      kept Failed h rest = rest

      passed : (o : Outcome) → is_past q e.1.id ≡ false → slice_get (filter_map entry_given (values_of (filter (λ e. is_past q e.0) es))) 0 ≡ find (λ (e : EntryPair). is_past q e.0) (filter_map entry_given (values_of es))
          → slice_get (filter_map entry_given (values_of (filter (λ e. is_past q e.0) es))) 0 ≡ find (λ (e : EntryPair). is_past q e.0) (cons_option (entry_of e.1.id o) (filter_map entry_given (values_of es)))
      passed (Entry fs) h rest = rest ∙ ap (λ b. cond b (Some (e.1.id, fs)) (find (λ (e : EntryPair). is_past q e.0) (filter_map entry_given (values_of es)))) (sym h)
      passed NoEntry h rest = rest
      passed Failed h rest = rest

-- BY THEIR TERMS

value-named : (name : List ℕ) (fs : Fields) → value_of name fs ≡ field_named name fs
value-named name [] = refl
value-named name (f ∷ fs) = ap (cond (bytes_eq name f.0) (Some f.1)) (value-named name fs)

value-fields : (field q : List ℕ) (fs : Fields) (columns : Columns) → HasFields q fs columns → (list_any (bytes_eq field) (names_of columns) ≡ false → field_named field fs ≡ None) → value_at field q columns ≡ field_named field fs
value-fields field q fs [] has missing = sym (missing refl)
value-fields field q fs (c ∷ columns) has missing =
    elim (bytes_eq field c.0) as (λ b. bytes_eq field c.0 ≡ b → option_and_then (λ m. get m q) (cond b (Some c.1) (lookup (bytes_eq field) columns)) ≡ field_named field fs) [
      | true ↦ λ e. has.0 ∙ (ap (λ name. value_of name fs) (sym ((bytes_eq-Decides field c.0).0 e)) ∙ value-named field fs)
      | false ↦ λ e. value-fields field q fs columns has.1 (λ none. missing (ap (λ b. b || list_any (bytes_eq field) (names_of columns)) e ∙ none))
    ] refl

of_given : (field : List ℕ) (o : Option Given) → field_named field (given_fields o) ≡ option_and_then (λ (e : EntryPair). field_named field e.1) (option_and_then entry_given o)
of_given field None = refl
of_given field (Some g) = by g.mapped.outcome
  where
    by : (o : Outcome) → field_named field (outcome_fields o) ≡ option_and_then (λ (e : EntryPair). field_named field e.1) (entry_of g.id o)
    by (Entry fs) = refl
    by NoEntry = refl
    by Failed = refl

-- a field that the definition has not is in nothing that its map gives
given_none : (field : List ℕ) (body : DefBody) (T : Table) (o : Option Row) → list_any (bytes_eq field) (fields body) ≡ false → field_named field (given_fields (option_and_then (given_of (mapper_of (definition_view body)) T) o)) ≡ None
given_none field body T None none = refl
given_none field body T (Some d) none = by (is_mapped (mapper_of (definition_view body)) d)
  where
    by_outcome : (x : Outcome) → ((mapper_of (definition_view body)).meaning d T).outcome ≡ x → field_named field (outcome_fields x) ≡ None
    by_outcome (Entry fs) is = not_in_entry field body d T fs none is
    by_outcome NoEntry is = refl
    by_outcome Failed is = refl

    by : (b : Bool) → field_named field (given_fields (cond b (Some (let r : Given = record { id = d.id; mapped = (mapper_of (definition_view body)).meaning d T } in r)) None)) ≡ None
    by true = by_outcome ((mapper_of (definition_view body)).meaning d T).outcome refl
    by false = refl

pub value_found : (body : DefBody) (T : Table) (G : FinMap key_cmp Given) (L : Track) (terms : Columns) → AreKept (mapper_of (definition_view body)) T G L → AreTermed body G terms
    → reduce_of (definition_view body) ≡ None → (field q : List ℕ) → value_at field q terms ≡ option_and_then (λ (e : EntryPair). field_named field e.1) (find (λ (e : EntryPair). same_key q (folded e.0)) (scratch (mapper_of (definition_view body)) T))
value_found body T G L terms kept are plain field q =
    value-fields field q (given_fields (get G q)) terms (are.values q) (λ none.
    ap (λ o. field_named field (given_fields o)) (kept.results q) ∙ given_none field body T (get T q) (sym (ap (list_any (bytes_eq field)) (are.names ∙ ap (λ o. cond (is_some o) [] (fields body)) plain)) ∙ none))
    ∙ of_given field (get G q)
    ∙ ap (option_and_then (λ (e : EntryPair). field_named field e.1)) (sym (entry_found (mapper_of (definition_view body)) T G L kept q))
