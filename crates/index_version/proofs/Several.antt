-- The groups of several versions have the entries of all.
use Rattle.std.proofs.Common.{◌≡◌, ◌<◌, ◌+◌, ◌^◌, ℕ, Bor, Option, Some, None, List, [], ◌∷◌, ◌++◌, length, map, flat_map, option_map, refl, sym, ap, subst, ◌∙◌, arith}
use Rattle.std.specs.FinMap.{FinMap, values}
use Rattle.std.specs.Option.{unwrap_or}
use Rattle.std.proofs.lemmas.List.{append-nil, length-append, map-append}
use Rattle.std.proofs.lemmas.List.Concat.{flat_map-append}
use Rattle.spec_data.specs.Folding.{key_cmp}
use Rattle.spec_data.specs.Tables.{Table}
use Rattle.index_tree.specs.Definitions.{Definition}
use Rattle.index_tree.specs.Mapper.{mapper_of}
use Rattle.index_tree.specs.Meaning.{Fields}
use Rattle.index_tree.specs.declared.reduce_query.ReduceQuery.{ReduceQuery}
use Rattle.spec_index.specs.Rows.{reduced}
use Rattle.spec_index.specs.World.{Version}
use Rattle.index_groups.specs.Groups.{Grouped}
use Rattle.index_groups.specs.Together.{AreBy}
use Rattle.index_groups.specs.Together as groups
use Rattle.reference_track.specs.Tracks.{Track}
use Rattle.index_version.specs.Entries.{all_entries}
use Rattle.index_version.specs.Kept.{AreKept, Given}
use Rattle.index_version.specs.Named.{NamedVersion}
use Rattle.index_version.specs.Reduced.{AreReduced, entries_of, reduce_of}
use Rattle.index_version.specs.Together.{AreIn, HaveReduce, entries_together, in_groups, in_version, with_entries}
use Rattle.index_version.proofs.Reducing.{entries_are}

pub grouped_by : (d : Definition) (T : Table) (G : FinMap key_cmp Given) (L : Track) (query : Option ReduceQuery) (groups : Option Grouped) → AreKept (mapper_of d) T G L → AreReduced query G groups
    → option_map in_groups groups ≡ option_map (with_entries (entries_of d T)) query
grouped_by d T G L query groups kept is = by groups is
  where
    by : (o : Option Grouped) → AreReduced query G o → option_map in_groups o ≡ option_map (with_entries (entries_of d T)) query
    by None all = ap (option_map (with_entries (entries_of d T))) all.queries
    by (Some g) all = ap (λ es. Some (with_entries es g.query)) (entries_are d T G L g kept all.entries) ∙ ap (option_map (with_entries (entries_of d T))) all.queries

-- ONE MORE VERSION

have_front : (query : ReduceQuery) (vs : List Version) (v : Version) → HaveReduce query (vs ++ v ∷ []) → HaveReduce query vs
have_front query [] v h = tt
have_front query (w ∷ vs) v h = (h.0, have_front query vs v h.1)

have_last : (query : ReduceQuery) (vs : List Version) (v : Version) → HaveReduce query (vs ++ v ∷ []) → reduce_of v.definition ≡ Some query
have_last query [] v h = h.0
have_last query (w ∷ vs) v h = have_last query vs v h.1

by_more : (query : ReduceQuery) (gs : List Grouped) (g : Grouped) → AreBy query gs → g.query ≡ query → AreBy query (gs ++ g ∷ [])
by_more query [] g a e = (e, tt)
by_more query (h ∷ gs) g a e = (a.0, by_more query gs g a.1 e)

one_more : (vs : List Version) (v : Version) → entries_together (vs ++ v ∷ []) ≡ entries_together vs ++ all_entries v
one_more vs v = flat_map-append all_entries vs (v ∷ []) ∙ ap (λ es. entries_together vs ++ es) (append-nil (all_entries v))

pub group_more : (gs : List Grouped) (vs : List Version) (v : Version) (g : Grouped) → Some (in_groups g) ≡ in_version v → AreIn gs vs → AreIn (gs ++ g ∷ []) (vs ++ v ∷ [])
group_more gs vs v g e before = λ query has.
    let own : Some (in_groups g) ≡ Some (with_entries (entries_of v.definition v.table) query) = e ∙ ap (option_map (with_entries (entries_of v.definition v.table))) (have_last query vs v has) in
    let pair : in_groups g ≡ with_entries (entries_of v.definition v.table) query = ap (λ (o : Option (ReduceQuery × List Fields)). unwrap_or o (in_groups g)) own in
    let is = before query (have_front query vs v has) in (
      by_more query gs g is.0 (ap (λ (p : ReduceQuery × List Fields). p.0) pair),
      flat_map-append (λ (x : Grouped). values x.entries) gs (g ∷ []) ∙ ap (λ es. groups.all_entries gs ++ es) (append-nil (values g.entries) ∙ ap (λ (p : ReduceQuery × List Fields). p.1) pair)
          ∙ ap (λ es. es ++ entries_of v.definition v.table) is.1
          ∙ sym (map-append (λ (x : List ℕ × Fields). x.1) (entries_together vs) (all_entries v)) ∙ ap (map (λ (x : List ℕ × Fields). x.1)) (sym (one_more vs v)),
    )

pub none_more : (gs : List Grouped) (vs : List Version) (v : Version) → None ≡ in_version v → AreIn gs (vs ++ v ∷ [])
none_more gs vs v e = λ query has.
    let none : ◌≡◌ {A = Option (ReduceQuery × List Fields)} None (Some (with_entries (entries_of v.definition v.table) query)) = e ∙ ap (option_map (with_entries (entries_of v.definition v.table))) (have_last query vs v has) in
    absurd (cc none)

pub count_more : (vs : List Version) (v : Version) (n m : ℕ) → n ≡ length (entries_together vs) → m ≡ n + length (all_entries v) → m ≡ length (entries_together (vs ++ v ∷ []))
count_more vs v n m e h = omega (arith, e, h, length-append (entries_together vs) (all_entries v), ap length (one_more vs v))

-- THE ROWS

abbrev seen : List (Bor Grouped) → List Grouped
seen ps = map (λ (p : Bor Grouped). p.now) ps

pub rows_are : (ps gs : List (Bor Grouped)) (vs : List Version) (rows : List Fields) (count : ℕ) → ps ≡ gs → AreIn (seen gs) vs → count ≡ length (entries_together vs) → count < 2 ^ 64
    → ((query : ReduceQuery) → AreBy query (seen ps) → length (groups.all_entries (seen ps)) < 2 ^ 64 → rows ≡ reduced query (groups.all_entries (seen ps)))
    → (query : ReduceQuery) → HaveReduce query vs → rows ≡ reduced query (map (λ e. e.1) (entries_together vs))
rows_are ps gs vs rows count same are counted few told query has =
    let is : AreBy query (seen ps) × (groups.all_entries (seen ps) ≡ map (λ e. e.1) (entries_together vs)) = subst (λ (xs : List (Bor Grouped)). AreBy query (seen xs) × (groups.all_entries (seen xs) ≡ map (λ e. e.1) (entries_together vs))) (sym same) (are query has) in
    let long : length (groups.all_entries (seen ps)) ≡ length (entries_together vs) = ap length is.1 ∙ length-map (λ (e : List ℕ × Fields). e.1) (entries_together vs) in
    told query is.0 (omega (arith, long, counted, few)) ∙ ap (reduced query) is.1
  where
    length-map : {A B : Type 0} (f : A → B) (xs : List A) → length (map f xs) ≡ length xs
    length-map f [] = refl
    length-map f (x ∷ xs) = omega (arith, length-map f xs)
