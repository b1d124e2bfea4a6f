-- What the trees of groups have to do with the entries that are grouped.
use Rattle.std.specs.Prelude.{◌≡◌, ℕ, List, [], ◌∷◌, ◌++◌}
use Rattle.index_tree.specs.Meaning.{Fields}
use Rattle.index_tree.specs.declared.reduce_query.ReduceQuery.{ReduceQuery}
use Rattle.paged_map.specs.Pairs.{IsRising}
use Rattle.reduce_tree.specs.Tree.{Tree}
use Rattle.reduce_groups.specs.Grouping.{AreGrouped}
use Rattle.reduce_folds.specs.declared.row_fold.RowFold.{RowFold}
use Rattle.spec_index.specs.Rows.{Key, key_of, key_order}
use Rattle.index_groups.specs.Cells.{folds_of}
use Rattle.reference_track.specs.Folded.{by_folded}
use Rattle.reference_track.specs.Sets.{id_cmp}
use Rattle.index_groups.specs.Groups.{Entries, HaveWords, fields_of}

-- the entries of all trees, one tree after another
abbrev pub all_entries : {F G V : Type 0} → List (G × Tree F (List ℕ) V) → List (List ℕ × V)
all_entries [] = []
all_entries (t ∷ ts) = t.1.entries ++ all_entries ts

abbrev pub entries_in : {F G V : Type 0} → (V → Fields) → List (G × Tree F (List ℕ) V) → Entries
entries_in fields ts = by_folded (fields_of fields (all_entries ts))

-- the key of an entry's group
abbrev pub key_in : {V : Type 0} → List (List ℕ) → (V → Fields) → V → Key
key_in names fields v = key_of names (fields v)

-- an entry that is removed from its group, and one that is inserted into its group
abbrev pub removal : {V : Type 0} → List (List ℕ) → (V → Fields) → List ℕ × V → Key × List ℕ
removal names fields e = (key_of names (fields e.1), e.0)

abbrev pub insertion : {V : Type 0} → List (List ℕ) → (V → Fields) → List ℕ × V → Key × (List ℕ × V)
insertion names fields e = (key_of names (fields e.1), e)

-- the trees are those of some entries in order, whose numbers have 64 bits, and they fold what the reduce says
pub record AreIndexed {V : Type 0} (query : ReduceQuery) (fields : V → Fields) (fold : RowFold) (trees : List (Key × Tree RowFold (List ℕ) V)) : Type 0 where
  pub folds : fold.fields ≡ folds_of query.members
  pub all : List (List ℕ × V)
  pub rising : IsRising id_cmp all
  pub grouped : AreGrouped key_order (key_in query.key fields) all trees
  pub words : HaveWords (fields_of fields all)
