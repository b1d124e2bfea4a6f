-- The groups of an index as contracts see them: what the reduce says, and the entries that are grouped.
use Rattle.std.specs.Prelude.{◌≡◌, ◌≤◌, ◌^◌, ℕ, List, [], ◌∷◌, Some, None, length, map, refl}
use Rattle.std.specs.Coded.{Coded, code_by, coded×, coded_list}
use Rattle.std.specs.FinMap.{FinMap, code, get, insert, remove, values}
use Rattle.spec_data.specs.Codes.{text_code, scalar_code}
use Rattle.spec_data.specs.Folding.{folded, key_cmp}
use Rattle.index_tree.specs.Definitions.{reduce_code}
use Rattle.index_tree.specs.Meaning.{Fields}
use Rattle.index_tree.specs.declared.reduce_query.ReduceQuery.{ReduceQuery}
use Rattle.map_stage.specs.Words.{HasWords}
use Rattle.spec_index.specs.Rows.{Key, group}

-- the fields of entries, by the folded ids of their documents
abbrev pub Entries : Type 0
Entries = FinMap key_cmp Fields

abbrev pub entries_code : Coded Entries
entries_code = code text_code (coded_list (coded× text_code scalar_code))

pub record Grouped : Type 0 where
  pub query : ReduceQuery
  pub entries : Entries

abbrev pub grouped_code : Coded Grouped
grouped_code = code_by (ReduceQuery × Entries) (coded× reduce_code entries_code) (λ g. (g.query, g.entries)) (λ p. record { query = p.0; entries = p.1 }) (λ _. refl)

-- the fields of values under ids
abbrev pub fields_of : {V : Type 0} → (V → Fields) → List (List ℕ × V) → List (List ℕ × Fields)
fields_of fields es = map (λ e. (e.0, fields e.1)) es

-- CHANGES

-- the entries without those at these ids, and with these
abbrev pub without_all : Entries → List (List ℕ × Fields) → Entries
without_all entries [] = entries
without_all entries (c ∷ cs) = without_all (remove entries (folded c.0)) cs

abbrev pub with_all : Entries → List (List ℕ × Fields) → Entries
with_all entries [] = entries
with_all entries (c ∷ cs) = with_all (insert entries (folded c.0) c.1) cs

-- each of these is an entry, and none comes twice
abbrev pub AreThere : Entries → List (List ℕ × Fields) → Type 0
AreThere entries [] = Unit {0}
AreThere entries (c ∷ cs) = (get entries (folded c.0) ≡ Some c.1) × AreThere (remove entries (folded c.0)) cs

-- none of these ids has an entry, and none comes twice
abbrev pub AreNew : Entries → List (List ℕ × Fields) → Type 0
AreNew entries [] = Unit {0}
AreNew entries (c ∷ cs) = (get entries (folded c.0) ≡ None) × AreNew (insert entries (folded c.0) c.1) cs

-- each number in these has 64 bits
abbrev pub HaveWords : List (List ℕ × Fields) → Type 0
HaveWords [] = Unit {0}
HaveWords (c ∷ cs) = HasWords c.1 × HaveWords cs

-- no group has more than 16^h entries
abbrev pub AreSmall : ℕ → Grouped → Type 0
AreSmall h g = (key : Key) → length (group g.query.key key (values g.entries)) ≤ 16 ^ h
