-- The entries of an index under the ids of their documents, and their terms.
use Rattle.std.specs.Prelude.{◌≡◌, ℕ, List, Bool, true, false, Option, find, map}
use Rattle.std.specs.Ordering.{is_lt}
use Rattle.std.specs.Option.{option_and_then, option_map_or}
use Rattle.spec_data.specs.Folding.{folded, key_cmp, same_key}
use Rattle.index_tree.specs.Meaning.{Fields, field_named}
use Rattle.spec_query.specs.Condition.{Condition, meets}
use Rattle.reference_track.specs.Sets.{AreInOrder}
use Rattle.term_index.specs.Columns.{Columns, value_at}

abbrev pub EntryList : Type 0
EntryList = List (List ℕ × Fields)

abbrev pub ids_of : EntryList → List (List ℕ)
ids_of entries = map (λ e. e.0) entries

-- the entry of a folded id, if there is one
abbrev pub entry_at : List ℕ → EntryList → Option (List ℕ × Fields)
entry_at q entries = find (λ e. same_key q (folded e.0)) entries

-- the id is past a folded id, as each is if there is none
abbrev pub is_past : Option (List ℕ) → List ℕ → Bool
is_past after id = option_map_or (λ q. is_lt (key_cmp q (folded id))) after true

-- there is an entry, and it meets the condition
abbrev pub is_met : Condition → Bool → Option (List ℕ × Fields) → Bool
is_met c exact entry = option_map_or (λ e. meets c exact e.1) entry false

-- the entries are in the order of their folded ids, and the terms have the values of each entry under its folded id, and no others
pub record AreTermsOf (entries : EntryList) (terms : Columns) : Type 0 where
  pub order : AreInOrder (ids_of entries)
  pub values : (field q : List ℕ) → value_at field q terms ≡ option_and_then (λ e. field_named field e.1) (entry_at q entries)
