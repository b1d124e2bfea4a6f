-- What a map gives from scratch, and which documents a batch maps again.
use Rattle.std.specs.Prelude.{◌≡◌, ℕ, List, [], ◌∷◌, ◌++◌, Bool, true, false, not, ◌&&◌, if◌then◌else◌, Option, Some, None, is_some, filter, map}
use Rattle.std.specs.List.{list_any, filter_map, count_by}
use Rattle.std.specs.Option.{option_and_then}
use Rattle.std.specs.FinMap.{FinMap, get, values, insert, remove}
use Rattle.spec_data.specs.Folding.{key_cmp}
use Rattle.spec_data.specs.Rows.{Row, key}
use Rattle.spec_store.specs.Store.{row_at}
use Rattle.spec_data.specs.Tables.{Table}
pub use Rattle.index_tree.specs.Meaning.{Fields, Outcome, Entry, NoEntry, Failed, Mapped}
use Rattle.index_tree.specs.Mapper.{Mapper, is_mapped}

-- what the map gives for the document that the table has under an id, if it is mapped
abbrev pub result_of : Mapper → Table → List ℕ → Option Mapped
result_of m T q = option_and_then (λ d. if is_mapped m d then Some (m.meaning d T) else None) (get T q)

-- FROM SCRATCH: the mapped documents in order of their folded ids, their entries under their ids, and the number that failed

abbrev pub mapped_documents : Mapper → Table → List Row
mapped_documents m T = filter (is_mapped m) (values T)

abbrev pub entry_of : List ℕ → Outcome → Option (List ℕ × Fields)
entry_of id (Entry fields) = Some (id, fields)
entry_of id NoEntry = None
entry_of id Failed = None

abbrev pub scratch : Mapper → Table → List (List ℕ × Fields)
scratch m T = filter_map (λ d. entry_of d.id (m.meaning d T).outcome) (mapped_documents m T)

abbrev pub has_failed : Outcome → Bool
has_failed Failed = true
has_failed other = false

abbrev pub failures : Mapper → Table → ℕ
failures m T = count_by (λ d. has_failed (m.meaning d T).outcome) (mapped_documents m T)

-- WHAT A BATCH TOUCHES: the mapped documents that it takes, and those that look up a taken id

abbrev pub is_in_batch : List Row → List ℕ → Bool
is_in_batch rows q = is_some (row_at q rows)

abbrev pub loads_taken : Mapper → Table → List Row → Row → Bool
loads_taken m T rows d = list_any (is_in_batch rows) (m.meaning d T).loads

abbrev pub touched : Mapper → Table → List Row → List (List ℕ)
touched m T rows =
    map key (filter (is_mapped m) rows)
    ++ map key (filter (λ d. is_mapped m d && loads_taken m T rows d && not (is_in_batch rows (key d))) (values T))

-- what the map gave for each document, by folded id
abbrev pub Results : Type 0
Results = FinMap key_cmp Mapped

abbrev pub set_result : Option Mapped → Results → List ℕ → Results
set_result None K q = remove K q
set_result (Some r) K q = insert K q r

-- the results after these ids are mapped again, and no others
abbrev pub remapped : Mapper → Table → List (List ℕ) → Results → Results
remapped m T [] K = K
remapped m T (q ∷ qs) K = remapped m T qs (set_result (result_of m T q) K q)

-- the results are exactly what the map gives over the table from scratch
abbrev pub AreResults : Mapper → Table → Results → Type 0
AreResults m T K = (q : List ℕ) → get K q ≡ result_of m T q
