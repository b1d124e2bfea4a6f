-- Which indexes get a batch, which documents their batches touch, how many rows they read, and how often they merge.
use Rattle.std.specs.Prelude.{◌≡◌, ℕ, ◌+◌, ◌*◌, ◌≤◌, List, Bool, true, Option, Some, None, filter, flat_map, if◌then◌else◌, length}
use Rattle.std.specs.List.{All, sum_by}
use Rattle.raven_base.specs.Counts.{Counts}
use Rattle.spec_store.specs.Stale.{batch_rows, stale}
use Rattle.spec_store.specs.Store.{IsStore, Store}
use Rattle.index_tree.specs.Mapper.{mapper_of}
use Rattle.spec_index.specs.Mapping.{touched}
use Rattle.spec_index.specs.World.{Slot, is_named, reads}
use Rattle.spec_server.specs.Batches.{after_batch, after_batch_if_named}
use Rattle.spec_server.specs.Sound.{Fits}
use Rattle.index_version.specs.Reduced.{HasSmallGroups, reduce_of}
use Rattle.index_version.specs.Renewed.{touched_documents}

-- WHICH INDEXES

-- the indexes of which a batch is made: those that serve the name, or all if there is none
abbrev pub chosen : Option (List ℕ) → List Slot → List Slot
chosen None slots = slots
chosen (Some name) slots = filter (is_named name) slots

-- the index after its batch, or as it was if none is made of it
abbrev pub after_batch_of : Option (List ℕ) → Store → ℕ → Slot → Slot
after_batch_of None S max s = after_batch S max s
after_batch_of (Some name) S max s = after_batch_if_named S max name s

-- WHAT THEIR BATCHES COUNT

-- the documents that the next batch of an index touches
abbrev pub touched_by : Store → ℕ → Slot → List (List ℕ)
touched_by S max s = touched_documents s.version (batch_rows (reads s.version) s.version.etag S max)

-- those that the next batches of several indexes touch, one index after another: a document is there once for each index that touches it
abbrev pub touched_by_all : Store → ℕ → List Slot → List (List ℕ)
touched_by_all S max slots = flat_map (touched_by S max) slots

-- how many rows the next batch of an index reads at most: for each that it takes, and once more, one of each collection that the index reads; none if it is not stale
abbrev pub read_by : Store → ℕ → Slot → ℕ
read_by S max s =
    if stale S (reads s.version) s.version.etag None then (length (batch_rows (reads s.version) s.version.etag S max) + 1) * length (reads s.version) else 0

-- how many the next batches of several indexes read at most, one index after another
abbrev pub read_by_all : Store → ℕ → List Slot → ℕ
read_by_all S max slots = sum_by (read_by S max) slots

-- the ids that the next batches of several indexes touch, also those that have no document any more, one index after another
abbrev pub ids_touched_by_all : Store → ℕ → List Slot → List (List ℕ)
ids_touched_by_all S max slots = flat_map (λ s. touched (mapper_of s.version.definition) s.version.table (batch_rows (reads s.version) s.version.etag S max)) slots

-- no definition of these indexes has a reduce
abbrev pub HaveNoReduce : List Slot → Type 0
HaveNoReduce slots = All (λ s. reduce_of s.version.definition ≡ None) slots

-- no group of these indexes has more than 16^h entries, before their next batches and after them
abbrev pub HaveSmallGroups : ℕ → Store → ℕ → List Slot → Type 0
HaveSmallGroups h S max slots = All (λ s. HasSmallGroups h s.version × HasSmallGroups h (after_batch S max s).version) slots

-- if no group of these indexes has more than 16^h entries, at most 128·m·(h + 1) merges were counted for the m ids that their next batches touch
abbrev pub MergesFew : Store → ℕ → List Slot → Counts → Counts → Type 0
MergesFew S max slots old new = (h : ℕ) → 1 ≤ h → HaveSmallGroups h S max slots → new.merges ≤ old.merges + 128 * length (ids_touched_by_all S max slots) * (h + 1)

-- the versions of these indexes fit the store
abbrev pub AllFit : Store → List Slot → Type 0
AllFit S slots = All (λ s. Fits S s.version) slots

-- What the next batches of these indexes count at most: a map for each document that they touch, no merge without a reduce, few with one if the
-- batches were all made, and so many reads of rows.
pub record CountFew (S : Store) (max : ℕ) (slots : List Slot) (are_made : Bool) (old new : Counts) : Type 0 where
  pub maps : new.maps ≤ old.maps + length (touched_by_all S max slots)
  pub plain : HaveNoReduce slots → new.merges ≡ old.merges
  pub merges : are_made ≡ true → IsStore S → AllFit S slots → MergesFew S max slots old new
  pub reads : new.reads ≤ old.reads + read_by_all S max slots
