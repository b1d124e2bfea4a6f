-- How entries are read.
use Rattle.std.specs.Prelude.{◌≡◌, ℕ, ◌≤◌, ◌+◌, List, length, map}
use Rattle.std.specs.List.{filter_map}
use Rattle.raven_base.specs.Counts.{Counts}
use Rattle.spec_data.specs.Folding.{folded}
use Rattle.spec_query.specs.Plan.{Plan, meeting, page}
use Rattle.rql_filter.specs.Entries.{EntryList, entry_at}
use Rattle.rql_eval.specs.declared.page.Page.{Page}

-- so many rows were read at most, and nothing else that is counted was done
pub record ReadsAtMost (most : ℕ) (before after : Counts) : Type 0 where
  pub reads : after.reads ≤ before.reads + most
  pub maps : after.maps ≡ before.maps
  pub merges : after.merges ≡ before.merges

-- the entries of those of the ids that have one
abbrev pub entries_of : EntryList → List (List ℕ) → EntryList
entries_of entries ids = filter_map (λ id. entry_at (folded id) entries) ids

-- these are the entries of the page of all, and so many of all meet the condition
pub record IsPage (q : Plan) (all : EntryList) (found : Page) : Type 0 where
  pub entries : map (λ e. (e.0.now, e.1.now)) found.entries.items ≡ page q all
  pub total : found.total ≡ length (meeting q all)
