-- What is mapped again when an index takes rows, and how often the map is asked.
use Rattle.std.specs.Prelude.{◌≡◌, ℕ, List, cond, is_some, filter}
use Rattle.std.specs.FinMap.{FinMap, get}
use Rattle.std.specs.List.{list_any}
use Rattle.spec_data.specs.Folding.{folded, key_cmp, same_key}
use Rattle.spec_data.specs.Rows.{Row}
use Rattle.spec_data.specs.Tables.{Table, note_rows}
use Rattle.index_tree.specs.Mapper.{Mapper, mapper_of}
use Rattle.spec_index.specs.Mapping.{touched}
use Rattle.spec_index.specs.World.{Version}
use Rattle.reference_track.specs.Tracks.{Track, is_pair}
use Rattle.index_version.specs.Kept.{Given, given_at, is_loaded}

-- of these folded ids the results are those over the table, and of all others those from before
abbrev pub AreRenewed : Mapper → Table → List (List ℕ) → FinMap key_cmp Given → FinMap key_cmp Given → Type 0
AreRenewed m T ids before after = (q : List ℕ) → get after q ≡ cond (list_any (same_key q) ids) (given_at m T q) (get before q)

-- of these folded ids the pairs are those of their loads over the table, and of all others those from before
abbrev pub ArePaired : Mapper → Table → List (List ℕ) → Track → Track → Type 0
ArePaired m T ids before after = (x y : List ℕ) → is_pair x y after ≡ cond (list_any (same_key (folded x)) ids) (is_loaded (folded y) (given_at m T (folded x))) (is_pair x y before)

-- those of the folded ids for which the map gives something
abbrev pub mapped_among : Mapper → Table → List (List ℕ) → List (List ℕ)
mapped_among m T ids = filter (λ q. is_some (given_at m T q)) ids

-- those of the folded ids that have a document
abbrev pub documents_among : Table → List (List ℕ) → List (List ℕ)
documents_among T ids = filter (λ q. is_some (get T q)) ids

-- the documents that these rows touch, once the index has taken them
abbrev pub touched_documents : Version → List Row → List (List ℕ)
touched_documents v taken = documents_among (note_rows v.table taken) (touched (mapper_of v.definition) v.table taken)
