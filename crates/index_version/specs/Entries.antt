-- The entries of an index, under the ids of their documents.
use Rattle.std.specs.Prelude.{ℕ, List, Bool, true, Option, find}
use Rattle.std.specs.Option.{option_map_or}
use Rattle.std.specs.Ordering.{is_lt}
use Rattle.spec_data.specs.Folding.{folded, key_cmp, same_key}
use Rattle.index_tree.specs.Mapper.{mapper_of}
use Rattle.index_tree.specs.Meaning.{Fields}
use Rattle.spec_index.specs.Mapping.{scratch}
use Rattle.spec_index.specs.World.{Version}

-- those that its map gives from scratch for the documents of its table
abbrev pub all_entries : Version → List (List ℕ × Fields)
all_entries v = scratch (mapper_of v.definition) v.table

-- the entry of a folded id, if there is one
abbrev pub entry_at : Version → List ℕ → Option (List ℕ × Fields)
entry_at v q = find (λ e. same_key q (folded e.0)) (all_entries v)

-- the id is past a folded id, as each is if there is none
abbrev pub is_past : Option (List ℕ) → List ℕ → Bool
is_past after id = option_map_or (λ q. is_lt (key_cmp q (folded id))) after true
