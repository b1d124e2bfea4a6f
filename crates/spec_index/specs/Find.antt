-- What a query finds over the documents that an index has recorded.
use Rattle.std.specs.Prelude.{ℕ, List, Bool, false, Option, Some, None, filter, map}
use Rattle.spec_data.specs.Scalars.{Scalar, words, Is, holds}
use Rattle.spec_data.specs.Tables.{Table}
use Rattle.index_tree.specs.Mapper.{Mapper}
use Rattle.index_tree.specs.Meaning.{Fields, field_named}
use Rattle.spec_index.specs.Mapping.{scratch}

-- the value is this text, without regard to case; a field that an entry lacks meets no test
abbrev pub is_text : List ℕ → Option Scalar → Bool
is_text ws None = false
is_text ws (Some v) = holds (Is (words ws)) false v

-- the field of this name is this text, without regard to case
abbrev pub field_is_text : List ℕ → List ℕ → Fields → Bool
field_is_text name ws fields = is_text ws (field_named name fields)

-- the ids of the entries that a query finds, in the order of the entries
abbrev pub found : List (List ℕ × Fields) → List ℕ → List ℕ → List (List ℕ)
found entries name ws = map (λ e. e.0) (filter (λ e. field_is_text name ws e.1) entries)

-- what a query finds if the documents of the table are mapped from scratch
abbrev pub found_in : Mapper → Table → List ℕ → List ℕ → List (List ℕ)
found_in m T name ws = found (scratch m T) name ws
