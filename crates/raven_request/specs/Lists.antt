-- What lists of JSON have.
use Rattle.std.specs.Prelude.{ℕ, List, [], ◌∷◌, Option, Some, None}
use Rattle.spec_data.specs.Data.{Data, text}

-- the text of a list of one text
abbrev pub lone_text : List Data → Option (List ℕ)
lone_text (text t ∷ []) = Some t
lone_text other = None
