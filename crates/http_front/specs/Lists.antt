-- What lists of JSON have.
use Rattle.std.specs.Prelude.{List, [], ◌∷◌, Option, Some, None}
use Rattle.spec_data.specs.Data.{Data, object}

-- the object of a list of one object
abbrev pub lone_object : List Data → Option Data
lone_object (object ms ∷ []) = Some (object ms)
lone_object other = None
