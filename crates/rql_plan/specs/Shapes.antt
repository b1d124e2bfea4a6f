-- Whether a query asks for an automatic index.
use Rattle.std.specs.Prelude.{Option, Some, None, if◌then◌else◌}
use Rattle.spec_index.specs.Optimiser.{Shape}
use Rattle.spec_query.specs.Query.{Query, OfIndex, OfCollection, is_whole}
use Rattle.spec_server.specs.Shapes.{shape_asked}

-- a query on an index that it names, and one on a whole collection, ask for none
abbrev pub shape_if_any : Query → Option Shape
shape_if_any q = elim q.origin [ OfIndex name ↦ None | OfCollection collection ↦ if is_whole q then None else Some (shape_asked collection q) ]
