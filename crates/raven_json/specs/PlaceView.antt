-- A `Place` of the program as one of the specification.
use Rattle.spec_data.specs.Scan as is
use Rattle.raven_json.specs.declared.scan.Place.{Place}
use Rattle.raven_json.specs.declared.scan.Place.TheVariants as p

abbrev pub place_view : Place → is.Place
place_view p.Outside = is.outside
place_view p.InText = is.in_text
place_view p.Escaped = is.escaped
