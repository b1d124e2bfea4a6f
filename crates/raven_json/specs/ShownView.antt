-- What is shown of a result of the program.
use Rattle.spec_data.specs.Data.{Data}
use Rattle.raven_value.specs.View.{data_of}
use Rattle.raven_json.specs.Shown.{shown_with}
use Rattle.raven_json.specs.declared.results.Form.{Form}
use Rattle.raven_json.specs.declared.results.Form.TheVariants as f

abbrev pub shown_view : Form → Data
shown_view (f.Value value) = data_of value
shown_view (f.Document document metadata) = shown_with document (data_of metadata)
