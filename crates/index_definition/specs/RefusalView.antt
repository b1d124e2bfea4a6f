-- Why texts are refused, and what that is to the machine.
use Rattle.std.specs.Prelude.{ℕ}
use Rattle.index_tree.specs.Language as is
use Rattle.index_definition.specs.declared.refusal.Part.{Part}
use Rattle.index_definition.specs.declared.refusal.Part.TheVariants as part
use Rattle.index_definition.specs.declared.refusal.LangKind.{LangKind}
use Rattle.index_definition.specs.declared.refusal.LangKind.TheVariants as kind

abbrev pub part_view : Part → is.Part
part_view part.Map = is.OfMap
part_view part.Reduce = is.OfReduce

abbrev pub kind_view : LangKind → is.Kind
kind_view kind.Unexpected = is.Unexpected
kind_view kind.UnknownName = is.UnknownName
kind_view kind.DuplicateField = is.DuplicateField
kind_view kind.FieldsDiffer = is.FieldsDiffer
kind_view kind.NotReducible = is.NotReducible
kind_view kind.TooLarge = is.TooLarge

abbrev pub refusal_view : Part → ℕ → LangKind → is.LangRefusal
refusal_view part at kind = record { part = part_view part; at = at; kind = kind_view kind }
