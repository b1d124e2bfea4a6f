-- What the texts of a definition say.
use Rattle.std.specs.Prelude.{◌≡◌, ℕ, List, Result, Ok, Err}
use Rattle.index_tree.specs.Language as is
use Rattle.index_tree.specs.Definitions.{Definition, Texts}
use Rattle.index_definition.specs.DefinitionView.{definition_view}
use Rattle.index_definition.specs.RefusalView.{refusal_view}
use Rattle.index_lang.specs.Parse.{IsParsed}
use Rattle.index_definition.specs.declared.definition.Definition as program
use Rattle.index_definition.specs.declared.refusal.Part.{Part}
use Rattle.index_definition.specs.declared.refusal.LangKind.{LangKind}
use Rattle.index_definition.specs.declared.refusal.LangRefusal.TheVariants.{At}

-- the grammar gives this definition, whatever name it gets
pub record SaysDefinition (texts : Texts) (d : Definition) : Type 0 where
  pub name : List ℕ
  pub definition : program.Definition
  pub given : IsParsed name texts.0 texts.1 (Ok definition)
  pub seen : d ≡ definition_view definition.body

-- the texts are refused for this cause
pub record SaysRefusal (texts : Texts) (refusal : is.LangRefusal) : Type 0 where
  pub name : List ℕ
  pub part : Part
  pub at : ℕ
  pub kind : LangKind
  pub given : IsParsed name texts.0 texts.1 (Err (At part at kind))
  pub seen : refusal ≡ refusal_view part at kind

-- the definition that the texts say, or the cause for which they say none
abbrev pub Says : Texts → Result Definition is.LangRefusal → Type 0
Says texts (Ok d) = SaysDefinition texts d
Says texts (Err refusal) = SaysRefusal texts refusal
