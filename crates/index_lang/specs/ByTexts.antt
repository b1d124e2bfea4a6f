-- Definitions that their texts say.
use Rattle.std.specs.Prelude.{◌≡◌, ℕ, List, IfSome, IsUtf8, Result, Ok, Err, refl}
use Rattle.std.specs.Coded.{Coded, coded_ℕ, coded_list, coded×, code_by}
use Rattle.index_tree.specs.Definitions.{Definition, Texts, definition_code}
use Rattle.index_definition.specs.RefusalView.{refusal_view}
use Rattle.index_definition.specs.declared.refusal.LangRefusal.{LangRefusal}
use Rattle.index_definition.specs.declared.refusal.LangRefusal.TheVariants.{At, NoMemory}
use Rattle.index_lang.specs.Says.{Says}

-- a definition under a name
pub record Named : Type 0 where
  pub name : List ℕ
  pub definition : Definition

abbrev pub named_code : Coded Named
named_code = code_by (List ℕ × Definition) (coded× (coded_list coded_ℕ) definition_code) (λ d. (d.name, d.definition)) (λ p. record { name = p.0; definition = p.1 }) (λ _. refl)

-- some texts, which are in UTF-8, say it
pub record IsByTexts (d : Definition) : Type 0 where
  pub texts : Texts
  pub utf8 : IsUtf8 texts.0
  pub reduce_utf8 : IfSome texts.1 IsUtf8
  pub says : Says texts (Ok d)

-- the definition that the texts say, under this name, or why they say none; out of memory says nothing
abbrev pub Gives : List ℕ → Texts → Result Named LangRefusal → Type 0
Gives name texts (Ok d) = (d.name ≡ name) × Says texts (Ok d.definition)
Gives name texts (Err (At part at kind)) = Says texts (Err (refusal_view part at kind))
Gives name texts (Err NoMemory) = Unit {0}
