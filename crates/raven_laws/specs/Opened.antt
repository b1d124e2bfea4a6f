-- What stored rows open, if each definition that was read of a row agrees with the row's body.
use Rattle.std.specs.Prelude.{◌≡◌, List, [], ◌∷◌, Bool, false, Option, Some, IsTrue, is_some}
use Rattle.spec_data.specs.Kept.{KeptRow}
use Rattle.spec_data.specs.Rows.{Body, doc, gone}
use Rattle.spec_store.specs.Commit.{Setting}
use Rattle.spec_server.specs.Opening.{OpenedFrom, BodyForm, NoForm, AutoForm, StaticForm, ReadRow, body_form, is_defining}
use Rattle.spec_server.specs.Courses.{Machine}
use Rattle.index_tree.specs.Definitions.{Definition, Static, Texts}
use Rattle.spec_index.specs.Reduces.{has_quotient}
use Rattle.index_tree.specs.declared.map_query.MapQuery.{MapQuery}
use Rattle.index_tree.specs.declared.reduce_query.ReduceQuery.{ReduceQuery}

-- it is some definition by these texts, and has a reduce exactly if there is the text of one
pub record AgreesWithTexts (texts : Texts) (d : Definition) : Type 0 where
  pub query : MapQuery
  pub reduce : Option ReduceQuery
  pub both : is_some reduce ≡ is_some texts.1
  pub by_texts : d ≡ Static query reduce texts.0 texts.1

-- of the first version it has no quotient
pub record AgreesInVersion (may_divide : Bool) (texts : Texts) (d : Definition) : Type 0 where
  pub agrees : AgreesWithTexts texts d
  pub undivided : may_divide ≡ false → has_quotient d ≡ false

-- the definition agrees with what the body says; of texts it need only be some definition by these
abbrev pub AgreesWithForm : BodyForm → Definition → Type 0
AgreesWithForm NoForm d = ⊥
AgreesWithForm (AutoForm told) d = d ≡ told
AgreesWithForm (StaticForm may_divide texts) d = AgreesInVersion may_divide texts d

abbrev pub AgreesWithBody : Body → Definition → Type 0
AgreesWithBody (doc body) d = AgreesWithForm (body_form body) d
AgreesWithBody gone d = ⊥

-- the definition that was read of a definition's row agrees with the row's body
abbrev pub HasOwnDefinition : ReadRow → Type 0
HasOwnDefinition x = (d : Definition) → IsTrue (is_defining x.row) → x.definition ≡ Some d → AgreesWithBody x.row.body d

abbrev pub HaveOwnDefinitions : List ReadRow → Type 0
HaveOwnDefinitions [] = Unit {0}
HaveOwnDefinitions (x ∷ xs) = HasOwnDefinition x × HaveOwnDefinitions xs

-- the stored rows open this machine, with definitions that agree with the bodies of their rows
pub record OpenedFaithfully (s : Setting) (held : List KeptRow) (M : Machine) : Type 0 where
  pub opened : OpenedFrom s held M
  pub told : HaveOwnDefinitions opened.read
