-- What opens from the rows that a keeper holds.
use Rattle.std.specs.Prelude.{◌≡◌, ℕ, List, [], ◌∷◌, ◌++◌, Bool, true, false, if◌then◌else◌, Option, Some, None, Result, Ok, Err}
use Rattle.spec_data.specs.Kept.{KeptRow}
use Rattle.spec_data.specs.Rows.{Row, Body, doc, gone}
use Rattle.spec_store.specs.Commit.{Setting}
use Rattle.spec_store.specs.Kept.{rows_in}
use Rattle.index_tree.specs.Language.{LangRefusal}
use Rattle.spec_index.specs.Reduces.{has_quotient}
use Rattle.spec_server.specs.Courses.{Machine}
use Rattle.index_tree.specs.Definitions.{Definition, Texts}
use Rattle.spec_server.specs.Opening.{BodyForm, NoForm, AutoForm, StaticForm, ReadRow, body_form, is_defining, opened, rows_of}
use Rattle.index_lang.specs.Says.{Says}

abbrev pub without_refusal : Result Definition LangRefusal → Option Definition
without_refusal (Ok d) = Some d
without_refusal (Err refusal) = None

-- only in the second version there may be quotients
abbrev pub unless_divided : Bool → Option Definition → Option Definition
unless_divided true d = d
unless_divided false None = None
unless_divided false (Some d) = if has_quotient d then None else Some d

-- what the texts say; if they are refused, or have a quotient that may not be there, there is no definition
pub record IsSaid (may_divide : Bool) (texts : Texts) (d : Option Definition) : Type 0 where
  pub answer : Result Definition LangRefusal
  pub says : Says texts answer
  pub told : d ≡ unless_divided may_divide (without_refusal answer)

abbrev pub IsOfForm : BodyForm → Option Definition → Type 0
IsOfForm NoForm d = d ≡ None
IsOfForm (AutoForm definition) d = d ≡ Some definition
IsOfForm (StaticForm may_divide texts) d = IsSaid may_divide texts d

abbrev pub IsInBody : Body → Option Definition → Type 0
IsInBody (doc body) d = IsOfForm (body_form body) d
IsInBody gone d = d ≡ None

-- only the live row of a definition is read as one
abbrev pub IsReadIf : Bool → Row → Option Definition → Type 0
IsReadIf true r d = IsInBody r.body d
IsReadIf false r d = d ≡ None

abbrev pub IsReadRow : ReadRow → Type 0
IsReadRow x = IsReadIf (is_defining x.row) x.row x.definition

abbrev pub AreReadRows : List ReadRow → Type 0
AreReadRows [] = Unit {0}
AreReadRows (x ∷ xs) = IsReadRow x × AreReadRows xs

-- these rows open, as they are read, to this machine
pub record OpensAs (s : Setting) (all : List Row) (M : Machine) : Type 0 where
  pub read : List ReadRow
  pub rows : rows_of read ≡ all
  pub right : AreReadRows read
  pub opened : opened s all read ≡ Ok M

-- the last of the rows that are read is the first that is of no form, and has this etag; those behind it are not read
pub record EndsAt (s : Setting) (all : List Row) (etag : ℕ) : Type 0 where
  pub read : List ReadRow
  pub unread : List Row
  pub rows : rows_of read ++ unread ≡ all
  pub right : AreReadRows read
  pub bad : opened s all read ≡ Err etag

abbrev pub Opens : Setting → List Row → Result Machine ℕ → Type 0
Opens s rows (Ok M) = OpensAs s rows M
Opens s rows (Err etag) = EndsAt s rows etag

abbrev pub IsOpenedBy : Setting → Result (List Row) ℕ → Result Machine ℕ → Type 0
IsOpenedBy s (Err etag) answer = answer ≡ Err etag
IsOpenedBy s (Ok rows) answer = Opens s rows answer

-- the machine of what a keeper holds, or the etag of the first bad row
abbrev pub IsOpened : Setting → List KeptRow → Result Machine ℕ → Type 0
IsOpened s held answer = IsOpenedBy s (rows_in s.max_rows held) answer
