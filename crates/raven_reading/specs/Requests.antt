-- What a request asks to write: what the program can hold, and can store and read again.
use Rattle.std.specs.Prelude.{◌≡◌, List, [], ◌∷◌, ℕ, ◌<◌, ◌≤◌, IfSome, Ok, IsTrue, IsUtf8, length}
use Rattle.spec_data.specs.Data.{Data, Entries, object, depth}
use Rattle.spec_data.specs.Faults.{is_fit, max_id, max_name}
use Rattle.spec_data.specs.Members.{Path}
use Rattle.spec_data.specs.Sound.{IsSound}
use Rattle.spec_store.specs.Commit.{Command, Put, Delete}
use Rattle.index_tree.specs.Definitions.{Definition, Texts}
use Rattle.spec_query.specs.Fields.{cond_fields}
use Rattle.spec_query.specs.Query.{Field, At, Count, Sum, Origin, OfIndex, OfCollection, Query}
use Rattle.spec_server.specs.Requests.{Line, Do, Request, Ask, Define, Multi, Auto, commands_in}
use Rattle.spec_server.specs.Opening.{is_part}
use Rattle.raven_laws.specs.Opened.{AgreesWithTexts}
use Rattle.index_lang.specs.Says.{Says}

-- a body that the program can hold: a sound object at most a hundred deep
pub record IsRequestBody (d : Data) : Type 0 where
  pub sound : IsSound d
  pub shallow : depth d ≤ 100
  pub members : Entries
  pub an_object : d ≡ object members

abbrev pub IsCommand : Command → Type 0
IsCommand (Put id expected body) = IsTrue (is_fit max_id id) × IsRequestBody body
IsCommand (Delete id expected) = Unit {0}

abbrev pub AreCommands : List Command → Type 0
AreCommands [] = Unit {0}
AreCommands (c ∷ cs) = IsCommand c × AreCommands cs

-- each of them is
abbrev pub AreAll : {A : Type 0} → (A → Type 0) → List A → Type 0
AreAll P [] = Unit {0}
AreAll P (x ∷ xs) = P x × AreAll P xs

-- a UTF-8 text that can be a part of a path
abbrev pub IsPart : List ℕ → Type 0
IsPart part = IsUtf8 part × IsTrue (is_part part)

-- a path has at least one part
abbrev pub IsPath : Path → Type 0
IsPath path = (0 < length path) × AreAll IsPart path

abbrev pub ArePaths : List Path → Type 0
ArePaths paths = AreAll IsPath paths

abbrev pub IsField : Field → Type 0
IsField (At path) = IsPath path
IsField Count = Unit {0}
IsField (Sum path) = IsPath path

abbrev pub AreFields : List Field → Type 0
AreFields fields = AreAll IsField fields

abbrev pub IsOrigin : Origin → Type 0
IsOrigin (OfIndex name) = Unit {0}
IsOrigin (OfCollection collection) = IsUtf8 collection

-- the paths that the query names, but for those that it includes, can be those of an index
pub record IsAsked (q : Query) : Type 0 where
  pub origin : IsOrigin q.origin
  pub groups : ArePaths q.groups
  pub cond : IfSome q.cond (λ a. AreFields (cond_fields a))
  pub sorts : AreAll (λ s. IsField s.field) q.sorts
  pub columns : AreAll (λ c. IsField c.field) q.columns

-- the name is valid, and the definition is what some texts say
pub record IsByText (name : List ℕ) (d : Definition) : Type 0 where
  pub fit : IsTrue (is_fit max_name name)
  pub texts : Texts
  pub utf8 : IsUtf8 texts.0
  pub reduce_utf8 : IfSome texts.1 IsUtf8
  pub by_texts : AgreesWithTexts texts d
  pub says : Says texts (Ok d)

-- the field of an Auto can be a part of a path; definitions are by texts; the paths of a query for which an index may be made can be those of an index
abbrev pub IsIndexing : Request → Type 0
IsIndexing (Ask ask) = IsAsked ask.query
IsIndexing (Auto collection field) = IsUtf8 collection × (IsUtf8 field × IsTrue (is_part field))
IsIndexing (Define name definition) = IsByText name definition
IsIndexing (Multi parts) = AreAll (λ part. IsByText part.0 part.1) parts
IsIndexing other = Unit {0}

-- what the request asks to write can be stored and read again
pub record IsValidRequest (request : Request) : Type 0 where
  pub commands : AreCommands (commands_in request)
  pub indexing : IsIndexing request

-- what workers do writes nothing
abbrev pub IsValidLine : Line → Type 0
IsValidLine (Do request) = IsValidRequest request
IsValidLine other = Unit {0}
