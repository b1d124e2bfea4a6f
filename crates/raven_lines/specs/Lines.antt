-- What a line of a script is read as.
use Rattle.std.specs.Prelude.{◌≡◌, ℕ, List, [], ◌∷◌, Some, Result, Ok, Err}
use Rattle.index_tree.specs.Language.{LangRefusal}
use Rattle.index_tree.specs.Definitions.{Definition, Texts}
use Rattle.spec_query.specs.Query.{Query}
use Rattle.spec_query.specs.Refusals.{QueryRefusal}
use Rattle.spec_server.specs.Words.{LineRead}
use Rattle.spec_server.specs.Texts.{Asked, Asking, Plain, Defining, Querying, DefiningSeveral, QueryingSeveral, SeveralTexts, asked_by_text, asked_of, defined_by, masked_by_text, part_texts, parts_defined}
use Rattle.spec_server.specs.Script.{Given}
use Rattle.index_lang.specs.Says.{Says}
use Rattle.raven_lines.specs.SaysQuery.{SaysQuery}

-- what is asked to be defined is what the texts say
pub record IsDefining (name : List ℕ) (texts : Texts) (line : LineRead) : Type 0 where
  pub answer : Result Definition LangRefusal
  pub says : Says texts answer
  pub read : line ≡ defined_by name answer

-- the query that is asked is what the text says
pub record IsQuerying (text : List ℕ) (asking : Asking) (line : LineRead) : Type 0 where
  pub answer : Result Query QueryRefusal
  pub says : SaysQuery text answer
  pub read : line ≡ asked_by_text asking answer

-- each part is what its texts say, up to the first whose texts are refused
pub data SayParts (reduce : List ℕ) : List (List ℕ × List ℕ) → Result (List (List ℕ × Definition)) LangRefusal → Type 0 where
  no_part : SayParts reduce [] (Ok [])
  one_more : {name map : List ℕ} {d : Definition} {texts : List (List ℕ × List ℕ)} {parts : List (List ℕ × Definition)} →
      Says (map, Some reduce) (Ok d) → SayParts reduce texts (Ok parts) → SayParts reduce ((name, map) ∷ texts) (Ok ((name, d) ∷ parts))
  refused : {name map : List ℕ} {refusal : LangRefusal} {texts : List (List ℕ × List ℕ)} →
      Says (map, Some reduce) (Err refusal) → SayParts reduce ((name, map) ∷ texts) (Err refusal)
  refused_later : {name map : List ℕ} {d : Definition} {refusal : LangRefusal} {texts : List (List ℕ × List ℕ)} →
      Says (map, Some reduce) (Ok d) → SayParts reduce texts (Err refusal) → SayParts reduce ((name, map) ∷ texts) (Err refusal)

-- what is asked to be defined are the parts that the texts say
pub record IsDefiningSeveral (texts : SeveralTexts) (line : LineRead) : Type 0 where
  pub answer : Result (List (List ℕ × Definition)) LangRefusal
  pub says : SayParts texts.reduce (part_texts 1 texts.name texts.maps) answer
  pub read : line ≡ parts_defined answer

-- the query that is asked of several maps is what the text says
pub record IsQueryingSeveral (text : List ℕ) (asking : Asking) (line : LineRead) : Type 0 where
  pub answer : Result Query QueryRefusal
  pub says : SaysQuery text answer
  pub read : line ≡ masked_by_text asking answer

abbrev pub Comes : Asked → LineRead → Type 0
Comes (Plain line) read = read ≡ line
Comes (DefiningSeveral texts) read = IsDefiningSeveral texts read
Comes (QueryingSeveral text asking) read = IsQueryingSeveral text asking read
Comes (Defining name texts) read = IsDefining name texts read
Comes (Querying text asking) read = IsQuerying text asking read

abbrev pub IsLine : List ℕ → LineRead → Type 0
IsLine line read = Comes (asked_of line) read

-- each line was read as it is
abbrev pub AreLines : List Given → Type 0
AreLines [] = Unit {0}
AreLines (g ∷ more) = IsLine g.line g.read × AreLines more
