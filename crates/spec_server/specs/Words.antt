-- The words of a line: its arguments, ids, names and numbers.
use Rattle.std.specs.Prelude.{ℕ, ◌+◌, ◌-◌, ◌*◌, List, [], ◌∷◌, Bool, not, ◌&&◌, ◌||◌, ◌==◌, nat_lt, nat_le, if◌then◌else◌, Option, Some, None, Result, Ok, Err, length, codes}
use Rattle.std.specs.List.{list_any, list_all}
use Rattle.std.specs.Str.{bytes_eq}
use Rattle.spec_data.specs.Data.{Data}
pub use Rattle.spec_data.specs.Digits.{is_digit, number_from, number_up_to}
use Rattle.spec_data.specs.Data as json
use Rattle.spec_data.specs.Faults.{Fault, fault_of, max_id, max_name}
use Rattle.spec_data.specs.Json.{JsonRefusal}
use Rattle.index_tree.specs.Language.{LangRefusal}
use Rattle.spec_query.specs.Refusals.{QueryRefusal}
use Rattle.spec_server.specs.Requests.{Line}
use Rattle.spec_server.specs.Lines.{begins_with}

-- why a line is refused
pub data ReadRefusal : Type 0 where
  UnknownLine : ReadRefusal
  BadJson : JsonRefusal → ReadRefusal
  BadId : Fault → ReadRefusal
  BadName : Fault → ReadRefusal
  BadMember : (name : List ℕ) → ReadRefusal
  BadDefinition : LangRefusal → ReadRefusal
  BadQuery : QueryRefusal → ReadRefusal

-- what a line is read as: a request, nothing if it has no bytes, or a refusal
abbrev pub LineRead : Type 0
LineRead = Result (Option Line) ReadRefusal

-- goes on with the value, unless it was refused
abbrev pub then_read : {A B : Type 0} → Result A ReadRefusal → (A → Result B ReadRefusal) → Result B ReadRefusal
then_read (Err refusal) more = Err refusal
then_read (Ok a) more = more a

-- ARGUMENTS OF A LINE: one space separates them, and each has a byte

abbrev pub before_space : List ℕ → List ℕ
before_space [] = []
before_space (b ∷ bs) = if b == 32 then [] else b ∷ before_space bs

-- what follows the first space, if there is one
abbrev pub after_space : List ℕ → Option (List ℕ)
after_space [] = None
after_space (b ∷ bs) = if b == 32 then Some bs else after_space bs

abbrev pub both_parts : List ℕ → Option (List ℕ) → Option (List ℕ × List ℕ)
both_parts [] rest = None
both_parts (b ∷ bs) None = None
both_parts (b ∷ bs) (Some []) = None
both_parts (b ∷ bs) (Some (c ∷ cs)) = Some (b ∷ bs, c ∷ cs)

-- the text before the first space and the text after it, if both have a byte
abbrev pub argument_and_rest : List ℕ → Option (List ℕ × List ℕ)
argument_and_rest text = both_parts (before_space text) (after_space text)

abbrev pub or_unknown : {A : Type 0} → Option A → Result A ReadRefusal
or_unknown None = Err UnknownLine
or_unknown (Some a) = Ok a

abbrev pub parts_read : List ℕ → Result (List ℕ × List ℕ) ReadRefusal
parts_read text = or_unknown (argument_and_rest text)

-- NUMBERS

-- the number that a text of 1 to 16 digits spells
abbrev pub number_of : List ℕ → Option ℕ
number_of = number_up_to 16

-- how many rows a batch may take: 1 to 65536
abbrev pub max_read : List ℕ → Result ℕ ReadRefusal
max_read text = then_read (or_unknown (number_of text)) (λ max. if nat_le 1 max && nat_le max 65536 then Ok max else Err UnknownLine)

-- the number of a worker: 0 to 15
abbrev pub worker_read : List ℕ → Result ℕ ReadRefusal
worker_read text = then_read (or_unknown (number_of text)) (λ worker. if nat_le worker 15 then Ok worker else Err UnknownLine)

-- IDS AND NAMES

abbrev pub unless_fault : Option Fault → List ℕ → Result (List ℕ) ReadRefusal
unless_fault None id = Ok id
unless_fault (Some fault) id = Err (BadId fault)

abbrev pub id_read : List ℕ → Result (List ℕ) ReadRefusal
id_read text = unless_fault (fault_of max_id text) text

abbrev pub unless_name_fault : Option Fault → List ℕ → Result (List ℕ) ReadRefusal
unless_name_fault None name = Ok name
unless_name_fault (Some fault) name = Err (BadName fault)

-- the name of an index, if it is valid
abbrev pub name_read : List ℕ → Result (List ℕ) ReadRefusal
name_read text = unless_name_fault (fault_of max_name text) text

-- a collection has a byte, and does not begin with `@` unless it is `@empty`
abbrev pub is_collection : List ℕ → Bool
is_collection text = nat_lt 0 (length text) && (not (begins_with 64 text) || bytes_eq text (codes "@empty"))

abbrev pub has_byte : ℕ → List ℕ → Bool
has_byte b text = list_any (λ c. c == b) text

-- a path of one part: at least one byte, and no space, `.`, `(` or `)`
abbrev pub is_field : List ℕ → Bool
is_field text = nat_lt 0 (length text) && not (has_byte 32 text || has_byte 46 text || has_byte 40 text || has_byte 41 text)

-- JSON

abbrev pub json_read : Result Data JsonRefusal → Result Data ReadRefusal
json_read (Err refusal) = Err (BadJson refusal)
json_read (Ok value) = Ok value

-- the value if it is an object; else a refusal with this name, that of a member or `body`
abbrev pub object_read : List ℕ → Option Data → Result Data ReadRefusal
object_read name (Some (json.object ms)) = Ok (json.object ms)
object_read name other = Err (BadMember name)
