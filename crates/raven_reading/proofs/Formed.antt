-- What a line asks is well formed.
use Rattle.std.proofs.Common.{◌≡◌, ℕ, ◌≤◌, List, [], ◌∷◌, ◌++◌, Bool, true, false, ◌&&◌, ◌||◌, Option, Some, None, Ok, IfSome, unwrap_or, option_map, length, map, refl, ap, ◌∙◌, subst}
use Rattle.std.proofs.lemmas.Bool.{le-leb, lt-ltb}
use Rattle.std.specs.List.{list_all, list_any}
use Rattle.spec_data.specs.Data.{Data, object, depth}
use Rattle.spec_data.specs.Members.{Path}
use Rattle.spec_store.specs.Commit.{Command}
use Rattle.index_tree.specs.Definitions.{Definition}
use Rattle.spec_index.specs.World.{is_automatic}
use Rattle.spec_query.specs.Fields.{asked_fields, cond_fields, selected_fields}
use Rattle.spec_query.specs.Query.{At, Column, Cond, Count, Field, Query, Sort, Sum}
use Rattle.spec_server.specs.Requests.{Line, Do, Put, Bulk, Define, Multi, Auto, Ask}
use Rattle.spec_server.specs.Opening.{is_part, is_path}
use Rattle.spec_server.specs.WellFormed.{IsWellFormed, has_valid_path, has_valid_paths, is_body, put_bodies}
use Rattle.raven_lines.specs.Lines.{IsLine}
use Rattle.raven_reading.specs.Requests.{AreAll, AreCommands, AreFields, IsAsked, IsByText, IsField, IsPart, IsPath, IsRequestBody, IsValidLine}
use Rattle.raven_reading.proofs.AskedLemmas.{all-append}
use Rattle.raven_reading.proofs.LineLemmas.{line-asked}

-- a body that the program can hold is one
body-formed : (d : Data) → IsRequestBody d → is_body d ≡ true
body-formed d b = ap is_body b.an_object ∙ le-leb (depth (object b.members)) 100 (subst (λ x. depth x ≤ 100) b.an_object b.shallow)

commands-formed : (commands : List Command) → AreCommands commands → put_bodies commands ≡ true
commands-formed [] are = refl
commands-formed (Command.Put id expected body ∷ commands) are = λ i. body-formed body are.0.1 i && commands-formed commands are.1 i
commands-formed (Command.Delete id expected ∷ commands) are = commands-formed commands are.1

-- a definition by texts is no automatic one
text-formed : (name : List ℕ) (d : Definition) → IsByText name d → is_automatic d ≡ false
text-formed name d x = let by = x.by_texts in ap is_automatic by.by_texts

-- so is no part by texts
pub parts-formed : (parts : List (List ℕ × Definition)) → AreAll (λ part. IsByText part.0 part.1) parts → list_any (λ p. is_automatic p.1) parts ≡ false
parts-formed [] are = refl
parts-formed (p ∷ parts) are = λ i. text-formed p.0 p.1 are.0 i || parts-formed parts are.1 i

-- PATHS OF A QUERY

all-formed : {A : Type 0} (P : A → Type 0) (test : A → Bool) → ((x : A) → P x → test x ≡ true) → (xs : List A) → AreAll P xs → list_all test xs ≡ true
all-formed P test one [] are = refl
all-formed P test one (x ∷ xs) are = λ i. one x are.0 i && all-formed P test one xs are.1 i

path-formed : (path : Path) → IsPath path → is_path path ≡ true
path-formed path is = λ i. lt-ltb 0 (length path) is.0 i && all-formed IsPart is_part (λ part is_one. is_one.1) path is.1 i

field-formed : (field : Field) → IsField field → has_valid_path field ≡ true
field-formed (At path) is = path-formed path is
field-formed Count is = refl
field-formed (Sum path) is = path-formed path is

all-mapped : {A B : Type 0} (P : B → Type 0) (f : A → B) (xs : List A) → AreAll (λ x. P (f x)) xs → AreAll P (map f xs)
all-mapped P f [] are = tt
all-mapped P f (x ∷ xs) are = (are.0, all-mapped P f xs are.1)

cond-all : (cond : Option Cond) → IfSome cond (λ a. AreFields (cond_fields a)) → AreFields (unwrap_or (option_map cond_fields cond) [])
cond-all None are = tt
cond-all (Some a) are = are

pub query-formed : (q : Query) → IsAsked q → has_valid_paths q ≡ true
query-formed q is =
    let asked = all-append IsField (unwrap_or (option_map cond_fields q.cond) []) (map (λ (s : Sort). s.field) q.sorts) (cond-all q.cond is.cond) (all-mapped IsField (λ (s : Sort). s.field) q.sorts is.sorts) in
    let fields = all-append IsField (asked_fields q) (selected_fields q) asked (all-mapped IsField (λ (c : Column). c.field) q.columns is.columns) in
    λ i. all-formed IsPath is_path path-formed q.groups is.groups i && all-formed IsField has_valid_path field-formed (asked_fields q ++ selected_fields q) fields i

-- what can be stored and read again is well formed
valid-formed : (asks : Line) → IsValidLine asks → IsWellFormed asks
valid-formed (Do (Put id expected body)) valid = let are = valid.commands in body-formed body are.0.1
valid-formed (Do (Bulk commands)) valid = commands-formed commands valid.commands
valid-formed (Do (Define name d)) valid = text-formed name d valid.indexing
valid-formed (Do (Multi parts)) valid = parts-formed parts valid.indexing
valid-formed (Do (Auto collection field)) valid = let is = valid.indexing in is.1.1
valid-formed (Do (Ask ask)) valid = query-formed ask.query valid.indexing
valid-formed other valid = tt

pub line-formed : (line : List ℕ) (asks : Line) → IsLine line (Ok (Some asks)) → IsWellFormed asks
line-formed line asks is = valid-formed asks (line-asked line (Ok (Some asks)) is)
