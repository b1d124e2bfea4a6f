-- The commands that a client's line asks to write.
use Rattle.std.specs.Prelude.{ℕ, List, [], ◌∷◌, if◌then◌else◌, Option, Some, None, Result, Ok, Err, codes}
use Rattle.std.specs.Str.{bytes_eq}
use Rattle.spec_data.specs.Data.{Data, Entries, list_of}
use Rattle.spec_data.specs.Data as json
use Rattle.spec_data.specs.Json.{JsonRefusal, reading}
use Rattle.spec_data.specs.Members.{member}
use Rattle.spec_store.specs.Commit.{Command, Expect, AnyVector, Vector}
use Rattle.spec_server.specs.Requests.{Request, Put, Delete, Bulk}
use Rattle.spec_server.specs.Words.{ReadRefusal, BadMember, then_read, id_read, json_read, object_read, parts_read}

-- first the JSON may be refused, then the id, and then a body that is no object
abbrev pub put_read : List ℕ → Expect → Result Data JsonRefusal → Result Request ReadRefusal
put_read id expected value =
    then_read (json_read value) (λ value.
    then_read (id_read id) (λ id.
    then_read (object_read (codes "body") (Some value)) (λ body. Ok (Put id expected body))))

abbrev pub delete_read : Expect → List ℕ → Result Request ReadRefusal
delete_read expected id = then_read (id_read id) (λ id. Ok (Delete id expected))

-- THE COMMANDS OF A TRANSACTION, in JSON

abbrev pub id_member : Option Data → Result (List ℕ) ReadRefusal
id_member (Some (json.text id)) = id_read id
id_member other = Err (BadMember (codes "Id"))

-- without a change vector, or with null, any version of the document will do
abbrev pub vector_member : Option Data → Result Expect ReadRefusal
vector_member None = Ok AnyVector
vector_member (Some json.null) = Ok AnyVector
vector_member (Some (json.text vector)) = Ok (Vector vector)
vector_member other = Err (BadMember (codes "ChangeVector"))

abbrev pub put_command : Entries → Result Command ReadRefusal
put_command ms =
    then_read (id_member (member (codes "Id") ms)) (λ id.
    then_read (vector_member (member (codes "ChangeVector") ms)) (λ expected.
    then_read (object_read (codes "Document") (member (codes "Document") ms)) (λ body. Ok (Command.Put id expected body))))

abbrev pub delete_command : Entries → Result Command ReadRefusal
delete_command ms =
    then_read (id_member (member (codes "Id") ms)) (λ id.
    then_read (vector_member (member (codes "ChangeVector") ms)) (λ expected. Ok (Command.Delete id expected)))

abbrev pub typed_command : Option Data → Entries → Result Command ReadRefusal
typed_command (Some (json.text type)) ms =
    if bytes_eq type (codes "PUT") then put_command ms else (
    if bytes_eq type (codes "DELETE") then delete_command ms else Err (BadMember (codes "Type")))
typed_command other ms = Err (BadMember (codes "Type"))

abbrev pub command_read : Data → Result Command ReadRefusal
command_read (json.object ms) = typed_command (member (codes "Type") ms) ms
command_read other = Err (BadMember (codes "Commands"))

-- the commands in order, or the refusal of the first that is refused
abbrev pub commands_read : List Data → Result (List Command) ReadRefusal
commands_read [] = Ok []
commands_read (d ∷ ds) = then_read (command_read d) (λ c. then_read (commands_read ds) (λ cs. Ok (c ∷ cs)))

abbrev pub list_member : Option Data → Result (List Command) ReadRefusal
list_member (Some (json.array ds)) = commands_read (list_of ds)
list_member other = Err (BadMember (codes "Commands"))

abbrev pub commands_of : Data → Result (List Command) ReadRefusal
commands_of (json.object ms) = list_member (member (codes "Commands") ms)
commands_of other = Err (BadMember (codes "body"))

abbrev pub bulk_read : List ℕ → Result Request ReadRefusal
bulk_read rest = then_read (json_read (reading rest)) (λ value. then_read (commands_of value) (λ commands. Ok (Bulk commands)))

-- LINES OF ONE COMMAND

-- PUT <id> <body>
abbrev pub put_of : List ℕ → Result Request ReadRefusal
put_of more = then_read (parts_read more) (λ parts. put_read parts.0 AnyVector (reading parts.1))

-- PUTIF <id> <vector> <body>
abbrev pub put_if_of : List ℕ → Result Request ReadRefusal
put_if_of more = then_read (parts_read more) (λ parts. then_read (parts_read parts.1) (λ rest. put_read parts.0 (Vector rest.0) (reading rest.1)))

-- DELIF <vector> <id>
abbrev pub delete_if_of : List ℕ → Result Request ReadRefusal
delete_if_of more = then_read (parts_read more) (λ parts. delete_read (Vector parts.0) parts.1)
