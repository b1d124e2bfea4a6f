-- What a request asks is well formed.
use Rattle.std.proofs.Common.{◌≡◌, ℕ, ◌≤◌, List, [], ◌∷◌, true, false, cond, ◌&&◌, Option, Some, None, Result, Ok, Err, IsUtf8, refl, sym, ap, subst, arith, codes}
use Rattle.std.proofs.lemmas.Bool.{le-leb}
use Rattle.std.specs.Str.{bytes_eq}
use Rattle.spec_data.specs.Data.{Data, null, flag, num, text, array, object, Items, no_items, item, Entries, depth, items_depth, list_of}
use Rattle.spec_data.specs.Json.{JsonRefusal, reading}
use Rattle.spec_data.specs.Members.{member}
use Rattle.spec_store.specs.Commit.{Command}
use Rattle.index_tree.specs.Language.{LangRefusal}
use Rattle.index_tree.specs.Definitions.{Definition, Texts}
use Rattle.spec_index.specs.World.{is_automatic}
use Rattle.spec_query.specs.Query.{Query}
use Rattle.spec_query.specs.Refusals.{QueryRefusal}
use Rattle.spec_server.specs.Requests.{Request, Put, Delete, Bulk, Get, Remove, Stale, Indexes, Stats, Do}
use Rattle.spec_server.specs.Words.{BadMember, LineRead, ReadRefusal, json_read, object_read, then_read}
use Rattle.spec_server.specs.Commands.{bulk_read, command_read, commands_of, commands_read, delete_command, id_member, list_member, put_command, typed_command, vector_member}
use Rattle.spec_server.specs.Texts.{Asked, Asking, asked_by_text, asked_to_define, asked_to_query, asking_in, asking_of, asking_of_body, beside_in, defined_by, plain_asking, query_member}
use Rattle.spec_server.specs.WellFormed.{IsWellFormed, is_body, put_bodies, puts_body}
use Rattle.http_parts.specs.Parameters.{parameter, text_of, value_in}
use Rattle.http_parts.specs.Routes.{route_at}
use Rattle.http_parts.specs.declared.route.Route.{Route}
use Rattle.http_parts.specs.declared.route.Route.TheVariants as route
use Rattle.http_read.specs.declared.request.HttpRequest.{HttpRequest}
use Rattle.form_urlencoded.specs.Form.{decode, raw_pairs}
use Rattle.spec_http.specs.Requests.{NoDatabase, Asks, asked_of_database, asked_on, asked_over_http, define_index, delete_document, expected_by, get_document, id_in, name_in, or_missing, parameter_read, plain, put_document, query_by, remove_index, staleness}
use Rattle.raven_lines.specs.Lines.{Comes}
use Rattle.raven_lines.specs.SaysQuery.{SaysQuery}
use Rattle.index_lang.specs.Says.{Says}
use Rattle.raven_reading.proofs.AskedLemmas.{query-asked}
use Rattle.raven_reading.proofs.Formed.{query-formed}
use Rattle.raven_json.proofs.PairLemmas.{member-depth, member-sound}
use Rattle.raven_json.proofs.SoundLemmas.{IsFine, reading-fine}
use Rattle.raven_reading.proofs.TextLemmas.{said-by}
use Rattle.http_front.specs.Asked.{IsFormedRequest}
use Rattle.http_front.proofs.Utf8.{lossy-utf8}

-- READING STEP BY STEP

then-ok : {A B : Type 0} (r : Result A ReadRefusal) (f : A → Result B ReadRefusal) (b : B) → then_read r f ≡ Ok b → (a : A) × (r ≡ Ok a) × (f a ≡ Ok b)
then-ok (Err refusal) f b h = absurd cc
then-ok (Ok a) f b h = (a, refl, h)

same_ok : {A : Type 0} (a b : A) → (let r : Result A ReadRefusal = Ok a in r) ≡ Ok b → a ≡ b
same_ok a b h = cc

json-ok : (r : Result Data JsonRefusal) (d : Data) → json_read r ≡ Ok d → r ≡ Ok d
json-ok (Err refusal) d h = absurd cc
json-ok (Ok v) d h = ap Ok (same_ok v d h)

-- what a body is read as
body-fine : (body : List ℕ) (d : Data) → json_read (reading body) ≡ Ok d → IsFine 100 d
body-fine body d h = reading-fine body d (json-ok (reading body) d h)

member-fine : (name : List ℕ) (ms : Entries) (d : Data) → IsFine 100 (object ms) → member name ms ≡ Some d → IsFine 100 d
member-fine name ms d f e = let deep = f.1 in let less = member-depth name ms d e in (member-sound name ms d f.0.1 e, omega arith)

formed-as : (a b : Request) → (let r : Result Request ReadRefusal = Ok a in r) ≡ Ok b → IsWellFormed (Do a) → IsWellFormed (Do b)
formed-as a b h f = subst (λ x. IsWellFormed (Do x)) (same_ok a b h) f

-- DOCUMENTS

-- an object that is not too deep is a document
object-formed : (name : List ℕ) (o : Option Data) (d : Data) → object_read name o ≡ Ok d → ((v : Data) → o ≡ Some v → depth v ≤ 100) → is_body d ≡ true
object-formed name None d h f = absurd cc
object-formed name (Some null) d h f = absurd cc
object-formed name (Some (flag b)) d h f = absurd cc
object-formed name (Some (num n)) d h f = absurd cc
object-formed name (Some (text s)) d h f = absurd cc
object-formed name (Some (array ds)) d h f = absurd cc
object-formed name (Some (object ms)) d h f = subst (λ x. is_body x ≡ true) (same_ok (object ms) d h) (le-leb (depth (object ms)) 100 (f (object ms) refl))

same_value : (a b : Data) → Some a ≡ Some b → a ≡ b
same_value a b h = cc

put-formed : (query body : List ℕ) (if_match : Option (List ℕ)) (request : Request) → put_document query body if_match ≡ Ok request → IsWellFormed (Do request)
put-formed query body if_match request h =
    let expected = expected_by if_match in
    let v = then-ok (json_read (reading body)) (λ value. then_read (id_in query) (λ id. then_read (object_read (codes "body") (Some value)) (λ document. Ok (Put id expected document)))) request h in
    let i = then-ok (id_in query) (λ id. then_read (object_read (codes "body") (Some v.0)) (λ document. Ok (Put id expected document))) request v.2 in
    let b = then-ok (object_read (codes "body") (Some v.0)) (λ document. Ok (Put i.0 expected document)) request i.2 in
    let fine = body-fine body v.0 v.1 in
    formed-as (Put i.0 expected b.0) request b.2 (object-formed (codes "body") (Some v.0) b.0 b.1 (λ x e. subst (λ y. depth y ≤ 100) (same_value v.0 x e) fine.1))

delete-formed : (query : List ℕ) (if_match : Option (List ℕ)) (request : Request) → delete_document query if_match ≡ Ok request → IsWellFormed (Do request)
delete-formed query if_match request h = let i = then-ok (id_in query) (λ id. Ok (Delete id (expected_by if_match))) request h in formed-as (Delete i.0 (expected_by if_match)) request i.2 tt

get-formed : (query : List ℕ) (request : Request) → get_document query ≡ Ok request → IsWellFormed (Do request)
get-formed query request h = let i = then-ok (id_in query) (λ id. Ok (Get id)) request h in formed-as (Get i.0) request i.2 tt

remove-formed : (query : List ℕ) (request : Request) → remove_index query ≡ Ok request → IsWellFormed (Do request)
remove-formed query request h = let n = then-ok (name_in query) (λ name. Ok (Remove name)) request h in formed-as (Remove n.0) request n.2 tt

stale-formed : (query : List ℕ) (request : Request) → staleness query ≡ Ok request → IsWellFormed (Do request)
stale-formed query request h = let n = then-ok (name_in query) (λ name. Ok (Stale name None)) request h in formed-as (Stale n.0 None) request n.2 tt

-- TRANSACTIONS

-- each item is no deeper than a hundred
abbrev AreShallow : List Data → Type 0
AreShallow [] = Unit {0}
AreShallow (d ∷ ds) = (depth d ≤ 100) × AreShallow ds

items-shallow : (ds : Items) → items_depth ds ≤ 100 → AreShallow (list_of ds)
items-shallow no_items le = tt
items-shallow (item d ds) le = (omega arith, items-shallow ds (omega arith))

member-shallow : (name : List ℕ) (ms : Entries) (d : Data) → depth (object ms) ≤ 100 → member name ms ≡ Some d → depth d ≤ 100
member-shallow name ms d le e = let less = member-depth name ms d e in omega arith

formed-command : (a b : Command) → (let r : Result Command ReadRefusal = Ok a in r) ≡ Ok b → puts_body a ≡ true → puts_body b ≡ true
formed-command a b h f = subst (λ c. puts_body c ≡ true) (same_ok a b h) f

put-command : (ms : Entries) (c : Command) → depth (object ms) ≤ 100 → put_command ms ≡ Ok c → puts_body c ≡ true
put-command ms c le h =
    let documents = object_read (codes "Document") (member (codes "Document") ms) in
    let i = then-ok (id_member (member (codes "Id") ms)) (λ id. then_read (vector_member (member (codes "ChangeVector") ms)) (λ expected. then_read documents (λ body. Ok (Command.Put id expected body)))) c h in
    let v = then-ok (vector_member (member (codes "ChangeVector") ms)) (λ expected. then_read documents (λ body. Ok (Command.Put i.0 expected body))) c i.2 in
    let b = then-ok documents (λ body. Ok (Command.Put i.0 v.0 body)) c v.2 in
    formed-command (Command.Put i.0 v.0 b.0) c b.2 (object-formed (codes "Document") (member (codes "Document") ms) b.0 b.1 (λ d e. member-shallow (codes "Document") ms d le e))

delete-command : (ms : Entries) (c : Command) → delete_command ms ≡ Ok c → puts_body c ≡ true
delete-command ms c h =
    let i = then-ok (id_member (member (codes "Id") ms)) (λ id. then_read (vector_member (member (codes "ChangeVector") ms)) (λ expected. Ok (Command.Delete id expected))) c h in
    let v = then-ok (vector_member (member (codes "ChangeVector") ms)) (λ expected. Ok (Command.Delete i.0 expected)) c i.2 in
    formed-command (Command.Delete i.0 v.0) c v.2 refl

typed-command : (o : Option Data) (ms : Entries) (c : Command) → depth (object ms) ≤ 100 → typed_command o ms ≡ Ok c → puts_body c ≡ true
typed-command None ms c le h = absurd cc
typed-command (Some null) ms c le h = absurd cc
typed-command (Some (flag b)) ms c le h = absurd cc
typed-command (Some (num n)) ms c le h = absurd cc
typed-command (Some (array ds)) ms c le h = absurd cc
typed-command (Some (object ns)) ms c le h = absurd cc
typed-command (Some (text t)) ms c le h = elim (bytes_eq t (codes "PUT")) as (λ b. cond b (put_command ms) (cond (bytes_eq t (codes "DELETE")) (delete_command ms) (Err (BadMember (codes "Type")))) ≡ Ok c → puts_body c ≡ true) [
  | true ↦ λ g. put-command ms c le g
  | false ↦ λ g. elim (bytes_eq t (codes "DELETE")) as (λ b. cond b (delete_command ms) (Err (BadMember (codes "Type"))) ≡ Ok c → puts_body c ≡ true) [
    | true ↦ λ k. delete-command ms c k
    | false ↦ λ k. absurd cc
  ] g
] h

command-formed : (d : Data) (c : Command) → depth d ≤ 100 → command_read d ≡ Ok c → puts_body c ≡ true
command-formed null c le h = absurd cc
command-formed (flag b) c le h = absurd cc
command-formed (num n) c le h = absurd cc
command-formed (text s) c le h = absurd cc
command-formed (array ds) c le h = absurd cc
command-formed (object ms) c le h = typed-command (member (codes "Type") ms) ms c le h

formed-commands : (a b : List Command) → (let r : Result (List Command) ReadRefusal = Ok a in r) ≡ Ok b → put_bodies a ≡ true → put_bodies b ≡ true
formed-commands a b h f = subst (λ cs. put_bodies cs ≡ true) (same_ok a b h) f

commands-formed : (ds : List Data) (cs : List Command) → AreShallow ds → commands_read ds ≡ Ok cs → put_bodies cs ≡ true
commands-formed [] cs f h = formed-commands [] cs h refl
commands-formed (d ∷ ds) cs f h =
    let c = then-ok (command_read d) (λ c. then_read (commands_read ds) (λ more. Ok (c ∷ more))) cs h in
    let m = then-ok (commands_read ds) (λ more. Ok (c.0 ∷ more)) cs c.2 in
    formed-commands (c.0 ∷ m.0) cs m.2 (λ i. command-formed d c.0 f.0 c.1 i && commands-formed ds m.0 f.1 m.1 i)

list-formed : (o : Option Data) (cs : List Command) → ((d : Data) → o ≡ Some d → depth d ≤ 100) → list_member o ≡ Ok cs → put_bodies cs ≡ true
list-formed None cs f h = absurd cc
list-formed (Some null) cs f h = absurd cc
list-formed (Some (flag b)) cs f h = absurd cc
list-formed (Some (num n)) cs f h = absurd cc
list-formed (Some (text s)) cs f h = absurd cc
list-formed (Some (object ms)) cs f h = absurd cc
list-formed (Some (array ds)) cs f h = let le = f (array ds) refl in commands-formed (list_of ds) cs (items-shallow ds (omega arith)) h

body-commands : (d : Data) (cs : List Command) → depth d ≤ 100 → commands_of d ≡ Ok cs → put_bodies cs ≡ true
body-commands null cs le h = absurd cc
body-commands (flag b) cs le h = absurd cc
body-commands (num n) cs le h = absurd cc
body-commands (text s) cs le h = absurd cc
body-commands (array ds) cs le h = absurd cc
body-commands (object ms) cs le h = list-formed (member (codes "Commands") ms) cs (λ d e. member-shallow (codes "Commands") ms d le e) h

bulk-formed : (body : List ℕ) (request : Request) → bulk_read body ≡ Ok request → IsWellFormed (Do request)
bulk-formed body request h =
    let v = then-ok (json_read (reading body)) (λ value. then_read (commands_of value) (λ commands. Ok (Bulk commands))) request h in
    let c = then-ok (commands_of v.0) (λ commands. Ok (Bulk commands)) request v.2 in
    let fine = body-fine body v.0 v.1 in
    formed-as (Bulk c.0) request c.2 (body-commands v.0 c.0 fine.1 c.1)

-- QUERIES

parameter-utf8 : (name : List ℕ) (pairs : List (List ℕ × List ℕ)) (value : List ℕ) → value_in name pairs ≡ Some value → IsUtf8 value
parameter-utf8 name [] value h = absurd cc
parameter-utf8 name (pair ∷ pairs) value h = elim (bytes_eq (text_of pair.0) name) as (λ b. cond b (Some (text_of pair.1)) (value_in name pairs) ≡ Some value → IsUtf8 value) [
  | true ↦ λ g. subst IsUtf8 (let e : text_of pair.1 ≡ value = cc in e) (lossy-utf8 (decode pair.1))
  | false ↦ λ g. parameter-utf8 name pairs value g
] h

found-utf8 : (name : List ℕ) (o : Option (List ℕ)) (value : List ℕ) → ((v : List ℕ) → o ≡ Some v → IsUtf8 v) → or_missing name o ≡ Ok value → IsUtf8 value
found-utf8 name None value f h = absurd cc
found-utf8 name (Some v) value f h = subst IsUtf8 (same_ok v value h) (f v refl)

query-parameter : (query words : List ℕ) → parameter_read (codes "query") query ≡ Ok words → IsUtf8 words
query-parameter query words h = found-utf8 (codes "query") (parameter (codes "query") query) words (λ v e. parameter-utf8 (codes "query") (raw_pairs query) v e) h

query-text : (o : Option Data) (query : List ℕ) → ((d : Data) → o ≡ Some d → IsFine 100 d) → query_member o ≡ Ok query → IsUtf8 query
query-text None query f h = absurd cc
query-text (Some null) query f h = absurd cc
query-text (Some (flag b)) query f h = absurd cc
query-text (Some (num n)) query f h = absurd cc
query-text (Some (array ds)) query f h = absurd cc
query-text (Some (object ms)) query f h = absurd cc
query-text (Some (text s)) query f h = subst IsUtf8 (same_ok s query h) (f (text s) refl).0

asking-in : (ms : Entries) (given : List ℕ × Asking) → IsFine 100 (object ms) → asking_in ms ≡ Ok given → IsUtf8 given.0
asking-in ms given f h =
    let t = then-ok (query_member (member (codes "Query") ms)) (λ words. then_read (beside_in ms) (λ asking. Ok (words, asking))) given h in
    let a = then-ok (beside_in ms) (λ asking. Ok (t.0, asking)) given t.2 in
    subst (λ (x : List ℕ × Asking). IsUtf8 x.0) (same_ok {A = List ℕ × Asking} (t.0, a.0) given a.2) (query-text (member (codes "Query") ms) t.0 (λ d e. member-fine (codes "Query") ms d f e) t.1)

body-asking : (d : Data) (given : List ℕ × Asking) → IsFine 100 d → asking_of_body d ≡ Ok given → IsUtf8 given.0
body-asking null given f h = absurd cc
body-asking (flag b) given f h = absurd cc
body-asking (num n) given f h = absurd cc
body-asking (text s) given f h = absurd cc
body-asking (array ds) given f h = absurd cc
body-asking (object ms) given f h = asking-in ms given f h

asking-text : (body : List ℕ) (given : List ℕ × Asking) → asking_of body ≡ Ok given → IsUtf8 given.0
asking-text body given h = let v = then-ok (json_read (reading body)) asking_of_body given h in body-asking v.0 given (body-fine body v.0 v.1) v.2

-- WHAT IS ASKED

plain-formed : (got : Result Request ReadRefusal) (read : LineRead) → ((request : Request) → got ≡ Ok request → IsWellFormed (Do request)) → Comes (plain got) read → IsFormedRequest read
plain-formed (Err refusal) read f h = subst IsFormedRequest (sym h) tt
plain-formed (Ok request) read f h = subst IsFormedRequest (sym h) (f request refl)

answer-formed : (words : List ℕ) (asking : Asking) (answer : Result Query QueryRefusal) → IsUtf8 words → SaysQuery words answer → IsFormedRequest (asked_by_text asking answer)
answer-formed words asking (Err refusal) u says = tt
answer-formed words asking (Ok q) u says = query-formed q (query-asked words q u says)

by-text-formed : (given : Result (List ℕ) ReadRefusal) (read : LineRead) → ((words : List ℕ) → given ≡ Ok words → IsUtf8 words) → Comes (query_by given) read → IsFormedRequest read
by-text-formed (Err refusal) read f h = subst IsFormedRequest (sym h) tt
by-text-formed (Ok words) read f h = subst IsFormedRequest (sym h.read) (answer-formed words plain_asking h.answer (f words refl) h.says)

ask-formed : (given : Result (List ℕ × Asking) ReadRefusal) (read : LineRead) → ((g : List ℕ × Asking) → given ≡ Ok g → IsUtf8 g.0) → Comes (asked_to_query given) read → IsFormedRequest read
ask-formed (Err refusal) read f h = subst IsFormedRequest (sym h) tt
ask-formed (Ok g) read f h = subst IsFormedRequest (sym h.read) (answer-formed g.0 g.1 h.answer (f g refl) h.says)

-- a definition by texts is no automatic one
definition-formed : (name : List ℕ) (texts : Texts) (answer : Result Definition LangRefusal) → Says texts answer → IsFormedRequest (defined_by name answer)
definition-formed name texts (Err refusal) says = tt
definition-formed name texts (Ok d) says = let by = said-by texts d says in ap is_automatic by.by_texts

define-formed : (given : Result (List ℕ × Texts) ReadRefusal) (read : LineRead) → Comes (asked_to_define given) read → IsFormedRequest read
define-formed (Err refusal) read h = subst IsFormedRequest (sym h) tt
define-formed (Ok g) read h = subst IsFormedRequest (sym h.read) (definition-formed g.0 g.1 h.answer h.says)

pub on-formed : (at : Route) (r : HttpRequest) (read : LineRead) → Comes (asked_on at r) read → IsFormedRequest read
on-formed route.PutDocument r read h = plain-formed (put_document r.query r.body r.if_match) read (λ request e. put-formed r.query r.body r.if_match request e) h
on-formed route.DeleteDocument r read h = plain-formed (delete_document r.query r.if_match) read (λ request e. delete-formed r.query r.if_match request e) h
on-formed route.GetDocument r read h = plain-formed (get_document r.query) read (λ request e. get-formed r.query request e) h
on-formed route.Bulk r read h = plain-formed (bulk_read r.body) read (λ request e. bulk-formed r.body request e) h
on-formed route.QueryByText r read h = by-text-formed (parameter_read (codes "query") r.query) read (λ words e. query-parameter r.query words e) h
on-formed route.Query r read h = ask-formed (asking_of r.body) read (λ given e. asking-text r.body given e) h
on-formed route.DefineIndex r read h = define-formed (define_index r.body) read h
on-formed route.ListIndexes r read h = plain-formed (Ok Indexes) read (λ request e. formed-as Indexes request e tt) h
on-formed route.RemoveIndex r read h = plain-formed (remove_index r.query) read (λ request e. remove-formed r.query request e) h
on-formed route.Staleness r read h = plain-formed (staleness r.query) read (λ request e. stale-formed r.query request e) h
on-formed route.Stats r read h = plain-formed (Ok Stats) read (λ request e. formed-as Stats request e tt) h

same_asked : (a b : Asked) → Asks a ≡ Asks b → a ≡ b
same_asked a b h = cc

pub http-formed : (database : List ℕ) (r : HttpRequest) (asked : Asked) (read : LineRead) → asked_over_http database r ≡ Asks asked → Comes asked read → IsFormedRequest read
http-formed database r asked read e h = by (route_at r.method r.path) e
  where
    here : (at : Route) → Asks (asked_on at r) ≡ Asks asked → IsFormedRequest read
    here at g = on-formed at r read (subst (λ a. Comes a read) (sym (same_asked (asked_on at r) asked g)) h)

    by : (o : Option (List ℕ × Route)) → asked_of_database database r o ≡ Asks asked → IsFormedRequest read
    by None g = absurd cc
    by (Some found) g = elim (bytes_eq found.0 database) as (λ b. cond b (Asks (asked_on found.1 r)) NoDatabase ≡ Asks asked → IsFormedRequest read) [
      | true ↦ λ k. here found.1 k
      | false ↦ λ k. absurd cc
    ] g
