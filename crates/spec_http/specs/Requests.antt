-- What a request over HTTP asks.
use Rattle.std.specs.Prelude.{ℕ, List, Option, Some, None, Result, Ok, Err, codes, if◌then◌else◌}
use Rattle.std.specs.Str.{bytes_eq}
use Rattle.spec_data.specs.Data.{Data}
use Rattle.spec_data.specs.Data as json
use Rattle.spec_data.specs.Json.{reading}
use Rattle.spec_data.specs.Members.{member}
use Rattle.spec_store.specs.Commit.{Expect, AnyVector, Vector}
use Rattle.index_tree.specs.Definitions.{Texts}
use Rattle.spec_server.specs.Requests.{Request, Put, Delete, Get, Remove, Stale, Indexes, Stats, Do}
use Rattle.spec_server.specs.Words.{ReadRefusal, BadMember, id_read, json_read, name_read, object_read, then_read}
use Rattle.spec_server.specs.Commands.{bulk_read}
use Rattle.spec_server.specs.Texts.{Asked, Plain, Querying, asked_to_define, asked_to_query, asking_of, plain_asking, texts_in}
use Rattle.http_parts.specs.Parameters.{parameter}
use Rattle.http_parts.specs.Routes.{route_at}
use Rattle.http_parts.specs.declared.route.Route.{Route}
use Rattle.http_parts.specs.declared.route.Route.TheVariants as route
use Rattle.http_read.specs.declared.request.HttpRequest.{HttpRequest}

-- PARAMETERS

abbrev pub or_missing : List ℕ → Option (List ℕ) → Result (List ℕ) ReadRefusal
or_missing name None = Err (BadMember name)
or_missing name (Some value) = Ok value

-- the first parameter of this name, or a refusal with the name if there is none
abbrev pub parameter_read : (name query : List ℕ) → Result (List ℕ) ReadRefusal
parameter_read name query = or_missing name (parameter name query)

-- the parameter `id`, if it is a valid id
abbrev pub id_in : List ℕ → Result (List ℕ) ReadRefusal
id_in query = then_read (parameter_read (codes "id") query) id_read

-- the parameter `name`, if it is a valid name
abbrev pub name_in : List ℕ → Result (List ℕ) ReadRefusal
name_in query = then_read (parameter_read (codes "name") query) name_read

-- the vector that If-Match states; without one any version of the document will do
abbrev pub expected_by : Option (List ℕ) → Expect
expected_by None = AnyVector
expected_by (Some vector) = Vector vector

-- DOCUMENTS

-- first the JSON may be refused, then the id, and then a body that is no object
abbrev pub put_document : (query body : List ℕ) → Option (List ℕ) → Result Request ReadRefusal
put_document query body if_match =
    then_read (json_read (reading body)) (λ value.
    then_read (id_in query) (λ id.
    then_read (object_read (codes "body") (Some value)) (λ body. Ok (Put id (expected_by if_match) body))))

abbrev pub delete_document : (query : List ℕ) → Option (List ℕ) → Result Request ReadRefusal
delete_document query if_match = then_read (id_in query) (λ id. Ok (Delete id (expected_by if_match)))

abbrev pub get_document : (query : List ℕ) → Result Request ReadRefusal
get_document query = then_read (id_in query) (λ id. Ok (Get id))

-- QUERIES

-- a query whose text is the parameter `query`
abbrev pub query_by : Result (List ℕ) ReadRefusal → Asked
query_by (Err refusal) = Plain (Err refusal)
query_by (Ok text) = Querying text plain_asking

-- INDEXES

-- the one definition of a list of one
abbrev pub only_definition : Option Data → Result (List ℕ × Texts) ReadRefusal
only_definition (Some (json.array (json.item (json.object ms) json.no_items))) = texts_in ms
only_definition other = Err (BadMember (codes "Indexes"))

abbrev pub texts_of_indexes : Data → Result (List ℕ × Texts) ReadRefusal
texts_of_indexes (json.object ms) = only_definition (member (codes "Indexes") ms)
texts_of_indexes other = Err (BadMember (codes "body"))

abbrev pub define_index : (body : List ℕ) → Result (List ℕ × Texts) ReadRefusal
define_index body = then_read (json_read (reading body)) texts_of_indexes

abbrev pub remove_index : (query : List ℕ) → Result Request ReadRefusal
remove_index query = then_read (name_in query) (λ name. Ok (Remove name))

abbrev pub staleness : (query : List ℕ) → Result Request ReadRefusal
staleness query = then_read (name_in query) (λ name. Ok (Stale name None))

-- WHAT IS ASKED, before the texts of a definition or of a query are read

abbrev pub plain : Result Request ReadRefusal → Asked
plain read = Plain (then_read read (λ request. Ok (Some (Do request))))

abbrev pub asked_on : Route → HttpRequest → Asked
asked_on route.PutDocument r = plain (put_document r.query r.body r.if_match)
asked_on route.DeleteDocument r = plain (delete_document r.query r.if_match)
asked_on route.GetDocument r = plain (get_document r.query)
asked_on route.Bulk r = plain (bulk_read r.body)
asked_on route.QueryByText r = query_by (parameter_read (codes "query") r.query)
asked_on route.Query r = asked_to_query (asking_of r.body)
asked_on route.DefineIndex r = asked_to_define (define_index r.body)
asked_on route.ListIndexes r = plain (Ok Indexes)
asked_on route.RemoveIndex r = plain (remove_index r.query)
asked_on route.Staleness r = plain (staleness r.query)
asked_on route.Stats r = plain (Ok Stats)

-- what a request asks, or why it asks nothing of this database
pub data HttpAsked : Type 0 where
  NoRoute : HttpAsked
  NoDatabase : HttpAsked
  Asks : Asked → HttpAsked

-- a path or a method that is not known has no route, whatever the database
abbrev pub asked_of_database : (database : List ℕ) → HttpRequest → Option (List ℕ × Route) → HttpAsked
asked_of_database database r None = NoRoute
asked_of_database database r (Some found) = if bytes_eq found.0 database then Asks (asked_on found.1 r) else NoDatabase

-- what a request asks of the database of this name
abbrev pub asked_over_http : (database : List ℕ) → HttpRequest → HttpAsked
asked_over_http database r = asked_of_database database r (route_at r.method r.path)
