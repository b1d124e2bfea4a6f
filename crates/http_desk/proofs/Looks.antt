-- What is asked over HTTP looks at least once.
use Rattle.std.proofs.Common.{◌≡◌, ℕ, ◌≤◌, ◌&&◌, List, Bool, true, false, cond, pos, negsuc, Option, Some, None, Result, Ok, Err, refl, sym, subst, arith, codes}
use Rattle.std.specs.Prelude.{nat_le, if◌then◌else◌}
use Rattle.std.specs.Str.{bytes_eq}
use Rattle.spec_data.specs.Data.{Data, Entries, null, flag, num, text, array, object}
use Rattle.spec_data.specs.Json.{reading}
use Rattle.spec_data.specs.Members.{member}
use Rattle.index_tree.specs.Language.{LangRefusal}
use Rattle.index_tree.specs.Definitions.{Definition, Texts}
use Rattle.spec_query.specs.Query.{Query}
use Rattle.spec_query.specs.Refusals.{QueryRefusal}
use Rattle.spec_server.specs.Requests.{Do, Request}
use Rattle.spec_server.specs.Words.{BadMember, LineRead, ReadRefusal, json_read, object_read, then_read}
use Rattle.spec_server.specs.Commands.{bulk_read, commands_of}
use Rattle.spec_server.specs.Texts.{Asked, Asking, asked_by_text, asked_to_define, asked_to_query, asking_in, asking_of, asking_of_body, asking_with, beside_in, cutoff_member, defined_by, looks_member, parameters_member, plain_asking, query_member, size_member, start_member, wait_member}
use Rattle.http_parts.specs.Routes.{route_at}
use Rattle.http_parts.specs.declared.route.Route.{Route}
use Rattle.http_parts.specs.declared.route.Route.TheVariants as route
use Rattle.http_read.specs.declared.request.HttpRequest.{HttpRequest}
use Rattle.spec_http.specs.Requests.{NoDatabase, Asks, asked_of_database, asked_on, asked_over_http, define_index, delete_document, get_document, id_in, name_in, parameter_read, plain, put_document, query_by, remove_index, staleness}
use Rattle.raven_lines.specs.Lines.{Comes}
use Rattle.spec_desk.specs.Receipts.{looks_of}

-- what was read, if it was, meets P
abbrev IfRead : {A : Type 0} → (A → Type 0) → Result A ReadRefusal → Type 0
IfRead P (Err refusal) = Unit {0}
IfRead P (Ok a) = P a

then-reads : {A B : Type 0} (P : B → Type 0) (got : Result A ReadRefusal) (more : A → Result B ReadRefusal) → ((a : A) → IfRead P (more a)) → IfRead P (then_read got more)
then-reads P (Err refusal) more f = tt
then-reads P (Ok a) more f = f a

then-both : {A B : Type 0} (Q : A → Type 0) (P : B → Type 0) (got : Result A ReadRefusal) (more : A → Result B ReadRefusal) → IfRead Q got → ((a : A) → Q a → IfRead P (more a)) → IfRead P (then_read got more)
then-both Q P (Err refusal) more q f = tt
then-both Q P (Ok a) more q f = f a q

abbrev Looks : Request → Type 0
Looks q = 1 ≤ looks_of q

-- a request that is read looks at least once
abbrev LooksIn : LineRead → Type 0
LooksIn (Ok (Some (Do q))) = Looks q
LooksIn other = Unit {0}

-- REQUESTS OF DOCUMENTS AND NAMES

id-looks : (query : List ℕ) (more : List ℕ → Result Request ReadRefusal) → ((id : List ℕ) → IfRead Looks (more id)) → IfRead Looks (then_read (id_in query) more)
id-looks query more f = then-reads Looks (id_in query) more f

name-looks : (query : List ℕ) (more : List ℕ → Result Request ReadRefusal) → ((id : List ℕ) → IfRead Looks (more id)) → IfRead Looks (then_read (name_in query) more)
name-looks query more f = then-reads Looks (name_in query) more f

put-looks : (query body : List ℕ) (if_match : Option (List ℕ)) → IfRead Looks (put_document query body if_match)
put-looks query body if_match =
    then-reads Looks (json_read (reading body)) _ (λ value. id-looks query _ (λ id. then-reads Looks (object_read (codes "body") (Some value)) _ (λ document. omega arith)))

bulk-looks : (body : List ℕ) → IfRead Looks (bulk_read body)
bulk-looks body = then-reads Looks (json_read (reading body)) _ (λ value. then-reads Looks (commands_of value) _ (λ commands. omega arith))

-- QUERIES

between : (n : ℕ) (b : Bool) → (nat_le 1 n && nat_le n 64) ≡ b → IfRead (λ k. 1 ≤ k) (if b then Ok n else Err (BadMember (codes "Looks")))
between n true h = grind arith
between n false h = tt

member-looks : (o : Option Data) → IfRead (λ n. 1 ≤ n) (looks_member o)
member-looks None = omega arith
member-looks (Some null) = tt
member-looks (Some (flag b)) = tt
member-looks (Some (num (pos n))) = between n (nat_le 1 n && nat_le n 64) refl
member-looks (Some (num (negsuc n))) = tt
member-looks (Some (text s)) = tt
member-looks (Some (array ds)) = tt
member-looks (Some (object ms)) = tt

abbrev SomeLooks : Asking → Type 0
SomeLooks a = 1 ≤ a.looks

with-looks : (parameters : _) (ms : Entries) → IfRead SomeLooks (asking_with parameters ms)
with-looks parameters ms =
    then-reads SomeLooks (start_member (member (codes "Start") ms)) _ (λ start.
    then-reads SomeLooks (size_member (member (codes "PageSize") ms)) _ (λ size.
    then-reads SomeLooks (cutoff_member (member (codes "CutoffEtag") ms)) _ (λ cutoff.
    then-reads SomeLooks (wait_member (member (codes "WaitForNonStaleResults") ms)) _ (λ waits.
    then-both (λ n. 1 ≤ n) SomeLooks (looks_member (member (codes "Looks") ms)) _ (member-looks (member (codes "Looks") ms)) (λ looks some. some)))))

in-looks : (ms : Entries) → IfRead (λ (g : List ℕ × Asking). SomeLooks g.1) (asking_in ms)
in-looks ms =
    then-reads (λ (g : List ℕ × Asking). SomeLooks g.1) (query_member (member (codes "Query") ms)) _ (λ words.
    then-both SomeLooks (λ (g : List ℕ × Asking). SomeLooks g.1) (beside_in ms) _ (then-reads SomeLooks (parameters_member (member (codes "QueryParameters") ms)) _ (λ parameters. with-looks parameters ms)) (λ asking some. some))

body-looks : (d : Data) → IfRead (λ (g : List ℕ × Asking). SomeLooks g.1) (asking_of_body d)
body-looks null = tt
body-looks (flag b) = tt
body-looks (num n) = tt
body-looks (text s) = tt
body-looks (array ds) = tt
body-looks (object ms) = in-looks ms

of-looks : (body : List ℕ) → IfRead (λ (g : List ℕ × Asking). SomeLooks g.1) (asking_of body)
of-looks body = then-reads (λ (g : List ℕ × Asking). SomeLooks g.1) (json_read (reading body)) asking_of_body body-looks

-- one that waits looks as often as it asks at most, and another looks once
either-looks : (waits : Bool) (n : ℕ) → 1 ≤ n → 1 ≤ (if waits then n else 1)
either-looks true n some = some
either-looks false n some = omega arith

answer-looks : (asking : Asking) (answer : Result Query QueryRefusal) → SomeLooks asking → LooksIn (asked_by_text asking answer)
answer-looks asking (Err refusal) some = tt
answer-looks asking (Ok q) some = either-looks asking.waits asking.looks some

-- WHAT IS ASKED

plain-looks : (got : Result Request ReadRefusal) (read : LineRead) → IfRead Looks got → Comes (plain got) read → LooksIn read
plain-looks (Err refusal) read f h = subst LooksIn (sym h) tt
plain-looks (Ok request) read f h = subst LooksIn (sym h) f

by-text-looks : (given : Result (List ℕ) ReadRefusal) (read : LineRead) → Comes (query_by given) read → LooksIn read
by-text-looks (Err refusal) read h = subst LooksIn (sym h) tt
by-text-looks (Ok words) read h = subst LooksIn (sym h.read) (answer-looks plain_asking h.answer (omega arith))

ask-looks : (given : Result (List ℕ × Asking) ReadRefusal) (read : LineRead) → IfRead (λ (g : List ℕ × Asking). SomeLooks g.1) given → Comes (asked_to_query given) read → LooksIn read
ask-looks (Err refusal) read f h = subst LooksIn (sym h) tt
ask-looks (Ok g) read f h = subst LooksIn (sym h.read) (answer-looks g.1 h.answer f)

definition-looks : (name : List ℕ) (answer : Result Definition LangRefusal) → LooksIn (defined_by name answer)
definition-looks name (Err refusal) = tt
definition-looks name (Ok d) = omega arith

define-looks : (given : Result (List ℕ × Texts) ReadRefusal) (read : LineRead) → Comes (asked_to_define given) read → LooksIn read
define-looks (Err refusal) read h = subst LooksIn (sym h) tt
define-looks (Ok g) read h = subst LooksIn (sym h.read) (definition-looks g.0 h.answer)

on-looks : (at : Route) (r : HttpRequest) (read : LineRead) → Comes (asked_on at r) read → LooksIn read
on-looks route.PutDocument r read h = plain-looks (put_document r.query r.body r.if_match) read (put-looks r.query r.body r.if_match) h
on-looks route.DeleteDocument r read h = plain-looks (delete_document r.query r.if_match) read (id-looks r.query _ (λ id. omega arith)) h
on-looks route.GetDocument r read h = plain-looks (get_document r.query) read (id-looks r.query _ (λ id. omega arith)) h
on-looks route.Bulk r read h = plain-looks (bulk_read r.body) read (bulk-looks r.body) h
on-looks route.QueryByText r read h = by-text-looks (parameter_read (codes "query") r.query) read h
on-looks route.Query r read h = ask-looks (asking_of r.body) read (of-looks r.body) h
on-looks route.DefineIndex r read h = define-looks (define_index r.body) read h
on-looks route.ListIndexes r read h = subst LooksIn (sym h) (omega arith)
on-looks route.RemoveIndex r read h = plain-looks (remove_index r.query) read (name-looks r.query _ (λ name. omega arith)) h
on-looks route.Staleness r read h = plain-looks (staleness r.query) read (name-looks r.query _ (λ name. omega arith)) h
on-looks route.Stats r read h = subst LooksIn (sym h) (omega arith)

same_asked : (a b : Asked) → Asks a ≡ Asks b → a ≡ b
same_asked a b h = cc

pub http-looks : (database : List ℕ) (r : HttpRequest) (asked : Asked) (q : Request) → asked_over_http database r ≡ Asks asked → Comes asked (Ok (Some (Do q))) → 1 ≤ looks_of q
http-looks database r asked q e h = by (route_at r.method r.path) e
  where
    here : (at : Route) → Asks (asked_on at r) ≡ Asks asked → 1 ≤ looks_of q
    here at g = on-looks at r (Ok (Some (Do q))) (subst (λ a. Comes a (Ok (Some (Do q)))) (sym (same_asked (asked_on at r) asked g)) h)

    by : (o : Option (List ℕ × Route)) → asked_of_database database r o ≡ Asks asked → 1 ≤ looks_of q
    by None g = absurd cc
    by (Some found) g = elim (bytes_eq found.0 database) as (λ b. cond b (Asks (asked_on found.1 r)) NoDatabase ≡ Asks asked → 1 ≤ looks_of q) [
      | true ↦ λ k. here found.1 k
      | false ↦ λ k. absurd cc
    ] g
