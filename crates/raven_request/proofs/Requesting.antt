-- What is asked by the texts of definitions and of queries.
use Rattle.std.proofs.Common.{◌≡◌, ℕ, List, Option, Some, None, Result, Ok, Err, refl, sym, ap, subst}
use Rattle.spec_data.specs.Data.{Data}
use Rattle.spec_data.specs.Faults.{Fault}
use Rattle.index_tree.specs.Definitions.{Texts}
use Rattle.index_definition.specs.RefusalView.{refusal_view}
use Rattle.index_definition.specs.declared.refusal.LangKind.{LangKind}
use Rattle.index_definition.specs.declared.refusal.Part.{Part}
use Rattle.index_lang.specs.ByTexts.{Gives, Named}
use Rattle.index_lang.specs.Says.{Says}
use Rattle.raven_lines.specs.Lines.{Comes, IsDefining, IsQuerying}
use Rattle.rql_grammar.specs.Kinds.{query_refusal}
use Rattle.raven_value.specs.Refusal.{fault_in}
use Rattle.raven_value.specs.declared.fault.IdRefusal.{IdRefusal}
use Rattle.rql_grammar.specs.declared.kind.RqlKind.{RqlKind}
use Rattle.rql_parser.specs.Parse as rql
use Rattle.rql_parser.specs.declared.refusal.RqlRefusal.TheVariants as rql_refusal
use Rattle.spec_query.specs.Query as query
use Rattle.spec_query.specs.Query.{Query}
use Rattle.spec_server.specs.Requests as is
use Rattle.spec_server.specs.Requests.{Ask, Define, Do}
use Rattle.spec_server.specs.Words as read
use Rattle.spec_server.specs.Words.{LineRead, then_read}
use Rattle.spec_server.specs.Texts.{Asked, Asking, Defining, Plain, Querying, asked_to_define, asked_to_query, asking_of_body, texts_of_body, whole_ask}
use Rattle.raven_request.proofs.Readings.{refused_on}
use Rattle.raven_request.specs.RequestRead.{AsksBy, ComesToRefusal, IsRefusedFor}
use Rattle.raven_request.specs.RequestView.{IsBadId, IsBadName, Refuses, define_view}
use Rattle.raven_request.specs.declared.request.ReadRefusal.{ReadRefusal}
use Rattle.raven_request.specs.declared.request.ReadRefusal.TheVariants as refusal

-- REFUSALS

-- what has come to a refusal may as well have run out of memory
pub told-refused : (asked : Asked) (why : ReadRefusal) → ComesToRefusal asked why → IsRefusedFor asked why
told-refused asked refusal.UnknownLine h = h
told-refused asked refusal.NotJson h = h
told-refused asked refusal.NumberNotWhole h = h
told-refused asked refusal.TooDeep h = h
told-refused asked (refusal.BadId why) h = h
told-refused asked (refusal.BadName why) h = h
told-refused asked (refusal.BadMember name) h = h
told-refused asked (refusal.BadDefinition part at kind) h = h
told-refused asked (refusal.BadQuery at kind) h = h
told-refused asked refusal.NoMemory h = tt

-- what is refused for a cause of one asking may be refused for it in another
pub refused-as : (a b : Asked) (why : ReadRefusal) → (ComesToRefusal a why → IsRefusedFor b why) → IsRefusedFor a why → IsRefusedFor b why
refused-as a b refusal.UnknownLine f h = f h
refused-as a b refusal.NotJson f h = f h
refused-as a b refusal.NumberNotWhole f h = f h
refused-as a b refusal.TooDeep f h = f h
refused-as a b (refusal.BadId why) f h = f h
refused-as a b (refusal.BadName why) f h = f h
refused-as a b (refusal.BadMember name) f h = f h
refused-as a b (refusal.BadDefinition part at kind) f h = f h
refused-as a b (refusal.BadQuery at kind) f h = f h
refused-as a b refusal.NoMemory f h = tt

-- no texts are to be read
pub plainly-refused : (told : LineRead) (why : ReadRefusal) → Refuses why told → IsRefusedFor (Plain told) why
plainly-refused told why h = told-refused (Plain told) why (record { read = told; comes = refl; told = h })

-- what is read is not refused
module _ {A : Type 0} (asked : Asked) (given : A) where
  abbrev as_read : Result A read.ReadRefusal
  as_read = Ok given

  no_id : (why : IdRefusal) (fault : Option Fault) → IsBadId fault as_read → IsRefusedFor asked (refusal.BadId why)
  no_id why None h = absurd h
  no_id why (Some fault) h = absurd cc

  no_name : (why : IdRefusal) (fault : Option Fault) → IsBadName fault as_read → IsRefusedFor asked (refusal.BadName why)
  no_name why None h = absurd h
  no_name why (Some fault) h = absurd cc

  pub not_refused : (why : ReadRefusal) → Refuses why as_read → IsRefusedFor asked why
  not_refused refusal.UnknownLine h = absurd cc
  not_refused refusal.NotJson h = absurd cc
  not_refused refusal.NumberNotWhole h = absurd cc
  not_refused refusal.TooDeep h = absurd cc
  not_refused (refusal.BadId why) h = no_id why (fault_in why) h
  not_refused (refusal.BadName why) h = no_name why (fault_in why) h
  not_refused (refusal.BadMember name) h = absurd cc
  not_refused (refusal.BadDefinition part at kind) h = absurd cc
  not_refused (refusal.BadQuery at kind) h = absurd cc
  not_refused refusal.NoMemory h = tt

-- DEFINITIONS

-- the name and the texts are not found
pub asks-unread : (given : Result (List ℕ × Texts) read.ReadRefusal) (why : ReadRefusal) → Refuses why given → IsRefusedFor (asked_to_define given) why
asks-unread (Ok given) why h = not_refused (Defining given.0 given.1) given why h
asks-unread (Err told) why h = plainly-refused (Err told) why (refused_on why (Err told) (λ given. Ok None) h)

-- they are found
pub asks-read : {A : Type 0} (view : A → is.Request) (name : List ℕ) (texts : Texts) (given : Result (List ℕ × Texts) read.ReadRefusal) (result : Result A ReadRefusal)
    → given ≡ Ok (name, texts) → AsksBy view (Defining name texts) result → AsksBy view (asked_to_define given) result
asks-read view name texts given result is h = subst (λ g. AsksBy view (asked_to_define g) result) (sym is) h

-- the texts say a definition
pub asks-defined : (name : List ℕ) (texts : Texts) (d : Named) → Gives name texts (Ok d) → IsDefining name texts (Ok (Some (Do (define_view d))))
asks-defined name texts d gives = record { answer = Ok d.definition; says = gives.1; read = ap (λ n. Ok (Some (Do (Define n d.definition)))) gives.0 }

-- the texts are refused
pub asks-refused : (name : List ℕ) (texts : Texts) (p q : Part) (a b : ℕ) (k l : LangKind) → p ≡ q → a ≡ b → k ≡ l → Says texts (Err (refusal_view q b l))
    → ComesToRefusal (Defining name texts) (refusal.BadDefinition p a k)
asks-refused name texts p q a b k l part at kind says = record {
  read = Err (read.BadDefinition (refusal_view q b l));
  comes = record { answer = Err (refusal_view q b l); says = says; read = refl };
  told = λ i. Err (read.BadDefinition (refusal_view ((sym part) i) ((sym at) i) ((sym kind) i)));
}

-- QUERIES

-- the text and what is asked beside it are not found
pub asks-unasked : (given : Result (List ℕ × Asking) read.ReadRefusal) (why : ReadRefusal) → Refuses why given → IsRefusedFor (asked_to_query given) why
asks-unasked (Ok given) why h = not_refused (Querying given.0 given.1) given why h
asks-unasked (Err told) why h = plainly-refused (Err told) why (refused_on why (Err told) (λ given. Ok None) h)

-- they are found
pub asks-given : {A : Type 0} (view : A → is.Request) (text : List ℕ) (asking : Asking) (given : Result (List ℕ × Asking) read.ReadRefusal) (result : Result A ReadRefusal)
    → given ≡ Ok (text, asking) → AsksBy view (Querying text asking) result → AsksBy view (asked_to_query given) result
asks-given view text asking given result is h = subst (λ g. AsksBy view (asked_to_query g) result) (sym is) h

-- the text says a query
pub asks-query : (text : List ℕ) (asking : Asking) (q : Query) (ask : query.Ask) → rql.IsParsed text (Ok q) → ask ≡ whole_ask asking q → IsQuerying text asking (Ok (Some (Do (Ask ask))))
asks-query text asking q ask parsed is = record { answer = Ok q; says = parsed; read = ap (λ a. Ok (Some (Do (Ask a)))) is }

-- the text is refused
pub asks-no-query : (text : List ℕ) (asking : Asking) (at : ℕ) (kind : RqlKind) → rql.IsParsed text (Err (rql_refusal.At at kind)) → ComesToRefusal (Querying text asking) (refusal.BadQuery at kind)
asks-no-query text asking at kind parsed = record {
  read = Err (read.BadQuery (query_refusal at kind));
  comes = record { answer = Err (query_refusal at kind); says = record { at = at; kind = kind; given = parsed; seen = refl }; read = refl };
  told = refl;
}

-- JSON THAT IS READ FIRST

module _ {A : Type 0} (asked_to : Result A read.ReadRefusal → Asked) (more : Data → Result A read.ReadRefusal) (json : Result Data read.ReadRefusal) (d : Data) (is : json ≡ Ok d) where
  pub comes-then : (told : LineRead) → Comes (asked_to (more d)) told → Comes (asked_to (then_read json more)) told
  comes-then told h = subst (λ r. Comes (asked_to (then_read r more)) told) (sym is) h

  pub refused-then : (why : ReadRefusal) → IsRefusedFor (asked_to (more d)) why → IsRefusedFor (asked_to (then_read json more)) why
  refused-then why h = subst (λ r. IsRefusedFor (asked_to (then_read r more)) why) (sym is) h

module _ (json : Result Data read.ReadRefusal) (d : Data) where
  pub define-then : (told : LineRead) → json ≡ Ok d → Comes (asked_to_define (texts_of_body d)) told → Comes (asked_to_define (then_read json texts_of_body)) told
  define-then told is h = comes-then asked_to_define texts_of_body json d is told h

  pub define-refused : (why : ReadRefusal) → json ≡ Ok d → IsRefusedFor (asked_to_define (texts_of_body d)) why → IsRefusedFor (asked_to_define (then_read json texts_of_body)) why
  define-refused why is h = refused-then asked_to_define texts_of_body json d is why h

  pub query-then : (told : LineRead) → json ≡ Ok d → Comes (asked_to_query (asking_of_body d)) told → Comes (asked_to_query (then_read json asking_of_body)) told
  query-then told is h = comes-then asked_to_query asking_of_body json d is told h

  pub query-refused : (why : ReadRefusal) → json ≡ Ok d → IsRefusedFor (asked_to_query (asking_of_body d)) why → IsRefusedFor (asked_to_query (then_read json asking_of_body)) why
  query-refused why is h = refused-then asked_to_query asking_of_body json d is why h

pub ruleset requesting = (asks-unread, asks-read, asks-defined, asks-refused, asks-unasked, asks-given, asks-query, asks-no-query, define-then, define-refused, query-then, query-refused, refused_on)
