-- What a line is read as, a client may send: it defines what a text says, and that is never an automatic index.
use Rattle.std.proofs.Common.{◌≡◌, ℕ, List, [], ◌∷◌, false, ◌||◌, Some, Result, Ok, Err, refl, ap}
use Rattle.std.specs.List.{list_any}
use Rattle.index_tree.specs.Definitions.{Definition, Texts}
use Rattle.index_tree.specs.Language.{LangRefusal}
use Rattle.spec_index.specs.World.{is_automatic}
use Rattle.spec_query.specs.Query.{Query}
use Rattle.spec_query.specs.Refusals.{QueryRefusal}
use Rattle.spec_server.specs.Requests.{AreFromClients}
use Rattle.spec_server.specs.Words.{LineRead}
use Rattle.spec_server.specs.Texts.{Asking, asked_by_text, defined_by, masked_by_text, parts_defined, plain_asking}
use Rattle.spec_server.specs.Script.{Given, events_of}
use Rattle.raven_lines.specs.Lines.{AreLines, IsLine, SayParts, no_part, one_more}
use Rattle.index_lang.specs.Says.{Says}
use Rattle.raven_laws.proofs.ClientLemmas.{IsReadFromClient, event-clients, line_of-client}
use Rattle.raven_reading.proofs.ByKind.{holds-by-kind}
use Rattle.raven_reading.proofs.TextLemmas.{said-by}

defined-client : (name : List ℕ) (texts : Texts) (answer : Result Definition LangRefusal) → Says texts answer → IsReadFromClient (defined_by name answer)
defined-client name texts (Err refusal) says = tt
defined-client name texts (Ok d) says = ap is_automatic (said-by texts d says).by_texts

queried-client : (asking : Asking) (answer : Result Query QueryRefusal) → IsReadFromClient (asked_by_text asking answer)
queried-client asking (Err refusal) = tt
queried-client asking (Ok q) = tt

-- none of the parts is an automatic index
parts-given : (reduce : List ℕ) (texts : List (List ℕ × List ℕ)) (parts : List (List ℕ × Definition)) → SayParts reduce texts (Ok parts) → list_any (λ p. is_automatic p.1) parts ≡ false
parts-given reduce texts parts no_part = refl
parts-given reduce ((name, map) ∷ texts) ((own, d) ∷ parts) (one_more says more) = λ i. (let by = said-by (map, Some reduce) d says in ap is_automatic by.by_texts i) || parts-given reduce texts parts more i

several-client : (reduce : List ℕ) (texts : List (List ℕ × List ℕ)) (answer : Result (List (List ℕ × Definition)) LangRefusal) → SayParts reduce texts answer → IsReadFromClient (parts_defined answer)
several-client reduce texts (Err refusal) say = tt
several-client reduce texts (Ok parts) say = parts-given reduce texts parts say

masked-client : (asking : Asking) (answer : Result Query QueryRefusal) → IsReadFromClient (masked_by_text asking answer)
masked-client asking (Err refusal) = tt
masked-client asking (Ok q) = tt

pub line-client : (line : List ℕ) (read : LineRead) → IsLine line read → IsReadFromClient read
line-client line read is = holds-by-kind IsReadFromClient line (record {
  plain = line_of-client line;
  refused = λ refusal. tt;
  defined = λ rest given answer e says. defined-client given.0 given.1 answer says;
  queried = λ parts answer u e says. queried-client plain_asking answer;
  asked = λ rest given answer e says. queried-client given.1 answer;
  defined_several = λ rest texts answer e say. several-client texts.reduce _ answer say;
  asked_several = λ rest given answer e says. masked-client given.1 answer;
}) read is

pub lines-client : (lines : List Given) → AreLines lines → AreFromClients (events_of lines)
lines-client [] are = tt
lines-client (g ∷ more) are = event-clients g.circumstance g.read (events_of more) (line-client g.line g.read are.0) (lines-client more are.1)
