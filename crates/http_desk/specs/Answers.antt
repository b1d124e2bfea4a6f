-- What is answered over HTTP from a desk.
use Rattle.std.specs.Prelude.{◌≡◌, ℕ, List, Bool, Some, Ok, Err}
use Rattle.spec_server.specs.Requests.{Request, Do}
use Rattle.spec_server.specs.Words.{LineRead}
use Rattle.spec_server.specs.Texts.{Asked}
use Rattle.spec_server.specs.Script.{refusal_reply}
use Rattle.http_read.specs.declared.request.HttpRequest.{HttpRequest}
use Rattle.spec_http.specs.Requests.{HttpAsked, NoRoute, NoDatabase, Asks, asked_over_http}
use Rattle.spec_http.specs.Answers.{no_database, no_route, response_to}
use Rattle.raven_lines.specs.Lines.{Comes}
use Rattle.spec_desk.specs.Lived.{Lived}
use Rattle.spec_desk.specs.Receipts.{GoesOn, Receipt, Standing}
use Rattle.http_desk.specs.Standings.{GivesReceipt}

-- Of a desk of any kind, where a look may find what is linked to what was seen last, and a desk stands as it shows.
module _ {D : Type 0} (Link : Lived → Lived → Type 0) (stands : D → Standing) where
  -- the desk x was asked this request and is then y, and the response has the reply of its receipt
  pub record IsReceived (x : D) (q : Request) (close : Bool) (bytes : List ℕ) (y : D) : Type 0 where
    pub receipt : Receipt
    pub given : GivesReceipt Link (stands x) q receipt (stands y)
    pub bytes_are : bytes ≡ response_to close receipt.reply

  -- What was read is refused, and the desk is as before; or it is a request, and the desk was asked it. Over HTTP nothing else is read.
  abbrev pub AnswersRead : D → LineRead → Bool → List ℕ → D → Type 0
  AnswersRead x (Err refusal) close bytes y = (bytes ≡ response_to close (refusal_reply refusal)) × (y ≡ x)
  AnswersRead x (Ok (Some (Do q))) close bytes y = IsReceived x q close bytes y
  AnswersRead x other close bytes y = ⊥

  -- what is asked comes to what is read, which is so answered
  pub record AnswersAsked (x : D) (asked : Asked) (close : Bool) (bytes : List ℕ) (y : D) : Type 0 where
    pub read : LineRead
    pub comes : Comes asked read
    pub answers : AnswersRead x read close bytes y

  -- without a route, or without this database, the desk is as before
  abbrev pub AnswersOverHttp : D → HttpAsked → Bool → List ℕ → D → Type 0
  AnswersOverHttp x NoRoute close bytes y = (bytes ≡ no_route close) × (y ≡ x)
  AnswersOverHttp x NoDatabase close bytes y = (bytes ≡ no_database close) × (y ≡ x)
  AnswersOverHttp x (Asks asked) close bytes y = AnswersAsked x asked close bytes y

  -- a desk with the name of its database answers a request with these bytes, and the name stays
  pub record AnswersWith (a : D × List ℕ) (request : HttpRequest) (close : Bool) (bytes : List ℕ) (b : D × List ℕ) : Type 0 where
    pub answers : AnswersOverHttp a.0 (asked_over_http a.1 request) close bytes b.0
    pub name : b.1 ≡ a.1

-- what holds of a desk with its name also if memory ran out: what never changes of a desk did not, nor the name, and it goes on
pub record Keeps {D : Type 0} (Same : D → D → Type 0) (stands : D → Standing) (a b : D × List ℕ) : Type 0 where
  pub same : Same a.0 b.0
  pub goes_on : GoesOn (stands a.0) (stands b.0)
  pub name : b.1 ≡ a.1
