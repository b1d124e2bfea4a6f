-- What a desk answers to a request over HTTP.
use Rattle.std.proofs.Common.{◌≡◌, ℕ, ◌≤◌, List, Bool, Some, Result, Ok, Err, IfOk, refl, subst}
use Rattle.spec_server.specs.Requests.{Do}
use Rattle.http_read.specs.declared.request.HttpRequest.{HttpRequest}
use Rattle.spec_http.specs.Requests as is
use Rattle.spec_http.specs.Requests.{asked_over_http}
use Rattle.spec_http.specs.Answers.{response_to}
use Rattle.raven_request.specs.RequestView.{request_view}
use Rattle.raven_request.specs.declared.request.Request.{Request}
use Rattle.raven_reply.specs.ReplyView.{reply_view}
use Rattle.http_front.specs.Answered.{AnswersRefusal}
use Rattle.http_front.specs.Asked.{AsksOverHttp}
use Rattle.http_front.specs.declared.refusal.HttpRefusal.{HttpRefusal}
use Rattle.http_front.specs.declared.refusal.HttpRefusal.TheVariants as refusal
use Rattle.spec_desk.specs.Lived.{Lived}
use Rattle.spec_desk.specs.Receipts.{GoesOn, IsAsked, Standing, looks_of}
use Rattle.raven_desk.specs.ReceiptView.{receipt_view}
use Rattle.raven_desk.specs.declared.receipt.Receipt.{Receipt}
use Rattle.spec_server.specs.Replies.{Reply}
use Rattle.http_desk.specs.Standings.{GivesReceipt}
use Rattle.http_desk.specs.Answers.{AnswersOverHttp}
use Rattle.http_desk.proofs.Looks.{http-looks}

-- a request that is read can be asked
pub looks-here : (database : List ℕ) (r : HttpRequest) (request : Request) → AsksOverHttp (asked_over_http database r) (Ok request) → 1 ≤ looks_of (request_view request)
looks-here database r request h = by (asked_over_http database r) refl h
  where
    by : (a : is.HttpAsked) → asked_over_http database r ≡ a → AsksOverHttp a (Ok request) → 1 ≤ looks_of (request_view request)
    by is.NoRoute e k = absurd k
    by is.NoDatabase e k = absurd k
    by (is.Asks asked) e k = http-looks database r asked (request_view request) e k

module _ {D : Type 0} (Link : Lived → Lived → Type 0) (stands : D → Standing) where
  -- the desk was asked
  received : (a : is.HttpAsked) (request : Request) (x : D) (receipt : Receipt) (close : Bool) (bytes : List ℕ) (y : D) → AsksOverHttp a (Ok request)
      → GivesReceipt Link (stands x) (request_view request) (receipt_view receipt) (stands y)
      → bytes ≡ response_to close (reply_view receipt.reply) → AnswersOverHttp Link stands x a close bytes y
  received is.NoRoute request x receipt close bytes y h given e = absurd h
  received is.NoDatabase request x receipt close bytes y h given e = absurd h
  received (is.Asks what) request x receipt close bytes y h given e = record {
    read = Ok (Some (Do (request_view request)));
    comes = h;
    answers = record { receipt = receipt_view receipt; given = given; bytes_are = e };
  }

  pub from-desk : (a : is.HttpAsked) (request : Request) (x : D) (receipt : Receipt) (close : Bool) {E : Type 0} (result : Result (List ℕ) E) (y : D) → AsksOverHttp a (Ok request)
      → IsAsked Link (stands x) (request_view request) (receipt_view receipt) (stands y) → GoesOn (stands x) (stands y)
      → IfOk result (λ bytes. bytes ≡ response_to close (reply_view receipt.reply)) → IfOk result (λ bytes. AnswersOverHttp Link stands x a close bytes y)
  from-desk a request x receipt close (Err fault) y h asked goes_on e = tt
  from-desk a request x receipt close (Ok bytes) y h asked goes_on e =
      received a request x receipt close bytes y h (record { asked = asked; goes_on = goes_on }) e

  -- it was not
  refused : (a : is.HttpAsked) (why : HttpRefusal) (x : D) (close : Bool) (bytes : List ℕ) → AsksOverHttp a (Err why) → AnswersRefusal why close bytes
      → AnswersOverHttp Link stands x a close bytes x
  refused is.NoRoute refusal.NoRoute x close bytes h e = (e, refl)
  refused is.NoRoute refusal.NoDatabase x close bytes h e = absurd h
  refused is.NoRoute (refusal.Unread why) x close bytes h e = absurd h
  refused is.NoDatabase refusal.NoRoute x close bytes h e = absurd h
  refused is.NoDatabase refusal.NoDatabase x close bytes h e = (e, refl)
  refused is.NoDatabase (refusal.Unread why) x close bytes h e = absurd h
  refused (is.Asks what) refusal.NoRoute x close bytes h e = absurd h
  refused (is.Asks what) refusal.NoDatabase x close bytes h e = absurd h
  refused (is.Asks what) (refusal.Unread why) x close bytes h e =
      let told = e what h in
      record { read = Err told.refused.refusal; comes = told.refused.comes; answers = (subst (λ (reply : Reply). bytes ≡ response_to close reply) told.refused.reply_is told.bytes_are, refl) }

  pub from-refusal : (a : is.HttpAsked) (why : HttpRefusal) (x : D) (close : Bool) {E : Type 0} (result : Result (List ℕ) E) → AsksOverHttp a (Err why) → IfOk result (λ bytes. AnswersRefusal why close bytes)
      → IfOk result (λ bytes. AnswersOverHttp Link stands x a close bytes x)
  from-refusal a why x close (Err fault) h e = tt
  from-refusal a why x close (Ok bytes) h e = refused a why x close bytes h e
