-- What requests ask.
use Rattle.std.proofs.Common.{◌≡◌, ℕ, List, Some, None, Result, Ok, Err, sym, ap, subst}
use Rattle.spec_server.specs.Requests as is
use Rattle.spec_server.specs.Requests.{Do}
use Rattle.spec_server.specs.Words as read
use Rattle.spec_server.specs.Words.{LineRead, then_read}
use Rattle.spec_server.specs.Texts.{Querying, plain_asking}
use Rattle.spec_http.specs.Requests.{plain, query_by}
use Rattle.raven_request.specs.RequestRead.{Asks}
use Rattle.raven_request.specs.RequestView.{Reads, Refuses, request_view}
use Rattle.raven_request.specs.declared.request.Request.{Request}
use Rattle.raven_request.specs.declared.request.ReadRefusal.{ReadRefusal}
use Rattle.raven_request.proofs.Readings.{refused_on}
use Rattle.raven_request.proofs.Requesting.{not_refused, plainly-refused}

abbrev done : is.Request → LineRead
done request = Ok (Some (Do request))

-- no texts are to be read
pub asks-plainly : (got : Result is.Request read.ReadRefusal) (result : Result Request ReadRefusal) → Reads request_view result got → Asks (plain got) result
asks-plainly got (Ok request) h = sym (ap (λ r. then_read r done) h)
asks-plainly got (Err why) h = plainly-refused (then_read got done) why (refused_on why got done h)

-- the query is the parameter
pub asks-by-text : (given : Result (List ℕ) read.ReadRefusal) (text : List ℕ) (result : Result Request ReadRefusal) → given ≡ Ok text → Asks (Querying text plain_asking) result → Asks (query_by given) result
asks-by-text given text result e h = subst (λ g. Asks (query_by g) result) (sym e) h

-- there is no such parameter
pub asks-no-text : (given : Result (List ℕ) read.ReadRefusal) (why : ReadRefusal) → Refuses why given → Asks (query_by given) (Err why)
asks-no-text (Ok text) why h = not_refused (Querying text plain_asking) text why h
asks-no-text (Err told) why h = plainly-refused (Err told) why (refused_on why (Err told) (λ given. Ok None) h)

pub ruleset asked = (asks-plainly, asks-by-text, asks-no-text)
