-- What is read of a request over HTTP.
use Rattle.std.specs.Prelude.{Some, Result, Ok, Err}
use Rattle.spec_server.specs.Requests.{Do}
use Rattle.spec_server.specs.Words.{LineRead}
use Rattle.spec_server.specs.WellFormed.{IsWellFormed}
use Rattle.spec_http.specs.Requests as is
use Rattle.raven_request.specs.RequestRead.{Asks}
use Rattle.raven_request.specs.declared.request.Request.{Request}
use Rattle.http_front.specs.declared.refusal.HttpRefusal.{HttpRefusal}
use Rattle.http_front.specs.declared.refusal.HttpRefusal.TheVariants as refusal

-- it is what the request asks, or its refusal
abbrev pub AsksOverHttp : is.HttpAsked → Result Request HttpRefusal → Type 0
AsksOverHttp (is.Asks asked) (Ok request) = Asks asked (Ok request)
AsksOverHttp (is.Asks asked) (Err (refusal.Unread why)) = Asks asked (Err why)
AsksOverHttp is.NoRoute (Err refusal.NoRoute) = Unit {0}
AsksOverHttp is.NoDatabase (Err refusal.NoDatabase) = Unit {0}
AsksOverHttp asked other = ⊥

-- it is refused, or it is a request that meets the conditions of the calls that answer it; it is neither nothing nor the work of a worker
abbrev pub IsFormedRequest : LineRead → Type 0
IsFormedRequest (Err refusal) = Unit {0}
IsFormedRequest (Ok (Some (Do request))) = IsWellFormed (Do request)
IsFormedRequest other = ⊥
