-- What a request asks, by its route.
use Rattle.std.proofs.Common.{◌≡◌, ℕ, List, Bool, true, false, Option, Some, None, Result, Ok, Err, sym, subst}
use Rattle.std.specs.Prelude.{if◌then◌else◌}
use Rattle.std.specs.Str.{bytes_eq}
use Rattle.http_parts.specs.Routes.{route_at}
use Rattle.http_parts.specs.declared.route.Route.{Route}
use Rattle.http_read.specs.declared.request.HttpRequest.{HttpRequest}
use Rattle.spec_server.specs.Requests.{Do}
use Rattle.spec_server.specs.WellFormed.{IsWellFormed}
use Rattle.spec_http.specs.Requests as is
use Rattle.spec_http.specs.Requests.{asked_of_database, asked_on, asked_over_http}
use Rattle.raven_request.specs.RequestRead.{Asks}
use Rattle.raven_request.specs.RequestView.{request_view}
use Rattle.raven_request.specs.declared.request.Request.{Request}
use Rattle.raven_request.specs.declared.request.ReadRefusal.{ReadRefusal}
use Rattle.http_front.specs.Asked.{AsksOverHttp}
use Rattle.http_front.specs.declared.refusal.HttpRefusal.{HttpRefusal}
use Rattle.http_front.specs.declared.refusal.HttpRefusal.TheVariants as refusal
use Rattle.http_front.proofs.Formed.{on-formed}

module _ (database : List ℕ) (r : HttpRequest) where
  pub asked-nowhere : None ≡ route_at r.method r.path → AsksOverHttp (asked_over_http database r) (Err refusal.NoRoute)
  asked-nowhere h = subst (λ (o : Option (List ℕ × Route)). AsksOverHttp (asked_of_database database r o) (Err refusal.NoRoute)) h tt

  module _ (name : List ℕ) (route : Route) (found : Some (name, route) ≡ route_at r.method r.path) where
    at : (result : Result Request HttpRefusal) → AsksOverHttp (if bytes_eq name database then is.Asks (asked_on route r) else is.NoDatabase) result → AsksOverHttp (asked_over_http database r) result
    at result h = subst (λ (o : Option (List ℕ × Route)). AsksOverHttp (asked_of_database database r o) result) found h

    pub asked-elsewhere : bytes_eq name database ≡ false → AsksOverHttp (asked_over_http database r) (Err refusal.NoDatabase)
    asked-elsewhere other = at (Err refusal.NoDatabase) (subst (λ (t : Bool). AsksOverHttp (if t then is.Asks (asked_on route r) else is.NoDatabase) (Err refusal.NoDatabase)) (sym other) tt)

    pub asked-here : (request : Request) → bytes_eq name database ≡ true → Asks (asked_on route r) (Ok request) → AsksOverHttp (asked_over_http database r) (Ok request)
    asked-here request same h = at (Ok request) (subst (λ (t : Bool). AsksOverHttp (if t then is.Asks (asked_on route r) else is.NoDatabase) (Ok request)) (sym same) h)

    pub asked-badly : (why : ReadRefusal) → bytes_eq name database ≡ true → Asks (asked_on route r) (Err why) → AsksOverHttp (asked_over_http database r) (Err (refusal.Unread why))
    asked-badly why same h = at (Err (refusal.Unread why)) (subst (λ (t : Bool). AsksOverHttp (if t then is.Asks (asked_on route r) else is.NoDatabase) (Err (refusal.Unread why))) (sym same) h)

pub formed-here : (route : Route) (r : HttpRequest) (request : Request) → Asks (asked_on route r) (Ok request) → IsWellFormed (Do (request_view request))
formed-here route r request h = on-formed route r (Ok (Some (Do (request_view request)))) h

pub ruleset routed = (asked-nowhere, asked-elsewhere, asked-here, asked-badly, formed-here)
