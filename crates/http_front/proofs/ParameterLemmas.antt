-- The value of a parameter, or that it is missing.
use Rattle.std.proofs.Common.{◌≡◌, ℕ, List, Some, None, Ok, sym, ap}
use Rattle.spec_http.specs.Requests.{or_missing, parameter_read}
use Rattle.http_parts.specs.Parameters.{parameter}
use Rattle.raven_request.specs.RequestView.{IsBadMember, Refuses}
use Rattle.raven_request.specs.declared.request.ReadRefusal.{ReadRefusal}
use Rattle.raven_request.proofs.Readings.{bad_member}

pub parameter-found : (name query value : List ℕ) → Some value ≡ parameter name query → parameter_read name query ≡ Ok value
parameter-found name query value h = ap (or_missing name) (sym h)

pub parameter-missing : (name query : List ℕ) (why : ReadRefusal) → None ≡ parameter name query → IsBadMember name why → Refuses why (parameter_read name query)
parameter-missing name query why h bad = bad_member name why (parameter_read name query) bad (ap (or_missing name) (sym h))

pub ruleset parameters = (parameter-found, parameter-missing)
