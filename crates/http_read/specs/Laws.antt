-- Bytes are read in one way.
use Rattle.std.specs.Prelude.{◌≡◌, ℕ, List}
use Rattle.http_read.specs.declared.end.HttpEnd.{HttpEnd}
use Rattle.http_read.specs.declared.request.HttpRequest.{HttpRequest}
use Rattle.http_read.specs.Requests.{Next, IsNext, AreRequests}

-- bytes begin with one request, or have one end
abbrev pub NextIsOne : Type 0
NextIsOne = (bytes : List ℕ) (a b : Next) → IsNext bytes a → IsNext bytes b → a ≡ b

-- bytes are one list of requests and have one end
abbrev pub RequestsAreOne : Type 0
RequestsAreOne = (bytes : List ℕ) (some others : List HttpRequest) (end other : HttpEnd) → AreRequests bytes some end → AreRequests bytes others other → (some ≡ others) × (end ≡ other)
