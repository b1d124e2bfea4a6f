-- What a session reads, asks and writes.
use Rattle.std.specs.Prelude.{◌≡◌, ◌≢◌, ℕ, ◌+◌, ◌<◌, ◌==◌, ◌⊎◌, Bool, true, false, List, [], ◌++◌, if◌then◌else◌, Option, Some, None}
use Rattle.raven_ports.specs.Reported.{appended}
use Rattle.http_read.specs.declared.end.HttpEnd.{HttpEnd}
use Rattle.http_read.specs.declared.end.HttpEnd.TheVariants.{Ended}
use Rattle.http_read.specs.declared.request.HttpRequest.{HttpRequest}
use Rattle.http_read.specs.Requests.{Request, End, IsNext}
use Rattle.spec_http.specs.Answers.{response_to_end}
use Rattle.http_session.specs.declared.why.Why.{Why}
use Rattle.http_session.specs.declared.why.Why.TheVariants as why
use Rattle.raven_ports.specs.Given.{GivesPrefix}

-- whether a session ends with a request, after so many others: the request asks for it, or is the 1,000th
abbrev pub is_last : ℕ → Bool → Bool
is_last n close = if n == 999 then true else close

abbrev pub or_nothing : Option (List ℕ) → List ℕ
or_nothing None = []
or_nothing (Some bytes) = bytes

-- what is written for bytes that are no request; nothing if the source ends
abbrev pub end_bytes : HttpEnd → List ℕ
end_bytes end = or_nothing (response_to_end end)

-- So many requests were read, asked and answered one after another, none of which ends the session. These bytes were written, what answers is then
-- this, and these bytes are left.
pub data SoFar {D : Type 0} (A : D → HttpRequest → Bool → List ℕ → D → Type 0) (first : D) (bytes : List ℕ) : ℕ → List ℕ → D → List ℕ → Type 0 where
  start : SoFar A first bytes 0 [] first bytes
  next : {n : ℕ} {written : List ℕ} {answerer : D} {rest : List ℕ} (request : HttpRequest) (left response : List ℕ) (after : D)
      → SoFar A first bytes n written answerer rest → IsNext rest (Request request left) → is_last n request.close ≡ false → A answerer request false response after
      → SoFar A first bytes (n + 1) (written ++ response) after left

-- A is what answers a request with which bytes, and K is what holds of it also if memory runs out.
module _ {D : Type 0} (A : D → HttpRequest → Bool → List ℕ → D → Type 0) (K : D → D → Type 0) (first : D) (bytes : List ℕ) (held : Option (List ℕ)) where
  -- the last request was answered, and the session ends with it
  pub record Answered (n : ℕ) (last : D) (now : Option (List ℕ)) : Type 0 where
    pub written : List ℕ
    pub answerer : D
    pub rest : List ℕ
    pub request : HttpRequest
    pub left : List ℕ
    pub response : List ℕ
    pub so_far : SoFar A first bytes n written answerer rest
    pub read : IsNext rest (Request request left)
    pub closing : is_last n request.close ≡ true
    pub asked : A answerer request true response last
    pub given : now ≡ appended held (written ++ response)

  -- the bytes left are no request, and the last response was given
  pub record Refused (end : HttpEnd) (last : D) (now : Option (List ℕ)) : Type 0 where
    pub n : ℕ
    pub written : List ℕ
    pub rest : List ℕ
    pub so_far : SoFar A first bytes n written last rest
    pub read : IsNext rest (End end)
    pub given : now ≡ appended held (written ++ end_bytes end)

  -- no whole request was read after those that were answered
  pub record Unread (last : D) (now : Option (List ℕ)) : Type 0 where
    pub n : ℕ
    pub written : List ℕ
    pub rest : List ℕ
    pub so_far : SoFar A first bytes n written last rest
    pub given : now ≡ appended held written

  -- a request was read, and memory ran out before there was a response
  pub record Unanswered (last : D) (now : Option (List ℕ)) : Type 0 where
    pub n : ℕ
    pub written : List ℕ
    pub answerer : D
    pub rest : List ℕ
    pub request : HttpRequest
    pub left : List ℕ
    pub so_far : SoFar A first bytes n written answerer rest
    pub read : IsNext rest (Request request left)
    pub kept : K answerer last
    pub given : now ≡ appended held written

  -- only a prefix of the response to a request was given: it was asked, and no later one was
  pub record StoppedIn (last : D) (now : Option (List ℕ)) : Type 0 where
    pub n : ℕ
    pub written : List ℕ
    pub answerer : D
    pub rest : List ℕ
    pub request : HttpRequest
    pub left : List ℕ
    pub response : List ℕ
    pub middle : Option (List ℕ)
    pub so_far : SoFar A first bytes n written answerer rest
    pub read : IsNext rest (Request request left)
    pub asked : A answerer request (is_last n request.close) response last
    pub before : middle ≡ appended held written
    pub given : GivesPrefix middle now response

  -- only a prefix of the response to an end was given
  pub record StoppedAtEnd (last : D) (now : Option (List ℕ)) : Type 0 where
    pub n : ℕ
    pub written : List ℕ
    pub rest : List ℕ
    pub end : HttpEnd
    pub middle : Option (List ℕ)
    pub so_far : SoFar A first bytes n written last rest
    pub read : IsNext rest (End end)
    pub before : middle ≡ appended held written
    pub given : GivesPrefix middle now (end_bytes end)

  abbrev pub Stopped : D → Option (List ℕ) → Type 0
  Stopped last now = StoppedIn last now ⊎ StoppedAtEnd last now

  -- how a session of at most 1,000 requests finishes, what answers is then, and what its sink holds
  abbrev pub Finishes : Why → D → Option (List ℕ) → Type 0
  Finishes why.Ended last now = Refused Ended last now
  Finishes (why.Http end) last now = (end ≢ Ended) × Refused end last now
  Finishes why.Closed last now = (n : ℕ) × (n < 999) × Answered n last now
  Finishes why.Enough last now = Answered 999 last now
  Finishes why.WriteFault last now = Stopped last now
  Finishes why.ReadFault last now = Unread last now
  Finishes why.NoMemory last now = Unread last now ⊎ (Unanswered last now ⊎ Stopped last now)
