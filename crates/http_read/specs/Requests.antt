-- The requests that bytes are, one after another.
use Rattle.std.specs.Prelude.{◌≡◌, ℕ, ◌<◌, ◌≤◌, Bool, List, [], ◌∷◌, length, take, if◌then◌else◌, Option, Some, None, option_map}
use Rattle.std.specs.List.{before_first, after_first}
use Rattle.http_read.specs.declared.end.HttpEnd.{HttpEnd}
use Rattle.http_read.specs.declared.end.HttpEnd.TheVariants.{Ended, BadHead, HeadTooLarge, Encoded, Truncated}
use Rattle.http_read.specs.declared.fields.Framing.{Framing}
use Rattle.http_read.specs.declared.request.HttpRequest.{HttpRequest}
use Rattle.httparse.specs.Grammar.{RequestHead, print_request, ReadsRequest, HasNoRequest}
use Rattle.http_read.specs.Heads.{max_head, CannotBegin, is_question_mark, fields_of, framing_of, if_match_of, is_text, is_encoded, is_last, unquoted}
use Rattle.http_read.specs.Bodies.{Whole, Fails, IsBody}

-- THE HEAD

-- a head and the bytes after it, or why there is none
pub data HeadFound : Type 0 where
  Head : RequestHead → List ℕ → HeadFound
  NoHead : HttpEnd → HeadFound

-- the first bytes have no head yet, and may become one
abbrev pub HasNoHeadYet : List ℕ → Type 0
HasNoHeadYet bytes = HasNoRequest (take max_head bytes) × ¬ (CannotBegin (take max_head bytes))

-- the bytes begin with this head, or have none for this reason
abbrev pub IsHead : List ℕ → HeadFound → Type 0
IsHead bytes (Head head rest) = ReadsRequest bytes head rest × (length (print_request head) ≤ max_head) × ¬ (CannotBegin (take max_head bytes))
IsHead bytes (NoHead Ended) = bytes ≡ []
IsHead bytes (NoHead BadHead) = CannotBegin (take max_head bytes)
IsHead bytes (NoHead HeadTooLarge) = (max_head ≤ length bytes) × HasNoHeadYet bytes
IsHead bytes (NoHead Truncated) = (0 < length bytes) × (length bytes < max_head) × HasNoHeadYet bytes
IsHead bytes (NoHead _) = ⊥

-- what the fields of a head ask for, or why they are refused
pub data Judged : Type 0 where
  Asks : Framing → Judged
  Refused : HttpEnd → Judged

abbrev pub unless_encoded : Bool → Option Framing → Judged
unless_encoded encoded None = Refused BadHead
unless_encoded encoded (Some framing) = if encoded then Refused Encoded else Asks framing

-- how long the body is; BadHead is tested first
abbrev pub judged : List (List ℕ × List ℕ) → Judged
judged fields = unless_encoded (is_encoded fields) (if is_text (if_match_of fields) then framing_of fields else None)

-- THE REQUEST

-- the request of a head and a body
abbrev pub request_of : RequestHead → List ℕ → HttpRequest
request_of head body = record {
  method = head.method;
  path = before_first is_question_mark head.target;
  query = after_first is_question_mark head.target;
  if_match = option_map unquoted (if_match_of (fields_of head));
  close = is_last head.minor (fields_of head);
  body = body;
}

-- a request and the bytes after it, or why there is none
pub data Next : Type 0 where
  Request : HttpRequest → List ℕ → Next
  End : HttpEnd → Next

-- the bytes begin with this request, or have none for this reason
pub data IsNext : List ℕ → Next → Type 0 where
  no_head : {bytes : List ℕ} {end : HttpEnd} → IsHead bytes (NoHead end) → IsNext bytes (End end)
  refused : {bytes : List ℕ} {end : HttpEnd} (head : RequestHead) (rest : List ℕ) → IsHead bytes (Head head rest) → judged (fields_of head) ≡ Refused end → IsNext bytes (End end)
  failed : {bytes : List ℕ} {end : HttpEnd} (head : RequestHead) (rest : List ℕ) (framing : Framing) → IsHead bytes (Head head rest) → judged (fields_of head) ≡ Asks framing
      → IsBody framing rest (Fails end) → IsNext bytes (End end)
  request : {bytes after : List ℕ} (head : RequestHead) (rest body : List ℕ) (framing : Framing) → IsHead bytes (Head head rest) → judged (fields_of head) ≡ Asks framing
      → IsBody framing rest (Whole body after) → IsNext bytes (Request (request_of head body) after)

-- ALL OF THEM

-- the bytes are these requests, and then have this end
pub data AreRequests : List ℕ → List HttpRequest → HttpEnd → Type 0 where
  none : {bytes : List ℕ} {end : HttpEnd} → IsNext bytes (End end) → AreRequests bytes [] end
  one : {bytes : List ℕ} {first : HttpRequest} {more : List HttpRequest} {end : HttpEnd} (rest : List ℕ) → IsNext bytes (Request first rest) → AreRequests rest more end → AreRequests bytes (first ∷ more) end
