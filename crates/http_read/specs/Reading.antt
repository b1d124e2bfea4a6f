-- What a reader has read, and what is left.
use Rattle.std.specs.Prelude.{◌≡◌, ◌≤◌, ℕ, List, length, map, take, drop, [], ◌∷◌, ◌++◌, ◌+◌, ◌==◌, if◌then◌else◌, true, false, Option, Some, None, option_map, Result, Ok, Err, IfSome, ⊤, ◌⊎◌}
use Rattle.http_read.specs.declared.end.HttpEnd.{HttpEnd}
use Rattle.http_read.specs.declared.end.HttpEnd.TheVariants.{BadHead, ReadFault, NoMemory}
use Rattle.http_read.specs.declared.request.HttpRequest.{HttpRequest}
use Rattle.httparse.specs.declared.spans.HeaderSpan.{HeaderSpan}
use Rattle.httparse.specs.declared.spans.RequestSpans.{RequestSpans}
use Rattle.http_read.specs.declared.head.HeadStatus.{HeadStatus}
use Rattle.http_read.specs.declared.head.HeadStatus.TheVariants as head_status
use Rattle.http_read.specs.declared.fields.Only.{Only}
use Rattle.http_read.specs.declared.fields.Only.TheVariants as only
use Rattle.http_read.specs.Heads.{CannotBegin, is_text, unquoted, is_question_mark, fields_of, if_match_of, is_last}
use Rattle.std.specs.List.{before_first, after_first}
use Rattle.httparse.specs.Grammar.{RequestHead, ReadsRequest, print_request, HasNoRequest, ChunkLine, HasNoChunkLine, MayBecomeChunkLine, NeverHasChunkLine}
use Rattle.httparse.specs.Spans.{IsChunkLineAt, IsRequestWithin, IsRequestOf, header_bytes, span_bytes}
use Rattle.http_read.specs.declared.line.LineStatus.{LineStatus}
use Rattle.http_read.specs.declared.line.LineStatus.TheVariants as line_status
use Rattle.http_read.specs.declared.line.EndStatus.{EndStatus}
use Rattle.http_read.specs.declared.line.EndStatus.TheVariants as end_status
use Rattle.http_read.specs.Bodies.{Found, Whole, Fails, put_before, max_body, bytes_of, chunk_of, ended_by, IsLine, Line, Cut, IsChunks}
use Rattle.raven_ports.specs.Reported.{preceded}
use Rattle.raven_ports.specs.States.{SourceState}
use Rattle.http_read.specs.Requests as requests
use Rattle.http_read.specs.Requests.{Next, Request, End, IsNext, IsHead, judged, Asks, Refused}
use Rattle.http_read.specs.declared.head.Head.{Head}

-- the bytes that were taken and are not read yet, and then those that are left in the source, if it reports them
abbrev pub unread : List ℕ → Option (List ℕ) → Option (List ℕ)
unread taken left = option_map (λ l. taken ++ l) left

-- so many bytes came to those that were taken
pub record Came (n : ℕ) (before after : List ℕ) (left now : Option (List ℕ)) : Type 0 where
  pub came : List ℕ
  pub count : length came ≡ n
  pub taken : after ≡ before ++ came
  pub reported : left ≡ preceded came now

-- a fault of the source and out of memory say nothing of the bytes; each other end has its cause in them
abbrev pub IsEnd : HttpEnd → (HttpEnd → Type 0) → Type 0
IsEnd ReadFault P = ⊤
IsEnd NoMemory P = ⊤
IsEnd end P = P end

-- LINES AND ENDS OF CHUNKS

-- what the first bytes of a chunk line are
abbrev pub IsLineStatus : List ℕ → LineStatus → Type 0
IsLineStatus bytes (line_status.Whole len size) = (line : ChunkLine) × IsChunkLineAt bytes len size line
IsLineStatus bytes line_status.Partial = HasNoChunkLine bytes × MayBecomeChunkLine bytes
IsLineStatus bytes line_status.Bad = NeverHasChunkLine bytes

-- the line lies in the bytes
abbrev pub LineFits : List ℕ → LineStatus → Type 0
LineFits bytes (line_status.Whole len size) = len ≤ length bytes
LineFits bytes line_status.Partial = ⊤
LineFits bytes line_status.Bad = ⊤

-- what the first bytes after a chunk are
abbrev pub end_status_of : List ℕ → EndStatus
end_status_of [] = end_status.Partial
end_status_of (b ∷ []) = if b == 13 then end_status.Partial else end_status.Bad
end_status_of (b ∷ c ∷ bytes) = if b == 13 then (if c == 10 then end_status.Whole else end_status.Bad) else end_status.Bad

-- a chunk line was read, and the bytes after it are left
abbrev pub LineCame : List ℕ → Result ℕ HttpEnd → Option (List ℕ) → Type 0
LineCame bytes (Ok size) now = (rest : List ℕ) × IsLine bytes (Line size rest) × (now ≡ Some rest)
LineCame bytes (Err end) now = IsEnd end (λ end. IsLine bytes (Cut end))

-- CR LF was read, and the bytes after it are left
abbrev pub EndCame : List ℕ → Result ⊤ HttpEnd → Option (List ℕ) → Type 0
EndCame bytes (Ok _) now = (rest : List ℕ) × ((chunk : List ℕ) → ended_by chunk bytes ≡ Whole chunk rest) × (now ≡ Some rest)
EndCame bytes (Err end) now = IsEnd end (λ end. (chunk : List ℕ) → ended_by chunk bytes ≡ Fails end)

-- BODIES

-- so many bytes were added to the body, and the bytes after them are left
abbrev pub BytesCame : ℕ → List ℕ → List ℕ → Result ⊤ HttpEnd → List ℕ → Option (List ℕ) → Type 0
BytesCame count bytes before (Ok _) after now = (count ≤ length bytes) × (after ≡ before ++ take count bytes) × (now ≡ Some (drop count bytes))
BytesCame count bytes before (Err end) after now = IsEnd end (λ end. bytes_of count bytes ≡ Fails end)

-- the bytes of a chunk were added to the body, and the bytes after it are left
abbrev pub ChunkCame : List ℕ → List ℕ → Result ℕ HttpEnd → List ℕ → Option (List ℕ) → Type 0
ChunkCame bytes before (Ok size) after now = (rest chunk left : List ℕ) × IsLine bytes (Line size rest) × (length before + size ≤ max_body) × (chunk_of size rest ≡ Whole chunk left) × (after ≡ before ++ chunk) × (now ≡ Some left)
ChunkCame bytes before (Err end) after now = IsEnd end (λ end. IsChunks (length before) bytes (Fails end))

-- a body was read, and the bytes after it are left
abbrev pub BodyCame : (Found → Type 0) → Result (List ℕ) HttpEnd → Option (List ℕ) → Type 0
BodyCame Is (Ok body) now = (rest : List ℕ) × Is (Whole body rest) × (now ≡ Some rest)
BodyCame Is (Err end) now = IsEnd end (λ end. Is (Fails end))

-- the chunks that follow complete the body
abbrev pub GoesOn : List ℕ → List ℕ → List ℕ → Type 0
GoesOn bytes body here = (found : Found) → IsChunks (length body) here found → IsChunks 0 bytes (put_before body found)

-- HEADS

-- the names and values of the fields that spans cover
abbrev pub pairs_in : List ℕ → List HeaderSpan → List (List ℕ × List ℕ)
pairs_in bytes headers = map (header_bytes bytes) headers

-- what the first bytes are
abbrev pub IsHeadStatus : List ℕ → List HeaderSpan → HeadStatus → Type 0
IsHeadStatus bytes headers (head_status.Whole spans) = IsRequestWithin bytes headers spans × IsRequestOf bytes headers spans × ¬ (CannotBegin bytes)
IsHeadStatus bytes headers head_status.Partial = HasNoRequest bytes × ¬ (CannotBegin bytes)
IsHeadStatus bytes headers head_status.Bad = CannotBegin bytes

-- how many values there are, and the only one
abbrev pub IsOnly : List (List ℕ) → Only → Type 0
IsOnly values only.None = values ≡ []
IsOnly values (only.One value) = values ≡ value.now ∷ []
IsOnly values only.Several = (a b : List ℕ) × (more : List (List ℕ)) × (values ≡ a ∷ b ∷ more)

-- the text of the value, or that it is none
abbrev pub IsMatchOf : Option (List ℕ) → Result (Option (List ℕ)) HttpEnd → Type 0
IsMatchOf value (Ok text) = (is_text value ≡ true) × (text ≡ option_map unquoted value)
IsMatchOf value (Err BadHead) = is_text value ≡ false
IsMatchOf value (Err NoMemory) = ⊤
IsMatchOf value (Err end) = ⊥

-- a head says what these fields, and this target, say
pub record Says (minor : ℕ) (verb target : List ℕ) (fields : List (List ℕ × List ℕ)) (head : Head) : Type 0 where
  pub framed : judged fields ≡ Asks head.framing
  pub method : head.method ≡ verb
  pub path : head.path ≡ before_first is_question_mark target
  pub query : head.query ≡ after_first is_question_mark target
  pub if_match : head.if_match ≡ option_map unquoted (if_match_of fields)
  pub close : head.close ≡ is_last minor fields

-- the head of these parts, or why it is refused
abbrev pub IsHeadOf : List ℕ → List (List ℕ × List ℕ) → RequestSpans → Result Head HttpEnd → Type 0
IsHeadOf bytes fields spans (Ok head) = Says spans.version (span_bytes bytes spans.method) (span_bytes bytes spans.path) fields head × (head.len ≡ spans.len)
IsHeadOf bytes fields spans (Err NoMemory) = ⊤
IsHeadOf bytes fields spans (Err end) = judged fields ≡ Refused end

-- the head at the beginning of the bytes, as far as they go
abbrev pub IsHeadRead : List ℕ → Result (Option Head) HttpEnd → Type 0
IsHeadRead bytes (Ok (Some head)) = (h : RequestHead) × ReadsRequest bytes h (drop head.len bytes) × (head.len ≡ length (print_request h)) × ¬ (CannotBegin bytes) × Says h.minor h.method h.target (fields_of h) head
IsHeadRead bytes (Ok None) = HasNoRequest bytes × ¬ (CannotBegin bytes)
IsHeadRead bytes (Err NoMemory) = ⊤
IsHeadRead bytes (Err end) = ((end ≡ BadHead) × CannotBegin bytes) ⊎ ((h : RequestHead) × (rest : List ℕ) × ReadsRequest bytes h rest × ¬ (CannotBegin bytes) × (judged (fields_of h) ≡ Refused end))

-- a head was read, and the bytes after it are left
abbrev pub HeadCame : List ℕ → Result Head HttpEnd → Option (List ℕ) → Type 0
HeadCame bytes (Ok head) now = (h : RequestHead) × (rest : List ℕ) × IsHead bytes (requests.Head h rest) × Says h.minor h.method h.target (fields_of h) head × (now ≡ Some rest)
HeadCame bytes (Err end) now = IsEnd end (λ end. IsNext bytes (End end))

-- a request was read, and the bytes after it are left
abbrev pub RequestCame : List ℕ → Result HttpRequest HttpEnd → Option (List ℕ) → Type 0
RequestCame bytes (Ok request) now = (rest : List ℕ) × IsNext bytes (Request request rest) × (now ≡ Some rest)
RequestCame bytes (Err end) now = IsEnd end (λ end. IsNext bytes (End end))

-- a reader: what it took from its source and did not read yet, and the end that it has come to, if it has
pub record Reader : Type 0 where
  pub taken : List ℕ
  pub ended : Option HttpEnd

-- the next request, or end, of the bytes that are not read yet, and what is left of them
abbrev pub ReadsNext : Reader → SourceState → Result HttpRequest HttpEnd → Reader → SourceState → Type 0
ReadsNext before source result after now = IfSome (unread before.taken source.left) (λ bytes. RequestCame bytes result (unread after.taken now.left))
