-- Bytes come to one request, or one end.
use Rattle.std.proofs.Common.{◌≡◌, ℕ, ◌+◌, ◌-◌, ◌<◌, ◌≤◌, ◌⊎◌, inl, inr, List, [], ◌∷◌, ◌++◌, length, take, true, refl, sym, ap, ◌∙◌, subst, arith, length-append}
use Rattle.std.proofs.lemmas.List.{take_all, append-nil}
use Rattle.std.proofs.lemmas.List.Elements.{All-cons, All-nil}
use Rattle.httparse.specs.Grammar.{RequestHead, is_token_byte, is_uri_byte, print_request, ReadsRequest, HasNoRequest, ChunkLine, chunk_size, print_chunk_line, ReadsChunkLine, HasNoChunkLine, NeverHasChunkLine, print_blank, print_version, print_end, print_section}
use Rattle.httparse.proofs.GrammarLemmas.{request_unique, print_request-append}
use Rattle.httparse.proofs.ChunkLemmas.{chunk_line_unique}
use Rattle.httparse.proofs.OpenLemmas.{letter_is_token}
use Rattle.http_read.specs.declared.end.HttpEnd.{HttpEnd}
use Rattle.http_read.specs.declared.end.HttpEnd.TheVariants.{Ended, BadHead, HeadTooLarge, BodyTooLarge, Encoded, BadChunk, Truncated, ReadFault, NoMemory}
use Rattle.http_read.specs.declared.fields.Framing.{Framing}
use Rattle.http_read.specs.declared.fields.Framing.TheVariants.{Sized, Chunked}
use Rattle.http_read.specs.declared.request.HttpRequest.{HttpRequest}
use Rattle.http_read.specs.Heads.{CannotBegin, fields_of}
use Rattle.http_read.specs.Bodies.{Found, Whole, Fails, put_before, chunk_of, max_body, LineFound, Line, Cut, IsLine, IsChunks, cut, large, broken, last, more, IsBody}
use Rattle.http_read.specs.Requests.{HeadFound, Head, NoHead, HasNoHeadYet, IsHead, Judged, Asks, Refused, judged, request_of, Next, Request, End, IsNext, no_head, refused, failed, request, AreRequests, none, one}
use Rattle.http_read.proofs.Unread.{take_more_of}
use Rattle.http_read.proofs.Begins.{completes}

-- HEADS

-- a head can come where there is nothing yet
empty_can : ¬ (CannotBegin [])
empty_can (inl never) = never _ _ [] (completes (65 ∷ 32 ∷ []) [] (65 ∷ []) [] (omega arith, All-cons (λ b. is_token_byte b ≡ true) 65 [] letter_is_token (All-nil (λ b. is_token_byte b ≡ true))) (All-nil (λ b. is_uri_byte b ≡ true)) (λ i. omega arith) refl)
empty_can (inr bad) = cc

-- a long enough prefix of bytes that begin with a head does so too
prefix_reads : (n : ℕ) (bytes : List ℕ) (h : RequestHead) (rest : List ℕ) → ReadsRequest bytes h rest → length (print_request h) ≤ n → ReadsRequest (take n bytes) h (take (n - length (print_request h)) rest)
prefix_reads n bytes h rest reads short =
    (reads.0, ap (take n) reads.1 ∙ take_more_of n (print_request h) rest ∙ ap (λ p. p ++ take (n - length (print_request h)) rest) (take_all n (print_request h) short))

some_bytes : (bytes : List ℕ) (h : RequestHead) (rest : List ℕ) → ReadsRequest bytes h rest → 0 < length bytes
some_bytes bytes h rest reads =
    let e = ap length (reads.1 ∙ print_request-append h rest) in
    let a = length-append (print_blank h.blank) (h.method ++ 32 ∷ (h.target ++ 32 ∷ (print_version h.minor ++ (print_end h.line_end ++ (print_section h.fields h.last ++ rest))))) in
    let b = length-append h.method (32 ∷ (h.target ++ 32 ∷ (print_version h.minor ++ (print_end h.line_end ++ (print_section h.fields h.last ++ rest))))) in
    omega (arith, e, a, b)

data HeadCase (bytes : List ℕ) : HeadFound → Type 0 where
  at_end : bytes ≡ [] → HeadCase bytes (NoHead Ended)
  bad : CannotBegin (take 16384 bytes) → HeadCase bytes (NoHead BadHead)
  long : 16384 ≤ length bytes → HasNoHeadYet bytes → HeadCase bytes (NoHead HeadTooLarge)
  short : 0 < length bytes → length bytes < 16384 → HasNoHeadYet bytes → HeadCase bytes (NoHead Truncated)
  whole : (h : RequestHead) (rest : List ℕ) → ReadsRequest bytes h rest → length (print_request h) ≤ 16384 → ¬ (CannotBegin (take 16384 bytes)) → HeadCase bytes (Head h rest)

case_of : (bytes : List ℕ) (f : HeadFound) → IsHead bytes f → HeadCase bytes f
case_of bytes (Head h rest) x = whole h rest x.0 x.1 x.2
case_of bytes (NoHead Ended) x = at_end x
case_of bytes (NoHead BadHead) x = bad x
case_of bytes (NoHead HeadTooLarge) x = long x.0 x.1
case_of bytes (NoHead Truncated) x = short x.0 x.1 x.2
case_of bytes (NoHead BodyTooLarge) x = absurd x
case_of bytes (NoHead Encoded) x = absurd x
case_of bytes (NoHead BadChunk) x = absurd x
case_of bytes (NoHead ReadFault) x = absurd x
case_of bytes (NoHead NoMemory) x = absurd x

empty_length : (bytes : List ℕ) → bytes ≡ [] → length bytes ≡ 0
empty_length bytes e = ap length e

nothing_bad : (bytes : List ℕ) → bytes ≡ [] → CannotBegin (take 16384 bytes) → ⊥
nothing_bad bytes e x = empty_can (subst (λ b. CannotBegin (take 16384 b)) e x)

has_none : (bytes : List ℕ) (h : RequestHead) (rest : List ℕ) → ReadsRequest bytes h rest → length (print_request h) ≤ 16384 → HasNoRequest (take 16384 bytes) → ⊥
has_none bytes h rest reads few no_request = no_request h _ (prefix_reads 16384 bytes h rest reads few)

cases_one : (bytes : List ℕ) (f g : HeadFound) → HeadCase bytes f → HeadCase bytes g → f ≡ g
cases_one bytes f g (at_end a) (at_end b) = refl
cases_one bytes f g (at_end a) (bad b) = absurd (nothing_bad bytes a b)
cases_one bytes f g (at_end a) (long b _) = absurd (let e = empty_length bytes a in omega (arith, e, b))
cases_one bytes f g (at_end a) (short b _ _) = absurd (let e = empty_length bytes a in omega (arith, e, b))
cases_one bytes f g (at_end a) (whole h rest r _ _) = absurd (let e = empty_length bytes a in let s = some_bytes bytes h rest r in omega (arith, e, s))
cases_one bytes f g (bad a) (at_end b) = absurd (nothing_bad bytes b a)
cases_one bytes f g (bad a) (bad b) = refl
cases_one bytes f g (bad a) (long _ b) = absurd (b.1 a)
cases_one bytes f g (bad a) (short _ _ b) = absurd (b.1 a)
cases_one bytes f g (bad a) (whole _ _ _ _ b) = absurd (b a)
cases_one bytes f g (long a _) (at_end b) = absurd (let e = empty_length bytes b in omega (arith, e, a))
cases_one bytes f g (long _ a) (bad b) = absurd (a.1 b)
cases_one bytes f g (long a _) (long b _) = refl
cases_one bytes f g (long a _) (short _ b _) = absurd (omega (arith, a, b))
cases_one bytes f g (long _ a) (whole h rest r k _) = absurd (has_none bytes h rest r k a.0)
cases_one bytes f g (short a _ _) (at_end b) = absurd (let e = empty_length bytes b in omega (arith, e, a))
cases_one bytes f g (short _ _ a) (bad b) = absurd (a.1 b)
cases_one bytes f g (short _ a _) (long b _) = absurd (omega (arith, a, b))
cases_one bytes f g (short _ _ _) (short _ _ _) = refl
cases_one bytes f g (short _ _ a) (whole h rest r k _) = absurd (has_none bytes h rest r k a.0)
cases_one bytes f g (whole h rest r _ _) (at_end a) = absurd (let e = empty_length bytes a in let s = some_bytes bytes h rest r in omega (arith, e, s))
cases_one bytes f g (whole _ _ _ _ a) (bad b) = absurd (a b)
cases_one bytes f g (whole h rest r k _) (long _ b) = absurd (has_none bytes h rest r k b.0)
cases_one bytes f g (whole h rest r k _) (short _ _ b) = absurd (has_none bytes h rest r k b.0)
cases_one bytes f g (whole h rest r _ _) (whole i left s _ _) = let u = request_unique bytes h i rest left r s in λ j. Head (u.0 j) (u.1 j)

head_one : (bytes : List ℕ) (f g : HeadFound) → IsHead bytes f → IsHead bytes g → f ≡ g
head_one bytes f g x y = cases_one bytes f g (case_of bytes f x) (case_of bytes g y)

-- CHUNK LINES

prefix_line : (n : ℕ) (bytes : List ℕ) (l : ChunkLine) (rest : List ℕ) → ReadsChunkLine bytes l rest → length (print_chunk_line l) ≤ n → ReadsChunkLine (take n bytes) l (take (n - length (print_chunk_line l)) rest)
prefix_line n bytes l rest reads few =
    (reads.0, ap (take n) reads.1 ∙ take_more_of n (print_chunk_line l) rest ∙ ap (λ p. p ++ take (n - length (print_chunk_line l)) rest) (take_all n (print_chunk_line l) few))

data LineCase (bytes : List ℕ) : LineFound → Type 0 where
  line_found : (l : ChunkLine) (rest : List ℕ) → ReadsChunkLine bytes l rest → length (print_chunk_line l) ≤ 64 → LineCase bytes (Line (chunk_size l) rest)
  bad_line : NeverHasChunkLine (take 64 bytes) ⊎ ((64 ≤ length bytes) × HasNoChunkLine (take 64 bytes)) → LineCase bytes (Cut BadChunk)
  cut_line : length bytes < 64 → HasNoChunkLine bytes → ¬ (NeverHasChunkLine bytes) → LineCase bytes (Cut Truncated)

line_case : (bytes : List ℕ) (f : LineFound) → IsLine bytes f → LineCase bytes f
line_case bytes (Line size rest) x = subst (λ n. LineCase bytes (Line n rest)) (sym x.3) (line_found x.0 rest x.1 x.2)
line_case bytes (Cut BadChunk) x = bad_line x
line_case bytes (Cut Truncated) x = cut_line x.0 x.1 x.2
line_case bytes (Cut Ended) x = absurd x
line_case bytes (Cut BadHead) x = absurd x
line_case bytes (Cut HeadTooLarge) x = absurd x
line_case bytes (Cut BodyTooLarge) x = absurd x
line_case bytes (Cut Encoded) x = absurd x
line_case bytes (Cut ReadFault) x = absurd x
line_case bytes (Cut NoMemory) x = absurd x

no_line : (bytes : List ℕ) (l : ChunkLine) (rest : List ℕ) → ReadsChunkLine bytes l rest → length (print_chunk_line l) ≤ 64 → NeverHasChunkLine (take 64 bytes) ⊎ ((64 ≤ length bytes) × HasNoChunkLine (take 64 bytes)) → ⊥
no_line bytes l rest reads few (inl never) = never [] l _ (subst (λ b. ReadsChunkLine b l (take (64 - length (print_chunk_line l)) rest)) (sym (append-nil (take 64 bytes))) (prefix_line 64 bytes l rest reads few))
no_line bytes l rest reads few (inr long_line) = long_line.1 l _ (prefix_line 64 bytes l rest reads few)

may_go_on : (bytes : List ℕ) → length bytes < 64 → ¬ (NeverHasChunkLine bytes) → NeverHasChunkLine (take 64 bytes) ⊎ ((64 ≤ length bytes) × HasNoChunkLine (take 64 bytes)) → ⊥
may_go_on bytes few may (inl never) = may (subst NeverHasChunkLine (take_all 64 bytes (omega arith)) never)
may_go_on bytes few may (inr long_line) = omega (arith, few, long_line.0)

lines_one : (bytes : List ℕ) (f g : LineFound) → LineCase bytes f → LineCase bytes g → f ≡ g
lines_one bytes f g (line_found l rest r _) (line_found k left s _) = let u = chunk_line_unique bytes l k rest left r s in λ j. Line (chunk_size (u.0 j)) (u.1 j)
lines_one bytes f g (line_found l rest r few) (bad_line b) = absurd (no_line bytes l rest r few b)
lines_one bytes f g (line_found l rest r _) (cut_line _ b _) = absurd (b l rest r)
lines_one bytes f g (bad_line a) (line_found l rest r few) = absurd (no_line bytes l rest r few a)
lines_one bytes f g (bad_line _) (bad_line _) = refl
lines_one bytes f g (bad_line a) (cut_line few _ may) = absurd (may_go_on bytes few may a)
lines_one bytes f g (cut_line _ a _) (line_found l rest r _) = absurd (a l rest r)
lines_one bytes f g (cut_line few _ may) (bad_line b) = absurd (may_go_on bytes few may b)
lines_one bytes f g (cut_line _ _ _) (cut_line _ _ _) = refl

line_one : (bytes : List ℕ) (f g : LineFound) → IsLine bytes f → IsLine bytes g → f ≡ g
line_one bytes f g x y = lines_one bytes f g (line_case bytes f x) (line_case bytes g y)

-- CHUNKS

abbrev after_chunk : ℕ → ℕ → Found → Found → Type 0
after_chunk so_far size (Fails end) a = a ≡ Fails end
after_chunk so_far size (Whole chunk left) a = ((size ≡ 0) × (a ≡ Whole chunk left)) ⊎ ((0 < size) × (found : Found) × IsChunks (so_far + size) left found × (a ≡ put_before chunk found))

-- what follows a line that was found
abbrev after_line : ℕ → LineFound → Found → Type 0
after_line so_far (Cut end) a = a ≡ Fails end
after_line so_far (Line size rest) a = ((max_body < so_far + size) × (a ≡ Fails BodyTooLarge)) ⊎ ((so_far + size ≤ max_body) × after_chunk so_far size (chunk_of size rest) a)

view : (so_far : ℕ) (bytes : List ℕ) (a : Found) → IsChunks so_far bytes a → (f : LineFound) × IsLine bytes f × after_line so_far f a
view so_far bytes a (cut {end = e} line) = (Cut e, line, refl)
view so_far bytes a (large size rest line big) = (Line size rest, line, inl (big, refl))
view so_far bytes a (broken size rest line fits is) = (Line size rest, line, inr (fits, subst (λ c. after_chunk so_far size c a) (sym is) refl))
view so_far bytes a (last rest line fits is) = (Line 0 rest, line, inr (omega (arith, fits), subst (λ c. after_chunk so_far 0 c a) (sym is) (inl (refl, refl))))
view so_far bytes a (more size rest after line some fits is behind) =
    (Line size rest, line, inr (fits, subst (λ c. after_chunk so_far size c a) (sym is) (inr (some, _, behind, refl))))

-- the same line, and what follows it
seen : (so_far : ℕ) (bytes : List ℕ) (f : LineFound) (b : Found) → IsLine bytes f → IsChunks so_far bytes b → after_line so_far f b
seen so_far bytes f b line y = let v = view so_far bytes b y in subst (λ g. after_line so_far g b) (line_one bytes v.0 f v.1 line) v.2

if_large : (so_far size : ℕ) (rest : List ℕ) (b : Found) → max_body < so_far + size → after_line so_far (Line size rest) b → Fails BodyTooLarge ≡ b
if_large so_far size rest b big (inl x) = sym x.1
if_large so_far size rest b big (inr x) = absurd (let f = x.0 in omega (arith, big, f))

if_fits : (so_far size : ℕ) (rest : List ℕ) (b c : Found) → so_far + size ≤ max_body → chunk_of size rest ≡ c → after_line so_far (Line size rest) b → after_chunk so_far size c b
if_fits so_far size rest b c fits is (inl x) = absurd (let f = x.0 in omega (arith, fits, f))
if_fits so_far size rest b c fits is (inr x) = subst (λ d. after_chunk so_far size d b) is x.1

if_last : (so_far : ℕ) (chunk left : List ℕ) (b : Found) → after_chunk so_far 0 (Whole chunk left) b → Whole chunk left ≡ b
if_last so_far chunk left b (inl x) = sym x.1
if_last so_far chunk left b (inr x) = absurd (let f = x.0 in omega (arith, f))

if_more : (so_far size : ℕ) (chunk left : List ℕ) (b found : Found) → 0 < size → after_chunk so_far size (Whole chunk left) b → ((other : Found) → IsChunks (so_far + size) left other → found ≡ other) → put_before chunk found ≡ b
if_more so_far size chunk left b found some (inl x) only = absurd (let f = x.0 in omega (arith, f, some))
if_more so_far size chunk left b found some (inr x) only = ap (put_before chunk) (only x.1 x.2) ∙ sym x.3

chunks_one : (so_far : ℕ) (bytes : List ℕ) (a b : Found) → IsChunks so_far bytes a → IsChunks so_far bytes b → a ≡ b
chunks_one so_far bytes a b (cut {end = e} line) y = sym (seen so_far bytes (Cut e) b line y)
chunks_one so_far bytes a b (large size rest line big) y = if_large so_far size rest b big (seen so_far bytes (Line size rest) b line y)
chunks_one so_far bytes a b (broken size rest line fits is) y = sym (if_fits so_far size rest b _ fits is (seen so_far bytes (Line size rest) b line y))
chunks_one so_far bytes a b (last rest line fits is) y = if_last so_far _ _ b (if_fits so_far 0 rest b _ (omega (arith, fits)) is (seen so_far bytes (Line 0 rest) b line y))
chunks_one so_far bytes a b (more size rest after line some fits is behind) y =
    if_more so_far size _ after b _ some (if_fits so_far size rest b _ fits is (seen so_far bytes (Line size rest) b line y)) (λ other z. chunks_one (so_far + size) after _ other behind z)

body_one : (framing : Framing) (bytes : List ℕ) (a b : Found) → IsBody framing bytes a → IsBody framing bytes b → a ≡ b
body_one (Sized n) bytes a b x y = x ∙ sym y
body_one Chunked bytes a b x y = chunks_one 0 bytes a b x y

-- REQUESTS

abbrev after_body : RequestHead → Found → Next
after_body h (Whole body left) = Request (request_of h body) left
after_body h (Fails end) = End end

abbrev after_judged : RequestHead → List ℕ → Judged → Next → Type 0
after_judged h rest (Refused end) a = a ≡ End end
after_judged h rest (Asks framing) a = (found : Found) × IsBody framing rest found × (a ≡ after_body h found)

abbrev after_head : HeadFound → Next → Type 0
after_head (NoHead end) a = a ≡ End end
after_head (Head h rest) a = after_judged h rest (judged (fields_of h)) a

view_next : (bytes : List ℕ) (a : Next) → IsNext bytes a → (f : HeadFound) × IsHead bytes f × after_head f a
view_next bytes a (no_head {end = e} x) = (NoHead e, x, refl)
view_next bytes a (refused h rest x is) = (Head h rest, x, subst (λ j. after_judged h rest j a) (sym is) refl)
view_next bytes a (failed {end = e} h rest framing x is fails) = (Head h rest, x, subst (λ j. after_judged h rest j a) (sym is) (Fails e, fails, refl))
view_next bytes a (request {after = left} h rest body framing x is whole_body) = (Head h rest, x, subst (λ j. after_judged h rest j a) (sym is) (Whole body left, whole_body, refl))

judged_one : (h : RequestHead) (rest : List ℕ) (j : Judged) (a b : Next) → after_judged h rest j a → after_judged h rest j b → a ≡ b
judged_one h rest (Refused end) a b x y = x ∙ sym y
judged_one h rest (Asks framing) a b x y = x.2 ∙ ap (after_body h) (body_one framing rest x.0 y.0 x.1 y.1) ∙ sym y.2

behind_one : (f : HeadFound) (a b : Next) → after_head f a → after_head f b → a ≡ b
behind_one (NoHead end) a b x y = x ∙ sym y
behind_one (Head h rest) a b x y = judged_one h rest (judged (fields_of h)) a b x y

pub next_one : (bytes : List ℕ) (a b : Next) → IsNext bytes a → IsNext bytes b → a ≡ b
next_one bytes a b x y =
    let v = view_next bytes a x in
    let w = view_next bytes b y in
    behind_one v.0 a b v.2 (subst (λ f. after_head f b) (head_one bytes w.0 v.0 w.1 v.1) w.2)

pub requests_one : (bytes : List ℕ) (some others : List HttpRequest) (end other : HttpEnd) → AreRequests bytes some end → AreRequests bytes others other → (some ≡ others) × (end ≡ other)
requests_one bytes some others end other (none x) (none y) = let e = next_one bytes (End end) (End other) x y in (refl, let is : end ≡ other = cc in is)
requests_one bytes some others end other (none x) (one rest y z) = absurd (let e = next_one bytes (End end) _ x y in cc)
requests_one bytes some others end other (one rest x w) (none y) = absurd (let e = next_one bytes _ (End other) x y in cc)
requests_one bytes some others end other (one {first = r} {more = rs} rest x w) (one {first = q} {more = qs} left y z) =
    let e = next_one bytes (Request r rest) (Request q left) x y in
    let same : r ≡ q = cc in
    let behind : rest ≡ left = cc in
    let next = requests_one rest rs qs end other w (subst (λ b. AreRequests b qs other) (sym behind) z) in
    ((λ i. same i ∷ next.0 i), next.1)
