-- Heads, read through a window.
use Rattle.std.proofs.Common.{◌≡◌, ℕ, ◌-◌, ◌<◌, ◌≤◌, ◌⊎◌, inl, inr, List, [], ◌∷◌, ◌++◌, length, take, drop, true, Option, Some, None, option_map, IfSome, Ok, Err, refl, sym, ap, ◌∙◌, subst, arith, length-append}
use Rattle.std.specs.List.{list_all, before_first, after_first}
use Rattle.std.proofs.lemmas.List.{take_all}
use Rattle.httparse.specs.declared.spans.HeaderSpan.{HeaderSpan}
use Rattle.httparse.specs.declared.spans.RequestSpans.{RequestSpans}
use Rattle.httparse.specs.Grammar.{IsToken, RequestHead, print_request, ReadsRequest, HasNoRequest}
use Rattle.httparse.specs.Spans.{span_bytes, IsRequestOf}
use Rattle.httparse.proofs.GrammarLemmas.{ReadsRequest-append}
use Rattle.http_read.specs.declared.end.HttpEnd.{HttpEnd}
use Rattle.http_read.specs.declared.end.HttpEnd.TheVariants.{Ended, BadHead, HeadTooLarge, BodyTooLarge, Encoded, BadChunk, Truncated, ReadFault, NoMemory}
use Rattle.http_read.specs.declared.head.Head.{Head}
use Rattle.http_read.specs.Heads.{is_visible, CannotBegin, fields_of, is_question_mark, if_match_of, is_last, unquoted}
use Rattle.http_read.specs.Requests as requests
use Rattle.http_read.specs.Requests.{judged, Asks, Refused, NoHead, IsHead, Request, End, IsNext, no_head, refused, failed, request, request_of}
use Rattle.http_read.specs.declared.request.HttpRequest.{HttpRequest}
use Rattle.http_read.specs.Bodies.{Fails, IsBody}
use Rattle.http_read.proofs.Chunked.{end_map, if_some_map, if_some_at}
use Rattle.http_read.specs.Reading.{unread, Says, IsHeadOf, IsHeadRead, HeadCame, BodyCame, RequestCame, pairs_in}
use Rattle.http_read.proofs.Unread.{reported, take_more_of, take_full, at_end}
use Rattle.http_read.proofs.Begins.{cannot_on, whole_can, visible_target}

-- THE PARTS OF A HEAD

pub visible_path : (bytes : List ℕ) (headers : List HeaderSpan) (spans : RequestSpans) → IsRequestOf bytes headers spans → ¬ (CannotBegin bytes) → list_all is_visible (span_bytes bytes spans.path) ≡ true
visible_path bytes headers spans found can = ap (list_all is_visible) found.1.path ∙ visible_target bytes found.0 _ found.1.reads can

pub token_method : (bytes : List ℕ) (headers : List HeaderSpan) (spans : RequestSpans) → IsRequestOf bytes headers spans → IsToken (span_bytes bytes spans.method)
token_method bytes headers spans found = subst IsToken (sym found.1.method) found.1.reads.0.method

pub head_read : (bytes : List ℕ) (headers : List HeaderSpan) (spans : RequestSpans) (head : Head) → IsRequestOf bytes headers spans → ¬ (CannotBegin bytes) → IsHeadOf bytes (pairs_in bytes (take spans.headers headers)) spans (Ok head)
    → IsHeadRead bytes (Ok (Some head))
head_read bytes headers spans head found can made =
    let h = found.0 in
    let fields = found.1.fields in (
      h,
      subst (λ n. ReadsRequest bytes h (drop n bytes)) (sym made.1) found.1.reads,
      made.1 ∙ found.1.len,
      can,
      record {
        framed = ap judged (sym fields) ∙ made.0.framed;
        method = made.0.method ∙ found.1.method;
        path = made.0.path ∙ ap (before_first is_question_mark) found.1.path;
        query = made.0.query ∙ ap (after_first is_question_mark) found.1.path;
        if_match = made.0.if_match ∙ ap (λ f. option_map unquoted (if_match_of f)) fields;
        close = made.0.close ∙ ap (λ m. is_last m (pairs_in bytes (take spans.headers headers))) found.1.version ∙ ap (is_last h.minor) fields;
      },
    )

refusal : (bytes : List ℕ) (headers : List HeaderSpan) (spans : RequestSpans) (end : HttpEnd) → IsRequestOf bytes headers spans → ¬ (CannotBegin bytes) → judged (pairs_in bytes (take spans.headers headers)) ≡ Refused end
    → ((end ≡ BadHead) × CannotBegin bytes) ⊎ ((h : RequestHead) × (rest : List ℕ) × ReadsRequest bytes h rest × ¬ (CannotBegin bytes) × (judged (fields_of h) ≡ Refused end))
refusal bytes headers spans end found can made = inr (found.0, drop spans.len bytes, found.1.reads, can, ap judged (sym found.1.fields) ∙ made)

pub head_refused : (bytes : List ℕ) (headers : List HeaderSpan) (spans : RequestSpans) (end : HttpEnd) → IsRequestOf bytes headers spans → ¬ (CannotBegin bytes) → IsHeadOf bytes (pairs_in bytes (take spans.headers headers)) spans (Err end)
    → IsHeadRead bytes (Err end)
head_refused bytes headers spans Ended found can made = refusal bytes headers spans Ended found can made
head_refused bytes headers spans BadHead found can made = refusal bytes headers spans BadHead found can made
head_refused bytes headers spans HeadTooLarge found can made = refusal bytes headers spans HeadTooLarge found can made
head_refused bytes headers spans BodyTooLarge found can made = refusal bytes headers spans BodyTooLarge found can made
head_refused bytes headers spans Encoded found can made = refusal bytes headers spans Encoded found can made
head_refused bytes headers spans BadChunk found can made = refusal bytes headers spans BadChunk found can made
head_refused bytes headers spans Truncated found can made = refusal bytes headers spans Truncated found can made
head_refused bytes headers spans ReadFault found can made = refusal bytes headers spans ReadFault found can made
head_refused bytes headers spans NoMemory found can made = tt

-- A HEAD OF THE BYTES

prefix_of : (w r : List ℕ) → length w ≤ 16384 → take 16384 (w ++ r) ≡ w ++ take (16384 - length w) r
prefix_of w r short = take_more_of 16384 w r ∙ ap (λ v. v ++ take (16384 - length w) r) (take_all 16384 w short)

is_head : (w r : List ℕ) (h : RequestHead) (rest : List ℕ) → length w ≤ 16384 → ReadsRequest w h rest → ¬ (CannotBegin w) → IsHead (w ++ r) (requests.Head h (rest ++ r))
is_head w r h rest short reads can =
    let l = ap length reads.1 ∙ length-append (print_request h) rest in (
      ReadsRequest-append w h rest r reads,
      omega (arith, l, short),
      subst (λ b. ¬ (CannotBegin b)) (sym (prefix_of w r short)) (whole_can w (take (16384 - length w) r) h rest reads can),
    )

pub head_whole : (w0 w v : List ℕ) (l0 l : Option (List ℕ)) (head : Head) → unread w l ≡ unread w0 l0 → IsHeadRead w (Ok (Some head)) → length w ≤ 16384 → v ≡ drop head.len w
    → IfSome (unread w0 l0) (λ bytes. HeadCame bytes (Ok head) (unread v l))
head_whole w0 w v l0 l head same read short is =
    reported (λ bytes. HeadCame bytes (Ok head) (unread v l)) w0 w l0 l same (λ r at. (read.0, drop head.len w ++ r, is_head w r read.0 (drop head.len w) short read.1 read.3, read.4, ap (unread v) at ∙ ap (λ x. Some (x ++ r)) is))

pub head_fits : (w : List ℕ) (head : Head) → IsHeadRead w (Ok (Some head)) → head.len ≤ length w
head_fits w head read = let l = ap length read.1.1 ∙ length-append (print_request read.0) (drop head.len w) in let k = read.2 in omega (arith, l, k)

refused_at : (end : HttpEnd) (w r : List ℕ) → length w ≤ 16384 → ((end ≡ BadHead) × CannotBegin w) ⊎ ((h : RequestHead) × (rest : List ℕ) × ReadsRequest w h rest × ¬ (CannotBegin w) × (judged (fields_of h) ≡ Refused end)) → IsNext (w ++ r) (End end)
refused_at end w r short (inl bad) = subst (λ e. IsNext (w ++ r) (End e)) (sym bad.0) (no_head (subst CannotBegin (sym (prefix_of w r short)) (cannot_on w (take (16384 - length w) r) bad.1)))
refused_at end w r short (inr why) = refused why.0 (why.1 ++ r) (is_head w r why.0 why.1 short why.2 why.3) why.4

pub head_err : (w0 w : List ℕ) (l0 l : Option (List ℕ)) (end : HttpEnd) → unread w l ≡ unread w0 l0 → IsHeadRead w (Err end) → length w ≤ 16384 → IfSome (unread w0 l0) (λ bytes. HeadCame bytes (Err end) None)
head_err w0 w l0 l Ended same why short = reported (λ bytes. HeadCame bytes (Err Ended) None) w0 w l0 l same (λ r at. refused_at Ended w r short why)
head_err w0 w l0 l BadHead same why short = reported (λ bytes. HeadCame bytes (Err BadHead) None) w0 w l0 l same (λ r at. refused_at BadHead w r short why)
head_err w0 w l0 l HeadTooLarge same why short = reported (λ bytes. HeadCame bytes (Err HeadTooLarge) None) w0 w l0 l same (λ r at. refused_at HeadTooLarge w r short why)
head_err w0 w l0 l BodyTooLarge same why short = reported (λ bytes. HeadCame bytes (Err BodyTooLarge) None) w0 w l0 l same (λ r at. refused_at BodyTooLarge w r short why)
head_err w0 w l0 l Encoded same why short = reported (λ bytes. HeadCame bytes (Err Encoded) None) w0 w l0 l same (λ r at. refused_at Encoded w r short why)
head_err w0 w l0 l BadChunk same why short = reported (λ bytes. HeadCame bytes (Err BadChunk) None) w0 w l0 l same (λ r at. refused_at BadChunk w r short why)
head_err w0 w l0 l Truncated same why short = reported (λ bytes. HeadCame bytes (Err Truncated) None) w0 w l0 l same (λ r at. refused_at Truncated w r short why)
head_err w0 w l0 l ReadFault same why short = reported (λ bytes. HeadCame bytes (Err ReadFault) None) w0 w l0 l same (λ r at. tt)
head_err w0 w l0 l NoMemory same why short = reported (λ bytes. HeadCame bytes (Err NoMemory) None) w0 w l0 l same (λ r at. tt)

pub head_large : (w0 w : List ℕ) (l0 l : Option (List ℕ)) → unread w l ≡ unread w0 l0 → HasNoRequest w × ¬ (CannotBegin w) → length w ≡ 16384 → IfSome (unread w0 l0) (λ bytes. HeadCame bytes (Err HeadTooLarge) None)
head_large w0 w l0 l same none full =
    reported (λ bytes. HeadCame bytes (Err HeadTooLarge) None) w0 w l0 l same (λ r at.
    let is : w ≡ take 16384 (w ++ r) = sym (take_full 16384 w r (omega arith) ∙ take_all 16384 w (omega arith)) in
    no_head ((let e = length-append w r in omega (arith, e, full)), (subst HasNoRequest is none.0, subst (λ b. ¬ (CannotBegin b)) is none.1)))

pub head_cut : (w0 w : List ℕ) (l0 l : Option (List ℕ)) → unread w l ≡ unread w0 l0 → HasNoRequest w × ¬ (CannotBegin w) → 0 < length w → length w < 16384 → IfSome l (λ left. left ≡ [])
    → IfSome (unread w0 l0) (λ bytes. HeadCame bytes (Err Truncated) None)
head_cut w0 w l0 l same none some few end =
    reported (λ bytes. HeadCame bytes (Err Truncated) None) w0 w l0 l same (λ r at.
    let is : w ++ r ≡ w = at_end w r l at end in
    let prefix : w ≡ take 16384 (w ++ r) = sym (ap (take 16384) is ∙ take_all 16384 w (omega arith)) in
    no_head (subst (λ b. 0 < length b) (sym is) some, subst (λ b. length b < 16384) (sym is) few, (subst HasNoRequest prefix none.0, subst (λ b. ¬ (CannotBegin b)) prefix none.1)))

pub head_ended : (w0 w : List ℕ) (l0 l : Option (List ℕ)) → unread w l ≡ unread w0 l0 → length w ≡ 0 → IfSome l (λ left. left ≡ []) → IfSome (unread w0 l0) (λ bytes. HeadCame bytes (Err Ended) None)
head_ended w0 w l0 l same none end = reported (λ bytes. HeadCame bytes (Err Ended) None) w0 w l0 l same (λ r at. no_head (at_end w r l at end ∙ empty w none))
  where
    empty : (w : List ℕ) → length w ≡ 0 → w ≡ []
    empty [] e = refl
    empty (b ∷ w) e = absurd (omega arith)

-- THE REQUEST OF A HEAD AND A BODY

same_request : (h : RequestHead) (head : Head) (body : List ℕ) → Says h.minor h.method h.target (fields_of h) head
    → request_of h body ≡ record { method = head.method; path = head.path; query = head.query; if_match = head.if_match; close = head.close; body = body }
same_request h head body says = λ i. record {
  method = sym says.method i;
  path = sym says.path i;
  query = sym says.query i;
  if_match = sym says.if_match i;
  close = sym says.close i;
  body = body;
}

pub request_whole : (u0 u1 u2 : Option (List ℕ)) (head : Head) (body : List ℕ) → IfSome u0 (λ bytes. HeadCame bytes (Ok head) u1) → IfSome u1 (λ rest. BodyCame (IsBody head.framing rest) (Ok body) u2)
    → IfSome u0 (λ bytes. RequestCame bytes (Ok (record { method = head.method; path = head.path; query = head.query; if_match = head.if_match; close = head.close; body = body })) u2)
request_whole u0 u1 u2 head body came there =
    let made : HttpRequest = record { method = head.method; path = head.path; query = head.query; if_match = head.if_match; close = head.close; body = body } in
    if_some_map u0 (λ bytes. HeadCame bytes (Ok head) u1) (λ bytes. RequestCame bytes (Ok made) u2)
    (λ bytes h.
    let b = if_some_at u1 (λ rest. BodyCame (IsBody head.framing rest) (Ok body) u2) h.1 h.4 there in
    (b.0, subst (λ q. IsNext bytes (Request q b.0)) (same_request h.0 head body h.3) (request h.0 h.1 body head.framing h.2 h.3.framed b.1), b.2)) came

pub request_failed : (u0 u1 u2 : Option (List ℕ)) (head : Head) (end : HttpEnd) → IfSome u0 (λ bytes. HeadCame bytes (Ok head) u1) → IfSome u1 (λ rest. BodyCame (IsBody head.framing rest) (Err end) u2) → IfSome u0 (λ bytes. RequestCame bytes (Err end) None)
request_failed u0 u1 u2 head end came there =
    if_some_map u0 (λ bytes. HeadCame bytes (Ok head) u1) (λ bytes. RequestCame bytes (Err end) None)
    (λ bytes h.
    let b = if_some_at u1 (λ rest. BodyCame (IsBody head.framing rest) (Err end) u2) h.1 h.4 there in
    end_map end (λ e. IsBody head.framing h.1 (Fails e)) (λ e. IsNext bytes (End e)) (λ e x. failed h.0 h.1 head.framing h.2 h.3.framed x) b) came
