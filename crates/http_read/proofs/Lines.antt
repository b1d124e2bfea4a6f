-- Chunk lines and the ends of chunks, read through a window.
use Rattle.std.proofs.Common.{◌≡◌, ℕ, ◌+◌, ◌-◌, ◌<◌, ◌≤◌, List, [], ◌∷◌, ◌++◌, length, take, drop, Option, Some, IfSome, Ok, Err, refl, sym, ap, ◌∙◌, subst, arith, append_assoc, inl, inr, length-append, min, true, false, ◌==◌, if◌then◌else◌}
use Rattle.std.proofs.lemmas.List.{take_all, length-take}
use Rattle.httparse.specs.Grammar.{ChunkLine, print_chunk_line, HasNoChunkLine, NeverHasChunkLine, MayBecomeChunkLine}
use Rattle.httparse.specs.Spans.{IsChunkLineAt}
use Rattle.http_read.specs.declared.end.HttpEnd.TheVariants.{BadChunk, Truncated}
use Rattle.http_read.specs.declared.line.EndStatus.TheVariants as end_status
use Rattle.http_read.specs.Bodies.{Whole, Fails, ended_by}
use Rattle.http_read.specs.Reading.{unread, end_status_of, LineCame, EndCame}
use Rattle.http_read.proofs.Unread.{reported, take_more_of, take_full, split_prefix, at_end}

-- CHUNK LINES

pub never_line : (bytes more : List ℕ) → NeverHasChunkLine bytes → NeverHasChunkLine (bytes ++ more)
never_line bytes more never next line rest reads = never (more ++ next) line rest (reads.0, sym (append_assoc bytes more next) ∙ reads.1)

pub line_fits : (w : List ℕ) (len size : ℕ) → (line : ChunkLine) × IsChunkLineAt (take 64 w) len size line → (len ≤ 64) × (len ≤ length w)
line_fits w len size found =
    let a : length (take 64 w) ≡ length (print_chunk_line found.0) + length (drop len (take 64 w)) = ap length found.1.reads.1 ∙ length-append (print_chunk_line found.0) (drop len (take 64 w)) in
    let b : length (take 64 w) ≡ min 64 (length w) = length-take 64 w in
    let c : len ≡ length (print_chunk_line found.0) = found.1.len_is in
    (omega arith, omega arith)

pub line_whole : (w0 w v : List ℕ) (l0 l : Option (List ℕ)) (len size : ℕ) → unread w l ≡ unread w0 l0 → (line : ChunkLine) × IsChunkLineAt (take 64 w) len size line → v ≡ drop len w
    → IfSome (unread w0 l0) (λ bytes. LineCame bytes (Ok size) (unread v l))
line_whole w0 w v l0 l len size same found is = reported (λ bytes. LineCame bytes (Ok size) (unread v l)) w0 w l0 l same (λ r at. (
  drop len w ++ r,
  (
    found.0,
    (found.1.reads.0, whole r),
    subst (λ n. n ≤ 64) found.1.len_is (line_fits w len size found).0,
    found.1.size_is,
  ),
  ap (unread v) at ∙ ap (λ x. Some (x ++ r)) is,
))
  where
    whole : (r : List ℕ) → w ++ r ≡ print_chunk_line found.0 ++ (drop len w ++ r)
    whole r =
        ap (λ x. x ++ r) (split_prefix 64 w (print_chunk_line found.0) _ found.1.reads.1 ∙ ap (λ n. print_chunk_line found.0 ++ drop n w) (sym found.1.len_is))
        ∙ append_assoc (print_chunk_line found.0) (drop len w) r

pub line_bad : (w0 w : List ℕ) (l0 l : Option (List ℕ)) (now : Option (List ℕ)) → unread w l ≡ unread w0 l0 → NeverHasChunkLine (take 64 w) → IfSome (unread w0 l0) (λ bytes. LineCame bytes (Err BadChunk) now)
line_bad w0 w l0 l now same never = reported (λ bytes. LineCame bytes (Err BadChunk) now) w0 w l0 l same (λ r at. inl (subst NeverHasChunkLine (sym (take_more_of 64 w r)) (never_line (take 64 w) (take (64 - length w) r) never)))

pub line_long : (w0 w : List ℕ) (l0 l : Option (List ℕ)) (now : Option (List ℕ)) → unread w l ≡ unread w0 l0 → HasNoChunkLine (take 64 w) → 64 ≤ length w → IfSome (unread w0 l0) (λ bytes. LineCame bytes (Err BadChunk) now)
line_long w0 w l0 l now same none long =
    reported (λ bytes. LineCame bytes (Err BadChunk) now) w0 w l0 l same (λ r at. inr (let e = length-append w r in omega (arith, e), subst HasNoChunkLine (sym (take_full 64 w r long)) none))

pub line_cut : (w0 w : List ℕ) (l0 l : Option (List ℕ)) (now : Option (List ℕ)) → unread w l ≡ unread w0 l0 → HasNoChunkLine (take 64 w) × MayBecomeChunkLine (take 64 w) → length w < 64
    → IfSome l (λ left. left ≡ []) → IfSome (unread w0 l0) (λ bytes. LineCame bytes (Err Truncated) now)
line_cut w0 w l0 l now same may few end =
    let all : take 64 w ≡ w = take_all 64 w (omega arith) in
    reported (λ bytes. LineCame bytes (Err Truncated) now) w0 w l0 l same (λ r at.
    let is : w ++ r ≡ w = at_end w r l at end in
    let here : take 64 w ≡ w ++ r = all ∙ sym is in (
      subst (λ x. length x < 64) (sym is) few,
      subst HasNoChunkLine here may.0,
      (λ never. subst NeverHasChunkLine (sym here) never may.1.0 may.1.1 [] may.1.2),
    ))

-- ENDS OF CHUNKS

ended_test : (chunk : List ℕ) (b c : ℕ) (w r : List ℕ) → end_status_of (b ∷ c ∷ w) ≡ end_status.Whole → ended_by chunk (b ∷ c ∷ (w ++ r)) ≡ Whole chunk (w ++ r)
ended_test chunk b c w r h =
    elim (b == 13) as (λ t. (if t then (if c == 10 then end_status.Whole else end_status.Bad) else end_status.Bad) ≡ end_status.Whole → (if t then (if c == 10 then Whole chunk (w ++ r) else Fails BadChunk) else Fails BadChunk) ≡ Whole chunk (w ++ r)) [
      | true ↦ λ e. elim (c == 10) as (λ t. (if t then end_status.Whole else end_status.Bad) ≡ end_status.Whole → (if t then Whole chunk (w ++ r) else Fails BadChunk) ≡ Whole chunk (w ++ r)) [
        | true ↦ λ e. refl
        | false ↦ λ e. absurd cc
      ] e
      | false ↦ λ e. absurd cc
    ] h

one_is_no_end : (b : ℕ) → end_status_of (b ∷ []) ≡ end_status.Whole → ⊥
one_is_no_end b h =
    elim (b == 13) as (λ t. (if t then end_status.Partial else end_status.Bad) ≡ end_status.Whole → ⊥) [
      | true ↦ λ e. cc
      | false ↦ λ e. cc
    ] h

pub end_whole : (w0 w v : List ℕ) (l0 l : Option (List ℕ)) → unread w l ≡ unread w0 l0 → end_status.Whole ≡ end_status_of w → v ≡ drop 2 w → IfSome (unread w0 l0) (λ bytes. EndCame bytes (Ok tt) (unread v l))
end_whole w0 w v l0 l same whole is = reported (λ bytes. EndCame bytes (Ok tt) (unread v l)) w0 w l0 l same (λ r at. (
  drop 2 w ++ r,
  (λ chunk. by chunk w r (sym whole)),
  ap (unread v) at ∙ ap (λ x. Some (x ++ r)) is,
))
  where
    by : (chunk w r : List ℕ) → end_status_of w ≡ end_status.Whole → ended_by chunk (w ++ r) ≡ Whole chunk (drop 2 w ++ r)
    by chunk [] r h = absurd cc
    by chunk (b ∷ []) r h = absurd (one_is_no_end b h)
    by chunk (b ∷ c ∷ w) r h = ended_test chunk b c w r h

bad_test : (chunk : List ℕ) (b c : ℕ) (w r : List ℕ) → end_status_of (b ∷ c ∷ w) ≡ end_status.Bad → ended_by chunk (b ∷ c ∷ (w ++ r)) ≡ Fails BadChunk
bad_test chunk b c w r h =
    elim (b == 13) as (λ t. (if t then (if c == 10 then end_status.Whole else end_status.Bad) else end_status.Bad) ≡ end_status.Bad → (if t then (if c == 10 then Whole chunk (w ++ r) else Fails BadChunk) else Fails BadChunk) ≡ Fails BadChunk) [
      | true ↦ λ e. elim (c == 10) as (λ t. (if t then end_status.Whole else end_status.Bad) ≡ end_status.Bad → (if t then Whole chunk (w ++ r) else Fails BadChunk) ≡ Fails BadChunk) [
        | true ↦ λ e. absurd cc
        | false ↦ λ e. refl
      ] e
      | false ↦ λ e. refl
    ] h

bad_one : (chunk : List ℕ) (b : ℕ) (r : List ℕ) → end_status_of (b ∷ []) ≡ end_status.Bad → ended_by chunk (b ∷ r) ≡ Fails BadChunk
bad_one chunk b [] h =
    elim (b == 13) as (λ t. (if t then end_status.Partial else end_status.Bad) ≡ end_status.Bad → (if t then Fails Truncated else Fails BadChunk) ≡ Fails BadChunk) [
      | true ↦ λ e. absurd cc
      | false ↦ λ e. refl
    ] h
bad_one chunk b (c ∷ r) h =
    elim (b == 13) as (λ t. (if t then end_status.Partial else end_status.Bad) ≡ end_status.Bad → (if t then (if c == 10 then Whole chunk r else Fails BadChunk) else Fails BadChunk) ≡ Fails BadChunk) [
      | true ↦ λ e. absurd cc
      | false ↦ λ e. refl
    ] h

pub end_bad : (w0 w : List ℕ) (l0 l : Option (List ℕ)) (now : Option (List ℕ)) → unread w l ≡ unread w0 l0 → end_status.Bad ≡ end_status_of w → IfSome (unread w0 l0) (λ bytes. EndCame bytes (Err BadChunk) now)
end_bad w0 w l0 l now same bad = reported (λ bytes. EndCame bytes (Err BadChunk) now) w0 w l0 l same (λ r at chunk. by chunk w r (sym bad))
  where
    by : (chunk w r : List ℕ) → end_status_of w ≡ end_status.Bad → ended_by chunk (w ++ r) ≡ Fails BadChunk
    by chunk [] r h = absurd cc
    by chunk (b ∷ []) r h = bad_one chunk b r h
    by chunk (b ∷ c ∷ w) r h = bad_test chunk b c w r h

cut_two : (chunk : List ℕ) (b c : ℕ) (w : List ℕ) → end_status_of (b ∷ c ∷ w) ≡ end_status.Partial → ended_by chunk (b ∷ c ∷ w) ≡ Fails Truncated
cut_two chunk b c w h =
    elim (b == 13) as (λ t. (if t then (if c == 10 then end_status.Whole else end_status.Bad) else end_status.Bad) ≡ end_status.Partial → (if t then (if c == 10 then Whole chunk w else Fails BadChunk) else Fails BadChunk) ≡ Fails Truncated) [
      | true ↦ λ e. elim (c == 10) as (λ t. (if t then end_status.Whole else end_status.Bad) ≡ end_status.Partial → (if t then Whole chunk w else Fails BadChunk) ≡ Fails Truncated) [
        | true ↦ λ e. absurd cc
        | false ↦ λ e. absurd cc
      ] e
      | false ↦ λ e. absurd cc
    ] h

cut_one : (chunk : List ℕ) (b : ℕ) → end_status_of (b ∷ []) ≡ end_status.Partial → ended_by chunk (b ∷ []) ≡ Fails Truncated
cut_one chunk b h =
    elim (b == 13) as (λ t. (if t then end_status.Partial else end_status.Bad) ≡ end_status.Partial → (if t then Fails Truncated else Fails BadChunk) ≡ Fails Truncated) [
      | true ↦ λ e. refl
      | false ↦ λ e. absurd cc
    ] h

pub end_cut : (w0 w : List ℕ) (l0 l : Option (List ℕ)) (now : Option (List ℕ)) → unread w l ≡ unread w0 l0 → end_status.Partial ≡ end_status_of w → IfSome l (λ left. left ≡ []) → IfSome (unread w0 l0) (λ bytes. EndCame bytes (Err Truncated) now)
end_cut w0 w l0 l now same partial end =
    reported (λ bytes. EndCame bytes (Err Truncated) now) w0 w l0 l same (λ r at chunk. ap (ended_by chunk) (at_end w r l at end) ∙ by chunk w (sym partial))
  where
    by : (chunk w : List ℕ) → end_status_of w ≡ end_status.Partial → ended_by chunk w ≡ Fails Truncated
    by chunk [] h = refl
    by chunk (b ∷ []) h = cut_one chunk b h
    by chunk (b ∷ c ∷ w) h = cut_two chunk b c w h
