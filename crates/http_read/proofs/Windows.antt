-- A slice of a buffer, moved on and filled up.
use Rattle.std.proofs.Common.{◌≡◌, ℕ, ◌+◌, ◌-◌, ◌≤◌, min, List, ◌++◌, length, take, drop, slice_range, sym, ap, ◌∙◌, arith}
use borrow.Rule.Slice.PartMut.{put_mid}
use Rattle.std.proofs.lemmas.List.{drop-take, drop-drop, length-take, length-take-le, take-append-le}
use Rattle.std.proofs.Math.Seq.{take-append-add}
use Rattle.std.proofs.lemmas.Grind.{common_steps}

pub skipped : (bytes view : List ℕ) (start end n : ℕ) → slice_range bytes start end ≡ view → n ≤ length view → slice_range bytes (start + n) end ≡ drop n view
skipped bytes view start end n is h =
    let l : length (slice_range bytes start end) ≡ min (end - start) (length (drop start bytes)) = length-take (end - start) (drop start bytes) in
    let m : length (slice_range bytes start end) ≡ length view = ap length is in
    let e : n + (end - (start + n)) ≡ end - start = omega arith in
    sym (sym (ap (drop n) is) ∙ sym (ap (λ k. drop n (take k (drop start bytes))) e) ∙ drop-take n (end - (start + n)) (drop start bytes) ∙ ap (take (end - (start + n))) (on n start bytes))
  where
    on : (n start : ℕ) (bytes : List ℕ) → drop n (drop start bytes) ≡ drop (start + n) bytes
    on n start bytes = grind (arith, common_steps, drop-drop n start bytes)

pub filled : (start end n r : ℕ) (bytes moved buf view : List ℕ) → start ≤ end → end ≤ length bytes → slice_range bytes start end ≡ view → take (end - start) moved ≡ slice_range bytes start end → length moved ≡ length bytes
    → n ≤ length buf → slice_range (put_mid (end - start) r moved buf) 0 (end - start + n) ≡ view ++ take n buf
filled start end n r bytes moved buf view o w is f l b =
    let k : length (take (end - start) moved) ≡ end - start = length-take-le (end - start) moved (omega arith) in
    let e : end - start + n - 0 ≡ length (take (end - start) moved) + n = omega arith in
    ap (λ j. take j (put_mid (end - start) r moved buf)) e
    ∙ take-append-add (take (end - start) moved) (buf ++ drop r (drop (end - start) moved)) n
    ∙ ap (λ v. take (end - start) moved ++ v) (take-append-le n buf (drop r (drop (end - start) moved)) b)
    ∙ ap (λ v. v ++ take n buf) (f ∙ is)
