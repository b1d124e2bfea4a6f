-- Bytes of a body, read through a window.
use Rattle.std.proofs.Common.{◌≡◌, ℕ, ◌+◌, ◌-◌, ◌≤◌, List, ◌++◌, length, take, drop, Option, Some, None, IfSome, Ok, sym, ap, ◌∙◌, subst, arith, append_assoc, length-append, min}
use Rattle.std.proofs.lemmas.List.{drop_at, take_at, take-append-drop, length-take}
use Rattle.raven_ports.specs.Reported.{preceded}
use Rattle.http_read.specs.Reading.{unread, BytesCame}

-- so much was read: the part that was read so far, and what is not read yet
pub record IsReadSoFar (count missing : ℕ) (before body : List ℕ) (first now : Option (List ℕ)) : Type 0 where
  pub part : List ℕ
  pub size : length part + missing ≡ count
  pub body_is : body ≡ before ++ part
  pub reported : first ≡ preceded part now

pub bytes_whole : (count missing : ℕ) (before body after w v part : List ℕ) (first left : Option (List ℕ)) → IsReadSoFar count missing before body first (unread w left)
    → part ≡ take missing w → after ≡ body ++ part → v ≡ drop (length part) w → missing - length part ≡ 0
    → IfSome first (λ bytes. BytesCame count bytes before (Ok tt) after (unread v left))
bytes_whole count missing before body after w v part first left so is grown rest none = by left so.reported
  where
    few : length part ≤ missing
    few = let a = ap length is in let b : length (take missing w) ≡ min missing (length w) = length-take missing w in omega (arith, a, b)

    whole : (r : List ℕ) → so.part ++ (w ++ r) ≡ (so.part ++ part) ++ (v ++ r)
    whole r =
        let k : length part ≡ missing = omega (arith, few, none) in
        let parts : part ++ v ≡ w = ap (λ x. x ++ v) is ∙ ap (λ x. take missing w ++ x) (rest ∙ ap (λ n. drop n w) k) ∙ take-append-drop missing w in
        sym (append_assoc so.part part (v ++ r) ∙ ap (λ x. so.part ++ x) (sym (append_assoc part v r) ∙ ap (λ x. x ++ r) parts))

    size : length (so.part ++ part) ≡ count
    size = let a = so.size in let b = length-append so.part part in omega (arith, a, b, few, none)

    by : (left : Option (List ℕ)) → first ≡ preceded so.part (unread w left) → IfSome first (λ bytes. BytesCame count bytes before (Ok tt) after (unread v left))
    by None h = subst (λ o. IfSome o (λ bytes. BytesCame count bytes before (Ok tt) after (unread v None))) (sym h) tt
    by (Some r) h = subst (λ o. IfSome o (λ bytes. BytesCame count bytes before (Ok tt) after (unread v (Some r)))) (sym h) (
      (let a = ap length (whole r) in let b = length-append (so.part ++ part) (v ++ r) in omega (arith, a, b, size)),
      grown ∙ ap (λ x. x ++ part) so.body_is ∙ append_assoc before so.part part ∙ ap (λ x. before ++ x) (sym (ap (take count) (whole r) ∙ take_at (so.part ++ part) (v ++ r) count size)),
      ap Some (sym (ap (drop count) (whole r) ∙ drop_at (so.part ++ part) (v ++ r) count size)),
    )
