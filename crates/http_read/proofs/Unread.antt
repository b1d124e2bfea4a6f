-- The bytes that are not read yet: those of the window, and then those that the source reports.
use Rattle.std.proofs.Common.{◌≡◌, ℕ, ◌-◌, ◌≤◌, List, [], ◌∷◌, ◌++◌, length, take, drop, Option, Some, None, IfSome, refl, sym, ap, ◌∙◌, subst, arith, append_assoc, zero, suc}
use Rattle.std.proofs.lemmas.List.{append-nil, drop_at, take-append-drop}
use Rattle.http_read.specs.Reading.{unread}

-- what holds of the window's bytes and any after them holds of those that are reported
pub reported : (P : List ℕ → Type 0) (w0 w : List ℕ) (l0 l : Option (List ℕ)) → unread w l ≡ unread w0 l0 → ((r : List ℕ) → l ≡ Some r → P (w ++ r)) → IfSome (unread w0 l0) P
reported P w0 w l0 l same holds = subst (λ u. IfSome u P) same (by l holds)
  where
    by : (l : Option (List ℕ)) → ((r : List ℕ) → l ≡ Some r → P (w ++ r)) → IfSome (unread w l) P
    by None h = tt
    by (Some r) h = h r refl

-- the first k bytes of a window and more
pub take_more_of : (k : ℕ) (w r : List ℕ) → take k (w ++ r) ≡ take k w ++ take (k - length w) r
take_more_of zero w r = let e : 0 - length w ≡ 0 = omega arith in sym (ap (λ n. take n r) e)
take_more_of (suc k) [] r = let e : suc k - 0 ≡ suc k = omega arith in sym (ap (λ n. take n r) e)
take_more_of (suc k) (x ∷ w) r = let e : suc k - suc (length w) ≡ k - length w = omega arith in ap (λ v. x ∷ v) (take_more_of k w r) ∙ ap (λ n. x ∷ (take k w ++ take n r)) (sym e)

pub take_full : (k : ℕ) (w r : List ℕ) → k ≤ length w → take k (w ++ r) ≡ take k w
take_full k w r h = let e : k - length w ≡ 0 = omega arith in take_more_of k w r ∙ ap (λ n. take k w ++ take n r) e ∙ append-nil (take k w)

-- what begins with a text ends with the rest
pub split_prefix : (k : ℕ) (w text rest : List ℕ) → take k w ≡ text ++ rest → w ≡ text ++ drop (length text) w
split_prefix k w text rest h =
    let whole : w ≡ text ++ (rest ++ drop k w) = sym (take-append-drop k w) ∙ ap (λ v. v ++ drop k w) h ∙ append_assoc text rest (drop k w) in
    whole ∙ ap (λ v. text ++ v) (sym (ap (drop (length text)) whole ∙ drop_at text (rest ++ drop k w) (length text) refl))

-- the source has no more bytes
pub at_end : (w r : List ℕ) (l : Option (List ℕ)) → l ≡ Some r → IfSome l (λ left. left ≡ []) → w ++ r ≡ w
at_end w r l at end = ap (λ x. w ++ x) (subst (λ o. IfSome o (λ left. left ≡ [])) at end) ∙ append-nil w

pub ended_now : (n : ℕ) (l : Option (List ℕ)) → n ≡ 0 → IfSome l (λ bytes. n ≡ 0 → bytes ≡ []) → IfSome l (λ bytes. bytes ≡ [])
ended_now n None is h = tt
ended_now n (Some r) is h = h is
