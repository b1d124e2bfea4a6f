-- Lists of jobs, what was begun of them, and their outcomes, as far as a loop has come.
use Rattle.std.proofs.Common.{◌≡◌, List, [], ◌∷◌, ◌++◌, length, sym, refl, ap, ap₂, ◌∙◌, append_assoc, append-nil, arith}
use Rattle.std.specs.List.{AllZip}
use Rattle.std.specs.Prelude.{Option, Some, None, Result, Ok, Err}
use Rattle.std.specs.Result.{result_err}
use Rattle.raven_crew.specs.Outcomes.{IsOutcome, outputs_in, returned_in}

module _ {A B : Type 0} (R : A → B → Type 0) where
  pub zip_push : (xs : List A) (ys : List B) (x : A) (y : B) → AllZip R xs ys → R x y → AllZip R (xs ++ x ∷ []) (ys ++ y ∷ [])
  zip_push [] [] x y z r = (r, tt)
  zip_push [] (b ∷ ys) x y z r = absurd z
  zip_push (a ∷ xs) [] x y z r = absurd z
  zip_push (a ∷ xs) (b ∷ ys) x y z r = (z.0, zip_push xs ys x y z.1 r)

module _ {A : Type 0} where
  -- one more item was taken
  pub took_one : (all taken before after : List A) (x : A) → all ≡ taken ++ before → before ≡ x ∷ after → all ≡ (taken ++ x ∷ []) ++ after
  took_one all taken before after x e f = e ∙ ap (λ l. taken ++ l) f ∙ sym (append_assoc taken (x ∷ []) after)

  pub none_left : (xs : List A) → length xs ≡ 0 → xs ≡ []
  none_left [] e = refl
  none_left (x ∷ xs) e = absurd (omega arith)

  pub took_all : (all taken before : List A) → all ≡ taken ++ before → length before ≡ 0 → taken ≡ all
  took_all all taken before e f = sym (e ∙ ap (λ l. taken ++ l) (none_left before f) ∙ append-nil taken)

module _ {A B C : Type 0} (R : A → B → Type 0) (S : A → C → Type 0) where
  pub zip_on : (xs : List A) (ys : List B) (zs : List C) → AllZip R xs ys → AllZip (λ y z. (x : A) → R x y → S x z) ys zs → AllZip S xs zs
  zip_on [] [] [] a b = tt
  zip_on [] [] (z ∷ zs) a b = absurd b
  zip_on [] (y ∷ ys) zs a b = absurd a
  zip_on (x ∷ xs) [] zs a b = absurd a
  zip_on (x ∷ xs) (y ∷ ys) [] a b = absurd b
  zip_on (x ∷ xs) (y ∷ ys) (z ∷ zs) a b = (b.0 x a.0, zip_on xs ys zs a.1 b.1)

some_is : {A : Type 0} (x y : A) → Some x ≡ Some y → x ≡ y
some_is x y e = cc

module _ {J X : Type 0} (done : J → X → Type 0) where
  pub all_back : (jobs : List J) (rs : List (Result X J)) → AllZip (IsOutcome done) jobs rs → outputs_in rs ≡ [] → returned_in rs ≡ jobs
  all_back [] [] z e = refl
  all_back [] (r ∷ rs) z e = absurd z
  all_back (j ∷ jobs) [] z e = absurd z
  all_back (j ∷ jobs) (Ok x ∷ rs) z e = absurd (cc)
  all_back (j ∷ jobs) (Err b ∷ rs) z e = ap₂ (λ (a : J) (l : List J). a ∷ l) z.0 (all_back jobs rs z.1 e)

module _ {J X : Type 0} where
  pub back-push : (rs : List (Result X J)) (r : Result X J) (j : J) → result_err r ≡ Some j → returned_in (rs ++ r ∷ []) ≡ returned_in rs ++ j ∷ []
  back-push [] (Ok x) j e = absurd (cc)
  back-push [] (Err i) j e = ap (λ (k : J). k ∷ []) (some_is i j e)
  back-push (Ok y ∷ rs) r j e = back-push rs r j e
  back-push (Err i ∷ rs) r j e = ap (λ l. i ∷ l) (back-push rs r j e)

  pub back-skip : (rs : List (Result X J)) (r : Result X J) → result_err r ≡ None → returned_in (rs ++ r ∷ []) ≡ returned_in rs
  back-skip [] (Ok x) e = refl
  back-skip [] (Err i) e = absurd (cc)
  back-skip (Ok y ∷ rs) r e = back-skip rs r e
  back-skip (Err i ∷ rs) r e = ap (λ l. i ∷ l) (back-skip rs r e)
