-- One pass over a text in quotes finds the one prefix that is a text.
use Rattle.std.proofs.Common.{◌≡◌, ◌≢◌, ◌<◌, ◌≤◌, ◌+◌, ℕ, suc, zero, List, [], ◌∷◌, ◌++◌, length, take, arith, refl, sym, subst, ap, ◌∙◌, append_assoc, append-nil, Option, Some, None, Bool, true, false, inl, inr, ◌⊎◌, ne_eqb}
use Rattle.std.proofs.lemmas.Bool.{cases_eq}
use Rattle.std.specs.Prelude.{◌==◌, if◌then◌else◌, option_and_then, option_map}
use Rattle.exact_tokens.specs.Texts.{is_raw, meant_by, value_of}
use Rattle.exact_tokens.specs.Passes.{text_from}
use Rattle.exact_tokens.specs.Tokens.{or_all, first_token}
use Rattle.exact_tokens.proofs.Longest.{first_found, first_bad}

module _ (quote : ℕ) (escapes : List (ℕ × ℕ)) (closes : (quote == quote) ≡ true) (no_slash : (quote == 92) ≡ false) (not_raw : is_raw quote quote ≡ false) where
  none_of_none : (m : ℕ) → m ≤ 0 → value_of quote escapes (take m []) ≡ None
  none_of_none zero h = refl
  none_of_none (suc m) h = absurd (omega arith)

  none_of_one : (b : ℕ) → value_of quote escapes (b ∷ []) ≡ None → (m : ℕ) → m ≤ 1 → value_of quote escapes (take m (b ∷ [])) ≡ None
  none_of_one b is zero h = refl
  none_of_one b is (suc m) h = let e : m ≡ 0 = omega arith in rw e is

  no_more_than_one : (b m : ℕ) → 1 < m → m ≤ 1 → value_of quote escapes (take m (b ∷ [])) ≡ None
  no_more_than_one b m h l = absurd (omega arith)

  -- The bytes up to the closing quote spell the value, and no longer prefix is a text.
  record IsText (v : List ℕ) (k : ℕ) (bs w : List ℕ) (n : ℕ) : Type 0 where
    pub more : List ℕ
    pub last : ℕ
    pub value : w ≡ v ++ more
    pub size : n ≡ k + suc last
    pub fits : suc last ≤ length bs
    pub spelled : value_of quote escapes (take (suc last) bs) ≡ Some more
    pub longest : (m : ℕ) → suc last < m → m ≤ length bs → value_of quote escapes (take m bs) ≡ None

  abbrev Reads : List ℕ → ℕ → List ℕ → Option (List ℕ × ℕ) → Type 0
  Reads v k bs None = (m : ℕ) → m ≤ length bs → value_of quote escapes (take m bs) ≡ None
  Reads v k bs (Some p) = IsText v k bs p.0 p.1

  quote_spelled : value_of quote escapes (quote ∷ []) ≡ Some []
  quote_spelled = rw closes refl

  behind_quote : (c : ℕ) (s : List ℕ) → value_of quote escapes (quote ∷ c ∷ s) ≡ None
  behind_quote c s = rw not_raw (rw no_slash refl)

  quote_alone : (v : List ℕ) (k : ℕ) → IsText v k (quote ∷ []) v (k + 1)
  quote_alone v k = record {
    more = [];
    last = 0;
    value = sym (append-nil v);
    size = refl;
    fits = omega arith;
    spelled = quote_spelled;
    longest = no_more_than_one quote;
  }

  quote_first : (v : List ℕ) (k c : ℕ) (bs : List ℕ) → IsText v k (quote ∷ c ∷ bs) v (k + 1)
  quote_first v k c bs = record {
    more = [];
    last = 0;
    value = sym (append-nil v);
    size = refl;
    fits = omega arith;
    spelled = quote_spelled;
    longest = longer;
  }
    where
      longer : (m : ℕ) → 1 < m → m ≤ length (quote ∷ c ∷ bs) → value_of quote escapes (take m (quote ∷ c ∷ bs)) ≡ None
      longer zero h l = absurd (omega arith)
      longer (suc zero) h l = absurd (omega arith)
      longer (suc (suc m)) h l = behind_quote c (take m bs)

  one_alone : (v : List ℕ) (k b : ℕ) → (b ≡ quote) ⊎ (b ≢ quote) → Reads v k (b ∷ []) (text_from quote escapes v k (b ∷ []))
  one_alone v k b (inl is) =
      let ends : text_from quote escapes v k (quote ∷ []) ≡ Some (v, k + 1) = rw closes refl in
      subst (λ z. Reads v k (z ∷ []) (text_from quote escapes v k (z ∷ []))) (sym is) (subst (Reads v k (quote ∷ [])) (sym ends) (quote_alone v k))
  one_alone v k b (inr other) =
      let alone : value_of quote escapes (b ∷ []) ≡ None = rw (ne_eqb b quote other) refl in
      let ends : text_from quote escapes v k (b ∷ []) ≡ None = rw (ne_eqb b quote other) refl in
      subst (Reads v k (b ∷ [])) (sym ends) (none_of_one b alone)

  -- a byte that means itself, before another
  raw_more : (v : List ℕ) (k b c : ℕ) (bs : List ℕ) → value_of quote escapes (b ∷ []) ≡ None → ((s : List ℕ) → value_of quote escapes (b ∷ c ∷ s) ≡ option_map (λ u. b ∷ u) (value_of quote escapes (c ∷ s)))
      → (o : Option (List ℕ × ℕ)) → Reads (v ++ b ∷ []) (k + 1) (c ∷ bs) o → Reads v k (b ∷ c ∷ bs) o
  raw_more v k b c bs alone step None ih = none
    where
      none : (m : ℕ) → m ≤ length (b ∷ c ∷ bs) → value_of quote escapes (take m (b ∷ c ∷ bs)) ≡ None
      none zero h = refl
      none (suc zero) h = alone
      none (suc (suc m)) h = step (take m bs) ∙ ap (option_map (λ u. b ∷ u)) (ih (suc m) (omega arith))
  raw_more v k b c bs alone step (Some p) ih = record {
    more = b ∷ ih.more;
    last = suc ih.last;
    value = ih.value ∙ append_assoc v (b ∷ []) ih.more;
    size = omega (arith, ih.size);
    fits = omega (arith, ih.fits);
    spelled = step (take ih.last bs) ∙ ap (option_map (λ u. b ∷ u)) ih.spelled;
    longest = longer;
  }
    where
      longer : (m : ℕ) → suc (suc ih.last) < m → m ≤ length (b ∷ c ∷ bs) → value_of quote escapes (take m (b ∷ c ∷ bs)) ≡ None
      longer zero h l = refl
      longer (suc zero) h l = alone
      longer (suc (suc m)) h l = step (take m bs) ∙ ap (option_map (λ u. b ∷ u)) (ih.longest (suc m) (omega arith) (omega arith))

  -- an escape
  escape_more : (v : List ℕ) (k b c x : ℕ) (bs : List ℕ) → value_of quote escapes (b ∷ []) ≡ None → ((s : List ℕ) → value_of quote escapes (b ∷ c ∷ s) ≡ option_map (λ u. x ∷ u) (value_of quote escapes s))
      → (o : Option (List ℕ × ℕ)) → Reads (v ++ x ∷ []) (k + 2) bs o → Reads v k (b ∷ c ∷ bs) o
  escape_more v k b c x bs alone step None ih = none
    where
      none : (m : ℕ) → m ≤ length (b ∷ c ∷ bs) → value_of quote escapes (take m (b ∷ c ∷ bs)) ≡ None
      none zero h = refl
      none (suc zero) h = alone
      none (suc (suc m)) h = step (take m bs) ∙ ap (option_map (λ u. x ∷ u)) (ih m (omega arith))
  escape_more v k b c x bs alone step (Some p) ih = record {
    more = x ∷ ih.more;
    last = suc (suc ih.last);
    value = ih.value ∙ append_assoc v (x ∷ []) ih.more;
    size = omega (arith, ih.size);
    fits = omega (arith, ih.fits);
    spelled = step (take (suc ih.last) bs) ∙ ap (option_map (λ u. x ∷ u)) ih.spelled;
    longest = longer;
  }
    where
      longer : (m : ℕ) → suc (suc (suc ih.last)) < m → m ≤ length (b ∷ c ∷ bs) → value_of quote escapes (take m (b ∷ c ∷ bs)) ≡ None
      longer zero h l = refl
      longer (suc zero) h l = alone
      longer (suc (suc m)) h l = step (take m bs) ∙ ap (option_map (λ u. x ∷ u)) (ih.longest m (omega arith) (omega arith))

  -- no text goes on
  none_more : (v : List ℕ) (k b c : ℕ) (bs : List ℕ) → value_of quote escapes (b ∷ []) ≡ None → ((s : List ℕ) → value_of quote escapes (b ∷ c ∷ s) ≡ None) → Reads v k (b ∷ c ∷ bs) None
  none_more v k b c bs alone step zero h = refl
  none_more v k b c bs alone step (suc zero) h = alone
  none_more v k b c bs alone step (suc (suc m)) h = step (take m bs)

  -- the reading behind the first of two bytes that is no quote
  abbrev goes_on : Bool → Bool → Option ℕ → List ℕ → ℕ → ℕ → ℕ → List ℕ → Option (List ℕ × ℕ)
  goes_on slash raw meant v k b c bs =
      if slash then option_and_then (λ x. text_from quote escapes (v ++ x ∷ []) (k + 2) bs) meant else (
      if raw then text_from quote escapes (v ++ b ∷ []) (k + 1) (c ∷ bs) else None)

  two_by : (slash raw : Bool) (meant : Option ℕ) (v : List ℕ) (k b c : ℕ) (bs : List ℕ) → (b == 92) ≡ slash → is_raw quote b ≡ raw → meant_by escapes c ≡ meant → value_of quote escapes (b ∷ []) ≡ None
      → ((v : List ℕ) (k : ℕ) → Reads v k bs (text_from quote escapes v k bs)) → ((v : List ℕ) (k : ℕ) → Reads v k (c ∷ bs) (text_from quote escapes v k (c ∷ bs)))
      → Reads v k (b ∷ c ∷ bs) (goes_on slash raw meant v k b c bs)
  two_by true raw (Some x) v k b c bs e r h alone behind next = escape_more v k b c x bs alone (λ s. rw (e, h) refl) (text_from quote escapes (v ++ x ∷ []) (k + 2) bs) (behind (v ++ x ∷ []) (k + 2))
  two_by true raw None v k b c bs e r h alone behind next = none_more v k b c bs alone (λ s. rw (e, h) refl)
  two_by false true meant v k b c bs e r h alone behind next = raw_more v k b c bs alone (λ s. rw r (rw e refl)) (text_from quote escapes (v ++ b ∷ []) (k + 1) (c ∷ bs)) (next (v ++ b ∷ []) (k + 1))
  two_by false false meant v k b c bs e r h alone behind next = none_more v k b c bs alone (λ s. rw r (rw e refl))

  two : (v : List ℕ) (k b c : ℕ) (bs : List ℕ) → ((v : List ℕ) (k : ℕ) → Reads v k bs (text_from quote escapes v k bs)) → ((v : List ℕ) (k : ℕ) → Reads v k (c ∷ bs) (text_from quote escapes v k (c ∷ bs)))
      → (b ≡ quote) ⊎ (b ≢ quote) → Reads v k (b ∷ c ∷ bs) (text_from quote escapes v k (b ∷ c ∷ bs))
  two v k b c bs behind next (inl is) =
      let ends : text_from quote escapes v k (quote ∷ c ∷ bs) ≡ Some (v, k + 1) = rw closes refl in
      subst (λ z. Reads v k (z ∷ c ∷ bs) (text_from quote escapes v k (z ∷ c ∷ bs))) (sym is) (subst (Reads v k (quote ∷ c ∷ bs)) (sym ends) (quote_first v k c bs))
  two v k b c bs behind next (inr other) =
      let same : text_from quote escapes v k (b ∷ c ∷ bs) ≡ goes_on (b == 92) (is_raw quote b) (meant_by escapes c) v k b c bs = rw (ne_eqb b quote other) refl in
      subst (Reads v k (b ∷ c ∷ bs)) (sym same) (two_by (b == 92) (is_raw quote b) (meant_by escapes c) v k b c bs refl refl refl (rw (ne_eqb b quote other) refl) behind next)

  reads : (v : List ℕ) (k : ℕ) (bs : List ℕ) → Reads v k bs (text_from quote escapes v k bs)
  reads v k [] = none_of_none
  reads v k (b ∷ []) = one_alone v k b (cases_eq b quote)
  reads v k (b ∷ c ∷ bs) = two v k b c bs (λ v k. reads v k bs) (λ v k. reads v k (c ∷ bs)) (cases_eq b quote)

  module _ {T : Type 0} (spelled_by : List ℕ → Option T) (bad : T) (text : List ℕ → T) (spells : (bs : List ℕ) → spelled_by (quote ∷ bs) ≡ option_map text (value_of quote escapes bs)) where
    by_reading : (bs : List ℕ) (o : Option (List ℕ × ℕ)) → Reads [] 0 bs o → first_token spelled_by bad (quote ∷ bs) ≡ or_all bad (quote ∷ bs) (option_map (λ part. (text part.0, part.1 + 1)) o)
    by_reading bs None ih = first_bad spelled_by bad quote bs (λ m h. spells (take m bs) ∙ ap (option_map text) (ih m h))
    by_reading bs (Some p) ih =
        let size : suc (suc ih.last) ≡ p.1 + 1 = omega (arith, ih.size) in
        first_found spelled_by bad quote bs (suc ih.last) (text ih.more) ih.fits (spells (take (suc ih.last) bs) ∙ ap (option_map text) ih.spelled)
        (λ m h l. spells (take m bs) ∙ ap (option_map text) (ih.longest m h l))
        ∙ ap (λ z. (text z, suc (suc ih.last))) (sym ih.value) ∙ ap (λ z. (text p.0, z)) size

    pub text_first : (bs : List ℕ) → first_token spelled_by bad (quote ∷ bs) ≡ or_all bad (quote ∷ bs) (option_map (λ part. (text part.0, part.1 + 1)) (text_from quote escapes [] 0 bs))
    text_first bs = by_reading bs (text_from quote escapes [] 0 bs) (reads [] 0 bs)
