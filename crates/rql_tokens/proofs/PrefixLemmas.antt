-- The first byte decides which pass finds the longest token.
use Rattle.std.proofs.Common.{◌≡◌, ◌≢◌, ◌<◌, ◌≤◌, ◌+◌, ℕ, suc, zero, List, [], ◌∷◌, length, take, arith, refl, sym, subst, ap, ◌∙◌, add-one, Option, Some, None, Bool, true, false, inl, inr, ◌⊎◌, ne_eqb}
use Rattle.std.proofs.lemmas.Bool.{cases_eq}
use Rattle.std.specs.Prelude.{◌==◌, if◌then◌else◌}
use Rattle.std.specs.List.{list_all}
use Rattle.exact_tokens.specs.Bytes.{is_letter, is_digit, is_name_byte}
use Rattle.exact_tokens.specs.Passes.{run}
use Rattle.exact_tokens.specs.Tokens.{where_true}
use Rattle.exact_tokens.proofs.RunLemmas.{run_le, run_all, run_past, run_more}
use Rattle.exact_tokens.proofs.Longest.{spelled, first_found, first_bad}
use Rattle.exact_tokens.proofs.FirstLemmas.{letter_name, run_first, mark_first}
use Rattle.exact_tokens.proofs.TextLemmas.{text_first}
use Rattle.rql_tokens.specs.declared.token.Token.{Token}
use Rattle.rql_tokens.specs.declared.token.Token.TheVariants as t
use Rattle.rql_tokens.specs.Spelling.{word_of, positive, negative, is_number_byte, is_quote, escapes, single, double, spelled_by}
use Rattle.rql_tokens.specs.Tokens.{first_token}
use Rattle.rql_tokens.specs.Passes.{word_prefix, number_prefix, negative_prefix, quoted_prefix, mark_prefix}

digit_number : (b : ℕ) → is_digit b ≡ true → is_number_byte b ≡ true
digit_number b is = by (is_letter b) refl
  where
    by : (d : Bool) → is_letter b ≡ d → is_number_byte b ≡ true
    by true e = rw e refl
    by false e = rw (e, is) refl

-- BEHIND `-`

negative_spells : (b : ℕ) (rest : List ℕ) → is_digit b ≡ true → (k : ℕ) →
    spelled spelled_by 45 (b ∷ rest) (suc k) ≡ where_true (list_all is_number_byte (take k rest)) (negative (b ∷ take k rest))
negative_spells b rest is k = rw is refl

negative_past : (b : ℕ) (rest : List ℕ) → is_digit b ≡ true → (m : ℕ) → suc (run is_number_byte rest) < m → m ≤ length (b ∷ rest) → spelled spelled_by 45 (b ∷ rest) m ≡ None
negative_past b rest is zero h l = absurd (omega arith)
negative_past b rest is (suc k) h l =
    negative_spells b rest is k ∙ ap (λ h. where_true h (negative (b ∷ take k rest))) (run_past is_number_byte rest k (omega arith) (omega arith))

negative_found : (b : ℕ) (rest : List ℕ) → is_digit b ≡ true → first_token (45 ∷ b ∷ rest) ≡ (negative (take (run is_number_byte (b ∷ rest)) (b ∷ rest)), run is_number_byte (b ∷ rest) + 1)
negative_found b rest is =
    let n = run is_number_byte rest in
    let small = run_le is_number_byte rest in
    first_found spelled_by t.Bad 45 (b ∷ rest) (suc n) (negative (b ∷ take n rest)) (omega (arith, small))
    (negative_spells b rest is n ∙ ap (λ h. where_true h (negative (b ∷ take n rest))) (run_all is_number_byte rest))
    (negative_past b rest is)
    ∙ ap (λ k. (negative (take k (b ∷ rest)), suc k)) (sym (run_more is_number_byte b rest (digit_number b is)))
    ∙ ap (λ k. (negative (take (run is_number_byte (b ∷ rest)) (b ∷ rest)), k)) (sym (add-one (run is_number_byte (b ∷ rest))))

minus_first : (bs : List ℕ) → first_token (45 ∷ bs) ≡ negative_prefix (45 ∷ bs) bs
minus_first [] = first_bad spelled_by t.Bad 45 [] none
  where
    none : (m : ℕ) → m ≤ 0 → spelled spelled_by 45 [] m ≡ None
    none zero l = refl
    none (suc m) l = refl
minus_first (b ∷ rest) = by (is_digit b) refl
  where
    none : is_digit b ≡ false → (m : ℕ) → m ≤ length (b ∷ rest) → spelled spelled_by 45 (b ∷ rest) m ≡ None
    none e zero l = refl
    none e (suc m) l = rw e refl

    by : (d : Bool) → is_digit b ≡ d → first_token (45 ∷ b ∷ rest) ≡ negative_prefix (45 ∷ b ∷ rest) (b ∷ rest)
    by true e =
        let same : negative_prefix (45 ∷ b ∷ rest) (b ∷ rest) ≡ (negative (take (run is_number_byte (b ∷ rest)) (b ∷ rest)), run is_number_byte (b ∷ rest) + 1) = rw e refl in
        negative_found b rest e ∙ sym same
    by false e = let same : negative_prefix (45 ∷ b ∷ rest) (b ∷ rest) ≡ (t.Bad, suc (length (b ∷ rest))) = rw e refl in first_bad spelled_by t.Bad 45 (b ∷ rest) (none e) ∙ sym same

-- TEXTS

-- for either quote
quoted_first : (quote : ℕ) (bs : List ℕ) → is_quote quote ≡ true → first_token (quote ∷ bs) ≡ quoted_prefix quote (quote ∷ bs) bs
quoted_first quote bs a_quote = by (cases_eq quote 39) (cases_eq quote 34)
  where
    by : (quote ≡ 39) ⊎ (quote ≢ 39) → (quote ≡ 34) ⊎ (quote ≢ 34) → first_token (quote ∷ bs) ≡ quoted_prefix quote (quote ∷ bs) bs
    by (inl is) other = subst (λ q. first_token (q ∷ bs) ≡ quoted_prefix q (q ∷ bs) bs) (sym is) (text_first 39 (escapes 39) refl refl refl spelled_by t.Bad t.Quoted (λ bs. refl) bs)
    by (inr far) (inl is) = subst (λ q. first_token (q ∷ bs) ≡ quoted_prefix q (q ∷ bs) bs) (sym is) (text_first 34 (escapes 34) refl refl refl spelled_by t.Bad t.Quoted (λ bs. refl) bs)
    by (inr far) (inr other) = let none : is_quote quote ≡ false = rw (ne_eqb quote 39 far, ne_eqb quote 34 other) refl in let bad : true ≡ false = sym a_quote ∙ none in cc

-- OF BYTES THAT A TEST TOOK APART

pub none_first : (s : List ℕ) → s ≡ [] → (t.Bad, 0) ≡ first_token s
none_first s is = sym (ap first_token is)

pub words : (s bs : List ℕ) (b : ℕ) (found : Token × ℕ) → s ≡ b ∷ bs → is_letter b ≡ true → found ≡ word_prefix s → found ≡ first_token s
words s bs b found is letter h = h ∙ ap word_prefix is ∙ sym (run_first spelled_by t.Bad is_name_byte word_of b bs (letter_name b letter) (λ m. rw letter refl)) ∙ sym (ap first_token is)

pub numbers : (s bs : List ℕ) (b : ℕ) (found : Token × ℕ) → s ≡ b ∷ bs → is_letter b ≡ false → is_digit b ≡ true → found ≡ number_prefix s → found ≡ first_token s
numbers s bs b found is letter digit h = h ∙ ap number_prefix is ∙ sym (run_first spelled_by t.Bad is_number_byte positive b bs (digit_number b digit) (λ m. rw (letter, digit) refl)) ∙ sym (ap first_token is)

pub negatives : (s bs : List ℕ) (b : ℕ) (found : Token × ℕ) → s ≡ b ∷ bs → b ≡ 45 → found ≡ negative_prefix s bs → found ≡ first_token s
negatives s bs b found is minus h =
    let whole : s ≡ 45 ∷ bs = is ∙ ap (λ z. z ∷ bs) minus in
    h ∙ ap (λ z. negative_prefix z bs) whole ∙ sym (minus_first bs) ∙ sym (ap first_token whole)

pub texts : (s bs : List ℕ) (b : ℕ) (found : Token × ℕ) → s ≡ b ∷ bs → is_quote b ≡ true → found ≡ quoted_prefix b s bs → found ≡ first_token s
texts s bs b found is quote h = h ∙ ap (λ z. quoted_prefix b z bs) is ∙ sym (quoted_first b bs quote) ∙ sym (ap first_token is)

pub marks : (s bs : List ℕ) (b : ℕ) (found : Token × ℕ) → s ≡ b ∷ bs → is_letter b ≡ false → is_digit b ≡ false → b ≢ 45 → is_quote b ≡ false → found ≡ mark_prefix s → found ≡ first_token s
marks s bs b found is letter digit minus quote h = h ∙ ap mark_prefix is ∙ sym (mark_first spelled_by t.Bad single double b bs (λ m. rw (letter, digit) (rw (ne_eqb b 45 minus) (rw quote refl)))) ∙ sym (ap first_token is)

pub ruleset prefixes = (none_first, words, numbers, negatives, texts, marks)
