-- The first byte decides which pass finds the longest token.
use Rattle.std.proofs.Common.{◌≡◌, ◌≢◌, ℕ, List, [], ◌∷◌, refl, sym, ap, ◌∙◌, true, false, ne_eqb}
use Rattle.exact_tokens.proofs.FirstLemmas.{letter_name, run_first, mark_first}
use Rattle.exact_tokens.proofs.TextLemmas.{text_first}
use Rattle.index_tokens.specs.declared.token.Token.{Token}
use Rattle.index_tokens.specs.declared.token.Token.TheVariants as t
use Rattle.index_tokens.specs.Spelling.{is_letter, is_digit, is_name_byte, number_of, escapes, single, double, spelled_by}
use Rattle.index_tokens.specs.Tokens.{first_token}
use Rattle.index_tokens.specs.Passes.{word_prefix, number_prefix, quoted_prefix, mark_prefix}

pub none_first : (s : List ℕ) → s ≡ [] → (t.Bad, 0) ≡ first_token s
none_first s is = sym (ap first_token is)

pub words : (s bs : List ℕ) (b : ℕ) (found : Token × ℕ) → s ≡ b ∷ bs → is_letter b ≡ true → found ≡ word_prefix s → found ≡ first_token s
words s bs b found is letter h =
    h ∙ ap word_prefix is ∙ sym (run_first spelled_by t.Bad is_name_byte t.Word b bs (letter_name b letter) (λ m. rw letter refl)) ∙ sym (ap first_token is)

pub numbers : (s bs : List ℕ) (b : ℕ) (found : Token × ℕ) → s ≡ b ∷ bs → is_letter b ≡ false → is_digit b ≡ true → found ≡ number_prefix s → found ≡ first_token s
numbers s bs b found is letter digit h =
    h ∙ ap number_prefix is ∙ sym (run_first spelled_by t.Bad is_digit number_of b bs digit (λ m. rw (letter, digit) refl)) ∙ sym (ap first_token is)

pub texts : (s bs : List ℕ) (b : ℕ) (found : Token × ℕ) → s ≡ b ∷ bs → b ≡ 34 → found ≡ quoted_prefix s bs → found ≡ first_token s
texts s bs b found is quote h =
    let whole : s ≡ 34 ∷ bs = is ∙ ap (λ z. z ∷ bs) quote in
    h ∙ ap (λ z. quoted_prefix z bs) whole ∙ sym (text_first 34 escapes refl refl refl spelled_by t.Bad t.Quoted (λ bs. refl) bs) ∙ sym (ap first_token whole)

pub marks : (s bs : List ℕ) (b : ℕ) (found : Token × ℕ) → s ≡ b ∷ bs → is_letter b ≡ false → is_digit b ≡ false → b ≢ 34 → found ≡ mark_prefix s → found ≡ first_token s
marks s bs b found is letter digit quote h =
    h ∙ ap mark_prefix is ∙ sym (mark_first spelled_by t.Bad single double b bs (λ m. rw (letter, digit) (rw (ne_eqb b 34 quote) refl))) ∙ sym (ap first_token is)

pub ruleset prefixes = (none_first, words, numbers, texts, marks)
