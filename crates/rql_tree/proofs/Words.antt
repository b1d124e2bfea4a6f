-- Words, by their first letter, and key words in two parts.
use Rattle.std.proofs.Common.{◌≡◌, ℕ, List, [], ◌∷◌, Bool, false, ◌&&◌, ◌||◌, length, refl, ap, arith}
use Rattle.std.specs.List.{list_all}
use Rattle.std.proofs.lemmas.List.Folds.{list_any-append}
use Rattle.spec_data.specs.Folding.{folded, same_key}
use Rattle.spec_query.specs.Printing.{is_letter, is_letter_or_digit, is_word}
use Rattle.rql_tree.specs.Printed.{clause_words, is_key_word, is_one_of, other_words}

pub word_first : (s bs : List ℕ) (b : ℕ) → s ≡ b ∷ bs → is_word s ≡ (is_letter b && list_all is_letter_or_digit bs)
word_first s bs b is = ap is_word is

pub word_none : (s : List ℕ) → length s ≡ 0 → is_word s ≡ false
word_none [] empty = refl
word_none (b ∷ bs) empty = absurd (omega arith)

pub ruleset words = (word_first, word_none)

pub key_words_parted : (word : List ℕ) → is_key_word word ≡ (is_one_of clause_words word || is_one_of other_words word)
key_words_parted word = list_any-append (same_key (folded word)) clause_words other_words
