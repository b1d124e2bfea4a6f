use Rattle.std.proofs.Common.{◌≡◌, find}
use Rattle.std.specs.Array.Iter.{array_into_iter_items}
use Rattle.std.specs.Str.{str_eq_ignore_ascii_case}
use Rattle.rql_tokens.specs.KeyWords.{key_of, key_text}
use Rattle.rql_tokens.proofs.key_words.key_of.Given as goal

abbrev pub invariant-loop-key : goal.invariant-loop-key
invariant-loop-key l = find (λ key. str_eq_ignore_ascii_case (key_text key) l.word) (array_into_iter_items l.key-iterator) ≡ key_of l.word
