use Rattle.std.proofs.Common.{◌≡◌, find}
use Rattle.std.specs.Array.Iter.{array_into_iter_items}
use Rattle.std.specs.Str.{str_eq_ignore_ascii_case}
use Rattle.rql_tokens.specs.KeyWords.{function_of, function_text}
use Rattle.rql_tokens.proofs.key_words.function_of.Given as goal

abbrev pub invariant-loop-function : goal.invariant-loop-function
invariant-loop-function l = find (λ function. str_eq_ignore_ascii_case (function_text function) l.name) (array_into_iter_items l.function-iterator) ≡ function_of l.name
