-- Where a spelling is past its limits.
use Rattle.std.specs.Prelude.{ℕ, List}
use Rattle.exact_parse.specs.Limits.{Verdict, Fine, opens}
use Rattle.index_tokens.specs.declared.token.Placed.{Placed}
use Rattle.index_tokens.specs.Words.{Tokens}
use Rattle.index_tokens.specs.Reads.{Kind}
use Rattle.reduce_grammar.specs.declared.spelled.KeyForm.{KeyForm}
use Rattle.reduce_grammar.specs.declared.spelled.PlacedFold.{PlacedFold}
use Rattle.reduce_grammar.specs.declared.spelled.SpelledReduce.{SpelledReduce}
use Rattle.reduce_grammar.specs.Reduces.{SpellsFolds, last, last_comma, more, SpellsReduce, reduce}

abbrev pub most_members : ℕ
most_members = 64

-- A member for which there is no room is too large at its first token. A key has as many parts as it likes.
-- The other limits of the language are never reached here: of parts that are open within one another a member has at most the `(` of its fold,
-- which is one of 64, and it has at most four points and one binary operator, of 256.
abbrev pub folds_verdict : {g : List ℕ} {form : KeyForm} {s r : Tokens} {all : List PlacedFold} → SpellsFolds g form s all r → (room count : ℕ) → Verdict Placed Kind
folds_verdict (last {s = s} x is) room n = opens tt room s (λ room. Fine n)
folds_verdict (last_comma {s = s} x is also) room n = opens tt room s (λ room. Fine n)
folds_verdict (more {s = s} x is y) room n = opens tt room s (λ room. folds_verdict y room n)

abbrev pub limit : (s : Tokens) (a : SpelledReduce) (r : Tokens) → SpellsReduce s a r → Verdict Placed Kind
limit s a r (reduce entries key name members end) = folds_verdict members most_members 0
