use Rattle.std.proofs.Common.{sym, ◌∙◌}
use Rattle.exact_tokens.proofs.FirstLemmas.{in_ok}
use Rattle.rql_tokens.proofs.PrefixLemmas.{words, numbers, negatives, texts, marks}
use Rattle.rql_tokens.proofs.prefixes.first_token.Goals as goal

pub returns-then-is_letter-clause-token : goal.returns-then-is_letter-clause-token
returns-then-is_letter-clause-token c =
    in_ok c.word_at.result (λ found h. words _ _ _ found c.in-Some.ensures.cases.0 (sym c.is_letter.ensures ∙ c.if-is_letter.true) h) c.word_at.ensures.token

pub returns-then-is_digit-clause-token : goal.returns-then-is_digit-clause-token
returns-then-is_digit-clause-token c =
    numbers _ _ _ _ c.in-Some.ensures.cases.0 (sym c.is_letter.ensures ∙ c.if-is_letter.false) (sym c.is_digit.ensures ∙ c.if-is_digit.true) c.number_at.ensures.token

pub returns-then-first-eq45-clause-token : goal.returns-then-first-eq45-clause-token
returns-then-first-eq45-clause-token c = negatives _ _ _ _ c.in-Some.ensures.cases.0 c.if-first-eq45.true c.negative_at.ensures.token

pub returns-then-is_quote-clause-token : goal.returns-then-is_quote-clause-token
returns-then-is_quote-clause-token c =
    in_ok c.quoted_at.result (λ found h. texts _ _ _ found c.in-Some.ensures.cases.0 (sym c.is_quote.ensures ∙ c.if-is_quote.true) h) c.quoted_at.ensures.token

pub returns-else-is_quote-clause-token : goal.returns-else-is_quote-clause-token
returns-else-is_quote-clause-token c =
    marks _ _ _ _ c.in-Some.ensures.cases.0 (sym c.is_letter.ensures ∙ c.if-is_letter.false) (sym c.is_digit.ensures ∙ c.if-is_digit.false) c.if-first-eq45.false
    (sym c.is_quote.ensures ∙ c.if-is_quote.false) c.mark_at.ensures.token
