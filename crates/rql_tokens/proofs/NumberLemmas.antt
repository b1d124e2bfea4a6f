-- Numbers and their signs.
use Rattle.std.proofs.Common.{◌≡◌, ℕ, ℤ, pos, negsuc, neg_ℤ, List, true, false, cond, Option, Some, None, sym, ◌∙◌, ap}
use Rattle.std.specs.List.{list_all}
use Rattle.exact_tokens.specs.Bytes.{is_digit, magnitude}
use Rattle.rql_tokens.specs.declared.token.Token.TheVariants as t
use Rattle.rql_tokens.specs.Spelling.{number_or_bad, number_of}

pub least_is : (n : ℕ) → n ≡ 9223372036854775808 → negsuc 9223372036854775807 ≡ neg_ℤ (pos n)
least_is n is = ap (λ n. neg_ℤ (pos n)) (sym is)

pub not_digits : (most : ℕ) (sign : ℕ → ℤ) (bytes : List ℕ) → list_all is_digit bytes ≡ false → number_of most sign bytes ≡ t.BadNumber
not_digits most sign bytes other = ap (λ d. cond d (number_or_bad sign (magnitude most bytes)) t.BadNumber) other

pub digits_are : (most : ℕ) (sign : ℕ → ℤ) (bytes : List ℕ) (o : Option ℕ) → list_all is_digit bytes ≡ true → magnitude most bytes ≡ o → number_of most sign bytes ≡ number_or_bad sign o
digits_are most sign bytes o digits is = ap (λ d. cond d (number_or_bad sign (magnitude most bytes)) t.BadNumber) digits ∙ ap (number_or_bad sign) is

pub ruleset numbers = (not_digits, digits_are)
