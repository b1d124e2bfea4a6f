-- Quotes are ASCII.
use Rattle.std.proofs.Common.{◌≡◌, ◌<◌, ℕ, arith, true}
use Rattle.std.proofs.lemmas.Grind.{common_steps}
use Rattle.exact_tokens.specs.Texts.{are_ascii}
use Rattle.rql_tokens.specs.Spelling.{is_quote, escapes}

pub quote_ascii : (quote : ℕ) → is_quote quote ≡ true → quote < 128
quote_ascii quote is = grind (arith, common_steps)

pub escapes_ascii : (quote : ℕ) → is_quote quote ≡ true → are_ascii (escapes quote) ≡ true
escapes_ascii quote is = let small = quote_ascii quote is in grind (arith, common_steps, small)

pub ruleset quotes = (quote_ascii, escapes_ascii)
