use Rattle.std.proofs.Common.{rules}
use Rattle.rql_tokens.specs.KeyWords.{function_of}
use Rattle.rql_tokens.proofs.key_words.function_of.Goals as goal

pub loop-function-init : goal.loop-function-init
unfolding function_of
loop-function-init c = search rules
