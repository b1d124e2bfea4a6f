use Rattle.std.proofs.Common.{rules}
use Rattle.rql_tokens.specs.KeyWords.{key_of}
use Rattle.rql_tokens.proofs.key_words.key_of.Goals as goal

pub loop-key-init : goal.loop-key-init
unfolding key_of
loop-key-init c = search rules
