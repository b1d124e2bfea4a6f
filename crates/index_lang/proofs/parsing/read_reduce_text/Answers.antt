use Rattle.std.proofs.Common.{◌∙◌, subst}
use Rattle.index_tokens.specs.Words.{Tokens}
use Rattle.index_lang.specs.Parse.{IsReduceOf, UnlessNoMemory}
use Rattle.index_lang.proofs.parsing.read_reduce_text.Goals as goal

pub returns : goal.returns
returns c = subst (λ (ts : Tokens). UnlessNoMemory c.reduce_read.result (IsReduceOf ts)) (c.deref.ensures.value ∙ c.in_ok-tokens.ensures.list) c.reduce_read.ensures
