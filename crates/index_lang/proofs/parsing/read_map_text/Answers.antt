use Rattle.std.proofs.Common.{◌∙◌, subst}
use Rattle.index_tokens.specs.Words.{Tokens}
use Rattle.index_lang.specs.Parse.{IsMapOf, UnlessNoMemory}
use Rattle.index_lang.proofs.parsing.read_map_text.Goals as goal

pub returns : goal.returns
returns c = subst (λ (ts : Tokens). UnlessNoMemory c.map_of.result (IsMapOf ts)) (c.deref.ensures.value ∙ c.in_ok-tokens.ensures.list) c.map_of.ensures
