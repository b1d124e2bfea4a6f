use Rattle.std.proofs.Common.{◌∙◌}
use Rattle.index_tokens.specs.Spelling.{reserved_words}
use Rattle.index_tokens.proofs.ReservedLemmas.{found_either_way}
use Rattle.index_tokens.proofs.reserved.is_reserved.Goals as goal

pub returns : goal.returns
returns c = c.contains.ensures.value ∙ found_either_way c.args.word.now reserved_words
