use Rattle.std.proofs.Common.{arith, rules}
use Rattle.std.proofs.lemmas.Grind.{common_steps}
use Rattle.index_version.proofs.Words.{words_put}
use Rattle.index_version.proofs.mapping.auto_entry.Goals as goal

pub loop-path-preserved : goal.loop-path-preserved
loop-path-preserved c = record {
  fields = first_of (search rules, grind (arith, common_steps));
  words = words_put _ _ c.loop-path.entry c.put.new.self c.in_ok-put.ensures.ok c.loop-path.invariant.words c.in_ok-field_at.ensures.word;
}
