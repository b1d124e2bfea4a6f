use Rattle.std.proofs.Common.{arith, rules}
use Rattle.std.proofs.lemmas.Grind.{common_steps}
use Rattle.index_version.proofs.Words.{words_put}
use Rattle.index_version.proofs.mapping.grouped_entry.Goals as goal

pub loop-sum-init : goal.loop-sum-init
loop-sum-init c = record {
  fields = first_of (search rules, grind (arith, common_steps));
  words = words_put _ _ c.in_ok-entry.entry c.put.new.self c.in_ok-put.ensures.ok c.in_ok-entry.ensures.words (search rules);
}

pub loop-sum-preserved : goal.loop-sum-preserved
loop-sum-preserved c = record {
  fields = first_of (search rules, grind (arith, common_steps));
  words = words_put _ _ c.loop-sum.entry c.put-in-loop-sum.new.self c.in_ok-put-2.ensures.ok c.loop-sum.invariant.words c.in_ok-field_at.ensures.word;
}
