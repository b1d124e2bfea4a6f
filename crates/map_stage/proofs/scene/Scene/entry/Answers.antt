use Rattle.std.proofs.Common.{arith, rules}
use Rattle.std.proofs.lemmas.Grind.{common_steps}
use Rattle.map_stage.proofs.WordLemmas.{words_put}
use Rattle.map_stage.proofs.scene.Scene.entry.Goals as goal

pub loop-member-preserved : goal.loop-member-preserved
loop-member-preserved g c = record {
  words = words_put _ _ c.loop-member.entry c.put.new.self c.in_ok-put.ensures.ok c.loop-member.invariant.words c.in_ok-scalar.ensures.word;
  fields = first_of (search rules, grind (arith, common_steps));
}
