use Rattle.std.proofs.Common.{◌≡◌, ◌++◌, length, map}
use Rattle.std.specs.List.{All}
use Rattle.std.specs.Vec.Iter.{into_iter_items, into_iter_len}
use Rattle.spec_data.specs.Folding.{folded}
use Rattle.index_tree.specs.Mapper.{mapper_of}
use Rattle.index_definition.specs.DefinitionView.{definition_view}
use Rattle.reference_track.specs.Folded.{by_folded}
use Rattle.index_version.specs.Asked.{IsAnswered}
use Rattle.index_version.specs.Renewed.{ArePaired, AreRenewed}
use Rattle.index_version.proofs.Answering.{folded_ids}
use Rattle.index_version.proofs.renewal.renewed.Given as goal

-- the answers so far are stored, and those that are left are answers too
abbrev pub invariant-loop-answer : goal.invariant-loop-answer
invariant-loop-answer g l = record {
  ids : folded_ids (l.yielded ++ into_iter_items l.answer-iterator) ≡ map folded l.ids;
  answered : All (IsAnswered (mapper_of (definition_view l.definition.body)) l.table) (into_iter_items l.answer-iterator);
  left : into_iter_len l.answer-iterator ≡ length (into_iter_items l.answer-iterator);
  results : AreRenewed (mapper_of (definition_view l.definition.body)) l.table (folded_ids l.yielded) (by_folded l.kept.given) (by_folded l.new.given);
  pairs : ArePaired (mapper_of (definition_view l.definition.body)) l.table (folded_ids l.yielded) l.kept.referrers l.new.referrers;
}
