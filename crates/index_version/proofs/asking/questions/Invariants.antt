use Rattle.std.proofs.Common.{◌≡◌, ◌+◌, drop, length, map, take}
use Rattle.std.specs.List.{All}
use Rattle.spec_data.specs.Folding.{folded}
use Rattle.index_tree.specs.Mapper.{mapper_of}
use Rattle.index_definition.specs.DefinitionView.{definition_view}
use Rattle.index_version.specs.Asked.{IsQuestion}
use Rattle.index_version.specs.Renewed.{mapped_among}
use Rattle.index_version.proofs.asking.questions.Given as goal

-- those so far are questions, and the maps of the others are still to be counted
abbrev pub invariant-loop-id : goal.invariant-loop-id
invariant-loop-id g l = record {
  ids : map (λ a. a.id.now) l.all.items ≡ take l.id-index l.ids;
  questions : All (IsQuestion (mapper_of (definition_view l.definition.body)) l.table) l.all.items;
  counted : l.steps.maps + length (mapped_among (mapper_of (definition_view l.definition.body)) l.table (map folded (drop l.id-index l.ids))) ≡ l.fn.steps.maps + length (mapped_among (mapper_of (definition_view l.definition.body)) l.table (map folded l.ids));
  merges : l.steps.merges ≡ l.fn.steps.merges;
  reads : l.steps.reads ≡ l.fn.steps.reads;
}
