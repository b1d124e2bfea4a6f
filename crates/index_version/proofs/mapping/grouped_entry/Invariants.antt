use Rattle.std.proofs.Common.{◌≡◌, drop, option_map}
use Rattle.raven_value.specs.View.{data_of}
use Rattle.index_tree.specs.Mapper.{sums_at}
use Rattle.map_stage.specs.Words.{HasWords}
use Rattle.index_version.specs.Meaning.{body_with, grouped_fields}
use Rattle.index_version.proofs.mapping.grouped_entry.Given as goal

abbrev pub invariant-loop-sum : goal.invariant-loop-sum
invariant-loop-sum l = record {
  fields : sums_at (body_with (option_map (λ v. data_of v.now) l.value)) l.entry (drop l.sum-index l.sums) ≡ grouped_fields l.groups l.sums (body_with (option_map (λ v. data_of v.now) l.value));
  words : HasWords l.entry;
}
