use Rattle.std.proofs.Common.{◌≡◌, [], drop, option_map}
use Rattle.raven_value.specs.View.{data_of}
use Rattle.index_tree.specs.Mapper.{fields_at}
use Rattle.map_stage.specs.Words.{HasWords}
use Rattle.index_version.specs.Meaning.{body_with}
use Rattle.index_version.proofs.mapping.auto_entry.Given as goal

abbrev pub invariant-loop-path : goal.invariant-loop-path
invariant-loop-path l = record {
  fields : fields_at (body_with (option_map (λ v. data_of v.now) l.value)) l.entry (drop l.path-index l.paths) ≡ fields_at (body_with (option_map (λ v. data_of v.now) l.value)) [] l.paths;
  words : HasWords l.entry;
}
