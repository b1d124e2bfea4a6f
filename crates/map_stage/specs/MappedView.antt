-- What a map of the program gives.
use Rattle.std.specs.Prelude.{map}
use Rattle.spec_data.specs.Folding.{folded}
use Rattle.index_tree.specs.Meaning as meaning
use Rattle.map_stage.specs.declared.mapper.Mapped.{Mapped}
use Rattle.map_stage.specs.declared.mapper.Outcome.{Outcome}
use Rattle.map_stage.specs.declared.mapper.Outcome.TheVariants as o

abbrev pub outcome_view : Outcome → meaning.Outcome
outcome_view (o.Entry entry) = meaning.Entry entry
outcome_view o.Nothing = meaning.NoEntry
outcome_view o.Failed = meaning.Failed

-- ids are known by their folded forms
abbrev pub mapped_view : Mapped → meaning.Mapped
mapped_view m = record { outcome = outcome_view m.outcome; loads = map folded m.loads }
