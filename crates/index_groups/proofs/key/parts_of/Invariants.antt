use Rattle.std.proofs.Common.{◌≡◌, ◌++◌, drop, map}
use Rattle.raven_value.specs.ScalarView.{scalar_view}
use Rattle.spec_index.specs.Rows.{key_of}
use Rattle.index_groups.proofs.key.parts_of.Given as goal

abbrev pub invariant-loop-name : goal.invariant-loop-name
invariant-loop-name g l = map scalar_view l.parts ++ key_of (drop l.name-index l.names) (g.E.HasFields.fields l.entry) ≡ key_of l.names (g.E.HasFields.fields l.entry)
