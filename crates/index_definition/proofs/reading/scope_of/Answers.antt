use Rattle.std.proofs.Common.{◌∙◌}
use Rattle.index_definition.proofs.Adding.{reads_by}
use Rattle.index_definition.proofs.reading.scope_of.Goals as goal

pub returns : goal.returns
returns c = reads_by c.args.query.now _ _ c.add_new.new.scope c.in_ok-add_new.ensures c.in_ok-scope.ensures (c.as_slice.ensures ∙ c.in_ok-names.ensures)
