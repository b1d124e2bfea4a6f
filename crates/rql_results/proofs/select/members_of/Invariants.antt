use Rattle.std.proofs.Common.{◌≡◌, drop, []}
use Rattle.spec_query.specs.Results.{in_document, members_of}
use Rattle.raven_value.specs.View.{data_of}
use Rattle.rql_results.proofs.select.members_of.Given as goal

abbrev pub invariant-loop-column : goal.invariant-loop-column
invariant-loop-column l = members_of (in_document (data_of l.document)) (drop l.column-index l.columns) l.members ≡ members_of (in_document (data_of l.document)) l.columns []
