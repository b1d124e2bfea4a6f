use Rattle.std.proofs.Common.{◌≡◌, ◌++◌, drop, map}
use Rattle.spec_query.specs.Results.{text_in_document}
use Rattle.raven_value.specs.View.{data_of}
use Rattle.rql_results.specs.Documents.{found_in}
use Rattle.rql_results.specs.Led.{led_by}
use Rattle.rql_results.proofs.include.with_led.Given as goal

abbrev pub invariant-loop-path : goal.invariant-loop-path
invariant-loop-path g l = map found_in l.led.items ++ led_by (g.T.Lookup.rows l.rows) (text_in_document (data_of l.document)) (drop l.path-index l.paths) ≡ map found_in l.fn.led.items ++ led_by (g.T.Lookup.rows l.rows) (text_in_document (data_of l.document)) l.paths
