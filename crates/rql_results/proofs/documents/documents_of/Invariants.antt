use Rattle.std.proofs.Common.{◌≡◌, ◌++◌, drop, map}
use Rattle.std.specs.List.{filter_map}
use Rattle.rql_results.specs.Documents.{document_of, found_in}
use Rattle.rql_results.proofs.documents.documents_of.Given as goal

abbrev pub invariant-loop-id : goal.invariant-loop-id
invariant-loop-id g l = map found_in l.found.items ++ filter_map (document_of (g.T.Lookup.rows l.rows)) (drop l.id-index l.ids) ≡ filter_map (document_of (g.T.Lookup.rows l.rows)) l.ids
