-- What is found, as the definitions have it.
use Rattle.spec_query.specs.Finding as finding
use Rattle.rql_eval.specs.declared.finding.Found.{Found}

abbrev pub found_view : Found → finding.Found
found_view found = record { ids = found.ids; total = found.total; results = found.results; includes = found.includes }
