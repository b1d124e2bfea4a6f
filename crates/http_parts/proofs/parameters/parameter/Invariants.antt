use Rattle.std.proofs.Common.{◌≡◌}
use Rattle.form_urlencoded.specs.Parse.{raw_pairs_left}
use Rattle.http_parts.specs.Parameters.{parameter, value_in}
use Rattle.http_parts.proofs.parameters.parameter.Given as goal

abbrev pub invariant-loop-key : goal.invariant-loop-key
invariant-loop-key l =
    (goal.iterator-loop-key).can_next l.key-iterator ×
    (goal.iterator-loop-key).is_finite l.key-iterator ×
    (parameter l.name l.query ≡ value_in l.name (raw_pairs_left l.key-iterator))
