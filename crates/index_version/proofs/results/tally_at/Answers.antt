use Rattle.std.proofs.Common.{Some, ap, ◌∙◌}
use Rattle.index_version.specs.Kept.{is_entry, is_failure, one_if}
use Rattle.index_version.proofs.results.tally_at.Goals as goal

pub returns-in-Some-clause-entries : goal.returns-in-Some-clause-entries
returns-in-Some-clause-entries c = c.tally.ensures.entries ∙ ap (λ g. one_if is_entry (Some g)) c.get-in-Some.ensures ∙ ap (one_if is_entry) c.in-Some.ensures.value

pub returns-in-Some-clause-errors : goal.returns-in-Some-clause-errors
returns-in-Some-clause-errors c = c.tally.ensures.errors ∙ ap (λ g. one_if is_failure (Some g)) c.get-in-Some.ensures ∙ ap (one_if is_failure) c.in-Some.ensures.value

pub returns-in-None-clause-entries : goal.returns-in-None-clause-entries
returns-in-None-clause-entries c = ap (one_if is_entry) c.in-None.ensures.value

pub returns-in-None-clause-errors : goal.returns-in-None-clause-errors
returns-in-None-clause-errors c = ap (one_if is_failure) c.in-None.ensures.value
