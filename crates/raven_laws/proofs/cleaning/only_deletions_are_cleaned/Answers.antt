use Rattle.raven_laws.proofs.CleaningLemmas.{run-kept}
use Rattle.raven_laws.proofs.cleaning.only_deletions_are_cleaned.Goals as goal

pub returns : goal.returns
returns c M events q r i from h = run-kept events M q r i from h
