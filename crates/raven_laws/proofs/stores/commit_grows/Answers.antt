use Rattle.spec_store.proofs.CommitLemmas.{commit-Commits}
use Rattle.raven_laws.proofs.stores.commit_grows.Goals as goal

pub returns : goal.returns
returns c = commit-Commits
