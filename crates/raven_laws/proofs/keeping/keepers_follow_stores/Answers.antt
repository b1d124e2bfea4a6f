use Rattle.spec_store.proofs.KeepLemmas.{kept-with_rows, next-behind, next-alone, store-rises}
use Rattle.raven_laws.proofs.keeping.keepers_follow_stores.Goals as goal

pub returns-clause-holds : goal.returns-clause-holds
returns-clause-holds c = kept-with_rows

pub returns-clause-rises : goal.returns-clause-rises
returns-clause-rises c = next-behind

pub returns-clause-alone : goal.returns-clause-alone
returns-clause-alone c = next-alone

pub returns-clause-whole : goal.returns-clause-whole
returns-clause-whole c = store-rises
