use Rattle.std.proofs.Common.{[], refl}
use Rattle.spec_store.specs.Store.{empty_store}
use Rattle.doc_store.proofs.OrderLemmas.{kept_in_order, none_shown, same_store, uncleaned}
use Rattle.doc_store.proofs.store.Store.empty.Goals as goal

pub invariant_of-result : goal.invariant_of-result
invariant_of-result c = kept_in_order _ _ _ _ 0 _ (record { shows = none_shown _ _ c.in_ok-new.ensures c.in_ok-new-2.ensures; gone_are = c.in_ok-new-3.ensures; cleaned_is = uncleaned [] tt })

pub returns : goal.returns
returns c = same_store _ _ _ 0 empty_store (none_shown _ _ c.in_ok-new.ensures c.in_ok-new-2.ensures) refl
