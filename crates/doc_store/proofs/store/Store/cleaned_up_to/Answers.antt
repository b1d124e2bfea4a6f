use Rattle.std.proofs.Common.{refl}
use Rattle.spec_store.specs.Store.{Store}
use Rattle.doc_store.proofs.MapLemmas.{gone_shown, shown}
use Rattle.doc_store.proofs.OrderLemmas.{kept_in_order, same_store}
use Rattle.doc_store.proofs.store.Store.cleaned_up_to.Goals as goal

pub invariant_of-result : goal.invariant_of-result
invariant_of-result c = kept_in_order _ _ _ _ _ c.args.self.rows (record {
  shows = shown _ _ _ _ _ _ _ c.self.view_is c.self.invariant;
  gone_are = gone_shown _ _ _ _ _ _ _ c.self.view_is c.self.invariant;
  cleaned_is = c.requires;
})

pub returns : goal.returns
returns c = same_store _ _ _ _ (let S : Store = record { rows = c.args.self.rows; cleaned = c.args.cleaned } in S) (shown _ _ _ _ _ _ _ c.self.view_is c.self.invariant) refl
