use Rattle.std.proofs.Common.{length, ◌∙◌, ap, sym}
use Rattle.spec_store.specs.Store.{Store}
use Rattle.doc_store.specs.Maps.{Shows}
use Rattle.doc_store.proofs.MapLemmas.{shown, shown_cleaned}
use Rattle.doc_store.proofs.OrderLemmas.{as_many, empty_if, none_long}
use Rattle.doc_store.proofs.store.Store.is_empty.Goals as goal

pub returns : goal.returns
returns c =
    let S : Store = c.args.self.now in
    let s : Shows c.self.inside.by_id c.self.inside.by_collection c.self.inside.last S.rows = shown _ _ _ _ _ _ _ c.self.view_is c.self.invariant in
    let many = as_many _ _ _ _ s in
    (λ none. empty_if S (shown_cleaned _ _ _ _ _ _ _ c.self.view_is c.self.invariant) (sym many ∙ ap length (c.is_empty.ensures.0 none)), λ none. c.is_empty.ensures.1 (none_long c.self.inside.by_id (many ∙ ap (λ (T : Store). length T.rows) none)))
