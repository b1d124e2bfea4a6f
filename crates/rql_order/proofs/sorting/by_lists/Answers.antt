use Rattle.std.proofs.Common.{rules}
use Rattle.std.specs.Cmp.{on_total}
use Rattle.std.specs.Cmp.Lexicographic.{lists_total, slice_cmp}
use Rattle.std.specs.Ordering.{is_lt}
use Rattle.std.proofs.lemmas.List.Sorted.{answers_always, ranks_by}
use Rattle.rql_order.proofs.Stable.{stable_is_sorted}
use Rattle.rql_order.proofs.sorting.by_lists.Goals as goal

pub returns : goal.returns
returns g c =
    let total = on_total (λ p. p.0.items) (lists_total g.met.V.Ord.total) in
    stable_is_sorted (λ a b. slice_cmp g.V.Ord.cmp a.0.items b.0.items) total c.args.items.items c.sort_by.new.self.items
    (c.in_ok-sort_by.ensures.sorted (λ x y. is_lt (slice_cmp g.V.Ord.cmp x.0.items y.0.items)) (ranks_by total (λ r. r)) (answers_always _ _ _ (λ f a r h k. search rules)))
    (c.in_ok-sort_by.ensures.stable (λ x y. is_lt (slice_cmp g.V.Ord.cmp x.0.items y.0.items)) (ranks_by total (λ r. r)) (answers_always _ _ _ (λ f a r h k. search rules)))
