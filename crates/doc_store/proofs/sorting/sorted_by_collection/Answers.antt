use Rattle.std.proofs.Common.{rules}
use Rattle.std.proofs.lemmas.List.Sorted.{answers_always, ranks_by}
use Rattle.std.specs.Cmp.Lexicographic.{nat_list_cmp_total}
use Rattle.doc_store.proofs.SortLemmas.{collection_below, sorted_in_order, sorted_same}
use Rattle.doc_store.proofs.sorting.sorted_by_collection.Goals as goal

pub returns-clause-same : goal.returns-clause-same
returns-clause-same c =
    sorted_same c.args.rows.items c.sort_by.new.self.items
    (c.in_ok-sort_by.ensures.stable collection_below (ranks_by nat_list_cmp_total (λ r. r.collection)) (answers_always _ _ _ (λ f a r h k. search rules)))

pub returns-clause-ordered : goal.returns-clause-ordered
returns-clause-ordered c =
    sorted_in_order c.sort_by.new.self.items
    (c.in_ok-sort_by.ensures.sorted collection_below (ranks_by nat_list_cmp_total (λ r. r.collection)) (answers_always _ _ _ (λ f a r h k. search rules)))
