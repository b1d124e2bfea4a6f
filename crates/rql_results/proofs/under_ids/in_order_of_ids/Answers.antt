use Rattle.std.proofs.Common.{rules}
use Rattle.std.proofs.lemmas.List.Sorted.{answers_always, ranks_by}
use Rattle.std.specs.Cmp.Lexicographic.{nat_list_cmp_total}
use Rattle.rql_results.specs.Documents.{found_in}
use Rattle.rql_results.proofs.Ordered.{below, order_is_free}
use Rattle.rql_results.proofs.under_ids.in_order_of_ids.Goals as goal

pub returns : goal.returns
returns c =
    λ show. order_is_free found_in show c.args.found.items c.sort_by.new.self.items
    (c.in_ok-sort_by.ensures.stable (below found_in) (ranks_by nat_list_cmp_total (λ r. r.row.now.id)) (answers_always _ _ _ (λ f a r h k. search rules)))
