use Rattle.std.proofs.Common.{rules, subst}
use Rattle.std.proofs.lemmas.List.Sorted.{answers_always, ranks_by}
use Rattle.std.specs.List.Sorted.{IsPermutation, IsSortedBy, IsStableBy}
use Rattle.doc_store.specs.Maps.{by_id}
use Rattle.doc_store.proofs.MapLemmas.{id_total}
use Rattle.doc_store.proofs.SortLemmas.{id_below, sorted_apart, sorted_filed, sorted_found}
use Rattle.doc_store.proofs.sorting.sorted_by_id.Goals as goal
use Rattle.doc_store.proofs.sorting.sorted_by_id.Goals.{In_ok-sort_by}

stable : (c : In_ok-sort_by) → IsStableBy id_below (by_id c.args.rows.now) c.sort_by.new.self.items
stable c =
    subst (λ pairs. IsStableBy id_below pairs c.sort_by.new.self.items) c.in_ok-pairs.ensures
    (c.in_ok-sort_by.ensures.stable id_below (ranks_by id_total (λ e. e.0)) (answers_always _ _ _ (λ f a r h k. search rules)))

sorted : (c : In_ok-sort_by) → IsSortedBy id_below c.sort_by.new.self.items
sorted c = c.in_ok-sort_by.ensures.sorted id_below (ranks_by id_total (λ e. e.0)) (answers_always _ _ _ (λ f a r h k. search rules))

pub returns-clause-found : goal.returns-clause-found
returns-clause-found c = sorted_found c.args.rows.now c.sort_by.new.self.items (stable c)

pub returns-clause-filed : goal.returns-clause-filed
returns-clause-filed c = sorted_filed c.args.rows.now c.sort_by.new.self.items (subst (λ pairs. IsPermutation pairs c.sort_by.new.self.items) c.in_ok-pairs.ensures c.in_ok-sort_by.ensures.permutation)

pub returns-clause-apart : goal.returns-clause-apart
returns-clause-apart c = sorted_apart c.args.rows.now c.sort_by.new.self.items (sorted c) (stable c)
