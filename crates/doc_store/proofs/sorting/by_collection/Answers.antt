use Rattle.std.proofs.Common.{◌≡◌, ◌<◌, List, filter, length, take, drop, ◌∙◌, ap, sym, subst}
use Rattle.spec_data.specs.Rows.{Row}
use Rattle.doc_store.specs.Maps.{AreByCollection, NoneBelow, is_of}
use Rattle.doc_store.proofs.SortLemmas.{IsPlaced, fewer_left, first_below, group_sound, in_order-drop, placed_on}
use Rattle.doc_store.proofs.sorting.by_collection.Goals as goal
use Rattle.doc_store.proofs.sorting.by_collection.Goals.{In_ok-collections-2}

pub group_len-requires-clause-first : goal.group_len-requires-clause-first
group_len-requires-clause-first c =
    subst (λ name. NoneBelow name c.loop-first.rest.now) (sym (ap (λ (x : Row). x.collection) (c.behind-first.view_is ∙ c.get.ensures)))
    (first_below c.in-Some.first.now c.loop-first.rest.now (sym c.in-Some.ensures.value) c.loop-first.invariant.ordered)

pub of-requires : goal.of-requires
of-requires c =
    group_sound c.loop-first.collections c.args.rows.items c.loop-first.rest.now c.split_at.result.0.now c.behind-first.inside.collection c.requires (c.loop-first.invariant.placed c.behind-first.inside.collection)
    (c.split_at.ensures.front ∙ c.group_len.ensures.group)

-- the first group, by the collection of its first row
group_is : (c : In_ok-collections-2) → take c.group_len.result c.loop-first.rest.now ≡ filter (is_of c.in-Some.first.now.collection) c.loop-first.rest.now
group_is c = c.group_len.ensures.group ∙ ap (λ name. filter (is_of name) c.loop-first.rest.now) (ap (λ (x : Row). x.collection) (c.behind-first.view_is ∙ c.get.ensures))

pub loop-first-smaller : goal.loop-first-smaller
loop-first-smaller c =
    subst (λ (rows : List Row). length rows < length c.loop-first.rest.now) (sym c.split_at.ensures.back)
    (fewer_left c.in-Some.first.now c.loop-first.rest.now c.group_len.result (sym c.in-Some.ensures.value) c.group_len.ensures.within (group_is c))

pub loop-first-preserved : goal.loop-first-preserved
loop-first-preserved c =
    let rest : List Row = c.loop-first.rest.now in
    let name : c.behind-first.inside.collection ≡ c.in-Some.first.now.collection = ap (λ (x : Row). x.collection) (c.behind-first.view_is ∙ c.get.ensures) in
    record {
      ordered = subst AreByCollection (sym c.split_at.ensures.back) (in_order-drop c.group_len.result rest c.loop-first.invariant.ordered);
      placed = λ k. subst (λ (rows : List Row). IsPlaced c.in_ok-collections-2.collections c.args.rows.items rows k) (sym c.split_at.ensures.back)
          (placed_on c.loop-first.collections c.in_ok-collections-2.collections c.args.rows.items rest c.in-Some.first.now c.group_len.result c.in_ok-clone.field-0 c.in_ok-of.field-0 (sym c.in-Some.ensures.value)
          (c.in_ok-clone.ensures.cases ∙ name) (c.in_ok-of.ensures ∙ c.split_at.ensures.front) (group_is c)
          (ap (λ n. filter (is_of n) (drop c.group_len.result rest)) (sym name) ∙ c.group_len.ensures.others) c.in_ok-collections-2.ensures.pairs c.loop-first.invariant.placed k);
    }
