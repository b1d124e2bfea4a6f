use Rattle.std.proofs.Common.{◌∙◌, ap, sym}
use Rattle.spec_data.specs.Rows.{Row}
use Rattle.doc_store.specs.Maps.{is_of}
use Rattle.doc_store.proofs.SortLemmas.{group_ends, group_is}
use Rattle.doc_store.proofs.sorting.group_len.Goals as goal

pub returns-else-eq-clause-others : goal.returns-else-eq-clause-others
returns-else-eq-clause-others c =
    group_ends c.args.collection.now c.args.rows.now c.loop-len.len c.index-rows-len.result c.requires.ordered c.requires.first c.loop-len-test.true (sym c.index-rows-len.is)
    (ap (λ (x : Row). is_of c.args.collection.now x) (sym (c.behind-rows.view_is ∙ c.get.ensures)) ∙ sym c.eq.ensures ∙ c.if-eq.false)

pub returns-else-eq-clause-group : goal.returns-else-eq-clause-group
returns-else-eq-clause-group c =
    group_is c.args.collection.now c.args.rows.now c.loop-len.len (returns-else-eq-clause-others c) c.loop-len.invariant.group
