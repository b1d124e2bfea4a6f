use Rattle.std.proofs.Common.{length, refl, sym, ap, ◌∙◌, arith}
use Rattle.index_tree.specs.declared.reduce_query.ReduceQuery.{ReduceQuery}
use Rattle.index_groups.specs.Cells.{plan_of}
use Rattle.index_groups.specs.Groups.{Grouped}
use Rattle.index_groups.specs.Trees.{entries_in, removal, insertion}
use Rattle.index_groups.proofs.Changing.{entries_after, still_indexed}
use Rattle.index_groups.proofs.Sizes.{as_long, small_trees}
use Rattle.index_groups.proofs.groups.IndexGroups.changed.Goals as goal

pub invariant_of-result : goal.invariant_of-result
invariant_of-result g c =
    let names = c.as_slice-names.ensures ∙ ap (λ (x : ReduceQuery). x.key) c.get.ensures in
    let plan = c.in_ok-clone-2.ensures.cases ∙ c.self.invariant.0 ∙ ap plan_of (sym c.in_ok-clone.ensures.cases) in (
      plan,
      still_indexed c.self.inside.query g.E.HasFields.fields c.self.inside.groups.fold c.self.inside.groups.trees c.args.self.now.entries c.args.gone.items c.args.come.items c.self.invariant.1 c.len-before.ensures.rising
          (ap (λ (x : Grouped). x.entries) c.self.view_is) c.requires.there c.requires.new c.in_ok-groups.groups.trees c.as_slice-names.result.now c.deref.result.now c.deref-2.result.now names (c.deref.ensures.value ∙ c.in_ok-removed.ensures)
          (c.deref-2.ensures.value ∙ c.in_ok-inserted.ensures) c.in_ok-groups.ensures.grouped c.in_ok-clone.field-0 c.in_ok-groups.groups.fold c.in_ok-clone.ensures.cases c.in_ok-groups.ensures.fold c.requires.words,
    )

pub returns-clause-entries : goal.returns-clause-entries
returns-clause-entries g c =
    let names = c.as_slice-names.ensures ∙ ap (λ (x : ReduceQuery). x.key) c.get.ensures in
    entries_after c.self.inside.query g.E.HasFields.fields c.self.inside.groups.fold c.self.inside.groups.trees c.args.self.now.entries c.args.gone.items c.args.come.items c.self.invariant.1 c.len-before.ensures.rising
    (ap (λ (x : Grouped). x.entries) c.self.view_is) c.requires.there c.requires.new c.in_ok-groups.groups.trees c.as_slice-names.result.now c.deref.result.now c.deref-2.result.now names (c.deref.ensures.value ∙ c.in_ok-removed.ensures)
    (c.deref-2.ensures.value ∙ c.in_ok-inserted.ensures) c.in_ok-groups.ensures.grouped c.len-after.ensures.rising

pub returns-clause-merges : goal.returns-clause-merges
returns-clause-merges g c = λ m h few less one small small_too.
    let f = g.E.HasFields.fields in
    let names = c.as_slice-names.ensures ∙ ap (λ (x : ReduceQuery). x.key) c.get.ensures in
    let is = still_indexed c.self.inside.query f c.self.inside.groups.fold c.self.inside.groups.trees c.args.self.now.entries c.args.gone.items c.args.come.items c.self.invariant.1 c.len-before.ensures.rising
    (ap (λ (x : Grouped). x.entries) c.self.view_is) c.requires.there c.requires.new c.in_ok-groups.groups.trees c.as_slice-names.result.now c.deref.result.now c.deref-2.result.now names (c.deref.ensures.value ∙ c.in_ok-removed.ensures)
    (c.deref-2.ensures.value ∙ c.in_ok-inserted.ensures) c.in_ok-groups.ensures.grouped c.in_ok-clone.field-0 c.in_ok-groups.groups.fold c.in_ok-clone.ensures.cases c.in_ok-groups.ensures.fold c.requires.words in
    let out = ap length (c.deref.ensures.value ∙ c.in_ok-removed.ensures) ∙ as_long (removal c.as_slice-names.result.now f) c.args.gone.items in
    let inn = ap length (c.deref-2.ensures.value ∙ c.in_ok-inserted.ensures) ∙ as_long (insertion c.as_slice-names.result.now f) c.args.come.items in
    c.in_ok-groups.ensures.touched m h (omega (arith, out, few)) (omega (arith, inn, less)) one
    (small_trees c.self.inside.query f c.self.inside.groups.fold c.self.inside.groups.trees c.args.self.now c.self.invariant.1 c.len-before.ensures.rising (sym c.self.view_is) h small)
    (small_trees c.in_ok-clone.field-0 f c.in_ok-groups.groups.fold c.in_ok-groups.groups.trees (record { query = c.in_ok-clone.field-0; entries = entries_in f c.in_ok-groups.groups.trees }) is c.len-after.ensures.rising refl h small_too)
