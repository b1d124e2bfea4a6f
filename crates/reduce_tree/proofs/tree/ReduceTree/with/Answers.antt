use Rattle.std.proofs.Common.{refl, sym, ap, subst, ◌∙◌}
use Rattle.std.specs.BTreeMap.{insert_entry}
use Rattle.reduce_tree.specs.Members.{AreLifted, member_of, entries_of}
use Rattle.reduce_tree.proofs.Members.{entries-insert, lifted-insert}
use Rattle.reduce_tree.proofs.tree.ReduceTree.with.Goals as goal

pub tree_of-requires : goal.tree_of-requires
tree_of-requires g c =
    let lifted = g.F.Fold.lifted c.self.inside.rows.fold in
    let new = member_of lifted c.args.entry.now in
    record { lifted = subst (AreLifted lifted) (sym c.in_ok-grown.ensures.pairs) (lifted-insert g.K.Ord.cmp lifted c.self.inside.members.pairs c.args.key.now new c.self.invariant refl) }

pub returns-clause-entries : goal.returns-clause-entries
returns-clause-entries g c =
    let cmp = g.K.Ord.cmp in
    let lifted = g.F.Fold.lifted c.self.inside.rows.fold in
    let new = member_of lifted c.args.entry.now in
    ap (λ x. x.entries) c.tree_of.ensures.is ∙ ap entries_of c.in_ok-grown.ensures.pairs ∙ entries-insert cmp lifted c.self.inside.members.pairs c.args.key.now new ∙ ap (λ t. insert_entry cmp t.entries c.args.key.now c.args.entry.now) c.self.view_is
