use Rattle.std.proofs.Common.{sym, ap, subst, ◌∙◌}
use Rattle.std.specs.BTreeMap.{is_at}
use Rattle.std.specs.Map.{remove_entry}
use Rattle.reduce_tree.specs.Members.{AreLifted, entries_of}
use Rattle.reduce_tree.proofs.Members.{entries-remove, lifted-remove}
use Rattle.reduce_tree.proofs.tree.ReduceTree.without.Goals as goal

pub tree_of-requires : goal.tree_of-requires
tree_of-requires g c =
    let lifted = g.F.Fold.lifted c.self.inside.rows.fold in
    record { lifted = subst (AreLifted lifted) (sym c.in_ok-left.ensures.pairs) (lifted-remove g.K.Ord.cmp lifted c.self.inside.members.pairs c.args.key.now c.self.invariant) }

pub returns-clause-entries : goal.returns-clause-entries
returns-clause-entries g c =
    let cmp = g.K.Ord.cmp in
    let lifted = g.F.Fold.lifted c.self.inside.rows.fold in
    ap (λ x. x.entries) c.tree_of.ensures.is ∙ ap entries_of c.in_ok-left.ensures.pairs ∙ entries-remove cmp lifted c.self.inside.members.pairs c.args.key.now ∙ ap (λ t. remove_entry (is_at (cmp c.args.key.now)) t.entries) c.self.view_is
