use Rattle.std.proofs.Common.{◌≡◌, ◌+◌, ◌*◌, ◌≤◌, length, sym, ap, subst, ◌∙◌, arith}
use Rattle.reduce_tree.specs.Changes.{changed, inserted, removed, removals, insertions}
use Rattle.reduce_tree.specs.Members.{AreLifted, member_of, entries_of}
use Rattle.reduce_tree.proofs.Members.{entries-inserted, entries-removed, lifted-inserted, lifted-removed}
use Rattle.reduce_tree.proofs.Steps.{kinds, shared_cost, more_each}
use Rattle.reduce_tree.proofs.tree.ReduceTree.apply.Goals as goal

pub tree_of-requires : goal.tree_of-requires
tree_of-requires g c =
    let cmp = g.K.Ord.cmp in
    let lifted = g.F.Fold.lifted c.self.inside.rows.fold in
    let ms = c.self.inside.members.pairs in
    let cs = c.args.changes.now in
    let is : c.in_ok-members.members.pairs ≡ inserted cmp (member_of lifted) (removed cmp ms cs) cs = c.in_ok-members.ensures.pairs ∙ ap (λ l. inserted cmp (member_of lifted) l cs) c.in_ok-left.ensures.pairs in
    let all : AreLifted lifted c.in_ok-members.members.pairs = subst (AreLifted lifted) (sym is) (lifted-inserted cmp lifted (removed cmp ms cs) cs (lifted-removed cmp lifted ms cs c.self.invariant)) in
    record { lifted = subst (λ f. AreLifted (g.F.Fold.lifted f) c.in_ok-members.members.pairs) (sym c.in_ok-clone.ensures.cases) all }

pub returns-clause-entries : goal.returns-clause-entries
returns-clause-entries g c =
    let cmp = g.K.Ord.cmp in
    let lifted = g.F.Fold.lifted c.self.inside.rows.fold in
    let ms = c.self.inside.members.pairs in
    let cs = c.args.changes.now in
    let pairs : c.in_ok-members.members.pairs ≡ inserted cmp (member_of lifted) (removed cmp ms cs) cs = c.in_ok-members.ensures.pairs ∙ ap (λ l. inserted cmp (member_of lifted) l cs) c.in_ok-left.ensures.pairs in
    ap (λ x. x.entries) c.tree_of.ensures.is ∙ ap entries_of pairs ∙ entries-inserted cmp lifted (removed cmp ms cs) cs ∙ ap (λ l. inserted cmp (λ e. e) l cs) (entries-removed cmp lifted ms cs) ∙ ap (λ t. changed cmp t.entries cs) c.self.view_is

pub returns-clause-merges : goal.returns-clause-merges
returns-clause-merges g c =
    let cs = c.args.changes.now in
    let was = ap (λ t. t.levels) c.self.view_is in
    let first = c.in_ok-left.ensures.merges in
    λ h before after.
    let second = c.in_ok-members.ensures.merges h (omega (arith, ap (λ x. x.levels) c.tree_of.ensures.is, after)) in
    let each : removals cs * (64 * (c.self.inside.members.levels + 1)) ≤ removals cs * (64 * (h + 1)) = more_each (removals cs) _ _ (omega (arith, was, before)) in
    let all = shared_cost (removals cs) (insertions cs) (length cs) (64 * (h + 1)) (kinds cs) in
    record { merges = omega (arith, first.merges, second.merges, each, all) }
