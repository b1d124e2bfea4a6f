use Rattle.std.proofs.Common.{List, ◌<◌, ◌≤◌, ◌*◌, ◌+◌, cond, length, sym, ap, subst, ◌∙◌, arith}
use Rattle.std.specs.Ordering.{is_eq}
use Rattle.std.specs.BTreeMap.{insert_entry}
use Rattle.reduce_groups.specs.Groups.{AllLevels, entries_at, levels_at}
use Rattle.reduce_groups.proofs.TreeLemmas.{sound_beside, put_beside, told_for_all, some_inserted, low_back, at_most}
use Rattle.reduce_groups.proofs.groups.Groups.with.Goals as goal

pub trees_with-requires-clause-sound : goal.trees_with-requires-clause-sound
trees_with-requires-clause-sound g c = sound_beside g.G.Ord.cmp g.met.G.Ord.total c.args.group.now c.self.inside.trees _ c.self.inside.fold c.in_ok-tree.ensures.rest c.self.invariant

pub returns-clause-entries : goal.returns-clause-entries
returns-clause-entries g c = λ q.
    let R = g.G.Ord.cmp in
    let group = c.args.group.now in
    let ts = c.self.inside.trees in
    let new = c.in_ok-grown.grown.entries in
    let change : List (g.row.K.Denot × g.row.E.Denot) → List (g.row.K.Denot × g.row.E.Denot) = λ es. insert_entry g.K.Ord.cmp es c.args.key.now c.args.entry.now in
    c.in_ok-trees_with.ensures.entries q ∙ put_beside R g.met.G.Ord.total group ts _ q new c.in_ok-tree.ensures.rising c.in_ok-tree.ensures.rest
    ∙ ap (λ l. cond (is_eq (R q group)) l (entries_at R q ts)) (c.in_ok-grown.ensures.entries ∙ ap change c.in_ok-tree.ensures.entries) ∙ told_for_all R g.met.G.Ord.total change q group ts
    ∙ ap (λ t. cond (is_eq (R q group)) (change (entries_at R q t.trees)) (entries_at R q t.trees)) c.self.view_is

pub returns-clause-merges : goal.returns-clause-merges
returns-clause-merges g c = λ h a.
    let ts = c.self.inside.trees in
    let some : 0 < length c.in_ok-grown.grown.entries = subst (λ l. 0 < length l) (sym c.in_ok-grown.ensures.entries) (some_inserted g.K.Ord.cmp c.args.key.now c.args.entry.now c.in_ok-tree.field-0.tree.entries) in
    let up = c.in_ok-trees_with.ensures.upper h some a in
    let low : levels_at g.G.Ord.cmp c.args.group.now ts ≤ h = omega (arith, up.0, c.in_ok-grown.ensures.levels, c.in_ok-tree.ensures.levels) in
    let all : AllLevels h ts = low_back g.G.Ord.cmp g.met.G.Ord.total c.args.group.now ts _ h c.in_ok-tree.ensures.rising c.in_ok-tree.ensures.rest low up.1 in
    (subst (λ t. AllLevels h t.trees) c.self.view_is all, at_most (64 * (h + 1)) c.in_ok-grown.ensures.merges (omega (arith, up.0, c.in_ok-grown.ensures.levels)))
