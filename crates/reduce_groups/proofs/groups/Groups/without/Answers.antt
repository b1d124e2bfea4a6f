use Rattle.std.proofs.Common.{List, ◌<◌, ◌≤◌, ◌*◌, ◌+◌, cond, length, sym, ap, subst, ◌∙◌, arith}
use Rattle.std.specs.Ordering.{is_eq}
use Rattle.std.specs.Map.{remove_entry}
use Rattle.std.specs.BTreeMap.{is_at}
use Rattle.reduce_groups.specs.Groups.{AllLevels, entries_at, levels_at}
use Rattle.reduce_groups.proofs.TreeLemmas.{sound_beside, put_beside, told_for_all, some_before, low_beside, low_at, few_levels, at_most}
use Rattle.reduce_groups.proofs.groups.Groups.without.Goals as goal

pub trees_with-requires-clause-sound : goal.trees_with-requires-clause-sound
trees_with-requires-clause-sound g c = sound_beside g.G.Ord.cmp g.met.G.Ord.total c.args.group.now c.self.inside.trees _ c.self.inside.fold c.in_ok-tree.ensures.rest c.self.invariant

pub returns-clause-entries : goal.returns-clause-entries
returns-clause-entries g c = λ q.
    let R = g.G.Ord.cmp in
    let group = c.args.group.now in
    let ts = c.self.inside.trees in
    let new = c.in_ok-left.left.entries in
    let change : List (g.row.K.Denot × g.row.E.Denot) → List (g.row.K.Denot × g.row.E.Denot) = λ es. remove_entry (is_at (g.K.Ord.cmp c.args.key.now)) es in
    c.in_ok-trees_with.ensures.entries q ∙ put_beside R g.met.G.Ord.total group ts _ q new c.in_ok-tree.ensures.rising c.in_ok-tree.ensures.rest
    ∙ ap (λ l. cond (is_eq (R q group)) l (entries_at R q ts)) (c.in_ok-left.ensures.entries ∙ ap change c.in_ok-tree.ensures.entries) ∙ told_for_all R g.met.G.Ord.total change q group ts
    ∙ ap (λ t. cond (is_eq (R q group)) (change (entries_at R q t.trees)) (entries_at R q t.trees)) c.self.view_is

pub returns-clause-merges : goal.returns-clause-merges
returns-clause-merges g c = λ h a.
    let R = g.G.Ord.cmp in
    let group = c.args.group.now in
    let ts = c.self.inside.trees in
    let all : AllLevels h ts = subst (λ t. AllLevels h t.trees) (sym c.self.view_is) a in
    let few : levels_at R group ts ≤ h + 1 = few_levels (is_at (R group)) h ts all in
    let low : 0 < length c.in_ok-left.left.entries → c.in_ok-left.left.levels ≤ h = λ some.
    let before : 0 < length c.in_ok-tree.field-0.tree.entries = some_before (is_at (g.K.Ord.cmp c.args.key.now)) _ (subst (λ l. 0 < length l) c.in_ok-left.ensures.entries some) in
    let there : 0 < length (entries_at R group ts) = subst (λ l. 0 < length l) c.in_ok-tree.ensures.entries before in
    let lowest : levels_at R group ts ≤ h = low_at (is_at (R group)) h ts all there in
    omega (arith, lowest, c.in_ok-tree.ensures.levels, c.in_ok-left.ensures.levels) in
    (c.in_ok-trees_with.ensures.lower h low (low_beside R g.met.G.Ord.total group ts _ h c.in_ok-tree.ensures.rest all), at_most (64 * (h + 1)) c.in_ok-left.ensures.merges (omega (arith, few, c.in_ok-tree.ensures.levels)))
