use Rattle.std.proofs.Common.{length, ap, sym, subst, ◌+◌, ◌*◌, ◌∙◌}
use Rattle.reduce_groups.specs.Groups.{AllLevels, after_insertions, after_removals, entries_at}
use Rattle.reduce_groups.proofs.Grouping.{still_grouped}
use Rattle.reduce_groups.proofs.TreeLemmas.{low_trees, both_done, touched}
use Rattle.reduce_groups.proofs.groups.Groups.changed.Goals as goal

pub returns-clause-entries : goal.returns-clause-entries
returns-clause-entries g c = λ q.
    c.in_ok-groups.ensures.entries q
    ∙ ap (λ es. after_insertions g.G.Ord.cmp g.K.Ord.cmp q es c.args.insertions.now) (c.in_ok-left.ensures.entries q ∙ ap (λ t. after_removals g.G.Ord.cmp g.K.Ord.cmp q (entries_at g.G.Ord.cmp q t.trees) c.args.removals.now) c.in_ok-copy.ensures.cases)

pub returns-clause-grouped : goal.returns-clause-grouped
returns-clause-grouped g c = λ key es rising are there new.
    still_grouped g.G.Ord.cmp g.K.Ord.cmp g.met.K.Ord.total key es c.args.self.now.trees c.in_ok-groups.groups.trees c.args.removals.now c.args.insertions.now rising are there new
    (λ q. c.in_ok-groups.ensures.entries q
    ∙ ap (λ es. after_insertions g.G.Ord.cmp g.K.Ord.cmp q es c.args.insertions.now) (c.in_ok-left.ensures.entries q ∙ ap (λ t. after_removals g.G.Ord.cmp g.K.Ord.cmp q (entries_at g.G.Ord.cmp q t.trees) c.args.removals.now) c.in_ok-copy.ensures.cases))

pub returns-clause-merges : goal.returns-clause-merges
returns-clause-merges g c = λ h one before after.
    let low = low_trees c.args.self.now.fold h c.args.self.now.trees one c.len-before.ensures.sound before in
    let same = subst (λ t. AllLevels h t.trees) (sym c.in_ok-copy.ensures.cases) low in
    let high = low_trees c.in_ok-groups.groups.fold h c.in_ok-groups.groups.trees one c.len-after.ensures.sound after in
    both_done (length c.args.removals.now) (length c.args.insertions.now) (64 * (h + 1)) (c.in_ok-left.ensures.merges h same).1 (c.in_ok-groups.ensures.merges h high).1

pub returns-clause-touched : goal.returns-clause-touched
returns-clause-touched g c = λ m h few less one before after.
    let low = low_trees c.args.self.now.fold h c.args.self.now.trees one c.len-before.ensures.sound before in
    let same = subst (λ t. AllLevels h t.trees) (sym c.in_ok-copy.ensures.cases) low in
    let high = low_trees c.in_ok-groups.groups.fold h c.in_ok-groups.groups.trees one c.len-after.ensures.sound after in
    touched m (length c.args.removals.now) (length c.args.insertions.now) h few less
    (both_done (length c.args.removals.now) (length c.args.insertions.now) (64 * (h + 1)) (c.in_ok-left.ensures.merges h same).1 (c.in_ok-groups.ensures.merges h high).1)
