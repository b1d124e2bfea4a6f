use Rattle.std.proofs.Common.{◌+◌, ◌*◌, ◌≤◌, drop, ap, ◌∙◌, arith}
use Rattle.reduce_tree.specs.Changes.{inserted, insertions}
use Rattle.reduce_tree.specs.Members.{member_of}
use Rattle.reduce_tree.proofs.Steps.{in_none, in_some, in_fewer, in_same, step_taken}
use Rattle.reduce_tree.proofs.tree.members_with.Goals as goal
use Rattle.reduce_tree.proofs.tree.members_with.Goals.{in-Some+in_ok-grown, in_default}

pub loop-change-preserved : goal.loop-change-preserved
loop-change-preserved g c =
    let cs = c.args.changes.now in
    let i = c.loop-change.change-index in
    let d = c.change-item.result in
    let old = c.loop-change.grown in
    let kept = member_of (g.F.Fold.lifted c.args.rows.now.fold) in
    elim c.match-change.branch [
      | in-Some+in_ok-grown w ↦
          let m = w.in_ok-grown.ensures in
          record {
            pairs = ap (λ t. inserted g.K.Ord.cmp kept t.pairs (drop (i + 1) cs)) w.grown-is ∙ ap (λ t. inserted g.K.Ord.cmp kept t (drop (i + 1) cs)) w.in_ok-grown.ensures.pairs ∙ in_some cs i d c.change-item.is c.loop-change-test.true g.K.Ord.cmp old.pairs kept w.in-Some.entry w.in-Some.is ∙ c.loop-change.invariant.pairs;
            levels = omega (arith, ap (λ t. t.levels) w.grown-is, w.in_ok-grown.ensures.levels, c.loop-change.invariant.levels);
            merges = λ h low.
                let up : old.levels ≤ h = omega (arith, low, ap (λ t. t.levels) w.grown-is, w.in_ok-grown.ensures.levels) in
                step_taken c.loop-change.steps.merges c.match-change.steps.merges c.args.steps.now.merges (insertions cs) (64 * (h + 1)) (33 * old.levels + 2) (insertions (drop i cs)) (insertions (drop (i + 1) cs))
                (c.loop-change.invariant.merges h up) (in_fewer cs i d c.change-item.is c.loop-change-test.true w.in-Some.entry w.in-Some.is) (omega (arith, ap (λ t. t.merges) w.steps-is, m.merges.merges)) (omega (arith, up));
            maps = ap (λ t. t.maps) w.steps-is ∙ m.maps ∙ c.loop-change.invariant.maps;
            reads = ap (λ t. t.reads) w.steps-is ∙ m.reads ∙ c.loop-change.invariant.reads;
          }
      | in_default w ↦ record {
        pairs = ap (λ t. inserted g.K.Ord.cmp kept t.pairs (drop (i + 1) cs)) w.grown-is ∙ in_none cs i d c.change-item.is c.loop-change-test.true g.K.Ord.cmp old.pairs kept w.in_default.is ∙ c.loop-change.invariant.pairs;
        levels = omega (arith, ap (λ t. t.levels) w.grown-is, c.loop-change.invariant.levels);
        merges = λ h low.
            let up : old.levels ≤ h = omega (arith, low, ap (λ t. t.levels) w.grown-is) in
            let same = ap (λ n. n * (64 * (h + 1))) (in_same cs i d c.change-item.is c.loop-change-test.true w.in_default.is) in
            omega (arith, same, ap (λ t. t.merges) w.steps-is, c.loop-change.invariant.merges h up);
        maps = ap (λ t. t.maps) w.steps-is ∙ c.loop-change.invariant.maps;
        reads = ap (λ t. t.reads) w.steps-is ∙ c.loop-change.invariant.reads;
      }
    ]

pub returns-clause-merges : goal.returns-clause-merges
returns-clause-merges g c = λ h low.
    let most = c.loop-change.invariant.merges h low in
    record { merges = omega (arith, most) }
