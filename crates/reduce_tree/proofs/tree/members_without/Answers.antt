use Rattle.std.proofs.Common.{◌+◌, ◌*◌, drop, ap, ◌∙◌, arith}
use Rattle.reduce_tree.specs.Changes.{removed, removals}
use Rattle.reduce_tree.proofs.Steps.{out_none, out_some, out_fewer, out_same, step_taken}
use Rattle.reduce_tree.proofs.tree.members_without.Goals as goal
use Rattle.reduce_tree.proofs.tree.members_without.Goals.{in-None+in_ok-left-in-None, in-Some}

pub loop-change-preserved : goal.loop-change-preserved
loop-change-preserved g c =
    let cs = c.args.changes.now in
    let i = c.loop-change.change-index in
    let d = c.change-item.result in
    let old = c.loop-change.left in
    let b = 64 * (c.args.members.now.levels + 1) in
    elim c.match-change.branch [
      | in-None+in_ok-left-in-None w ↦
          let m = w.in_ok-left-in-None.ensures in
          record {
            pairs = ap (λ t. removed g.K.Ord.cmp t.pairs (drop (i + 1) cs)) w.left-is ∙ ap (λ t. removed g.K.Ord.cmp t (drop (i + 1) cs)) w.in_ok-left-in-None.ensures.pairs ∙ out_none cs i d c.change-item.is c.loop-change-test.true g.K.Ord.cmp old.pairs w.in-None.is ∙ c.loop-change.invariant.pairs;
            levels = omega (arith, ap (λ t. t.levels) w.left-is, w.in_ok-left-in-None.ensures.levels, c.loop-change.invariant.levels);
            merges =
                step_taken c.loop-change.steps.merges c.match-change.steps.merges c.args.steps.now.merges (removals cs) b (47 * old.levels) (removals (drop i cs)) (removals (drop (i + 1) cs))
                c.loop-change.invariant.merges (out_fewer cs i d c.change-item.is c.loop-change-test.true w.in-None.is) (omega (arith, ap (λ t. t.merges) w.steps-is, m.merges.merges)) (omega (arith, c.loop-change.invariant.levels));
            maps = ap (λ t. t.maps) w.steps-is ∙ m.maps ∙ c.loop-change.invariant.maps;
            reads = ap (λ t. t.reads) w.steps-is ∙ m.reads ∙ c.loop-change.invariant.reads;
          }
      | in-Some w ↦ record {
        pairs = ap (λ t. removed g.K.Ord.cmp t.pairs (drop (i + 1) cs)) w.left-is ∙ out_some cs i d c.change-item.is c.loop-change-test.true g.K.Ord.cmp old.pairs _ w.in-Some.is ∙ c.loop-change.invariant.pairs;
        levels = omega (arith, ap (λ t. t.levels) w.left-is, c.loop-change.invariant.levels);
        merges =
            let same = ap (λ n. n * b) (out_same cs i d c.change-item.is c.loop-change-test.true _ w.in-Some.is) in
            omega (arith, same, ap (λ t. t.merges) w.steps-is, c.loop-change.invariant.merges);
        maps = ap (λ t. t.maps) w.steps-is ∙ c.loop-change.invariant.maps;
        reads = ap (λ t. t.reads) w.steps-is ∙ c.loop-change.invariant.reads;
      }
    ]
