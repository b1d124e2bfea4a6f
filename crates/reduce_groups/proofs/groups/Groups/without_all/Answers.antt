use Rattle.std.proofs.Common.{◌≡◌, ◌*◌, ◌+◌, ◌∷◌, [], length, drop, refl, sym, ap, ◌∙◌, arith}
use Rattle.std.proofs.lemmas.List.{drop_more, drop_all}
use Rattle.reduce_groups.specs.Groups.{entries_at, after_removals}
use Rattle.reduce_groups.proofs.TreeLemmas.{none_yet, one_more, all_done}
use Rattle.reduce_groups.proofs.groups.Groups.without_all.Goals as goal

pub loop-change-init : goal.loop-change-init
loop-change-init g c = record { fold = refl; entries = λ q. refl; merges = λ h a. (a, none_yet c.args.steps.now (64 * (h + 1))); maps = refl; reads = refl }

pub loop-change-preserved : goal.loop-change-preserved
loop-change-preserved g c =
    let R = g.G.Ord.cmp in
    let S = g.K.Ord.cmp in
    let cs = c.args.removals.now in
    let i = c.loop-change.change-index in
    let d = c.change-item.result in
    let old = c.loop-change.groups.trees in
    let rest : drop i cs ≡ d ∷ drop (i + 1) cs = drop_more cs i d c.loop-change-test.true ∙ ap (λ x. x ∷ drop (i + 1) cs) (sym c.change-item.is) in
    record {
      fold = c.in_ok-groups.ensures.fold ∙ c.loop-change.invariant.fold;
      entries = λ q. ap (λ es. after_removals R S q es (drop (i + 1) cs)) (c.in_ok-groups.ensures.entries q) ∙ sym (ap (after_removals R S q (entries_at R q old)) rest) ∙ c.loop-change.invariant.entries q;
      merges = λ h a.
          let before = c.loop-change.invariant.merges h a in
          let step = c.in_ok-groups.ensures.merges h before.0 in
          (step.0, one_more i (64 * (h + 1)) before.1 step.1);
      maps = c.in_ok-groups.ensures.maps ∙ c.loop-change.invariant.maps;
      reads = c.in_ok-groups.ensures.reads ∙ c.loop-change.invariant.reads;
    }

pub returns : goal.returns
returns g c =
    let R = g.G.Ord.cmp in
    let S = g.K.Ord.cmp in
    let cs = c.args.removals.now in
    let i = c.loop-change.change-index in
    let none : drop i cs ≡ [] = drop_all i cs c.loop-change-test.false in
    let end : i ≡ length cs = omega (arith, c.loop-change-test.false, c.loop-change.auto.change-index-end) in
    record {
      fold = c.loop-change.invariant.fold;
      entries = λ q. sym (ap (after_removals R S q (entries_at R q c.loop-change.groups.trees)) none) ∙ c.loop-change.invariant.entries q;
      merges = λ h a. let m = c.loop-change.invariant.merges h a in (m.0, all_done i (length cs) (64 * (h + 1)) end m.1);
      maps = c.loop-change.invariant.maps;
      reads = c.loop-change.invariant.reads;
    }
