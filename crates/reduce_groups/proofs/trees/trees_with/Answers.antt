use Rattle.std.proofs.Common.{◌≡◌, ◌<◌, ◌^◌, [], cond, length, refl, sym, ap, subst, ◌∙◌, arith}
use Rattle.std.proofs.lemmas.Result.{IfOk-weaker}
use Rattle.std.specs.Ordering.{is_eq}
use Rattle.reduce_groups.specs.Groups.{AreSound, AllLevels, entries_at}
use Rattle.reduce_groups.proofs.TreeLemmas.{entries_removed, entries_inserted, sound_removed, sound_inserted, low_removed, low_inserted, low_before, some_from}
use Rattle.reduce_groups.proofs.trees.trees_with.Goals as goal

pub returns-then-is_empty-clause-sound : goal.returns-then-is_empty-clause-sound
returns-then-is_empty-clause-sound g c =
    IfOk-weaker c.take_out.result _ _ (λ ts e. subst (AreSound c.args.fold.now) (sym e) (sound_removed _ c.args.fold.now c.args.trees c.requires.sound)) c.take_out.ensures.pairs

pub returns-then-is_empty-clause-entries : goal.returns-then-is_empty-clause-entries
returns-then-is_empty-clause-entries g c =
    let none : c.args.tree.entries ≡ [] = c.if-is_empty.ensures.0 refl in
    IfOk-weaker c.take_out.result _ _ (λ ts e q. ap (entries_at g.G.Ord.cmp q) e ∙ entries_removed g.G.Ord.cmp g.met.G.Ord.total q c.args.group.now c.args.trees c.take_out.ensures.rising
    ∙ ap (λ l. cond (is_eq (g.G.Ord.cmp q c.args.group.now)) l (entries_at g.G.Ord.cmp q c.args.trees)) (sym none)) c.take_out.ensures.pairs

pub returns-then-is_empty-clause-lower : goal.returns-then-is_empty-clause-lower
returns-then-is_empty-clause-lower g c = IfOk-weaker c.take_out.result _ _ (λ ts e h l a. subst (AllLevels h) (sym e) (low_removed _ h c.args.trees a)) c.take_out.ensures.pairs

pub returns-clause-sound : goal.returns-clause-sound
returns-clause-sound g c =
    let some : 0 < length c.args.tree.entries = some_from c.args.tree.entries (λ e. cc (c.if-is_empty.ensures.1 e)) in
    let few : length c.args.tree.entries < 2 ^ 64 = omega (arith, c.len-entries.ensures) in
    let all = sound_inserted g.G.Ord.cmp c.args.fold.now c.args.group.now c.args.tree c.args.trees c.requires.sound c.requires.fold some c.requires.filled few in
    IfOk-weaker c.trees_and.result _ _ (λ ts e. subst (AreSound c.args.fold.now) (sym e) all) c.trees_and.ensures

pub returns-clause-entries : goal.returns-clause-entries
returns-clause-entries g c =
    IfOk-weaker c.trees_and.result _ _ (λ ts e q. ap (entries_at g.G.Ord.cmp q) e ∙ entries_inserted g.G.Ord.cmp g.met.G.Ord.total q c.args.group.now c.args.tree c.args.trees) c.trees_and.ensures

pub returns-clause-lower : goal.returns-clause-lower
returns-clause-lower g c =
    let some : 0 < length c.args.tree.entries = some_from c.args.tree.entries (λ e. cc (c.if-is_empty.ensures.1 e)) in
    IfOk-weaker c.trees_and.result _ _ (λ ts e h l a. subst (AllLevels h) (sym e) (low_inserted g.G.Ord.cmp c.args.fold.now c.args.group.now c.args.tree h c.args.trees (l some) a)) c.trees_and.ensures

pub returns-clause-upper : goal.returns-clause-upper
returns-clause-upper g c =
    IfOk-weaker c.trees_and.result _ _ (λ ts e h some a. low_before g.G.Ord.cmp c.args.fold.now c.args.group.now c.args.tree h c.args.trees (subst (AllLevels h) e a)) c.trees_and.ensures
