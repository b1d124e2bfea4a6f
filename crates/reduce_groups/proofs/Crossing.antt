-- Trees of totals by key may go to another thread, and several threads may read them, if this holds of what they are made of.
use denote.RattleType.{RattleType}
use denote.Param.Send.{IsSend, IsSync, sendable}
use Rattle.std.proofs.Crossing.{crosses}
use Rattle.std.specs.declared.clone.Clone as clone
use Rattle.std.specs.declared.cmp.Ord as ord
use Rattle.std.specs.declared.cmp.PartialEq as eq
use Rattle.std.specs.declared.cmp.PartialOrd as partial
use Rattle.raven_base.proofs.shared.Shared.TheSendSync as shared
use Rattle.raven_base.specs.declared.exact.Exact as exact
use Rattle.paged_map.proofs.Crossing.{paged_send, paged_sync}
use Rattle.reduce_tree.proofs.Crossing.{tree_send, tree_sync}
use Rattle.reduce_tree.specs.contracts.tree.ReduceTree as ReduceTree
use Rattle.reduce_tree.specs.declared.fold.Fold as folds
use Rattle.reduce_groups.specs.contracts.groups.Groups as Groups

module _ (K E F R : RattleType) (o : ord.Ghosts K.Denot) (e : eq.Ghosts K.Denot) (p : partial.Ghosts K.Denot) (g : folds.Ghosts F.Denot E.Denot R.Denot) (x : exact.Ghosts R.Denot) (c : clone.Ghosts R.Denot) where
  module _ (H : RattleType) (ho : ord.Ghosts H.Denot) (he : eq.Ghosts H.Denot) (hp : partial.Ghosts H.Denot) (hs : IsSend H) (hy : IsSync H) (ks : IsSend K) (ky : IsSync K) (es : IsSend E) (ey : IsSync E) (fs : IsSend F) (fy : IsSync F) (rs : IsSend R) (ry : IsSync R) where
    pub trees_send : IsSend (Groups.the_field H K E F R ho he hp o e p g x c).row
    trees_send =
        let a = shared.the_send (ReduceTree.the_row K E F R o e p g x c) (tree_send K E F R o e p g x c ks ky es ey fs fy rs ry) (tree_sync K E F R o e p g x c ks ky es ey fs fy rs ry) in
        let b = shared.the_sync (ReduceTree.the_row K E F R o e p g x c) (tree_send K E F R o e p g x c ks ky es ey fs fy rs ry) (tree_sync K E F R o e p g x c ks ky es ey fs fy rs ry) in
        search (sendable, shared.the_send, paged_send) depth 60 fits 4000

    pub trees_sync : IsSync (Groups.the_field H K E F R ho he hp o e p g x c).row
    trees_sync =
        let a = shared.the_send (ReduceTree.the_row K E F R o e p g x c) (tree_send K E F R o e p g x c ks ky es ey fs fy rs ry) (tree_sync K E F R o e p g x c ks ky es ey fs fy rs ry) in
        let b = shared.the_sync (ReduceTree.the_row K E F R o e p g x c) (tree_send K E F R o e p g x c ks ky es ey fs fy rs ry) (tree_sync K E F R o e p g x c ks ky es ey fs fy rs ry) in
        search (sendable, shared.the_sync, paged_sync) depth 60 fits 4000
