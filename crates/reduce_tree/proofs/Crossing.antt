-- A tree of totals may go to another thread, and several threads may read it, if this holds of what it is made of.
use denote.RattleType.{RattleType}
use denote.Param.Send.{IsSend, IsSync, sendable}
use Rattle.std.proofs.Crossing.{crosses}
use Rattle.std.specs.declared.clone.Clone as clone
use Rattle.std.specs.declared.cmp.Ord as ord
use Rattle.std.specs.declared.cmp.PartialEq as eq
use Rattle.std.specs.declared.cmp.PartialOrd as partial
use Rattle.raven_base.specs.declared.exact.Exact as exact
use Rattle.paged_map.proofs.page.Page.TheLaws.TheKnot as page
use Rattle.reduce_tree.proofs.member.Member.TheSendSync as member
use Rattle.reduce_tree.specs.contracts.tree.ReduceTree as ReduceTree
use Rattle.reduce_tree.specs.declared.fold.Fold as folds

ruleset pages = (page.both_send-Page, page.both_sync-Page)

module _ (K E F R : RattleType) (o : ord.Ghosts K.Denot) (e : eq.Ghosts K.Denot) (p : partial.Ghosts K.Denot) (g : folds.Ghosts F.Denot E.Denot R.Denot) (x : exact.Ghosts R.Denot) (c : clone.Ghosts R.Denot) where
  module _ (ks : IsSend K) (ky : IsSync K) (es : IsSend E) (ey : IsSync E) (fs : IsSend F) (fy : IsSync F) (rs : IsSend R) (ry : IsSync R) where
    pub tree_send : IsSend (ReduceTree.the_field K E F R o e p g x c).row
    tree_send = search (sendable, crosses, member.the_send, member.the_sync, pages) depth 60 fits 4000

    pub tree_sync : IsSync (ReduceTree.the_field K E F R o e p g x c).row
    tree_sync = search (sendable, crosses, member.the_send, member.the_sync, pages) depth 60 fits 4000
