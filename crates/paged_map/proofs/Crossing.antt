-- A map may go to another thread, and several threads may read it, if this holds of its keys and values.
use denote.RattleType.{RattleType}
use denote.Param.Send.{IsSend, IsSync, sendable}
use Rattle.std.proofs.Crossing.{crosses}
use Rattle.std.specs.declared.cmp.PartialEq as eq
use Rattle.std.specs.declared.cmp.Ord as ord
use Rattle.std.specs.declared.cmp.PartialOrd as partial
use Rattle.paged_map.proofs.page.Page.TheLaws.TheKnot as page
use Rattle.paged_map.specs.contracts.map.PagedMap as PagedMap

ruleset pages = (page.both_send-Page, page.both_sync-Page)

-- a map whole, so that no search goes down through its pages twice
module _ (K V : RattleType) (o : ord.Ghosts K.Denot) (e : eq.Ghosts K.Denot) (p : partial.Ghosts K.Denot) where
  pub paged_send : IsSend K → IsSync K → IsSend V → IsSync V → IsSend (PagedMap.the_field K V o e p).row
  paged_send ks ky vs vy = search (sendable, crosses, pages) depth 60 fits 4000

  pub paged_sync : IsSend K → IsSync K → IsSend V → IsSync V → IsSync (PagedMap.the_field K V o e p).row
  paged_sync ks ky vs vy = search (sendable, crosses, pages) depth 60 fits 4000
