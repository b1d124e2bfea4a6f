-- If no count of faults rises, a server comes to its end.
use Rattle.std.proofs.Common.{◌≡◌, ◌≢◌, ℕ, List, Option, Some, None, Ok, Err, refl, subst}
use Rattle.spec_data.specs.Kept.{KeptRow}
use Rattle.raven_ports.specs.States.{KeeperState}
use Rattle.raven_reading.proofs.Once.{held_once}
use Rattle.spec_server.specs.Options.{setting_with}
use Rattle.serve_ports.specs.Doors.{Doorway}
use Rattle.raven_desk.specs.Openings.{IsBad}
use Rattle.raven_serve.specs.Finishing.{EndsSo, HasServed, Server}
use Rattle.raven_serve.specs.Completeness.{HasNoFault, IsFinished, IsValid}
use Rattle.raven_serve.specs.declared.ends.ServeEnd.{ServeEnd}
use Rattle.raven_serve.specs.declared.ends.ServeEnd.TheVariants.{Done, DoorFault, NoThread, KeptFault, KeptBad, NoMemory}

not_bad : (s : Server) (etag : ℕ) → IsValid s → IsBad (setting_with s.base) s.keeper.held etag → ⊥
not_bad s etag v b =
    let bad = subst (λ (h : Option (List KeptRow)). IsBad (setting_with s.base) h etag) v.kept b in
    absurd (let once = held_once (setting_with s.base) v.rows (Ok v.machine) (Err etag) v.opens bad in cc)

pub completes : (s : Server) (end : ServeEnd) (keeper : Option KeeperState) (doors : List Doorway) → EndsSo end s keeper doors → IsValid s → HasNoFault end s keeper doors → end ≢ NoThread → IsFinished end
completes s Done keeper doors h v n w = tt
completes s NoMemory keeper doors h v n w = tt
completes s NoThread keeper doors h v n w = absurd (w refl)
completes s DoorFault None doors h v n w = absurd h
completes s DoorFault (Some k) doors h v n w = absurd (n.doors_none h.4.rose)
completes s KeptFault None doors h v n w = absurd h
completes s KeptFault (Some k) doors h v n w = absurd (n.keeper_none tt k refl h.1)
completes s (KeptBad etag) None doors h v n w = absurd h
completes s (KeptBad etag) (Some k) doors h v n w = absurd (not_bad s etag v h.1)
