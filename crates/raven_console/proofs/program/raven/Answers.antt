use Rattle.std.proofs.Common.{ap, map, option_map}
use Rattle.raven_console.proofs.Lost.{lost}
use Rattle.raven_console.proofs.program.raven.Goals as goal

pub returns-in-Err-clause-serves : goal.returns-in-Err-clause-serves
returns-in-Err-clause-serves g c =
    lost _ _ _ (ap (λ f. f.status) c.finished-in-Err.ensures) (ap (λ f. option_map g.K.Keeper.state f.keeper) c.finished-in-Err.ensures) (ap (λ f. map g.D.Door.state f.doors.items) c.finished-in-Err.ensures)
