use denote.Exit.{yes}
use denote.Param.Send.{arg_send, param_send}
use Rattle.raven_ports.specs.contracts.mem_keeper.MemKeeper as MemKeeper
use Rattle.raven_ports.proofs.Sending.{keeper_send}
use Rattle.raven_cases.proofs.running.run_once.Lts.{arg-20-3}
use Rattle.raven_cases.proofs.running.run_once.Goals as goal

pub raven-finish-requires-send-K : goal.raven-finish-requires-send-K
raven-finish-requires-send-K g c κs within = param_send 3 (arg-20-3 g.row.R g.R.laws g.R.AllocGlobal-dict g.R.Alloc-dict g.bound-3-dict g.bound-4-dict g.R.Threads-dict g.R.Wait-dict κs) (arg_send _ yes MemKeeper.the_row keeper_send)
