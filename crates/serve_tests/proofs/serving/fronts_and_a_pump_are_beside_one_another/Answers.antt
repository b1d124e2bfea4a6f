use denote.Exit.{yes}
use denote.Param.Send.{arg_send, param_send}
use Rattle.raven_ports.specs.contracts.mem_keeper.MemKeeper as MemKeeper
use Rattle.raven_ports.proofs.Sending.{keeper_send}
use Rattle.serve_tests.proofs.serving.fronts_and_a_pump_are_beside_one_another.Lts.{arg-30-1}
use Rattle.serve_tests.proofs.serving.fronts_and_a_pump_are_beside_one_another.Goals as goal

pub serve-served-requires-send-K : goal.serve-served-requires-send-K
serve-served-requires-send-K g c κs within = param_send 1 (arg-30-1 g.bound-1-dict g.bound-2-dict g.bound-3-dict κs) (arg_send _ yes MemKeeper.the_row keeper_send)
