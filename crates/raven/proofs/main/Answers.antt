use denote.Exit.{yes}
use denote.Param.Send.{arg_send, param_send}
use Rattle.sql_keeper.specs.contracts.file_keeper.FileKeeper as FileKeeper
use Rattle.sql_keeper.proofs.Sending.{file_keeper_send}
use Rattle.raven.proofs.main.Lts.{arg-5-1}
use Rattle.raven.proofs.main.Goals as goal

pub end_over-end-requires-send-K : goal.end_over-end-requires-send-K
end_over-end-requires-send-K g c κs = param_send 1 (arg-5-1 g.bound-1-dict g.bound-2-dict κs) (arg_send _ yes FileKeeper.the_row file_keeper_send)
