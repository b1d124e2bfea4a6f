use denote.Param.Send.{IsSend, IsSync, sendable, param_send, param_sync}
use contract.Lifetimes.{Lfts}
use Rattle.index_version.specs.contracts.asking.answer_in_threads.{M-row}
use Rattle.index_version.proofs.asking.answer_in_threads.Given.{Over}
use Rattle.index_version.proofs.asking.answer_in_threads.Lts.{arg-0-0, arg-0-1}
use Rattle.std.proofs.Common.{slice_index_or, subst}
use Rattle.std.specs.FinMap.{get}
use Rattle.std.proofs.Crossing.{crosses, sync}
use Rattle.raven_value.proofs.id.Id.TheSendSync as id
use Rattle.raven_value.proofs.row.Row.TheSendSync as stored
use Rattle.spec_data.specs.Rows.{Row}
use Rattle.index_version.specs.Asked.{IsAnswer}
use Rattle.index_version.proofs.Crossing.{table_sync}
use Rattle.index_version.proofs.Zips.{zip_places}
use Rattle.index_version.proofs.asking.answer_in_threads.Goals as goal

-- what a thread is given may be given to it
asked_send : (g : Over) (κs : Lfts 8) → IsSend (arg-0-0 g.row.R g.row.M g.R.laws g.M.laws g.R.Threads-dict g.M.Mapper-dict κs)
asked_send g κs = search (sendable, crosses, stored.the_sync, id.the_sync) depth 60 fits 4000

closure_sync : (g : Over) (κs : Lfts 8) → IsSync (M-row g.row.R g.row.M) → IsSync (arg-0-1 g.row.R g.row.M g.R.laws g.M.laws g.R.Threads-dict g.M.Mapper-dict κs)
closure_sync g κs mapper_sync = search (sendable, crosses, sync, table_sync) depth 60 fits 4000

pub par_for_each_mut-requires-send-T : goal.par_for_each_mut-requires-send-T
par_for_each_mut-requires-send-T g c κs within = param_send 0 (arg-0-0 g.row.R g.row.M g.R.laws g.M.laws g.R.Threads-dict g.M.Mapper-dict κs) (asked_send g κs)

pub par_for_each_mut-requires-sync-F : goal.par_for_each_mut-requires-sync-F
par_for_each_mut-requires-sync-F g c κs within = param_sync 1 (arg-0-1 g.row.R g.row.M g.R.laws g.M.laws g.R.Threads-dict g.M.Mapper-dict κs) (closure_sync g κs c.type_bounds.sync-M)

pub returns : goal.returns
returns g c =
    let R = IsAnswer (λ (d : Row). g.M.Mapper.meaning c.args.mapper.now d (get c.args.table.now)) in
    let ys = c.par_for_each_mut.new.s in
    zip_places R c.args.asked.now ys c.par_for_each_mut.auto.s
    (λ i a within.
    let at = (c.par_for_each_mut.ensures i a within).1 in
    subst (λ before. R before (slice_index_or ys i a)) at.argument_is (subst (λ after. R at.argument.now after) at.left at.call))
