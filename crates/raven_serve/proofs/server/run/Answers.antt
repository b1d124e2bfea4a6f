use denote.Param.Send.{sendable, param_send}
use Rattle.std.proofs.Crossing.{crosses}
use Rattle.raven_value.proofs.text.Text.TheSendSync as text
use Rattle.raven_turn.proofs.turn.Pass.TheSendSync as pass
use Rattle.raven_turn.proofs.turn.Turn.TheSendSync as turn
use Rattle.http_parts.proofs.Crossing.{routes_sync}
use Rattle.raven_desk.proofs.Crossing.{live_send}
use Rattle.raven_serve.proofs.server.run.Lts.{arg-0-1, arg-0-3}
use Rattle.raven_serve.proofs.server.run.Goals as goal

ruleset jobs = (sendable, crosses, text.the_send, pass.the_send, turn.the_send, turn.the_sync, live_send, routes_sync)

-- a bound of the function is bound by a `let` and not listed: a search that lists one fits no other lemma
pub run_all-requires-send-J : goal.run_all-requires-send-J
run_all-requires-send-J g c κs within =
    let keeper = c.type_bounds.send-K in
    let clock = c.type_bounds.send-C in
    let clocks = c.type_bounds.sync-C in
    let gate = c.type_bounds.send-G in
    let gates = c.type_bounds.sync-G in
    let door = c.type_bounds.send-D in
    param_send 1 (arg-0-1 g.row.R g.row.K g.row.C g.row.G g.row.D g.row.W g.row.D-Conn g.R.laws g.K.laws g.C.laws g.G.laws g.D.laws g.W.laws g.D.Conn.laws g.R.Threads g.R.Threads-dict g.R.Wait g.R.Wait-dict g.K.Keeper g.K.Keeper-dict g.C.Clock g.C.Clock-dict g.G.Gate g.G.Gate-dict g.D.Door g.D.Door-dict g.D.Conn.Connection g.D.Conn.Connection-dict g.D.Conn.Source g.D.Conn.Source-dict g.D.Conn.Sink g.D.Conn.Sink-dict g.W.Crew g.W.Crew-dict g.K.Destruct-dict g.C.Destruct-dict g.G.Destruct-dict g.D.Destruct-dict g.D.Conn.Destruct-dict κs) (search jobs depth 60 fits 4000)

pub run_all-requires-send-J-Out : goal.run_all-requires-send-J-Out
run_all-requires-send-J-Out g c κs within =
    let keeper = c.type_bounds.send-K in
    let door = c.type_bounds.send-D in
    param_send 3 (arg-0-3 g.row.R g.row.K g.row.C g.row.G g.row.D g.row.W g.row.D-Conn g.R.laws g.K.laws g.C.laws g.G.laws g.D.laws g.W.laws g.D.Conn.laws g.R.Threads g.R.Threads-dict g.R.Wait g.R.Wait-dict g.K.Keeper g.K.Keeper-dict g.C.Clock g.C.Clock-dict g.G.Gate g.G.Gate-dict g.D.Door g.D.Door-dict g.D.Conn.Connection g.D.Conn.Connection-dict g.D.Conn.Source g.D.Conn.Source-dict g.D.Conn.Sink g.D.Conn.Sink-dict g.W.Crew g.W.Crew-dict g.K.Destruct-dict g.C.Destruct-dict g.G.Destruct-dict g.D.Destruct-dict g.D.Conn.Destruct-dict κs) (search jobs depth 60 fits 4000)
