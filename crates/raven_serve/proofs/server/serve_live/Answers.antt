use Rattle.std.proofs.Common.{◌≡◌, ◌∙◌, length, ap, refl, subst, sym, arith}
use Rattle.std.specs.Prelude.{map}
use Rattle.std.proofs.lemmas.List.{length-map}
use Rattle.spec_desk.specs.Lived.{Lived}
use Rattle.raven_desk.specs.Openings.{Loads}
use Rattle.raven_serve.specs.Finishing.{server}
use Rattle.raven_serve.proofs.Ending.{opens}
use Rattle.raven_serve.proofs.server.serve_live.Goals as goal

pub returns-in-Ok-new-clause-ends : goal.returns-in-Ok-new-clause-ends
returns-in-Ok-new-clause-ends g c = λ base before o l.
    c.serve_turn.ensures.ends base before
    (opens base c.args.site.name (g.C.Clock.moment c.args.site.clock.value) before (map g.D.Door.state c.args.doors.items) c.args.live c.in-Ok-new.turn.opening c.len-count.result (c.in-Ok-new.ensures.ok.0 ∙ c.with_fronts-live.ensures)
    (omega (arith, c.len-count.ensures, length-map c.args.doors.items g.D.Door.state, c.args.doors.ok.0)) o l)

pub returns-in-Err-clause-ends : goal.returns-in-Err-clause-ends
returns-in-Err-clause-ends g c = λ base before o l.
    c.unserved-in-Err.ensures.ends (server base c.args.site.name (g.C.Clock.moment c.args.site.clock.value) before (map g.D.Door.state c.args.doors.items))
    (subst (λ (x : Lived). Loads before x.keeper) (sym (c.in-Err.ensures.err ∙ c.with_fronts-live.ensures)) l) refl
