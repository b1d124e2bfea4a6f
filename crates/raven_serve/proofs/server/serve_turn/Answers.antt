use Rattle.std.proofs.Common.{◌≡◌, ◌+◌, ◌∙◌, ℕ, List, [], ◌∷◌, length, ap, sym, refl, subst, arith}
use Rattle.std.specs.Prelude.{All, map, Option, option_map}
use Rattle.std.proofs.lemmas.List.{length-map}
use Rattle.atomic_table.specs.Seated.{TableId}
use Rattle.raven_turn.specs.Passes.{Knowledge}
use Rattle.spec_desk.specs.Lived.{Lived}
use Rattle.raven_serve.specs.Works.{Belongs}
use Rattle.raven_serve.specs.Finishing.{EndsSo, IsClosing, server}
use Rattle.raven_serve.specs.declared.ends.ServeEnd.{ServeEnd}
use Rattle.raven_serve.proofs.Ending.{all_shares, came_belong, came_many, finishes, same_turn, was_begun, was_refused}
use Rattle.raven_serve.proofs.server.serve_turn.Goals as goal

pub gather-all-requires-clause-outs : goal.gather-all-requires-clause-outs
gather-all-requires-clause-outs g c =
    let outs = c.in-Ok-run.outs.items in
    subst (λ (t : TableId). All (Belongs t) outs) c.requires.first.0
    (came_belong c.args.first (g.C.Clock.moment c.args.site.clock.value) c.args.site.name (map g.D.Door.state c.args.doors.items) c.args.pumps outs c.in-Ok-run.refused c.in-Ok.jobs.items c.in-Ok.ensures.works
    c.in-Ok-run.ensures.came)

pub gather-all-requires-clause-room : goal.gather-all-requires-clause-room
gather-all-requires-clause-room g c =
    let outs = c.in-Ok-run.outs.items in
    let m = came_many c.args.first (g.C.Clock.moment c.args.site.clock.value) c.args.site.name (map g.D.Door.state c.args.doors.items) c.args.pumps outs c.in-Ok-run.refused c.in-Ok.jobs.items c.in-Ok.ensures.works
    c.in-Ok-run.ensures.came in
    omega (arith, m, length-map c.args.doors.items g.D.Door.state, c.args.doors.ok.0, c.in-Ok-run.outs.ok.0, c.requires.room)

pub end-requires-clause-own : goal.end-requires-clause-own
end-requires-clause-own g c =
    ap (λ (p : Knowledge Lived). p.turn) c.gather-all.ensures.pass ∙ same_turn c.works.new.rest c.in-Ok-run.outs.items ∙ c.in-Ok.ensures.rest.0 ∙ c.requires.first.0

pub end-requires-clause-shares : goal.end-requires-clause-shares
end-requires-clause-shares g c =
    let outs = c.in-Ok-run.outs.items in
    let rest = c.works.new.rest in
    let clock = g.C.Clock.moment c.args.site.clock.value in
    let doors = map g.D.Door.state c.args.doors.items in
    let a = ap (λ (p : Knowledge Lived). p.shares) c.gather-all.ensures.pass in
    let b = all_shares c.args.first.turn rest outs (came_belong c.args.first clock c.args.site.name doors c.args.pumps outs c.in-Ok-run.refused c.in-Ok.jobs.items c.in-Ok.ensures.works c.in-Ok-run.ensures.came) in
    let m = came_many c.args.first clock c.args.site.name doors c.args.pumps outs c.in-Ok-run.refused c.in-Ok.jobs.items c.in-Ok.ensures.works c.in-Ok-run.ensures.came in
    let many : length doors ≡ length c.args.doors.items = length-map c.args.doors.items g.D.Door.state in
    let whole : rest.shares + length outs ≡ c.args.turn.shares = omega (arith, c.in-Ok.ensures.rest.1, m, many, c.requires.shares, c.args.doors.ok.0) in
    a ∙ b ∙ whole

pub returns-clause-ends : goal.returns-clause-ends
returns-clause-ends g c = λ base before opening.
    let outs = c.in-Ok-run.outs.items in
    let s = server base c.args.site.name (g.C.Clock.moment c.args.site.clock.value) before (map g.D.Door.state c.args.doors.items) in
    let keeper = option_map g.K.Keeper.state c.end.result.keeper in
    let left = map g.D.Door.state c.end.result.doors.items in
    subst (λ (e : ServeEnd). EndsSo e s keeper left) (sym c.end.ensures.end)
    (finishes s c.args.first c.args.turn.opening c.args.pumps outs opening c.requires.first.2 c.works.new.rest c.in-Ok.ensures.rest.2 c.in-Ok-run.refused c.in-Ok.jobs.items c.gather-all.result.failed keeper left
    c.in-Ok.ensures.works c.in-Ok-run.ensures.came (sym c.gather-all.ensures.failed)
    (subst (λ (p : Knowledge Lived). IsClosing p.seen keeper) c.gather-all.ensures.pass c.end.ensures.kept) (ap (map g.D.Door.state) c.end.ensures.doors ∙ c.gather-all.ensures.doors))

pub returns-clause-refused : goal.returns-clause-refused
returns-clause-refused g c = λ e. c.in-Ok-run.ensures.cause (was_refused c.in-Ok-run.refused c.gather-all.result.failed (sym c.end.ensures.end ∙ e))

pub returns-clause-begun : goal.returns-clause-begun
returns-clause-begun g c = λ e. c.in-Ok-run.ensures.same (was_begun c.in-Ok-run.refused c.gather-all.result.failed (sym c.end.ensures.end ∙ e))
