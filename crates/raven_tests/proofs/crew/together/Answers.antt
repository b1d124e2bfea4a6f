use Rattle.std.proofs.Common.{◌≡◌, ◌+◌, ◌∷◌, [], ◌∙◌, ap, subst, arith}
use Rattle.raven_turn.specs.Passes.{AfterAll}
use Rattle.raven_tests.proofs.Zips.{all_over}
use Rattle.raven_tests.proofs.crew.together.Goals as goal

pub gather-requires-clause-reports : goal.gather-requires-clause-reports
gather-requires-clause-reports g c = let turn = c.in-Ok.turn.turn in
    all_over (λ shift report. (report.pass.turn ≡ shift.pass.turn) × (report.pass.shares ≡ shift.pass.shares) × (report.pass.made ≡ shift.pass.made + report.work.raised))
    (λ shift. (shift.pass.turn ≡ turn) × (shift.pass.made ≡ 0)) (λ report. (report.pass.turn ≡ turn) × (report.pass.made ≡ report.work.raised))
    (λ shift report p r. (r.0 ∙ p.0, omega (arith, r.2, p.1)))
    c.in-Ok-shifts.shifts.items c.in-Ok-run_all.reports.items c.in-Ok-run_all.ensures c.in-Ok-shifts.ensures.shifts

pub returns-clause-later : goal.returns-clause-later
returns-clause-later g c =
    let first = c.in-Ok.ensures.ok in
    let seen : c.shifts.new.rest.seen ≡ c.args.value ∷ [] = c.in-Ok-shifts.ensures.same.2 ∙ first.2.2 ∙ ap (λ v. v ∷ []) first.0 in
    let after = c.in-Ok-gather.ensures.seen.seen c.in_ok-close.field-0 c.in_ok-close.ensures.1 in
    subst (λ l. AfterAll g.V.Grows.later l c.in_ok-close.field-0) seen after 0 c.args.value (omega arith)
