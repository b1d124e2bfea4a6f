use Rattle.std.proofs.Common.{◌≡◌, ◌-◌, ◌++◌, ◌∷◌, true, false, cond, drop, map, take, sym, ap, ◌∙◌, arith}
use Rattle.rql_eval.proofs.Walking.{pushed, taken}
use Rattle.rql_eval.proofs.walk.add_if.Goals as goal
use Rattle.rql_eval.proofs.walk.add_if.Goals.{else-met-via-then-met+else-skip-gt0, else-met-via-else-met}

pub returns-in_ok-push : goal.returns-in_ok-push
returns-in_ok-push c =
    let found = map (λ e. (e.0.now, e.1.now)) c.args.found.now.items in
    let skip = c.args.skip.now in
    let want = c.args.want.now in
    let none : skip ≡ 0 =
    elim c.else-met.branch [
      | else-met-via-then-met+else-skip-gt0 w ↦ (let h = w.if-skip-gt0.false in omega (arith, h))
      | else-met-via-else-met w ↦ let two : true ≡ false = sym c.if-met-2.true ∙ w.if-met.false in absurd cc
    ] in
    λ more.
    ap (λ b. found ++ take want (drop skip (cond b ((c.args.entry.0.now, c.args.entry.1.now) ∷ more) more))) c.if-met-2.true
    ∙ (taken (c.args.entry.0.now, c.args.entry.1.now) more found skip want none c.requires
    ∙ ap (λ l. l ++ take (want - 1) (drop skip more)) (sym (pushed (λ e. (e.0.now, e.1.now)) c.args.entry c.args.found.now.items c.push.new.self.items c.in_ok-push.ensures.items)))
