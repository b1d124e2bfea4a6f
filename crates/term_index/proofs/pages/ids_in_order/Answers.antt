use Rattle.std.proofs.Common.{IfSome, length, map, take, drop, ap, sym, subst, ◌∙◌}
use Rattle.term_index.specs.Steps.{IsRunTo}
use Rattle.term_index.proofs.Single.{line_of_run, run_sorted}
use Rattle.term_index.proofs.pages.ids_in_order.Goals as goal

pub returns : goal.returns
returns g c =
    let es = c.args.terms.now in
    let long = c.args.order.long in
    let desc = c.args.order.desc in
    let run = c.in-Some.run' in
    let meets = g.C.ValueCondition.meets c.args.condition.now in
    let met = subst (λ o. IfSome o (λ r. IsRunTo meets es r.start r.end (length es))) c.in-Some.is c.in_ok-run.ensures in
    let line = c.in_ok-are_in_line.ensures c.if-not-branch.false in
    c.in_ok-page_of_run.ensures long (line_of_run long es run.start run.end c.requires.terms line)
    ∙ ap (λ l. map (λ e. e.0) (take c.args.size (drop c.args.start l))) (sym (run_sorted meets long desc es run.start run.end c.requires.terms c.len-terms.ensures.rising c.requires.apart met line))
