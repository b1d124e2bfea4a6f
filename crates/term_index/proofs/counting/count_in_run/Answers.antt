use Rattle.std.proofs.Common.{◌-◌, cond, sym, ap, ◌∙◌}
use Rattle.term_index.proofs.Counted.{a_run}
use Rattle.term_index.proofs.counting.count_in_run.Goals as goal

pub returns-then-is_met_in_run : goal.returns-then-is_met_in_run
returns-then-is_met_in_run g c =
    let meets = g.C.ValueCondition.meets c.args.condition.now in
    sym (a_run meets c.is_met_in_run.result c.args.from c.args.to c.args.terms.now c.requires.terms c.requires.order c.requires.within c.is_met_in_run.ensures ∙ ap (λ b. cond b (c.args.to - c.args.from) 0) c.if-is_met_in_run.true)

pub returns-else-is_met_in_run : goal.returns-else-is_met_in_run
returns-else-is_met_in_run g c =
    let meets = g.C.ValueCondition.meets c.args.condition.now in
    sym (a_run meets c.is_met_in_run.result c.args.from c.args.to c.args.terms.now c.requires.terms c.requires.order c.requires.within c.is_met_in_run.ensures ∙ ap (λ b. cond b (c.args.to - c.args.from) 0) c.if-is_met_in_run.false)
