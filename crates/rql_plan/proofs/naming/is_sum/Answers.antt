use Rattle.std.proofs.Common.{◌∙◌, sym}
use Rattle.index_tree.specs.Mapper.{joined}
use Rattle.rql_plan.proofs.Joined.{in_sum, no_end}
use Rattle.rql_plan.proofs.naming.is_sum.Goals as goal

pub returns-in-Some-strip_suffix : goal.returns-in-Some-strip_suffix
returns-in-Some-strip_suffix c =
    c.is_joined.ensures
    ∙ in_sum c.args.name.now c.in-Some.inner.now c.in-Some-strip_suffix.inner.now (joined c.args.path.now) c.in-Some.ensures.cases.0 c.in-Some.ensures.cases.1 c.in-Some-strip_suffix.ensures.cases.0
    c.in-Some-strip_suffix.ensures.cases.1

pub returns-in-None : goal.returns-in-None
returns-in-None c = sym (no_end c.args.name.now c.in-Some.inner.now (joined c.args.path.now) c.in-Some.ensures.cases.0 c.in-Some.ensures.cases.1 c.in-None.ensures.cases)
