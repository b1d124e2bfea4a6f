use Rattle.std.proofs.Common.{List, ◌++◌, Bool, false, ap, ◌∙◌}
use Rattle.std.specs.Borrow.{Bor}
use Rattle.raven_value.specs.declared.matching.Test.{Test}
use Rattle.rql_filter.specs.OneField.{lent_tests, tests_of}
use Rattle.rql_filter.proofs.OneField.{count_differing, tests_decide}
use Rattle.rql_filter.proofs.filter.count_differing.Goals as goal

pub count-requires : goal.count-requires
count-requires g c =
    tests_decide c.args.condition.now c.args.missing _
    (ap (λ (ts : List (Bor Test × Bool)). lent_tests ts) c.deref.ensures.value
    ∙ (c.in_ok-add_tests.ensures
    ∙ ap (λ (ts : List (Bor Test × Bool)). lent_tests ts ++ tests_of c.args.condition.now false) c.new-tests.ensures.items))

pub returns : goal.returns
returns g c =
    count_differing c.args.condition.now c.args.missing c.args.field.now c.as_str.result.now (g.E.Entries.entries c.args.entries.now) c.args.terms.now c.in_ok-count.field-0
    c.requires.missing c.requires.field c.requires.terms c.as_str.ensures c.in_ok-count.ensures
