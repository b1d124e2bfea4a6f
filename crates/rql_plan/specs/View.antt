-- What the types of the program are.
use Rattle.std.specs.Prelude.{List, map}
use Rattle.std.specs.Borrow.{Bor}
use Rattle.raven_value.specs.ScalarView.{test_view}
use Rattle.spec_query.specs.Condition.{Condition}
use Rattle.spec_query.specs.Query as q
use Rattle.rql_tree.specs.View as tree
use Rattle.rql_tree.specs.declared.field.Field.{Field}
use Rattle.rql_plan.specs.declared.condition.ConditionKind.{ConditionKind}
use Rattle.rql_plan.specs.declared.condition.ConditionKind.TheVariants as k

abbrev pub condition_of : ConditionKind → Condition
condition_of (k.Or a b) = Condition.Or a b
condition_of (k.And a b) = Condition.And a b
condition_of (k.Not a) = Condition.Not a
condition_of (k.Exact a) = Condition.Exact a
condition_of k.Always = Condition.Always
condition_of (k.Has field test) = Condition.Has field (test_view test)

-- a field that is lent
abbrev pub lent_field : Bor Field → q.Field
lent_field field = tree.field_of field.now

abbrev pub lent_fields : List (Bor Field) → List q.Field
lent_fields fields = map lent_field fields
