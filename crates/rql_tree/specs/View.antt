-- What the trees of the program say.
use Rattle.std.specs.Prelude.{map}
use Rattle.raven_value.specs.ScalarView.{scalar_view}
use Rattle.spec_query.specs.Query as q
use Rattle.rql_tree.specs.declared.condition.CondKind.{CondKind}
use Rattle.rql_tree.specs.declared.condition.CondKind.TheVariants as k
use Rattle.rql_tree.specs.declared.field.Field.{Field}
use Rattle.rql_tree.specs.declared.field.Field.TheVariants as f
use Rattle.rql_tree.specs.declared.operand.CompareOp.{CompareOp}
use Rattle.rql_tree.specs.declared.operand.CompareOp.TheVariants as c
use Rattle.rql_tree.specs.declared.operand.Operand.{Operand}
use Rattle.rql_tree.specs.declared.operand.Operand.TheVariants as p
use Rattle.rql_tree.specs.declared.query.Origin.{Origin}
use Rattle.rql_tree.specs.declared.query.Origin.TheVariants as o

abbrev pub origin_of : Origin → q.Origin
origin_of (o.Index name) = q.OfIndex name
origin_of (o.Collection name) = q.OfCollection name

abbrev pub field_of : Field → q.Field
field_of (f.Path path) = q.At path
field_of f.Count = q.Count
field_of (f.Sum path) = q.Sum path

abbrev pub operand_of : Operand → q.Operand
operand_of (p.Const value) = q.Const (scalar_view value)
operand_of (p.Parameter name) = q.Parameter name

abbrev pub op_of : CompareOp → q.CompareOp
op_of c.Is = q.Is
op_of c.Not = q.CompareOp.Not
op_of c.Below = q.Below
op_of c.AtMost = q.AtMost
op_of c.Above = q.Above
op_of c.AtLeast = q.AtLeast

abbrev pub cond_of : CondKind → q.Cond
cond_of (k.Or a b) = q.Cond.Or a b
cond_of (k.And a b) = q.Cond.And a b
cond_of (k.Not a) = q.Cond.Not a
cond_of (k.Exact a) = q.Cond.Exact a
cond_of k.True = q.Cond.True
cond_of (k.Starts field value) = q.Cond.Starts (field_of field) (operand_of value)
cond_of (k.Exists field) = q.Cond.Exists (field_of field)
cond_of (k.Compare field op value) = q.Cond.Compare (field_of field) (op_of op) (operand_of value)
cond_of (k.Between field low high) = q.Cond.Between (field_of field) (operand_of low) (operand_of high)
cond_of (k.In field values) = q.Cond.In (field_of field) (map operand_of values)
