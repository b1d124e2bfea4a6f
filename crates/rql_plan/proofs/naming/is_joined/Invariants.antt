use Rattle.std.proofs.Common.{◌≡◌, length}
use Rattle.std.specs.Str.{bytes_eq}
use Rattle.index_tree.specs.Mapper.{joined}
use Rattle.rql_plan.proofs.naming.is_joined.Given as goal

-- the parts that are left are the rest if all parts are the name
abbrev pub invariant-loop-part : goal.invariant-loop-part
invariant-loop-part l = bytes_eq (joined l.parts) l.rest ≡ bytes_eq (joined l.path) l.name

abbrev pub decreases-loop-part : goal.decreases-loop-part
decreases-loop-part l = length l.parts
