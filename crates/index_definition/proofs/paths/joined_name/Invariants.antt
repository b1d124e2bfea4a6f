use Rattle.std.proofs.Common.{◌≡◌, ◌++◌, drop, string_bytes}
use Rattle.index_tree.specs.Mapper.{joined}
use Rattle.index_definition.proofs.Joins.{dotted}
use Rattle.index_definition.proofs.paths.joined_name.Given as goal

abbrev pub invariant-loop-part : goal.invariant-loop-part
invariant-loop-part l = string_bytes l.name ++ dotted (drop l.part-index l.more) ≡ joined l.path
