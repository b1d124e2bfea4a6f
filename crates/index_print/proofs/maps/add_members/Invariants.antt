use Rattle.std.proofs.Common.{◌≡◌, ◌++◌, drop, map, string_bytes}
use Rattle.index_print.specs.Print.{listed, member}
use Rattle.index_print.proofs.Lists.{goes_on}
use Rattle.index_print.proofs.maps.add_members.Given as goal

abbrev pub invariant-loop-field : goal.invariant-loop-field
invariant-loop-field l = string_bytes l.out ++ goes_on l.later (map member (drop l.field-index l.field-items)) ≡ string_bytes l.fn.out ++ listed (map member l.members)
