use Rattle.std.proofs.Common.{◌≡◌, ◌++◌, drop, map, string_bytes}
use Rattle.index_print.specs.Print.{listed, fold_member}
use Rattle.index_print.proofs.Lists.{goes_on}
use Rattle.index_print.proofs.reduces.add_members.Given as goal

abbrev pub invariant-loop-field : goal.invariant-loop-field
invariant-loop-field l =
    string_bytes l.out ++ goes_on l.later (map (fold_member l.fn.group l.names) (drop l.field-index l.field-items))
    ≡ string_bytes l.fn.out ++ listed (map (fold_member l.fn.group l.names) l.members)
