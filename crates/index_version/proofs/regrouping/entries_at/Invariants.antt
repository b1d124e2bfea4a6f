use Rattle.std.proofs.Common.{◌≡◌, ◌++◌, drop}
use Rattle.index_groups.specs.Groups.{HaveWords, fields_of}
use Rattle.index_version.specs.Reduced.{entries_at, fields_given}
use Rattle.index_version.proofs.regrouping.entries_at.Given as goal

-- those of the ids that are left have still to be found
abbrev pub invariant-loop-id : goal.invariant-loop-id
invariant-loop-id l = record {
  entries : l.entries.items ++ entries_at l.all (drop l.id-index l.ids) ≡ entries_at l.all l.ids;
  words : HaveWords (fields_of fields_given l.entries.items);
}
