use Rattle.std.proofs.Common.{◌≡◌, ◌+◌, ◌-◌, arith}
use Rattle.index_version.proofs.Tallies.{counted_out, entries_there, errors_there}
use Rattle.index_version.proofs.results.Results.take_out.Goals as goal

pub overflow_sub-entries : goal.overflow_sub-entries
overflow_sub-entries c = entries_there _ _ _ _ _ c.self.invariant c.tally_at-old.ensures.entries

pub overflow_sub-errors : goal.overflow_sub-errors
overflow_sub-errors c = errors_there _ _ _ _ _ c.self.invariant c.tally_at-old.ensures.errors

pub invariant_of-result : goal.invariant_of-result
invariant_of-result c =
    let old = c.tally_at-old.result in
    let all = c.self.inside.tally in
    let there = entries_there _ _ _ _ _ c.self.invariant c.tally_at-old.ensures.entries in
    let gone = errors_there _ _ _ _ _ c.self.invariant c.tally_at-old.ensures.errors in
    let of_entries : (all.entries - old.entries) + old.entries ≡ all.entries = omega (arith, there) in
    let of_errors : (all.errors - old.errors) + old.errors ≡ all.errors = omega (arith, gone) in
    counted_out _ _ _ _ _ _ _ _ _ c.self.invariant c.in_ok-take_out.ensures.pairs c.tally_at-old.ensures.entries c.tally_at-old.ensures.errors of_entries of_errors
