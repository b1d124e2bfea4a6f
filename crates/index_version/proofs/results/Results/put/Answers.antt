use Rattle.std.proofs.Common.{◌≡◌, ◌+◌, ◌-◌, ap, arith, ◌∙◌}
use Rattle.std.specs.BTreeMap.{insert_entry}
use Rattle.reference_track.specs.Sets.{id_cmp}
use Rattle.index_version.proofs.Tallies.{Replaced, counted_put, entries_put, entries_there, errors_put, errors_there, few_entries, few_errors}
use Rattle.index_version.proofs.results.Results.put.Goals as goal
use Rattle.index_version.proofs.results.Results.put.Goals.{In_ok-all}

replaced : (c : In_ok-all) → Replaced c.self.inside.given c.in_ok-all.all c.args.id c.args.given c.self.inside.tally.entries c.self.inside.tally.errors c.tally_at-old.result.entries c.tally_at-old.result.errors c.tally-new.result.entries c.tally-new.result.errors
replaced c = record {
  counted = c.self.invariant;
  put = c.in_ok-all.ensures.pairs ∙ ap (λ g. insert_entry id_cmp c.self.inside.given c.args.id g) c.in_ok-shared.ensures;
  old_entry = c.tally_at-old.ensures.entries;
  old_error = c.tally_at-old.ensures.errors;
  new_entry = c.tally-new.ensures.entries;
  new_error = c.tally-new.ensures.errors;
}

pub overflow_sub-entries : goal.overflow_sub-entries
overflow_sub-entries c = entries_there _ _ _ _ _ c.self.invariant c.tally_at-old.ensures.entries

pub overflow_add-entries : goal.overflow_add-entries
overflow_add-entries c =
    let all = entries_put _ _ _ _ _ _ _ _ _ _ (replaced (goal.at.overflow_add-entries c).In_ok-all) in
    let there = entries_there _ _ _ _ _ c.self.invariant c.tally_at-old.ensures.entries in
    omega (arith, all, there, few_entries c.in_ok-all.all, c.len-all.ensures.count)

pub overflow_sub-errors : goal.overflow_sub-errors
overflow_sub-errors c = errors_there _ _ _ _ _ c.self.invariant c.tally_at-old.ensures.errors

pub overflow_add-errors : goal.overflow_add-errors
overflow_add-errors c =
    let all = errors_put _ _ _ _ _ _ _ _ _ _ (replaced (goal.at.overflow_add-errors c).In_ok-all) in
    let there = errors_there _ _ _ _ _ c.self.invariant c.tally_at-old.ensures.errors in
    omega (arith, all, there, few_errors c.in_ok-all.all, c.len-all.ensures.count)

pub invariant_of-result : goal.invariant_of-result
invariant_of-result c =
    let old = c.tally_at-old.result in
    let new = c.tally-new.result in
    let all = c.self.inside.tally in
    let there = entries_there _ _ _ _ _ c.self.invariant c.tally_at-old.ensures.entries in
    let gone = errors_there _ _ _ _ _ c.self.invariant c.tally_at-old.ensures.errors in
    let of_entries : (all.entries - old.entries + new.entries) + old.entries ≡ all.entries + new.entries = omega (arith, there) in
    let of_errors : (all.errors - old.errors + new.errors) + old.errors ≡ all.errors + new.errors = omega (arith, gone) in
    counted_put _ _ _ _ _ _ _ _ _ _ _ _ (replaced (goal.at.invariant_of-result c).In_ok-all) of_entries of_errors
