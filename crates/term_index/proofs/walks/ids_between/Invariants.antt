use Rattle.std.proofs.Common.{◌≡◌, ◌++◌}
use Rattle.paged_map.specs.Pairs.{IsRising}
use Rattle.paged_map.specs.Range.{between}
use Rattle.raven_value.specs.ScalarView.{test_view}
use Rattle.term_index.specs.Held.{passing}
use Rattle.term_index.specs.KeyView.{by_mark}
use Rattle.term_index.proofs.Runs.{AllFrom}
use Rattle.term_index.proofs.walks.ids_between.Given as goal

-- the terms that are left rise from the lower edge on
abbrev pub invariant-loop-pair : goal.invariant-loop-pair
invariant-loop-pair l = record {
  found : l.ids ++ passing (test_view l.test) l.exact l.pair-iterator ≡ passing (test_view l.test) l.exact (between by_mark l.low l.high l.terms);
  rising : IsRising by_mark l.pair-iterator;
  from : AllFrom l.low l.pair-iterator;
}
