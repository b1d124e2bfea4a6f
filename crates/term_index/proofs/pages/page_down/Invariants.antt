use Rattle.std.proofs.Common.{◌≡◌, ◌≤◌, ◌++◌, Bool, true, length, map, take, drop}
use Rattle.spec_data.specs.Folding.{folded}
use Rattle.spec_query.specs.Sorting.{sorted}
use Rattle.paged_map.specs.Range.{between}
use Rattle.term_index.specs.Held.{held}
use Rattle.term_index.specs.KeyView.{by_mark}
use Rattle.term_index.specs.Lines.{AllInLine}
use Rattle.term_index.specs.Ordered.{by_value}
use Rattle.term_index.proofs.pages.page_down.Given as goal

-- of the terms that are left, the page so far and what follows it are the page
abbrev pub invariant-loop-left : goal.invariant-loop-left
invariant-loop-left l = record {
  within : l.end ≤ length (between by_mark l.low l.high l.terms);
  found : (long : Bool) → AllInLine long (held (between by_mark l.low l.high l.terms)) →
      map folded l.ids.items ++ map (λ e. e.0) (take l.left (drop l.skip (sorted (by_value long true) (take l.end (held (between by_mark l.low l.high l.terms)))))) ≡ map (λ e. e.0) (take l.size (drop l.start (sorted (by_value long true) (held (between by_mark l.low l.high l.terms)))));
}

abbrev pub decreases-loop-left : goal.decreases-loop-left
decreases-loop-left l = l.left
