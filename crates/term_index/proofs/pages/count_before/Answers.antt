use Rattle.std.proofs.Common.{length, ap, ◌∙◌}
use Rattle.std.specs.Cmp.{on_total}
use Rattle.term_index.specs.KeyView.{by_mark, mark_of}
use Rattle.term_index.specs.Totals.{marks_total}
use Rattle.term_index.proofs.Lined.{all_from_first, none_at_edge}
use Rattle.term_index.proofs.Places.{under_is}
use Rattle.term_index.proofs.pages.count_before.Goals as goal

pub returns : goal.returns
returns c =
    let terms = c.args.terms.now in
    c.count_between.ensures.count
    ∙ ap length (under_is by_mark (on_total mark_of marks_total) c.in_ok-first.first c.args.edge.now terms (all_from_first c.in_ok-first.first terms c.in_ok-first.ensures c.requires.terms) (none_at_edge c.args.edge.now terms c.requires.edge c.requires.terms))
