use Rattle.std.proofs.Common.{option_map}
use Rattle.spec_data.specs.Folding.{folded}
use Rattle.raven_value.specs.ScalarView.{scalar_view}
use Rattle.term_index.proofs.Changes.{unchanged}
use Rattle.term_index.proofs.column.Column.replace.Goals as goal

pub returns-then-are_same : goal.returns-then-are_same
returns-then-are_same c =
    unchanged (folded c.args.id.now) (option_map (λ v. scalar_view v.now) c.args.old) (option_map (λ v. scalar_view v.now) c.args.new) c.args.self c.requires (c.are_same.ensures c.if-are_same.true)
