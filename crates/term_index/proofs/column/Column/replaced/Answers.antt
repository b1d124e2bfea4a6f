use Rattle.std.proofs.Common.{option_map, sym, ap, ◌∙◌}
use Rattle.std.specs.FinMap.{find, get}
use Rattle.spec_data.specs.Folding.{folded, key_cmp}
use Rattle.raven_value.specs.ScalarView.{scalar_view}
use Rattle.term_index.specs.Held.{held}
use Rattle.term_index.proofs.Changes.{find-values, gone_itself, replaced}
use Rattle.term_index.proofs.column.Column.replaced.Goals as goal

pub without_value-requires-clause-old : goal.without_value-requires-clause-old
without_value-requires-clause-old c = sym (find-values (folded c.args.id.now) (held c.self.inside.terms)) ∙ (ap (λ m. get m (folded c.args.id.now)) c.self.view_is ∙ c.requires)

pub with_value-requires-clause-new : goal.with_value-requires-clause-new
with_value-requires-clause-new c = c.in_ok-less.ensures.values (folded c.args.id.now) ∙ gone_itself (folded c.args.id.now) (find key_cmp (folded c.args.id.now) (held c.self.inside.terms))

pub returns : goal.returns
returns c =
    replaced (folded c.args.id.now) (option_map (λ v. scalar_view v.now) c.args.new) (held c.self.inside.terms) (held c.in_ok-less.less) (held c.in_ok-with_value.field-0) c.args.self
    c.self.view_is c.in_ok-less.ensures.values c.in_ok-with_value.ensures.values
