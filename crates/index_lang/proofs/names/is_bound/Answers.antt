use Rattle.std.proofs.Common.{◌∙◌, sym, ap, ℕ, List, min, length, take}
use Rattle.std.specs.List.{list_any}
use Rattle.index_tree.specs.declared.map_query.Clause.{Clause}
use Rattle.index_lang.specs.Bound.{is_bound_by}
use Rattle.index_lang.proofs.Binding.{bound_first, bound_later}
use Rattle.index_lang.proofs.names.is_bound.Goals as goal

pub returns-then-eq : goal.returns-then-eq
returns-then-eq c = bound_first c.args.map.now c.args.count c.args.name.now c.eq.result c.eq.ensures c.if-eq.true

pub returns-else-eq : goal.returns-else-eq
returns-else-eq c = bound_later c.args.map.now c.args.count c.args.name.now c.has_bound.result (sym c.eq.ensures ∙ c.if-eq.false)
    (c.has_bound.ensures
    ∙ ap (λ (k : ℕ). list_any (is_bound_by c.args.name.now) (take k c.as_slice-clauses.result.now)) c.min.ensures
    ∙ ap (λ (cs : List Clause). list_any (is_bound_by c.args.name.now) (take (min c.args.count (length cs)) cs)) c.as_slice-clauses.ensures)
