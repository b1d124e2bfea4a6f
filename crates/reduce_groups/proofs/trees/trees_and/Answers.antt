use Rattle.std.proofs.Common.{ap, ◌∙◌}
use Rattle.std.proofs.lemmas.Result.{IfOk-weaker}
use Rattle.std.specs.BTreeMap.{insert_entry}
use Rattle.reduce_groups.proofs.trees.trees_and.Goals as goal

pub put-requires-clause-keys : goal.put-requires-clause-keys
put-requires-clause-keys g c = g.met.G.Exact.exact

pub put-requires-clause-values : goal.put-requires-clause-values
put-requires-clause-values g c = λ x y same. same

pub returns : goal.returns
returns g c =
    IfOk-weaker c.put.result _ _ (λ m e.
    e ∙ ap (λ k. insert_entry g.G.Ord.cmp c.args.trees k c.in_ok-of.field-0) (g.met.G.Exact.exact c.args.group.now c.in_ok-clone.field-0 c.in_ok-clone.ensures.cases)
    ∙ ap (insert_entry g.G.Ord.cmp c.args.trees c.args.group.now) c.in_ok-of.ensures) c.put.ensures.pairs
