use Rattle.std.proofs.Common.{false, ◌∙◌}
use Rattle.paged_map.proofs.Runs.{find_run}
use Rattle.paged_map.proofs.Walk.{from_found, from_are, run_walked}
use Rattle.paged_map.proofs.pairs.Pairs.from.Goals as goal

pub invariant_of-result : goal.invariant_of-result
invariant_of-result g c = (c.requires, run_walked g.K.Ord.cmp g.met.K.Ord.total c.args.root.now.pairs false c.args.key.now c.run_from.result.now c.requires c.run_from.ensures)

pub returns : goal.returns
returns g c =
    let xs = c.args.root.now.pairs in
    from_found g.K.Ord.cmp g.met.K.Ord.total false c.args.key.now xs c.requires _ (find_run _ xs c.run_from.result.now c.run_from.ensures) ∙ from_are g.K.Ord.cmp g.met.K.Ord.total c.args.key.now xs c.requires
