use Rattle.std.proofs.Common.{◌≡◌, length, sym, ap, subst, ◌∙◌, arith}
use Rattle.paged_map.specs.Pairs.{IsRising}
use Rattle.paged_map.specs.Range.{between}
use Rattle.paged_map.proofs.Counting.{count_between}
use Rattle.paged_map.proofs.map.PagedMap.count_between.Goals as goal

pub returns-clause-count : goal.returns-clause-count
returns-clause-count g c =
    let R = g.K.Ord.cmp in
    let pairs = c.root-root.result.now.pairs in
    let all = count_between R g.met.K.Ord.total c.args.low.now c.args.high.now pairs (subst (λ ps. IsRising R ps) (sym c.root-root.ensures.pairs) c.root-root.ensures.rising) in
    let here : c.saturating_sub.result ≡ length (between R c.args.low.now c.args.high.now pairs) = omega (arith, all, c.saturating_sub.ensures, c.place.ensures, c.place-2.ensures) in
    here ∙ ap (λ ps. length (between R c.args.low.now c.args.high.now ps)) (c.root-root.ensures.pairs ∙ c.self.view_is)
