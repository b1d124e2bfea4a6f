use Rattle.std.proofs.Common.{◌-◌, ◌++◌, ◌∙◌, List, ℕ, ap, length, take, drop}
use Rattle.index_tree.specs.Mapper.{joined}
use Rattle.index_definition.proofs.Joins.{joined-parts, dotted}
use Rattle.index_definition.proofs.paths.joined_name.Goals as goal

pub loop-part-init : goal.loop-part-init
loop-part-init c =
    let s = c.as_slice.result.now in
    ap (λ (x : List ℕ). x ++ dotted (take (length s - 1) (drop 1 s))) (c.in_ok-name.ensures.ok ∙ c.as_str.ensures)
    ∙ joined-parts s c.first-item.result c.as_slice.ensures.some c.first-item.is ∙ ap joined c.as_slice.ensures.parts
