use Rattle.std.proofs.Common.{ℕ, List, nat_eq, codes, ◌∙◌, ap, sym}
use Rattle.std.specs.List.{starts_with}
use Rattle.spec_data.specs.Folding.{folded}
use Rattle.raven_world.proofs.Openings.{replacement-boundary}
use Rattle.raven_world.proofs.naming.replaced.Goals as goal

pub range_from-requires : goal.range_from-requires
range_from-requires c = λ _.
    replacement-boundary c.args.text.now
    (ap (λ (t : List ℕ). starts_with nat_eq (folded t) (codes "replacementof/")) (sym c.as_bytes.ensures.value) ∙ sym c.starts_folded.ensures ∙ c.if-starts_folded.true)
    c.utf8.text
