use Rattle.std.proofs.Common.{◌≡◌, ◌∙◌, ◌∷◌, [], ◌++◌, Some, ap, arith, refl, subst, sym}
use Rattle.atomic_table.specs.Table.{opening}
use Rattle.raven_turn.specs.Rules.{Keeps, idle}
use Rattle.raven_turn.proofs.Steps.{begins}
use Rattle.raven_turn.proofs.turn.Turn.new.Goals as goal

pub new-requires : goal.new-requires
new-requires g c =
    let x = c.of.result.value in
    let slots : c.push_reserved.new.self.items ≡ Some x ∷ [] = c.push_reserved.ensures.items ∙ ap (λ l. l ++ Some c.args.value ∷ []) c.in-Ok.ensures.items ∙ ap (λ v. Some v ∷ []) (sym c.of.ensures) in
    subst (λ l. Keeps g.V.Grows.later g.V.Grows.made c.args.shares (g.V.Grows.made x) (opening (0 ∷ []) l (idle c.args.shares 0 (x ∷ [])))) (sym slots)
    (begins g.V.Grows.later g.V.Grows.made c.args.shares (g.V.Grows.made x) x g.met.V.Grows.reflexive refl (omega (arith, c.ranges.shares.fits)) (omega (arith, c.requires)))
