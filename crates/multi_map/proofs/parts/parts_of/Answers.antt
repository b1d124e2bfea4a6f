use Rattle.std.proofs.Common.{Bor, List, [], ◌∷◌, ◌+◌, ◌-◌, ◌++◌, length, map, option_copied, ap, sym, ◌∙◌}
use Rattle.std.proofs.lemmas.List.{map-append}
use Rattle.spec_index.specs.World.{Slot}
use Rattle.spec_server.specs.Several.{parts_from}
use Rattle.multi_map.proofs.Named.{part-found, part-none}
use Rattle.multi_map.proofs.parts.parts_of.Goals as goal

pub returns-in-None : goal.returns-in-None
returns-in-None c =
    part-none (length c.args.slots.now) c.loop-before.before c.args.name.now c.as_str.result.now c.args.slots.now (map (λ (s : Bor Slot). s.now) c.loop-before.parts.items) _ c.loop-before-test.true
    (c.as_str.ensures.value ∙ c.in_ok-part.ensures) (sym c.serving_in.ensures ∙ ap option_copied c.in-None.is) c.loop-before.invariant

pub loop-before-preserved : goal.loop-before-preserved
loop-before-preserved c =
    let rest = parts_from (length c.args.slots.now - (c.loop-before.before + 1)) (c.loop-before.before + 1 + 1) c.args.name.now c.args.slots.now in
    ap (λ (items : List (Bor Slot)). map (λ (s : Bor Slot). s.now) items ++ rest) c.in_ok-push-in-Some.ensures.items
    ∙ ap (λ (l : List Slot). l ++ rest) (map-append (λ (s : Bor Slot). s.now) c.loop-before.parts.items (c.in-Some.slot ∷ []))
    ∙ part-found (length c.args.slots.now) c.loop-before.before c.args.name.now c.as_str.result.now c.args.slots.now (map (λ (s : Bor Slot). s.now) c.loop-before.parts.items) _ c.in-Some.slot.now c.loop-before-test.true
    (c.as_str.ensures.value ∙ c.in_ok-part.ensures) (sym c.serving_in.ensures ∙ ap option_copied c.in-Some.is) c.loop-before.invariant
