use Rattle.std.proofs.Common.{◌≡◌, ◌∙◌, List, true, ap, refl, rules, subst, sym}
use Rattle.spec_index.specs.World.{World, numbered}
use Rattle.spec_server.specs.Sound.{Sound}
use Rattle.spec_desk.specs.Lived.{Follows, Lived, Seen}
use Rattle.spec_desk.specs.Receipts.{AllLink}
use Rattle.raven_desk.proofs.Changes.{on_err}
use Rattle.spec_desk.proofs.Lacking.{stays_after, stays_once}
use Rattle.spec_desk.proofs.Later.{Follows-itself}
use Rattle.spec_desk.proofs.Onwards.{head, on_hold, onward_on}
use Rattle.raven_pump.proofs.Steps.{counts_of, idle_at, none_next, reads_at, some_named, some_next, taken_at}
use Rattle.raven_pump.proofs.Waiting.{read_waits}
use Rattle.raven_pump.proofs.indexing.turn_index.Goals as goal

pub returns-in_err-shot-clause-onward : goal.returns-in_err-shot-clause-onward
returns-in_err-shot-clause-onward g c = let l = c.look.ensures in on_hold c.args.pass.now.seen c.look.new.pass.seen l.0 l.0 l.1 (Follows-itself l.0) l.3.2

pub returns-in_default-clause-onward : goal.returns-in_default-clause-onward
returns-in_default-clause-onward g c = let l = c.look.ensures in on_hold c.args.pass.now.seen c.look.new.pass.seen l.0 l.0 l.1 (Follows-itself l.0) l.3.2

pub returns-in_err-next-clause-onward : goal.returns-in_err-next-clause-onward
returns-in_err-next-clause-onward g c = let l = c.look.ensures in on_hold c.args.pass.now.seen c.look.new.pass.seen l.0 l.0 l.1 (Follows-itself l.0) l.3.2

pub returns-in_default-next-clause-turned : goal.returns-in_default-next-clause-turned
returns-in_default-next-clause-turned g c =
    let l = c.in_ok-shot.ensures in
    let s = c.in-Some.slot.now in
    let W = c.world.result.now in
    let at : W ≡ l.0.world = c.world.ensures.world ∙ ap (λ (k : Seen). k.world) l.2 in
    let here = c.seen.view_is ∙ c.parts-seen.ensures in
    let store : c.seen.inside.store.now ≡ W.store = ap (λ (V : World). V.store) here in
    let r = reads_at c.args.pass.now.seen c.args.number c.args.max l.0 W c.seen.inside.store.now s true c.args.steps.now c.read.new.steps l.1 at store (subst Sound (sym c.world.ensures.world) c.world.ensures.sound)
    (ap (λ (V : World). numbered V.slots c.args.number) (sym here) ∙ sym c.in-Some.ensures) c.in_ok-next.ensures.bounds in
    idle_at c.args.pass.now.seen c.look.new.pass.seen c.args.number c.args.max l.0 s c.args.steps.now c.read.new.steps r c.requires.some
    (none_next _ c.in_ok-next.next s.version c.seen.inside.store.now l.0.world.store c.args.max c.in_ok-next.ensures.version c.in_default-next.is (store ∙ ap (λ (V : World). V.store) at)) l.3.2

pub returns-in_default-next-clause-onward : goal.returns-in_default-next-clause-onward
returns-in_default-next-clause-onward g c = let l = c.look.ensures in on_hold c.args.pass.now.seen c.look.new.pass.seen l.0 l.0 l.1 (Follows-itself l.0) l.3.2

pub with-requires-clause-needs : goal.with-requires-clause-needs
with-requires-clause-needs g c =
    let l = c.in_ok-shot.ensures in
    let s = c.in-Some.slot.now in
    let W = c.world.result.now in
    let at : W ≡ l.0.world = c.world.ensures.world ∙ ap (λ (k : Seen). k.world) l.2 in
    let here = c.seen.view_is ∙ c.parts-seen.ensures in
    let store : c.seen.inside.store.now ≡ W.store = ap (λ (V : World). V.store) here in
    let batch_is = some_next _ c.in_ok-next.next c.in-Some-next.version s.version c.seen.inside.store.now l.0.world.store c.args.max c.in_ok-next.ensures.version c.in-Some-next.is (store ∙ ap (λ (V : World). V.store) at) in
    let live = ap (λ (V : World). numbered V.slots c.args.number) (sym (here ∙ at)) ∙ sym c.in-Some.ensures in
    let sound : Sound l.0.world = subst (λ (k : Seen). Sound k.world) l.2 c.world.ensures.sound in
    λ x after. (
      l.0,
      read_waits l.0.world c.args.number c.args.max s c.in-Some-next.version.value sound live batch_is (some_named _ c.in_ok-next.next c.in-Some-next.version c.in_ok-next.ensures.named c.in-Some-next.is),
      head Follows l.0 x (subst (λ (seen : List Lived). AllLink Follows seen x) l.3.2 after),
    )

pub returns-in_err-_found-clause-turned : goal.returns-in_err-_found-clause-turned
returns-in_err-_found-clause-turned g c =
    let l = c.in_ok-shot.ensures in
    let s = c.in-Some.slot.now in
    let W = c.world.result.now in
    let at : W ≡ l.0.world = c.world.ensures.world ∙ ap (λ (k : Seen). k.world) l.2 in
    let here = c.seen.view_is ∙ c.parts-seen.ensures in
    let store : c.seen.inside.store.now ≡ W.store = ap (λ (V : World). V.store) here in
    let r = reads_at c.args.pass.now.seen c.args.number c.args.max l.0 W c.seen.inside.store.now s true c.args.steps.now c.read.new.steps l.1 at store (subst Sound (sym c.world.ensures.world) c.world.ensures.sound)
    (ap (λ (V : World). numbered V.slots c.args.number) (sym here) ∙ sym c.in-Some.ensures) c.in_ok-next.ensures.bounds in
    (l.0, l.1, counts_of c.args.pass.now.seen c.args.number c.args.max l.0 s true _ c.args.steps.now c.read.new.steps r (λ e. refl), search rules)

pub returns-in_err-_found-clause-onward : goal.returns-in_err-_found-clause-onward
returns-in_err-_found-clause-onward g c =
    let l = c.look.ensures in
    let w = c.with.ensures in
    onward_on c.args.pass.now.seen c.look.new.pass.seen c.with.new.pass.seen (on_hold c.args.pass.now.seen c.look.new.pass.seen l.0 l.0 l.1 (Follows-itself l.0) l.3.2)
    (on_hold c.look.new.pass.seen c.with.new.pass.seen w.0 w.1 w.2 w.3 w.5.2)

pub returns-clause-turned : goal.returns-clause-turned
returns-clause-turned g c =
    let l = c.in_ok-shot.ensures in
    let w = c.in_ok-_found.ensures in
    let s = c.in-Some.slot.now in
    let W = c.world.result.now in
    let at : W ≡ l.0.world = c.world.ensures.world ∙ ap (λ (k : Seen). k.world) l.2 in
    let here = c.seen.view_is ∙ c.parts-seen.ensures in
    let store : c.seen.inside.store.now ≡ W.store = ap (λ (V : World). V.store) here in
    let r = reads_at c.args.pass.now.seen c.args.number c.args.max l.0 W c.seen.inside.store.now s true c.args.steps.now c.read.new.steps l.1 at store (subst Sound (sym c.world.ensures.world) c.world.ensures.sound)
    (ap (λ (V : World). numbered V.slots c.args.number) (sym here) ∙ sym c.in-Some.ensures) c.in_ok-next.ensures.bounds in
    taken_at c.args.pass.now.seen c.with.new.pass.seen c.args.number c.args.max l.0 s c.args.steps.now c.read.new.steps c.in-Some-next.version.value.version w.0 w.1 c.in_ok-_found.turned r
    (some_next _ c.in_ok-next.next c.in-Some-next.version s.version c.seen.inside.store.now l.0.world.store c.args.max c.in_ok-next.ensures.version c.in-Some-next.is (store ∙ ap (λ (V : World). V.store) at))
    (head Follows l.0 w.0 (subst (λ (seen : List Lived). AllLink Follows seen w.0) l.3.2 w.2)) w.4.0 w.3 w.5.2

pub returns-clause-onward : goal.returns-clause-onward
returns-clause-onward g c =
    let l = c.look.ensures in
    let w = c.with.ensures in
    onward_on c.args.pass.now.seen c.look.new.pass.seen c.with.new.pass.seen (on_hold c.args.pass.now.seen c.look.new.pass.seen l.0 l.0 l.1 (Follows-itself l.0) l.3.2)
    (on_hold c.look.new.pass.seen c.with.new.pass.seen w.0 w.1 w.2 w.3 w.5.2)

-- WHERE MEMORY RAN OUT

pub returns-in_err-shot-clause-lacked : goal.returns-in_err-shot-clause-lacked
returns-in_err-shot-clause-lacked g c =
    let l = c.look.ensures in
    on_err c.from_residual.result _ (stays_once c.args.pass.now.seen c.look.new.pass.seen l.0 l.0 l.1 (refl, refl) (Follows-itself l.0) l.3.2)

pub returns-in_err-next-clause-lacked : goal.returns-in_err-next-clause-lacked
returns-in_err-next-clause-lacked g c =
    let l = c.look.ensures in
    on_err c.from_residual-in_err-next.result _ (stays_once c.args.pass.now.seen c.look.new.pass.seen l.0 l.0 l.1 (refl, refl) (Follows-itself l.0) l.3.2)

pub returns-in_err-_found-clause-lacked : goal.returns-in_err-_found-clause-lacked
returns-in_err-_found-clause-lacked g c =
    let l = c.look.ensures in
    let w = c.in_err-_found.ensures in
    on_err c.from_residual-in_err-_found.result _
    (stays_after c.args.pass.now.seen c.look.new.pass.seen c.with.new.pass.seen (on_hold c.args.pass.now.seen c.look.new.pass.seen l.0 l.0 l.1 (Follows-itself l.0) l.3.2)
    (stays_once c.look.new.pass.seen c.with.new.pass.seen w.0 w.1 w.2 w.4.2 w.3 w.5.2))
