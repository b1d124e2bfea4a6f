use Rattle.std.proofs.Common.{◌≡◌, ◌∷◌, [], IfOk, subst}
use Rattle.std.specs.Result.{is_ok}
use Rattle.spec_server.specs.Batches.{or_as_before}
use Rattle.slot_batches.proofs.Counting.{whether}
use Rattle.slot_batches.proofs.batches.advanced.Goals as goal

pub returns-clause-slot : goal.returns-clause-slot
returns-clause-slot g c =
    let s = c.args.slot.now in
    subst (λ b. IfOk c.brought_to.result (λ new. new.0 ≡ record { number = s.number; name = s.name; version = or_as_before s.version b; row = s.row })) c.in_ok-version.ensures.version c.brought_to.ensures.slot

pub returns-clause-pumped : goal.returns-clause-pumped
returns-clause-pumped g c =
    let s = c.args.slot.now in
    subst (λ b. IfOk c.brought_to.result (λ new. new.1 ≡ record { from = s.version.etag; index = s.name; to = (or_as_before s.version b).etag })) c.in_ok-version.ensures.version c.brought_to.ensures.pumped

pub returns-clause-bounds : goal.returns-clause-bounds
returns-clause-bounds g c =
    whether c.args.store.now c.args.max (c.args.slot.now ∷ []) (is_ok c.brought_to.result) c.args.steps.now c.read.new.steps c.in_ok-version.ensures.bounds
