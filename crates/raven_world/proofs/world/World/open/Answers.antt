use Rattle.std.proofs.Common.{◌≡◌, ◌<◌, ◌≤◌, ◌∙◌, List, Some, None, get_or, if◌then◌else◌, length, ap, subst, sym}
use Rattle.spec_data.specs.Rows.{Row}
use Rattle.doc_txn.specs.SettingView.{setting_of}
use Rattle.index_lang.specs.Openings.{EndsAt, OpensAs}
use Rattle.spec_server.specs.Opening.{slots_after}
use Rattle.spec_store.specs.Store.{Store, last}
use Rattle.spec_index.specs.World.{World}
use Rattle.spec_server.specs.Machine.{machine_of}
use Rattle.side_by_side.specs.Standing.{Standing, world_of}
use Rattle.raven_world.specs.Opened.{read_as}
use Rattle.raven_world.specs.Roomy.{NumbersUpTo}
use Rattle.raven_world.proofs.Openings.{all-read, ends-here, one-read, opened-numbers, opened-rise, opens, rows-rise}
use Rattle.raven_world.proofs.world.World.open.Goals as goal

pub returns-then-not-branch-clause-fault : goal.returns-then-not-branch-clause-fault
returns-then-not-branch-clause-fault c =
    let s = setting_of c.args.base c.args.limits in
    let rows = c.args.rows.now in
    let r = c.get-row.result.now in
    let own = c.as_slice-shared-items.ensures in
    let here = subst (λ (x : Row). get_or rows c.loop-count.count x ≡ x) (sym c.get-row.ensures) (ap (λ (xs : List Row). get_or xs c.loop-count.count c.shared-item.result) (sym own) ∙ sym c.shared-item.is) in
    let take = c.in_ok-take_row.ensures in
    let ends = ends-here s rows c.loop-count.count c.loop-count.slots.items (read_as r take.definition)
    (subst (λ (xs : List Row). c.loop-count.count < length xs) own c.loop-count-test.true)
    here
    take.right
    (ap (λ good. if good then Some c.take_row.new.slots.items else None) (sym c.if-not-branch.true) ∙ take.taken c.args.base ∙ ap (λ (S : Store). slots_after s S.rows c.loop-count.count c.loop-count.slots.items (read_as r take.definition)) c.requires.stored)
    c.loop-count.invariant in
    subst (λ (y : Row). EndsAt s rows y.etag) (sym c.row.view_is) ends

pub loop-count-preserved : goal.loop-count-preserved
loop-count-preserved c =
    let s = setting_of c.args.base c.args.limits in
    let rows = c.args.rows.now in
    let r = c.get-row.result.now in
    let own = c.as_slice-shared-items.ensures in
    let here = subst (λ (x : Row). get_or rows c.loop-count.count x ≡ x) (sym c.get-row.ensures) (ap (λ (xs : List Row). get_or xs c.loop-count.count c.shared-item.result) (sym own) ∙ sym c.shared-item.is) in
    let take = c.in_ok-take_row.ensures in
    one-read s rows c.loop-count.count c.loop-count.slots.items c.take_row.new.slots.items (read_as r take.definition)
    (subst (λ (xs : List Row). c.loop-count.count < length xs) own c.loop-count-test.true)
    here
    take.right
    (ap (λ good. if good then Some c.take_row.new.slots.items else None) (sym c.if-not-branch.false) ∙ take.taken c.args.base ∙ ap (λ (S : Store). slots_after s S.rows c.loop-count.count c.loop-count.slots.items (read_as r take.definition)) c.requires.stored)
    c.loop-count.invariant

pub of-requires : goal.of-requires
of-requires c =
    opened-rise (setting_of c.args.base c.args.limits) c.args.rows.now c.loop-count.count c.loop-count.slots.items (all-read (setting_of c.args.base c.args.limits) c.args.rows.now c.loop-count.count c.loop-count.slots.items (subst (λ (xs : List Row). length xs ≤ c.loop-count.count) c.as_slice-shared-items.ensures c.loop-count-test.false) c.loop-count.invariant) (rows-rise c.args.store c.args.rows.now c.requires.stored c.last-last.ensures.store) c.loop-count.invariant

pub of_parts-requires : goal.of_parts-requires
of_parts-requires c =
    let numbers = opened-numbers (setting_of c.args.base c.args.limits) c.args.rows.now c.loop-count.count c.loop-count.slots.items (all-read (setting_of c.args.base c.args.limits) c.args.rows.now c.loop-count.count c.loop-count.slots.items (subst (λ (xs : List Row). length xs ≤ c.loop-count.count) c.as_slice-shared-items.ensures c.loop-count-test.false) c.loop-count.invariant) (rows-rise c.args.store c.args.rows.now c.requires.stored c.last-last.ensures.store) c.loop-count.invariant in
    subst (λ (x : Standing). NumbersUpTo (last c.args.store) x.slots) (sym c.in_ok-live.ensures) (subst (λ (S : Store). NumbersUpTo (last S) c.loop-count.slots.items) (sym c.requires.stored) numbers)

pub returns-clause-opened : goal.returns-clause-opened
returns-clause-opened c =
    let s = setting_of c.args.base c.args.limits in
    subst (λ (W : World). OpensAs s c.args.rows.now (machine_of W)) (sym (c.of_parts.ensures ∙ ap (λ (x : Standing). world_of s c.args.store x) c.in_ok-live.ensures))
    (opens s c.args.rows.now c.loop-count.count c.args.store c.loop-count.slots.items (all-read (setting_of c.args.base c.args.limits) c.args.rows.now c.loop-count.count c.loop-count.slots.items (subst (λ (xs : List Row). length xs ≤ c.loop-count.count) c.as_slice-shared-items.ensures c.loop-count-test.false) c.loop-count.invariant) c.requires.stored c.loop-count.invariant)
