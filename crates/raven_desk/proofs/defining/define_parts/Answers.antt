use Rattle.std.proofs.Common.{◌∷◌, List, length, sym, ap, ◌∙◌, subst, arith}
use Rattle.std.specs.Vec.Iter.{into_iter_items}
use Rattle.index_lang.specs.ByTexts.{Named}
use Rattle.spec_desk.specs.Stepped.{world_after}
use Rattle.raven_reply.specs.ReplyView.{reply_view}
use Rattle.raven_desk.proofs.Definings.{Goes, begins_as, ends, goes_on, left_as, not_defined, nothing_left, refused}
use Rattle.raven_desk.proofs.defining.define_parts.Goals as goal
use Rattle.raven_desk.proofs.defining.define_parts.Goals.{In-Some, In-None}

pub loop-part-init : goal.loop-part-init
loop-part-init c =
    let same = c.into_iter-part-iterator.ensures.into_iter_gives.0 in
    record {
      going = begins_as c.args.now c.args.parts.items c.args.world.now _ _ _ c.new-changes.ensures.items same c.new-names.ensures;
      left = c.into_iter-part-iterator.ensures.into_iter_gives.1 ∙ c.args.parts.ok.0 ∙ ap length (sym same);
    }

-- the part is the first of those that are left
going : (c : In-Some) → Goes c.args.now c.args.parts.items c.args.world.now c.loop-part.changes.items (c.in-Some.part ∷ into_iter_items c.next.new.self) c.loop-part.names
going c = subst (λ (l : List Named). Goes c.args.now c.args.parts.items c.args.world.now c.loop-part.changes.items l c.loop-part.names) c.in-Some.ensures.steps.0 c.loop-part.invariant.going

pub returns-in-Err-Refused : goal.returns-in-Err-Refused
returns-in-Err-Refused c =
    let W = c.args.world.now in
    let changes = c.loop-part.changes.items in
    let at = c.world_after.ensures ∙ ap (world_after W) c.deref.ensures.value in
    rw c.in-Err-Refused.field-0-is
    (refused c.args.now c.args.parts.items W changes c.in-Some.part (into_iter_items c.next.new.self) c.loop-part.names c.world_after.result.now (reply_view c.in-Err-Refused.reply)
    (going (goal.at.returns-in-Err-Refused c).In-Some) at
    (not_defined c.args.now c.world_after.result.now c.in-Some.part c.in-Err-Refused.field-0 c.in-Err-Refused.reply c.in-Err-Refused.field-0-is c.in-Err-Refused.ensures))

pub loop-part-preserved : goal.loop-part-preserved
loop-part-preserved c =
    let W = c.args.world.now in
    let changes = c.loop-part.changes.items in
    let left = into_iter_items c.next.new.self in
    let at = c.world_after.ensures ∙ ap (world_after W) c.deref.ensures.value in
    record {
      going = left_as c.args.now c.args.parts.items W left _ _ _ _ c.in_ok-add_made-in-Ok.ensures.changes c.in_ok-add_made-in-Ok.ensures.names
          (goes_on c.args.now c.args.parts.items W changes c.in-Some.part left c.loop-part.names c.world_after.result.now c.in-Ok.made (going (goal.at.loop-part-preserved c).In-Some) at c.in-Ok.ensures);
      left =
          let was = c.loop-part.invariant.left in
          let gone = c.in-Some.ensures.steps.1 in
          let short = ap length c.in-Some.ensures.steps.0 in
          omega arith;
    }

-- no part is left
pub returns : goal.returns
returns c =
    let none = nothing_left _ (sym c.loop-part.invariant.left ∙ c.in-None.ensures.steps.0) in
    ends c.args.now c.args.parts.items c.args.world.now c.loop-part.changes.items c.loop-part.names
    (subst (λ (l : List Named). Goes c.args.now c.args.parts.items c.args.world.now c.loop-part.changes.items l c.loop-part.names) none c.loop-part.invariant.going)
