use Rattle.std.proofs.Common.{◌+◌, drop, sym, ap, ◌∙◌}
use Rattle.raven_reply.specs.ReplyView.{reply_view}
use Rattle.spec_server.specs.Indexing.{tidy}
use Rattle.spec_desk.specs.Stepped.{world_after}
use Rattle.raven_desk.proofs.Courses.{left_as, next_name, not_taken, refused, tried_on}
use Rattle.raven_desk.proofs.tidying.tidy.Goals as goal

pub returns-in-Err-Refused : goal.returns-in-Err-Refused
returns-in-Err-Refused c =
    let now = c.args.now in
    let W = c.args.world.now in
    let names = c.args.names.now in
    let changes = c.loop-name.changes.items in
    let switched = c.loop-name.switched.items in
    let i = c.loop-name.name-index in
    let name = c.name-item.result in
    let left = drop (i + 1) names in
    let at = c.world_after.ensures ∙ ap (world_after W) c.deref.ensures.value in
    let first = next_name now names names W changes switched i name c.loop-name-test.true (sym c.name-item.is) c.loop-name.invariant in
    rw c.in-Err-Refused.field-0-is
    (refused now names W changes name left switched (reply_view c.in-Err-Refused.reply) first
    (not_taken now left c.world_after.result.now (world_after W changes) switched name c.in-Err-Refused.field-0 c.in-Err-Refused.reply at c.in-Err-Refused.field-0-is
    (c.in-Err-Refused.ensures switched (λ X done. tidy now left X done))))

pub loop-name-preserved : goal.loop-name-preserved
loop-name-preserved c =
    let now = c.args.now in
    let W = c.args.world.now in
    let names = c.args.names.now in
    let changes = c.loop-name.changes.items in
    let switched = c.loop-name.switched.items in
    let i = c.loop-name.name-index in
    let name = c.name-item.result in
    let left = drop (i + 1) names in
    let at = c.world_after.ensures ∙ ap (world_after W) c.deref.ensures.value in
    let first = next_name now names names W changes switched i name c.loop-name-test.true (sym c.name-item.is) c.loop-name.invariant in
    left_as now names W left _ _ _ _ c.in_ok-add_switch-in-Ok.ensures.changes c.in_ok-add_switch-in-Ok.ensures.names
    (tried_on now names W changes name left switched c.world_after.result.now c.in-Ok.tried first at (c.in-Ok.ensures switched (λ X done. tidy now left X done)))
