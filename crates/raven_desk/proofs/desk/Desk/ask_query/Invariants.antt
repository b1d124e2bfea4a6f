use Rattle.std.proofs.Common.{◌≡◌, ◌+◌, length}
use Rattle.spec_server.specs.Requests.{Ask}
use Rattle.raven_reply.specs.ReplyView.{reply_view}
use Rattle.spec_desk.specs.Receipts.{GoesOn, looks_in}
use Rattle.spec_desk.proofs.Asking.{Asking}
use Rattle.raven_desk.proofs.desk.Desk.ask_query.Given as goal

abbrev pub invariant-loop-left : goal.invariant-loop-left
invariant-loop-left g l = record {
  asking : Asking g.Self.Desk.link (Ask l.ask) (g.Self.Desk.standing l.fn.self) l.earlier.items l.shot (reply_view l.reply) (g.Self.Desk.standing l.self);
  goes_on : GoesOn (g.Self.Desk.standing l.fn.self) (g.Self.Desk.standing l.self);
  same : g.Self.Desk.same l.fn.self l.self;
  count : length l.earlier.items + 1 + l.left ≡ looks_in l.ask;
}

abbrev pub decreases-loop-left : goal.decreases-loop-left
decreases-loop-left g l = l.left
