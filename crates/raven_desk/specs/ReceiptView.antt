-- What a desk gives for a request.
use Rattle.raven_reply.specs.ReplyView.{reply_view}
use Rattle.spec_desk.specs.Receipts as is
use Rattle.raven_desk.specs.declared.receipt.Receipt.{Receipt}

abbrev pub receipt_view : Receipt → is.Receipt
receipt_view r = record { shot = r.shot; earlier = r.earlier.items; reply = reply_view r.reply }
