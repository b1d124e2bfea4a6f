use Rattle.raven_reply.proofs.Printed.{printed-Found}
use Rattle.raven_reply.proofs.text.write_found.Goals as goal

pub returns : goal.returns
returns c =
    rw (c.in_ok-write_bytes-4.ensures, c.in_ok-write_piece-2.ensures, c.in_ok-write_bytes-3.ensures, c.in_ok-write_piece.ensures, c.in_ok-write_bytes-2.ensures, c.in_ok-write_ids.ensures, c.in_ok-write_bytes.ensures)
    (printed-Found c.args.out.now.items c.args.ids.now c.args.index_etag c.args.is_stale)
