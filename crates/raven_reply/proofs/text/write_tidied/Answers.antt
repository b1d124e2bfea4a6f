use Rattle.raven_reply.proofs.Printed.{printed-Tidied}
use Rattle.raven_reply.proofs.text.write_tidied.Goals as goal

pub returns : goal.returns
returns c =
    rw (c.in_ok-write_bytes-3.ensures, c.in_ok-write_names-2.ensures, c.in_ok-write_bytes-2.ensures, c.in_ok-write_names.ensures, c.in_ok-write_bytes.ensures)
    (printed-Tidied c.args.out.now.items c.args.retired.now c.args.switched.now)
