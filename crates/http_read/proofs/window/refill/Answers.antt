use Rattle.std.proofs.Common.{take, length, arith, ◌-◌, ◌≤◌, refl}
use Rattle.std.proofs.lemmas.List.{length-take-le}
use Rattle.http_read.proofs.Windows.{filled}
use Rattle.http_read.proofs.window.refill.Goals as goal

pub returns-clause-came : goal.returns-clause-came
returns-clause-came g c =
    let few : c.in_ok-count.count ≤ length c.take.new.buf = omega (arith, c.in_ok-count.ensures.count, c.in_ok-count.ensures.len) in
    record {
      came = take c.in_ok-count.count c.take.new.buf;
      count = length-take-le _ _ few;
      taken = filled c.args.start c.args.end c.in_ok-count.count (length c.to_beginning.new.bytes - (c.args.end - c.args.start)) c.args.bytes.now c.to_beginning.new.bytes c.take.new.buf _
          c.requires.ordered c.requires.within refl c.to_beginning.ensures.start c.to_beginning.ensures.len few;
      reported = c.in_ok-count.ensures.bytes;
    }
