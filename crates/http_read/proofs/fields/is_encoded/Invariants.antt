use Rattle.std.proofs.Common.{◌≡◌, drop}
use Rattle.http_read.specs.Heads.{is_encoded}
use Rattle.http_read.specs.Reading.{pairs_in}
use Rattle.http_read.proofs.fields.is_encoded.Given as goal

abbrev pub invariant-loop-header : goal.invariant-loop-header
invariant-loop-header l = is_encoded (pairs_in l.bytes l.headers) ≡ is_encoded (pairs_in l.bytes (drop l.header-index l.headers))
