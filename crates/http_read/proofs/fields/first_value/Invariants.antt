use Rattle.std.proofs.Common.{◌≡◌, drop}
use Rattle.http_read.specs.Heads.{values}
use Rattle.http_read.specs.Reading.{pairs_in}
use Rattle.http_read.proofs.fields.first_value.Given as goal

abbrev pub invariant-loop-i : goal.invariant-loop-i
invariant-loop-i l = values l.name (pairs_in l.bytes l.headers) ≡ values l.name (pairs_in l.bytes (drop l.i l.headers))
