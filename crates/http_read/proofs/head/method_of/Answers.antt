use Rattle.std.proofs.Common.{Err, ap}
use Rattle.http_read.proofs.Methods.{is_method}
use Rattle.http_read.proofs.head.method_of.Goals as goal

pub unreachable-requires : goal.unreachable-requires
unreachable-requires c = c.in-Err-Invalid.ensures.invalid.0 (ap Err c.in-Err-Invalid.field-0-is) (is_method _ c.requires)
