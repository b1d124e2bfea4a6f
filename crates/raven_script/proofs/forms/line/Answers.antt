use Rattle.std.proofs.Common.{sym, ◌∙◌}
use Rattle.raven_script.proofs.Asking.{no-text}
use Rattle.raven_script.proofs.forms.line.Goals as goal

pub returns-in_default : goal.returns-in_default
returns-in_default c = no-text c.args.bytes.now (sym c.is_empty.ensures ∙ c.if-is_empty.false) c.in_default.ensures.cases.0
