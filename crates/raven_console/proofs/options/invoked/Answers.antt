use Rattle.std.proofs.Common.{rules}
use Rattle.raven_console.proofs.Invoking.{asks_nothing, asks_without_pairs}
use Rattle.raven_console.proofs.options.invoked.Goals as goal

pub returns-in_default-2 : goal.returns-in_default-2
returns-in_default-2 c =
    record { asked = asks_without_pairs c.args.arguments.now c.in-Some.more.now c.in-Some.command.now (search rules) (search rules); fits = tt }

pub returns-clause-asked : goal.returns-clause-asked
returns-clause-asked c =
    asks_nothing c.args.arguments.now c.in-Some.more.now c.in-Some.command.now (search rules) (search rules) (search rules) (search rules) (search rules)
