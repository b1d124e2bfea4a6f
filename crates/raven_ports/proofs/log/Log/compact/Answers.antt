use Rattle.std.proofs.Common.{None, sym, subst}
use Rattle.spec_data.specs.Kept.{EtagsRise}
use Rattle.raven_ports.proofs.LogLemmas.{held_rises}
use Rattle.raven_ports.proofs.log.Log.compact.Goals as goal

pub returns-clause-rising : goal.returns-clause-rising
returns-clause-rising c = subst (EtagsRise None) (sym c.in_ok-rows.ensures) (held_rises c.args.self.now.compacted c.args.self.now.rows.items c.requires)
