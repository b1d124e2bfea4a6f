use Rattle.index_version.proofs.TableLemmas.{results_without}
use Rattle.index_version.proofs.kept.Kept.take_out.Goals as goal

pub returns-clause-results : goal.returns-clause-results
returns-clause-results c = results_without c.args.self.given c.in_ok-take_out.field-0 c.args.id.now c.in_ok-take_out.ensures.rising c.in_ok-take_out.ensures.pairs
