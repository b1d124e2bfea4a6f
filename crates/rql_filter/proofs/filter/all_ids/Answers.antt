use Rattle.std.proofs.Common.{ap, ◌∙◌}
use Rattle.reference_track.specs.Sets.{is_one_of}
use Rattle.rql_filter.proofs.Sets.{is_one_of-ids}
use Rattle.rql_filter.proofs.filter.all_ids.Goals as goal

pub returns-clause-members : goal.returns-clause-members
returns-clause-members g c = λ q. ap (is_one_of q) c.in_ok-ids.ensures ∙ is_one_of-ids q (g.E.Entries.entries c.args.entries.now)
