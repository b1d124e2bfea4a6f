use Rattle.std.proofs.Common.{None, filter, leb, rules, refl, sym, ap, ◌∙◌}
use Rattle.std.proofs.lemmas.List.Sorted.{IsPartitionPoint-from_clause, IsPartitionedBy-leb}
use Rattle.spec_data.specs.Kept.{KeptRow, is_past}
use Rattle.raven_ports.proofs.LogLemmas.{cut, nondecreasing, past_none, rest_is}
use Rattle.raven_ports.proofs.log.rows_past.Goals as goal

pub returns-in-None : goal.returns-in-None
returns-in-None c = sym (past_none c.args.rows.now) ∙ ap (λ after. filter (is_past after) c.args.rows.now) (sym c.in-None.is)

pub returns-in-Some : goal.returns-in-Some
returns-in-Some c =
    rest_is c.partition_point-first.result c.args.rows.now c.args.rows.now refl
    ∙ cut c.in-Some.etag c.partition_point-first.result c.args.rows.now
    (IsPartitionPoint-from_clause (λ (k : KeptRow). leb k.etag c.in-Some.etag) _ _ c.partition_point-first.ensures.partitioned
    (IsPartitionedBy-leb (λ (k : KeptRow). k.etag) c.args.rows.now c.in-Some.etag (nondecreasing None c.args.rows.now c.requires)) (λ a r q k. search rules))
    ∙ ap (λ after. filter (is_past after) c.args.rows.now) (sym c.in-Some.is)
