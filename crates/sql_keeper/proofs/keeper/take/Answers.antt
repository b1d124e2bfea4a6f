use Rattle.std.proofs.Common.{◌∙◌, Some, ap, sym, length, arith, ◌∷◌, []}
use Rattle.std.proofs.lemmas.List.{length-append}
use Rattle.spec_data.specs.Kept.{KeptRow}
use Rattle.raven_ports.proofs.RisingLemmas.{rises_more, last_more}
use Rattle.sql_keeper.proofs.keeper.take.Goals as goal

pub loop-preserved : goal.loop-preserved
loop-preserved g c = record {
  rising =
      rises_more c.args.after c.loop.last c.loop.found c.push.new.self c.in-Ok-Some.kept c.loop.invariant.rising c.loop.invariant.last (sym c.is_past.ensures ∙ c.if-not-is_past.false)
      c.in_default.ensures.ok;
  last = last_more c.args.after c.loop.found c.push.new.self c.in-Ok-Some.kept c.in_default.ensures.ok ∙ ap (λ (k : KeptRow). Some k.etag) (sym c.kept.view_is);
  most = let more = ap length c.in_default.ensures.ok in let few = c.loop.invariant.most in omega (arith, length-append c.loop.found (c.in-Ok-Some.kept ∷ []));
}
