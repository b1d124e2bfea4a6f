use Rattle.std.proofs.Common.{None, ◌∙◌, ap, filter, not}
use Rattle.std.proofs.lemmas.Result.{IfOk-weaker}
use Rattle.std.specs.BTreeMap.{get}
use Rattle.spec_data.specs.Folding.{folded}
use Rattle.raven_ports.specs.Logged.{id_cmp, is_below, last_of_id}
use Rattle.raven_ports.proofs.LogLemmas.{held_left, rest_is}
use Rattle.raven_ports.proofs.log.Log.copies.Goals as goal

pub returns : goal.returns
returns c =
    IfOk-weaker c.unreplaced.result _ _
    (λ left is. held_left c.args.self.now.compacted c.args.self.now.rows.items left.items (get id_cmp c.in_ok-etags.etags) c.requires
    (λ q. c.in_ok-etags.ensures q ∙ ap (last_of_id None (folded q)) (rest_is c.args.self.now.compacted c.deref.result.now _ c.deref.ensures.value))
    (is ∙ ap (filter (λ x. not (is_below (get id_cmp c.in_ok-etags.etags x.id) x))) c.deref-2.ensures.value))
    c.unreplaced.ensures
