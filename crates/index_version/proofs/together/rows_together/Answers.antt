use Rattle.std.proofs.Common.{map}
use Rattle.std.proofs.lemmas.Result.{IfOk-weaker}
use Rattle.index_version.proofs.Several.{rows_are}
use Rattle.index_version.proofs.together.rows_together.Goals as goal

pub returns : goal.returns
returns c =
    IfOk-weaker c.rows_together.result _ _ (λ rows e.
    rows_are c.deref.result.now c.in_ok-groups.groups.items (map (λ v. v.now.version) c.args.versions.now) rows c.in_ok-_count._count c.deref.ensures.value c.in_ok-groups.ensures c.in_ok-_count.ensures.count c.in_ok-_count.ensures.few e) c.rows_together.ensures
