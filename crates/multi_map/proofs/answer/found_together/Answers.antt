use Rattle.std.proofs.Common.{Bor, List, Some, map, ap, ◌∙◌}
use Rattle.std.proofs.lemmas.Result.{IfOk-weaker}
use Rattle.spec_index.specs.World.{Slot, Version, World}
use Rattle.spec_server.specs.Asking.{found_by}
use Rattle.spec_server.specs.Several.{all_entries, recorded}
use Rattle.spec_server.specs.Shown.{shown}
use Rattle.index_version.specs.Named.{NamedVersion}
use Rattle.rql_eval.specs.FoundView.{found_view}
use Rattle.multi_map.proofs.Answers.{found-rows, lent-versions, with-versions}
use Rattle.multi_map.proofs.answer.found_together.Goals as goal

pub returns : goal.returns
returns c =
    let lent = c.args.parts.now in
    let parts = map (λ (s : Bor Slot). s.now) lent in
    let own : List Version = map (λ (s : Bor Slot). s.now.version) lent in
    let are = ap (λ (vs : List (Bor NamedVersion)). map (λ (v : Bor NamedVersion). v.now.version) vs) c.deref.ensures.value ∙ c.in_ok-versions.ensures in
    IfOk-weaker c.find_in_rows.result _ _ (λ found h query have.
    found-rows c.world.inside.base.now c.world.inside.store.now c.args.plan.now parts own (found_view found) c.as_slice.result.now (lent-versions (λ (s : Bor Slot). s.now) lent)
    (λ r has. c.as_slice.ensures ∙ with-versions r _ own _ are c.in_ok-rows.ensures has) h query have ∙ ap (λ (w : World). found_by (Some query) (shown w.setting.base) c.args.plan.now (all_entries recorded parts) w.store) c.world.view_is) c.find_in_rows.ensures
