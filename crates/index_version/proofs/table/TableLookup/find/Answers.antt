use Rattle.std.proofs.Common.{Some, sym, ap, ◌∙◌}
use Rattle.std.specs.FinMap.{get}
use Rattle.spec_data.specs.Folding.{folded}
use Rattle.spec_data.specs.Tables.{Table}
use Rattle.reference_track.proofs.FoldedMaps.{get-by_folded}
use Rattle.index_version.proofs.table.TableLookup.find.Goals as goal

pub returns-in-Some : goal.returns-in-Some
returns-in-Some c =
    ap Some c.get-in-Some.ensures ∙ c.in-Some.ensures.value ∙ sym (get-by_folded c.args.id.now c.self.inside.rows) ∙ ap (λ (T : Table). get T (folded c.args.id.now)) c.self.view_is

pub returns-in-None : goal.returns-in-None
returns-in-None c =
    c.in-None.ensures.value ∙ sym (get-by_folded c.args.id.now c.self.inside.rows) ∙ ap (λ (T : Table). get T (folded c.args.id.now)) c.self.view_is
