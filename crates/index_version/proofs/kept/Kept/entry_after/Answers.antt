use Rattle.std.proofs.Common.{◌≡◌, None, option_map, filter, ap, sym, ◌∙◌}
use Rattle.std.specs.List.{filter_map, slice_get}
use Rattle.std.specs.Map.{values_of}
use Rattle.spec_data.specs.Folding.{folded}
use Rattle.index_version.specs.Entries.{is_past}
use Rattle.index_version.specs.Kept.{entry_given}
use Rattle.index_version.proofs.Walking.{past_none}
use Rattle.index_version.proofs.kept.Kept.entry_after.Goals as goal

pub returns-in-None-clause-entry : goal.returns-in-None-clause-entry
returns-in-None-clause-entry c =
    let given = c.args.self.now.given in
    c.first_entry-in-None.ensures
    ∙ ap (λ es. slice_get (filter_map entry_given (values_of es)) 0) (c.iter.ensures.pairs ∙ sym (past_none given))
    ∙ ap (λ o. slice_get (filter_map entry_given (values_of (filter (λ e. is_past (option_map (λ i. folded i.now) o) e.0) given))) 0) (sym c.in-None.is)
