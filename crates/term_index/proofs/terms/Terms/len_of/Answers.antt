use Rattle.std.proofs.Common.{[], length, sym, ap, ◌∙◌}
use Rattle.std.specs.FinMap.{entries, len-entries}
use Rattle.std.specs.Option.{option_copied, option_map_or}
use Rattle.term_index.proofs.terms.Terms.len_of.Goals as goal

pub returns-in-Some : goal.returns-in-Some
returns-in-Some c = c.len.ensures ∙ (len-entries c.in-Some.column.now ∙ ap (λ o. length (option_map_or entries o [])) (sym (ap option_copied c.in-Some.is) ∙ c.column.ensures))
