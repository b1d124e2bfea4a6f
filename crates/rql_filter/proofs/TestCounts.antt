-- How many ids pass a test is how many entries do.
use Rattle.std.proofs.Common.{◌≡◌, ℕ, List, length, Bool, false, filter, Option, Some, None, IfSome, sym, ap, ◌∙◌}
use Rattle.std.specs.Option.{option_map_or}
use Rattle.std.proofs.lemmas.List.{length-map}
use Rattle.spec_data.specs.Folding.{folded}
use Rattle.index_tree.specs.Meaning.{Fields}
use Rattle.reference_track.specs.Sets.{AreInOrder}
use Rattle.term_index.specs.Held.{IsCountOf}
use Rattle.rql_filter.specs.Entries.{EntryList, entry_at, ids_of}
use Rattle.rql_filter.proofs.Sets.{of_those_that_pass}

pub count_is : (test : List ℕ × Fields → Bool) (es : EntryList) (count : Option ℕ) (has : List ℕ → Bool) → AreInOrder (ids_of es) → ((q : List ℕ) → has q ≡ option_map_or test (entry_at (folded q) es) false)
    → IfSome count (IsCountOf has) → IfSome count (λ n. n ≡ length (filter test es))
count_is test es None has up are h = h
count_is test es (Some n) has up are h =
    let same = of_those_that_pass test h.ids es up h.order (λ q. h.members q ∙ are q) in
    sym h.count ∙ (sym (length-map h.ids folded) ∙ (ap length same ∙ (length-map (ids_of (filter test es)) folded ∙ length-map (filter test es) (λ e. e.0))))
