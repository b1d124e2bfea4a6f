use Rattle.std.proofs.Common.{◌≡◌, ◌<◌, ◌^◌, List, [], None, is_some, length, ◌∙◌, ap, sym, subst}
use Rattle.spec_data.specs.Rows.{Row}
use Rattle.doc_store.specs.Opening.{first_bad}
use Rattle.doc_store.proofs.OpeningLemmas.{all_sound, next_rise, next_within}
use Rattle.doc_store.proofs.store.Store.open.Goals as goal

pub of-requires-clause-rising : goal.of-requires-clause-rising
of-requires-clause-rising c = next_rise 0 _ (sym c.are_next.ensures ∙ c.if-are_next.true)

pub of-requires-clause-within : goal.of-requires-clause-within
of-requires-clause-within c = next_within _ (sym c.are_next.ensures ∙ c.if-are_next.true) (subst (λ (rows : List Row). length rows < 2 ^ 32) (sym c.as_slice-rows.ensures) c.requires.few)

pub returns-in-Some-clause-sound : goal.returns-in-Some-clause-sound
returns-in-Some-clause-sound c =
    subst (λ (rows : List Row). first_bad [] rows ≡ None) c.as_slice-rows.ensures
    (all_sound c.as_slice-rows.result.now (sym c.are_next.ensures ∙ c.if-are_next.true) (c.in_ok-store.ensures.apart.0 (ap is_some c.in-Some.is)))
