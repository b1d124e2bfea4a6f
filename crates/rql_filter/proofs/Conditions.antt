-- When an entry that may be missing meets a condition.
use Rattle.std.proofs.Common.{◌≡◌, ℕ, List, Bool, true, not, ◌||◌, ◌&&◌, Option, Some, None, is_some, refl}
use Rattle.std.specs.Option.{option_and_then}
use Rattle.spec_data.specs.Scalars.{Test}
use Rattle.index_tree.specs.Meaning.{Fields, field_named}
use Rattle.spec_query.specs.Condition.{Condition, Or, And, Not, Exact, Always, Has}
use Rattle.term_index.specs.Held.{passes}
use Rattle.rql_filter.specs.Entries.{is_met}

abbrev Entry : Type 0
Entry = List ℕ × Fields

pub met_or : (a b : Condition) (exact : Bool) (e : Option Entry) → is_met a exact e || is_met b exact e ≡ is_met (Or a b) exact e
met_or a b exact None = refl
met_or a b exact (Some e) = refl

pub met_and : (a b : Condition) (exact : Bool) (e : Option Entry) → is_met a exact e && is_met b exact e ≡ is_met (And a b) exact e
met_and a b exact None = refl
met_and a b exact (Some e) = refl

pub met_not : (a : Condition) (exact : Bool) (e : Option Entry) → is_some e && not (is_met a exact e) ≡ is_met (Not a) exact e
met_not a exact None = refl
met_not a exact (Some e) = refl

pub met_exact : (a : Condition) (exact : Bool) (e : Option Entry) → is_met a true e ≡ is_met (Exact a) exact e
met_exact a exact None = refl
met_exact a exact (Some e) = refl

pub met_always : (exact : Bool) (e : Option Entry) → is_some e ≡ is_met Always exact e
met_always exact None = refl
met_always exact (Some e) = refl

pub met_has : (field : List ℕ) (test : Test) (exact : Bool) (e : Option Entry) → passes test exact (option_and_then (λ e. field_named field e.1) e) ≡ is_met (Has field test) exact e
met_has field test exact None = refl
met_has field test exact (Some e) = refl
