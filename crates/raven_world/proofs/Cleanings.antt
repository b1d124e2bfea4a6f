-- Worlds after cleanings.
use Rattle.std.proofs.Common.{◌≡◌, ℕ, ◌-◌, ◌≤◌, List, ◌∙◌, sym, ap, subst}
use Rattle.spec_store.specs.Cleaning.{clean}
use Rattle.spec_store.specs.Store.{IsStore, Store, last}
use Rattle.spec_store.proofs.CleanLemmas.{last-clean}
use Rattle.spec_index.specs.Cleaning.{clean_upto}
use Rattle.spec_index.specs.World.{Slot, World}
use Rattle.raven_laws.proofs.MachineLemmas.{clean-within}
use Rattle.raven_world.specs.Roomy.{NumbersUpTo}

-- tombstones go up to an etag below the last
pub below-last : (V W : World) (upto : ℕ) → V ≡ W → upto ≡ clean_upto W → upto ≤ last V.store - 1
below-last V W upto same is = subst (λ (U : World). upto ≤ last U.store - 1) (sym same) (subst (λ n. n ≤ last W.store - 1) (sym is) (clean-within W))

-- the last row stays, and no index has a number past it
pub cleaned-numbers : (S N : Store) (upto : ℕ) (slots : List Slot) → IsStore S → upto ≤ last S - 1 → N ≡ clean upto S → NumbersUpTo (last S) slots → NumbersUpTo (last N) slots
cleaned-numbers S N upto slots sound below is h = subst (λ n. NumbersUpTo n slots) (sym (ap last is ∙ last-clean upto S sound below)) h
