-- The index that is picked is one of the list.
use Rattle.std.proofs.Common.{◌≡◌, List, [], ◌∷◌, true, false, cond, Option, Some, None, filter, refl, subst, inl, inr}
use Rattle.spec_store.specs.Store.{Store}
use Rattle.spec_index.specs.Optimiser.{Shape, Use, beats, best, better, chosen, covers, pick, slot_shape}
use Rattle.spec_index.specs.World.{Slot}
use Rattle.spec_server.specs.Sound.{Has}
use Rattle.raven_laws.proofs.SlotLemmas.{Has-filter}

best-has : (S : Store) (slots : List Slot) (s : Slot) → best S slots ≡ Some s → Has slots s
best-has S [] s h = absurd cc
best-has S (a ∷ more) s h = elim (best S more) as (λ o. best S more ≡ o → better S a o ≡ Some s → Has (a ∷ more) s) [
  | None ↦ λ e g. inl (let same : a ≡ s = cc in same)
  | Some b ↦ λ e g. elim (beats S b a) as (λ x. cond x (Some b) (Some a) ≡ Some s → Has (a ∷ more) s) [
    | true ↦ λ k. let same : b ≡ s = cc in inr (subst (Has more) same (best-has S more b e))
    | false ↦ λ k. inl (let same : a ≡ s = cc in same)
  ] g
] refl h

same_use : (s t : Slot) → Use s ≡ Use t → s ≡ t
same_use s t h = cc

pub picked-has : (S : Store) (slots : List Slot) (shape : Shape) (s : Slot) → pick shape S slots ≡ Use s → Has slots s
picked-has S slots shape s h = by (best S (filter (λ x. covers (slot_shape x) shape) slots)) refl h
  where
    by : (found : Option Slot) → best S (filter (λ x. covers (slot_shape x) shape) slots) ≡ found → chosen shape slots found ≡ Use s → Has slots s
    by None e g = absurd cc
    by (Some t) e g = Has-filter (λ x. covers (slot_shape x) shape) slots s (best-has S (filter (λ x. covers (slot_shape x) shape) slots) s (subst (λ (x : Slot). best S (filter (λ y. covers (slot_shape y) shape) slots) ≡ Some x) (same_use t s g) e))
