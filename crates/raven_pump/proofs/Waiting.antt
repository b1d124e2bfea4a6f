-- Batches that wait until they are published.
use Rattle.std.proofs.Common.{◌≡◌, ℕ, ◌==◌, Some, inl, inr, sym, ◌∙◌, subst, arith}
use Rattle.std.proofs.lemmas.Bool.{eqb-true}
use Rattle.index_version.specs.Named.{NamedVersion}
use Rattle.spec_index.specs.World.{Slot, World, batch, numbered}
use Rattle.spec_server.specs.Sound.{Has, IsHeld, Sound}
use Rattle.raven_laws.proofs.MachineLemmas.{IsHeld-later, batch-IsHeld}
use Rattle.raven_laws.proofs.SlotLemmas.{find-Has, same_slot}
use Rattle.raven_world.specs.Publishing.{MayPublish}
use Rattle.side_by_side.specs.Naming.{IsNamedAs}
use Rattle.spec_desk.specs.Lived.{Follows, Lived}
use Rattle.raven_pump.specs.Turning.{MayWait, batch_of}

-- the index of a number
pub record Numbered (W : World) (n : ℕ) (s : Slot) : Type 0 where
  pub there : Has W.slots s
  pub number : s.number ≡ n

pub found : (W : World) (n : ℕ) (s : Slot) → numbered W.slots n ≡ Some s → Numbered W n s
found W n s e = let at = find-Has (λ (x : Slot). x.number == n) W.slots s e in record { there = at.0; number = eqb-true s.number n at.1 }

-- a batch that was read in a world may wait there
pub read_waits : (W : World) (n max : ℕ) (s : Slot) (v : NamedVersion) → Sound W → numbered W.slots n ≡ Some s → batch s.version W.store max ≡ Some v.version → IsNamedAs s.name v.name → MayWait W n v
read_waits W n max s v o e is named =
    let at = found W n s e in
    record {
      held = subst (λ (k : ℕ). IsHeld W (batch_of k v.version)) at.number (batch-IsHeld W 0 s v.version max o at.there is);
      named = λ x there k. subst (λ (y : Slot). IsNamedAs y.name v.name) (same_slot 0 W.slots s x o.rising at.there there (at.number ∙ sym k)) named;
    }

-- and on each value that follows
pub waits_on : (x y : Lived) (n : ℕ) (v : NamedVersion) → MayWait x.world n v → Follows x y → MayWait y.world n v
waits_on x y n v m f = record {
  held = IsHeld-later x.world y.world (batch_of n v.version) m.held f.world;
  named = λ s has e. elim (f.world.numbers s has) [
    | inl old ↦ let was = m.named old.0 old.1 (old.2.number ∙ e) in record { same = was.same ∙ old.2.named; plain = was.plain }
    | inr new ↦ absurd (let w = m.held.within in omega arith)
  ];
}

-- it may be published there
pub may_publish : (W : World) (n : ℕ) (v : NamedVersion) → MayWait W n v → MayPublish W n v
may_publish W n v m s e = let at = found W n s e in (m.held.same s at.there at.number, m.named s at.there at.number)
