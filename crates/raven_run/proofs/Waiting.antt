-- Batches that workers hold may wait.
use Rattle.std.proofs.Common.{◌≡◌, ℕ, ◌==◌, find, List, [], ◌∷◌, not, Option, Some, None, inl, inr, sym, ◌∙◌, subst, arith}
use Rattle.std.proofs.lemmas.Bool.{eqb-true}
use Rattle.std.specs.Prelude.{IfSome, option_map}
use Rattle.std.specs.declared.alloc.Global.{Global}
use Rattle.std.specs.declared.sync.Arc.{Arc}
use Rattle.index_version.specs.Named.{NamedVersion}
use Rattle.spec_index.specs.World.{Slot, World, batch}
use Rattle.spec_server.specs.Sound.{Has, IsHeld, LaterW, Sound}
use Rattle.raven_laws.proofs.MachineLemmas.{IsHeld-later, batch-IsHeld}
use Rattle.raven_laws.proofs.SlotLemmas.{Has-append, Has-filter, find-Has, same_slot, served}
use Rattle.raven_world.specs.Publishing.{IsReadAt, MayPublish}
use Rattle.raven_world.specs.declared.publish.Batch.{Batch}
use Rattle.side_by_side.specs.Naming.{IsNamedAs}
use Rattle.raven_run.specs.Holding.{MayAllWait, MayWait, NamedBatch, after_read, held_of, of_others}

-- IN A LATER WORLD

named-later : (W N : World) (b : NamedBatch) → MayWait W b → LaterW W N → (s : Slot) → Has N.slots s → s.number ≡ b.number → IsNamedAs s.name b.version.name
named-later W N b m l s has e = elim (l.numbers s has) [
  | inl old ↦ let was = m.named old.0 old.1 (old.2.number ∙ e) in record { same = was.same ∙ old.2.named; plain = was.plain }
  | inr new ↦ absurd (let w = m.held.within in omega arith)
]

MayWait-later : (W N : World) (b : NamedBatch) → MayWait W b → LaterW W N → MayWait N b
MayWait-later W N b m l = record { held = IsHeld-later W N (held_of b) m.held l; named = named-later W N b m l }

pub wait-later : (W N : World) (batches : List NamedBatch) → MayAllWait W batches → LaterW W N → MayAllWait N batches
wait-later W N batches m l = λ b has. MayWait-later W N b (m b has) l

pub wait-others : (W : World) (worker : ℕ) (batches : List NamedBatch) → MayAllWait W batches → MayAllWait W (of_others worker batches)
wait-others W worker batches m = λ b has. m b (Has-filter (λ (x : NamedBatch). not (x.worker == worker)) batches b has)

-- A BATCH THAT WAS READ

read-waits : (W : World) (worker max : ℕ) (s : Slot) (v : NamedVersion) → Sound W → Has W.slots s → batch s.version W.store max ≡ Some v.version → IsNamedAs s.name v.name
    → MayWait W (record { worker = worker; number = s.number; version = v })
read-waits W worker max s v o has is named = record {
  held = batch-IsHeld W worker s v.version max o has is;
  named = λ x there e. subst (λ (y : Slot). IsNamedAs y.name v.name) (same_slot 0 W.slots s x o.rising has there (sym e)) named;
}

pub wait-read : (W : World) (worker max : ℕ) (s : Slot) (v : NamedVersion) (batches : List NamedBatch) → Sound W → Has W.slots s → batch s.version W.store max ≡ Some v.version
    → IsNamedAs s.name v.name → MayAllWait W batches → MayAllWait W (after_read worker s.number (Some v) batches)
wait-read W worker max s v batches o has is named m b among = elim (Has-append (of_others worker batches) (record { worker = worker; number = s.number; version = v } ∷ []) b among) [
  | inl old ↦ wait-others W worker batches m b old
  | inr (inl e) ↦ subst (MayWait W) e (read-waits W worker max s v o has is named)
  | inr (inr no_more) ↦ absurd no_more
]

-- what was read may be held, if anything was
read-of : (W : World) (worker max : ℕ) (s : Slot) (version : Option (Arc NamedVersion Global)) (batches : List NamedBatch) → Sound W → Has W.slots s
    → option_map (λ (v : Arc NamedVersion Global). v.value.version) version ≡ batch s.version W.store max → IfSome version (λ (v : Arc NamedVersion Global). IsNamedAs s.name v.value.name)
    → MayAllWait W batches → MayAllWait W (after_read worker s.number (option_map (λ (v : Arc NamedVersion Global). v.value) version) batches)
read-of W worker max s None batches o has is named m = wait-others W worker batches m
read-of W worker max s (Some v) batches o has is named m = wait-read W worker max s v.value batches o has (sym is) named m

pub wait-after : (W : World) (worker max : ℕ) (index : List ℕ) (b : Batch) (batches : List NamedBatch) → Sound W → IsReadAt W max index b → MayAllWait W batches
    → MayAllWait W (after_read worker b.number (option_map (λ v. v.value) b.version) batches)
wait-after W worker max index b batches o at m =
    subst (λ (n : ℕ). MayAllWait W (after_read worker n (option_map (λ v. v.value) b.version) batches)) (sym at.read.number)
    (read-of W worker max at.slot b.version batches o (served W.slots index at.slot at.serves).0 at.read.version at.read.named m)

-- A BATCH THAT IS PUBLISHED

pub held-waits : (W : World) (worker : ℕ) (batches : List NamedBatch) (b : NamedBatch) → MayAllWait W batches → find (λ (x : NamedBatch). x.worker == worker) batches ≡ Some b → MayWait W b
held-waits W worker batches b m e = m b (find-Has (λ (x : NamedBatch). x.worker == worker) batches b e).0

publish-here : (W : World) (b : NamedBatch) → MayWait W b → MayPublish W b.number b.version
publish-here W b m s e = let at = find-Has (λ (x : Slot). x.number == b.number) W.slots s e in
    let same = eqb-true s.number b.number at.1 in (m.held.same s at.0 same, m.named s at.0 same)

pub may_publish : (W : World) (b : NamedBatch) (n : ℕ) (v : NamedVersion) → MayWait W b → n ≡ b.number → v ≡ b.version → MayPublish W n v
may_publish W b n v m e f = subst (λ (k : ℕ). MayPublish W k v) (sym e) (subst (MayPublish W b.number) (sym f) (publish-here W b m))

held-here : (W : World) (b : NamedBatch) → MayWait W b → IsHeld W (record { worker = 0; number = b.number; version = b.version.version })
held-here W b m = record { fits = m.held.fits; since = m.held.since; within = m.held.within; same = m.held.same }

-- whoever holds it
pub is_held : (W : World) (b : NamedBatch) (n : ℕ) (v : NamedVersion) → MayWait W b → n ≡ b.number → v ≡ b.version → IsHeld W (record { worker = 0; number = n; version = v.version })
is_held W b n v m e f =
    subst (λ (k : ℕ). IsHeld W (record { worker = 0; number = k; version = v.version })) (sym e)
    (subst (λ (u : NamedVersion). IsHeld W (record { worker = 0; number = b.number; version = u.version })) (sym f) (held-here W b m))
