-- How far an index is behind its store, which a batch that moves its etag lowers: so there is a last such batch.
use Rattle.std.proofs.Common.{◌≡◌, ℕ, ◌-◌, ◌<◌, ◌≤◌, List, [], ◌∷◌, true, false, not, cond, Option, Some, None, map, refl, sym, ap, ◌∙◌, subst, arith}
use Rattle.std.proofs.lemmas.Grind.{common_steps}
use Rattle.std.specs.Prelude.{◌==◌, ◌||◌}
use Rattle.spec_data.specs.Folding.{folded, same_key}
use Rattle.spec_data.specs.Limits.{max_etag}
use Rattle.spec_store.specs.Store.{Store, last}
use Rattle.spec_index.specs.World.{Slot, Version, World, batch, is_named, serving}
use Rattle.spec_measure.specs.Summary.{event_of, is_moving}
use Rattle.spec_server.specs.Requests.{Pump, takes_all}
use Rattle.spec_server.specs.Courses.{Machine, settled}
use Rattle.spec_server.specs.Batches.{after_batch, after_batch_if_named, pump_at}
use Rattle.spec_server.specs.Machine.{after, course_of}
use Rattle.spec_server.specs.Sound.{Has, Sound}
use Rattle.raven_laws.proofs.SlotLemmas.{batch-Brought, find-Has}

abbrev pub behind_at : Store → Option Slot → ℕ
behind_at S None = 0
behind_at S (Some s) = last S - s.version.etag

abbrev pub behind : List ℕ → World → ℕ
behind name W = behind_at W.store (serving W.slots name)

-- a change of slots that keeps their names finds the changed slot
serving-changed : (f : Slot → Slot) (slots : List Slot) (name : List ℕ) (s : Slot) → ((x : Slot) → (f x).name ≡ x.name) → serving slots name ≡ Some s → serving (map f slots) name ≡ Some (f s)
serving-changed f [] name s keeps h = absurd cc
serving-changed f (x ∷ slots) name s keeps h =
    subst (λ n. cond (same_key (folded name) (folded n)) (Some (f x)) (serving (map f slots) name) ≡ Some (f s)) (sym (keeps x))
    (elim (same_key (folded name) (folded x.name)) as (λ b. cond b (Some x) (serving slots name) ≡ Some s → cond b (Some (f x)) (serving (map f slots) name) ≡ Some (f s)) [
      | true ↦ λ e. let same : x ≡ s = cc in ap (λ y. Some (f y)) same
      | false ↦ λ e. serving-changed f slots name s keeps e
    ] h)

keeps_names : (S : Store) (max : ℕ) (name : List ℕ) (x : Slot) → (after_batch_if_named S max name x).name ≡ x.name
keeps_names S max name x = elim (is_named name x) as (λ b. (cond b (after_batch S max x) x).name ≡ x.name) [ true ↦ refl | false ↦ refl ]

-- the etag goes on, up to the last of the store
record Onward (S : Store) (s t : Slot) : Type 0 where
  pub onward : s.version.etag ≤ t.version.etag
  pub within : t.version.etag ≤ last S

goes_on : (W : World) (max : ℕ) (s : Slot) → Sound W → Has W.slots s → Onward W.store s (after_batch W.store max s)
goes_on W max s o h = by (batch s.version W.store max) refl
  where
    by : (b : Option Version) → batch s.version W.store max ≡ b → Onward W.store s (after_batch W.store max s)
    by None e = rw e (record { onward = omega arith; within = (o.fits s h).within })
    by (Some new) e = let b = batch-Brought W.store s.version new max o.store (o.fits s h) e in rw e (record { onward = b.onward; within = b.fits.within })

apart : (a b : ℕ) → not (a == b) || false ≡ true → a ≡ b → ⊥
apart a b h e = grind (arith, common_steps)

closer : (S : Store) (s t : Slot) → Onward S s t → not (s.version.etag == t.version.etag) || false ≡ true → last S - t.version.etag < last S - s.version.etag
closer S s t on h = let a = on.onward in let b = on.within in let c = apart s.version.etag t.version.etag h in omega arith

pub lowers : (name : List ℕ) (M : Machine) (now max : ℕ) → Sound M.world → is_moving (course_of M.world now (Pump max (Some name))).reply ≡ true
    → behind name (after M (event_of (record { request = Pump max (Some name); now = now }))).world < behind name M.world
lowers name M now max o = by (serving M.world.slots name) refl
  where
    W : World
    W = M.world

    by : (found : Option Slot) → serving W.slots name ≡ found → is_moving (course_of W now (Pump max (Some name))).reply ≡ true
        → behind name (after M (event_of (record { request = Pump max (Some name); now = now }))).world < behind name W
    by None e h = let none : false ≡ true = sym (ap (λ found. is_moving (pump_at W max name found).reply) e) ∙ h in absurd cc
    by (Some s) e h =
        let t : Slot = after_batch W.store max s in
        let found = find-Has (λ x. same_key (folded name) (folded x.name)) W.slots s e in
        let on = goes_on W max s o found.0 in
        let named : after_batch_if_named W.store max name s ≡ t = ap (λ b. cond b t s) found.1 in
        let changed = serving-changed (after_batch_if_named W.store max name) W.slots name s (keeps_names W.store max name) e ∙ ap Some named in
        let left = ap (λ found. (settled M takes_all (pump_at W max name found)).machine.world) e in
        let less = closer W.store s t on (ap (λ found. is_moving (pump_at W max name found).reply) (sym e) ∙ h) in
        subst (λ V. behind name V < behind name W) (sym left) (subst (λ x. behind_at W.store x < behind name W) (sym changed) (subst (λ x. last W.store - t.version.etag < behind_at W.store x) (sym e) less))

-- and it is never far behind
behind_at-few : (S : Store) (found : Option Slot) → last S ≤ max_etag → behind_at S found ≤ max_etag
behind_at-few S None h = omega arith
behind_at-few S (Some s) h = omega arith

pub behind-few : (name : List ℕ) (W : World) → Sound W → behind name W ≤ max_etag
behind-few name W sound = behind_at-few W.store (serving W.slots name) sound.limits.etags
