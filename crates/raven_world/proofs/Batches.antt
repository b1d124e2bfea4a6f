-- Worlds after batches.
use Rattle.std.proofs.Common.{◌≡◌, ℕ, List, [], ◌∷◌, Bool, true, false, cond, filter, map, take, Option, Some, None, Result, IfOk, refl, sym, ap, ◌∙◌, subst}
use Rattle.std.specs.Prelude.{find}
use Rattle.raven_base.specs.Counts.{Counts}
use Rattle.spec_store.specs.Store.{Store, last}
use Rattle.spec_index.specs.World.{Slot, World, is_named, serving}
use Rattle.spec_server.specs.Courses.{Course, one_change, only_reply}
use Rattle.spec_server.specs.Batches.{after_batch, after_batch_if_named, pump, pump_at, pumping}
use Rattle.raven_base.specs.declared.memory.NoMemory.{NoMemory}
use Rattle.spec_server.specs.Replies.{NoIndex, Pumped, Pumping, Reply}
use Rattle.side_by_side.specs.Standing.{Standing, world_of}
use Rattle.slot_batches.specs.Batches.{CountFew, after_batch_of}
use Rattle.raven_world.specs.Roomy.{NumbersUpTo}
use Rattle.raven_world.specs.WorldView.{change_view}
use Rattle.raven_world.specs.declared.world.Change.{Change}
use Rattle.raven_world.proofs.Numbers.{numbers-map}

-- NUMBERS

batch-number : (index : Option (List ℕ)) (S : Store) (max : ℕ) (s : Slot) → (after_batch_of index S max s).number ≡ s.number
batch-number None S max s = refl
batch-number (Some name) S max s = elim (is_named name s) as (λ b. (cond b (after_batch S max s) s).number ≡ s.number) [ true ↦ refl | false ↦ refl ]

-- a batch gives no index another number
batched-numbers : (latest : ℕ) (index : Option (List ℕ)) (S : Store) (max : ℕ) (slots : List Slot) → NumbersUpTo latest slots → NumbersUpTo latest (map (after_batch_of index S max) slots)
batched-numbers latest index S max slots h = numbers-map latest (after_batch_of index S max) slots (batch-number index S max) h

pub batched-up-to : (V W : World) (index : Option (List ℕ)) (max : ℕ) (x : Standing) → V ≡ W → x ≡ record { slots = map (after_batch_of index V.store max) V.slots; notes = V.notes } → NumbersUpTo (last V.store) V.slots
    → NumbersUpTo (last W.store) x.slots
batched-up-to V W index max x same made up =
    subst (λ (s : Standing). NumbersUpTo (last W.store) s.slots) (sym made)
    (batched-numbers (last W.store) index V.store max V.slots (subst (λ (U : World). NumbersUpTo (last U.store) V.slots) same up))

-- ANSWERS

pumped-all : (W : World) (max : ℕ) (slots : Standing) (pumped : List Pumping) → slots ≡ record { slots = map (after_batch W.store max) W.slots; notes = W.notes } → pumped ≡ map (pumping W.store max) W.slots
    → one_change (Pumped pumped) [] (world_of W.setting W.store slots) ≡ pump W max
pumped-all W max slots pumped made told = λ i. one_change (Pumped (told i)) [] (world_of W.setting W.store (made i))

pub answers-all : (V W : World) (max : ℕ) (slots : Standing) (pumped : List Pumping) (r : Result Change NoMemory) → V ≡ W → slots ≡ record { slots = map (after_batch V.store max) V.slots; notes = V.notes }
    → pumped ≡ map (pumping V.store max) V.slots → IfOk r (λ change. change_view change ≡ one_change (Pumped pumped) [] (world_of W.setting W.store slots)) → IfOk r (λ change. change_view change ≡ pump W max)
answers-all V W max slots pumped r same made told h =
    let slots_after : slots ≡ record { slots = map (after_batch W.store max) W.slots; notes = W.notes } =
    made ∙ ap (λ (U : World). let x : Standing = record { slots = map (after_batch U.store max) U.slots; notes = U.notes } in x) same in
    let told_of : pumped ≡ map (pumping W.store max) W.slots = told ∙ ap (λ (U : World). map (pumping U.store max) U.slots) same in
    subst (λ x. IfOk r (λ change. change_view change ≡ x)) (pumped-all W max slots pumped slots_after told_of) h

-- the first of the indexes that serve a name
first-found : (f : Slot → Pumping) (p : Slot → Bool) (slots : List Slot) (s : Slot) → find p slots ≡ Some s → take 1 (map f (filter p slots)) ≡ f s ∷ []
first-found f p [] s h = absurd cc
first-found f p (x ∷ slots) s h = by (p x) h (first-found f p slots s)
  where
    by : (b : Bool) → cond b (Some x) (find p slots) ≡ Some s → (find p slots ≡ Some s → take 1 (map f (filter p slots)) ≡ f s ∷ []) → take 1 (map f (cond b (x ∷ filter p slots) (filter p slots))) ≡ f s ∷ []
    by true g more = let same : x ≡ s = cc in ap (λ z. f z ∷ []) same
    by false g more = more g

none-found : (f : Slot → Pumping) (p : Slot → Bool) (slots : List Slot) → find p slots ≡ None → map f (filter p slots) ≡ []
none-found f p [] h = refl
none-found f p (x ∷ slots) h = by (p x) h (none-found f p slots)
  where
    by : (b : Bool) → cond b (Some x) (find p slots) ≡ None → (find p slots ≡ None → map f (filter p slots) ≡ []) → map f (cond b (x ∷ filter p slots) (filter p slots)) ≡ []
    by true g more = absurd cc
    by false g more = more g

pumped-one : (W : World) (max : ℕ) (name : List ℕ) (slots : Standing) (pumped : List Pumping) → slots ≡ record { slots = map (after_batch_if_named W.store max name) W.slots; notes = W.notes }
    → pumped ≡ map (pumping W.store max) (filter (is_named name) W.slots) → (pumped ≡ [] → ⊥) → one_change (Pumped (take 1 pumped)) [] (world_of W.setting W.store slots) ≡ pump_at W max name (serving W.slots name)
pumped-one W max name slots pumped made told some = by (serving W.slots name) refl
  where
    by : (o : Option Slot) → serving W.slots name ≡ o → one_change (Pumped (take 1 pumped)) [] (world_of W.setting W.store slots) ≡ pump_at W max name o
    by None e = absurd (some (told ∙ none-found (pumping W.store max) (is_named name) W.slots e))
    by (Some s) e =
        let one : take 1 pumped ≡ pumping W.store max s ∷ [] = ap (take 1) told ∙ first-found (pumping W.store max) (is_named name) W.slots s e in
        λ i. one_change (Pumped (one i)) [] (world_of W.setting W.store (made i))

pub answers-one : (V W : World) (max : ℕ) (name : List ℕ) (slots : Standing) (pumped first : List Pumping) (is_empty : Bool) (course : Course) → V ≡ W
    → slots ≡ record { slots = map (after_batch_if_named V.store max name) V.slots; notes = V.notes } → pumped ≡ map (pumping V.store max) (filter (is_named name) V.slots)
    → (pumped ≡ [] → is_empty ≡ true) → is_empty ≡ false → first ≡ take 1 pumped → course ≡ one_change (Pumped first) [] (world_of W.setting W.store slots) → course ≡ pump_at W max name (serving W.slots name)
answers-one V W max name slots pumped first is_empty course same made told empty some one is =
    let slots_after : slots ≡ record { slots = map (after_batch_if_named W.store max name) W.slots; notes = W.notes } =
    made ∙ ap (λ (U : World). let x : Standing = record { slots = map (after_batch_if_named U.store max name) U.slots; notes = U.notes } in x) same in
    let told_of : pumped ≡ map (pumping W.store max) (filter (is_named name) W.slots) = told ∙ ap (λ (U : World). map (pumping U.store max) (filter (is_named name) U.slots)) same in
    is ∙ ap (λ p. one_change (Pumped p) [] (world_of W.setting W.store slots)) one ∙ pumped-one W max name slots pumped slots_after told_of (λ e. not_both is_empty (empty e) some)
  where
    not_both : (b : Bool) → b ≡ true → b ≡ false → ⊥
    not_both true t f = cc
    not_both false t f = cc

pumped-none : (W : World) (max : ℕ) (name : List ℕ) (pumped : List Pumping) (told : Reply) → pumped ≡ map (pumping W.store max) (filter (is_named name) W.slots) → pumped ≡ [] → told ≡ NoIndex name
    → only_reply told ≡ pump_at W max name (serving W.slots name)
pumped-none W max name pumped told all none tells = by (serving W.slots name) refl
  where
    by : (o : Option Slot) → serving W.slots name ≡ o → only_reply told ≡ pump_at W max name o
    by None e = ap only_reply tells
    by (Some s) e =
        let one : take 1 pumped ≡ pumping W.store max s ∷ [] = ap (take 1) all ∙ first-found (pumping W.store max) (is_named name) W.slots s e in
        absurd (let empty : [] ≡ pumping W.store max s ∷ [] = ap (take 1) (sym none) ∙ one in cc)

pub answers-none : (V W : World) (max : ℕ) (name : List ℕ) (pumped : List Pumping) (told : Reply) → V ≡ W → pumped ≡ map (pumping V.store max) (filter (is_named name) V.slots) → pumped ≡ [] → told ≡ NoIndex name
    → only_reply told ≡ pump_at W max name (serving W.slots name)
answers-none V W max name pumped told same all none tells =
    pumped-none W max name pumped told (all ∙ ap (λ (U : World). map (pumping U.store max) (filter (is_named name) U.slots)) same) none tells

-- what is counted if the batches were made is counted in any case
pub counted : (S T : Store) (max : ℕ) (xs ys : List Slot) (made other : Bool) (old new : Counts) → S ≡ T → xs ≡ ys → made ≡ true → CountFew S max xs made old new → CountFew T max ys other old new
counted S T max xs ys made other old new same_store same_slots is h =
    subst (λ X. CountFew X max ys other old new) same_store (subst (λ l. CountFew S max l other old new) same_slots (record { maps = h.maps; plain = h.plain; merges = λ _. h.merges is; reads = h.reads }))
