-- A turn of an index.
use Rattle.std.proofs.Common.{◌≡◌, ℕ, zero, suc, ◌+◌, ◌≤◌, List, [], ◌∷◌, take, Bool, true, false, cond, ◌&&◌, nat_lt, Option, Some, None, filter, refl, sym, ap, ◌∙◌, subst, arith}
use Rattle.std.specs.List.{list_any}
use Rattle.std.specs.Prelude.{IfSome, option_map, option_to_list}
use Rattle.spec_data.specs.Rows.{Row}
use Rattle.spec_data.specs.Tables.{Scope, in_scope}
use Rattle.spec_store.specs.Stale.{stale}
use Rattle.spec_store.specs.Store.{Store}
use Rattle.spec_store.proofs.StoreLemmas.{either_false}
use Rattle.spec_index.specs.Index.{etag_of_batch}
use Rattle.spec_index.specs.World.{Slot, Version, World, advanced, batch, is_stale, numbered, reads}
use Rattle.spec_server.specs.Batches.{or_as_before}
use Rattle.spec_server.specs.Sound.{Sound}
use Rattle.spec_desk.specs.Lived.{Follows, Lived}
use Rattle.spec_desk.specs.Receipts.{AllLink}
use Rattle.raven_base.specs.Counts.{Counts}
use Rattle.raven_laws.proofs.PumpLemmas.{stays-fresh}
use Rattle.slot_batches.specs.Batches.{CountFew}
use Rattle.raven_pump.specs.Turning.{Publishes, Turns}
use Rattle.raven_pump.specs.Turning.Turns.{absent, idle, taken}
use Rattle.raven_pump.specs.declared.turned.Turned.{Turned}
use Rattle.raven_pump.specs.declared.turned.Turned.TheVariants.{Gone, Idle}
use Rattle.raven_pump.proofs.Waiting.{found}

-- COUNTS

more : (a b : ℕ) → a ≤ a + b
more a b = omega arith

-- nothing was counted
pub counts_nothing : (S : Store) (max : ℕ) (slots : List Slot) (made : Bool) (c : Counts) → CountFew S max slots made c c
counts_nothing S max slots made c = record { maps = more c.maps _; plain = λ _. refl; merges = λ is o fit h some small. more c.merges _; reads = more c.reads _ }

-- what is counted if the batch was read is counted in any case
pub counts_less : (S : Store) (max : ℕ) (slots : List Slot) (made other : Bool) (old new : Counts) → (other ≡ true → made ≡ true) → CountFew S max slots made old new → CountFew S max slots other old new
counts_less S max slots made other old new lead c = record { maps = c.maps; plain = c.plain; merges = λ is. c.merges (lead is); reads = c.reads }

-- WHETHER AN INDEX IS STALE

and_true : (b : Bool) → b && true ≡ b
and_true true = refl
and_true false = refl

stale_past : (S : Store) (scope : Scope) (e : ℕ) → stale S scope e None ≡ list_any (λ r. in_scope scope r && nat_lt e r.etag) S.rows
stale_past S scope e = λ i. list_any (λ r. and_true (in_scope scope r && nat_lt e r.etag) i) S.rows

none_left : (p : Row → Bool) (rows : List Row) → list_any p rows ≡ false → filter p rows ≡ []
none_left p [] h = refl
none_left p (x ∷ rows) h =
    let f = either_false (p x) (list_any p rows) h in
    ap (λ b. cond b (x ∷ filter p rows) (filter p rows)) f.0 ∙ none_left p rows f.1

take_none : (max : ℕ) → (let xs : List Row = [] in take max xs) ≡ []
take_none zero = refl
take_none (suc max) = refl

-- an index that is not stale has no next batch
no_batch : (S : Store) (s : Slot) (max : ℕ) → is_stale S s ≡ false → batch s.version S max ≡ None
no_batch S s max fresh =
    let scope = reads s.version in
    let e = s.version.etag in
    let all : list_any (λ (r : Row). in_scope scope r && nat_lt e r.etag) S.rows ≡ false = sym (stale_past S scope e) ∙ fresh in
    ap (λ (rows : List Row). advanced s.version rows (etag_of_batch scope e S max) S.cleaned) (ap (take max) (none_left (λ (r : Row). in_scope scope r && nat_lt e r.etag) S.rows all) ∙ take_none max)

pub is_behind : (S : Store) (s : Slot) (max : ℕ) (v : Version) → batch s.version S max ≡ Some v → is_stale S s ≡ true
is_behind S s max v is = elim (is_stale S s) as (λ b. is_stale S s ≡ b → is_stale S s ≡ true) [
  | true ↦ λ e. e
  | false ↦ λ e. absurd (let none = sym (no_batch S s max e) ∙ is in cc)
] refl

pub is_fresh : (W : World) (n max : ℕ) (s : Slot) → Sound W → numbered W.slots n ≡ Some s → 1 ≤ max → batch s.version W.store max ≡ None → is_stale W.store s ≡ false
is_fresh W n max s o e some none =
    let at = found W n s e in
    let both = stays-fresh W.store s max o.store (let f = o.fits s at.there in f.within) some in
    both.0 (ap (λ (next : Option Version). (let v = or_as_before s.version next in v.etag)) none)

-- WHAT CAME OF A TURN

-- a look found x, as one of which P holds
abbrev TurnsAt : List Lived → ℕ → ℕ → Bool → Counts → Counts → (Lived → Type 0) → Type 0
TurnsAt seen n max made old new P = (x : Lived) × AllLink Follows seen x × CountFew x.world.store max (option_to_list (numbered x.world.slots n)) made old new × P x

-- the look ran out of memory
pub unlooked : (seen : List Lived) (n max : ℕ) (x : Lived) (c : Counts) → AllLink Follows seen x → TurnsAt seen n max false c c (λ x. Unit {0})
unlooked seen n max x c a = (x, a, counts_nothing x.world.store max (option_to_list (numbered x.world.slots n)) false c, tt)

-- no index has the number
pub gone_at : (seen seen' : List Lived) (n max : ℕ) (x : Lived) (W : World) (c : Counts) → AllLink Follows seen x → W ≡ x.world → Sound W → numbered W.slots n ≡ None → seen' ≡ x ∷ []
    → TurnsAt seen n max true c c (λ x. Sound x.world × Turns n max x Gone seen')
gone_at seen seen' n max x W c a at o none s =
    (x, a, counts_nothing x.world.store max (option_to_list (numbered x.world.slots n)) true c, (subst Sound at o, absent (ap (λ (V : World). numbered V.slots n) (sym at) ∙ none) refl s))

-- a batch of this index was asked for
pub record Reads (seen : List Lived) (n max : ℕ) (x : Lived) (s : Slot) (made : Bool) (old new : Counts) : Type 0 where
  pub after : AllLink Follows seen x
  pub sound : Sound x.world
  pub slot : numbered x.world.slots n ≡ Some s
  pub counts : CountFew x.world.store max (s ∷ []) made old new

pub reads_at : (seen : List Lived) (n max : ℕ) (x : Lived) (W : World) (S : Store) (s : Slot) (made : Bool) (old new : Counts) → AllLink Follows seen x → W ≡ x.world → S ≡ W.store → Sound W
    → numbered W.slots n ≡ Some s → CountFew S max (s ∷ []) made old new → Reads seen n max x s made old new
reads_at seen n max x W S s made old new a at store o e c = record {
  after = a;
  sound = subst Sound at o;
  slot = ap (λ (V : World). numbered V.slots n) (sym at) ∙ e;
  counts = subst (λ (T : Store). CountFew T max (s ∷ []) made old new) (store ∙ ap (λ (V : World). V.store) at) c;
}

pub counts_of : (seen : List Lived) (n max : ℕ) (x : Lived) (s : Slot) (made other : Bool) (old new : Counts) → Reads seen n max x s made old new → (other ≡ true → made ≡ true)
    → CountFew x.world.store max (option_to_list (numbered x.world.slots n)) other old new
counts_of seen n max x s made other old new r lead =
    subst (λ (o : Option Slot). CountFew x.world.store max (option_to_list o) other old new) (sym r.slot) (counts_less x.world.store max (s ∷ []) made other old new lead r.counts)

-- what was read
pub none_next : {A : Type 0} (f : A → Version) (next : Option A) (v : Version) (S T : Store) (max : ℕ) → option_map f next ≡ batch v S max → next ≡ None → S ≡ T → batch v T max ≡ None
none_next f next v S T max e is same = ap (λ (X : Store). batch v X max) (sym same) ∙ sym e ∙ ap (option_map f) is

pub some_next : {A : Type 0} (f : A → Version) (next : Option A) (a : A) (v : Version) (S T : Store) (max : ℕ) → option_map f next ≡ batch v S max → next ≡ Some a → S ≡ T → batch v T max ≡ Some (f a)
some_next f next a v S T max e is same = ap (λ (X : Store). batch v X max) (sym same) ∙ sym e ∙ ap (option_map f) is

pub some_named : {A : Type 0} (P : A → Type 0) (next : Option A) (a : A) → IfSome next P → next ≡ Some a → P a
some_named P next a h is = subst (λ o. IfSome o P) is h

pub idle_at : (seen seen' : List Lived) (n max : ℕ) (x : Lived) (s : Slot) (old new : Counts) → Reads seen n max x s true old new → 1 ≤ max → batch s.version x.world.store max ≡ None → seen' ≡ x ∷ []
    → TurnsAt seen n max true old new (λ x. Sound x.world × Turns n max x Idle seen')
idle_at seen seen' n max x s old new r some none s' =
    (x, r.after, counts_of seen n max x s true true old new r (λ e. e), (r.sound, idle s r.slot (is_fresh x.world n max s r.sound r.slot some none) refl s'))

pub taken_at : (seen seen' : List Lived) (n max : ℕ) (x : Lived) (s : Slot) (old new : Counts) (v : Version) (y z : Lived) (t : Turned) → Reads seen n max x s true old new
    → batch s.version x.world.store max ≡ Some v → Follows x y → Publishes n v y t z → Follows y z → seen' ≡ z ∷ [] → TurnsAt seen n max true old new (λ x. Sound x.world × Turns n max x t seen')
taken_at seen seen' n max x s old new v y z t r is f p g s' =
    (x, r.after, counts_of seen n max x s true true old new r (λ e. e), (r.sound, taken s v y z r.slot (is_behind x.world.store s max v is) is f p g s'))
