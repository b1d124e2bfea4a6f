-- The answers to the lines of workers.
use Rattle.std.proofs.Common.{◌≡◌, ℕ, ◌<◌, ◌≤◌, List, [], ◌∷◌, ◌++◌, true, false, not, ◌&&◌, ◌==◌, cond, nat_lt, Option, Some, None, Ok, Err, filter, map, refl, sym, ap, ◌∙◌, subst, ◌⊎◌, inl, inr}
use Rattle.std.proofs.lemmas.Bool.{eq-eqb, eqb-true, ltb-true, ltb-false}
use Rattle.std.specs.Option.{option_map}
use Rattle.spec_index.specs.World.{Slot, Version, World, batch, numbered, serving}
use Rattle.spec_server.specs.Requests.{Keeping, Publish, Read}
use Rattle.spec_server.specs.Courses.{Held, Machine, with_slots, with_world}
use Rattle.spec_server.specs.Workers.{Passed, Cleaned, put_in, was_cleaned, held_by, let_go, publish_by, publish_to, published_in, published_reply, read_at, read_batch, with_version}
use Rattle.spec_server.specs.Machine.{step}
use Rattle.spec_server.specs.Replies.{Reply}
use Rattle.spec_server.specs.Sound.{Has}
use Rattle.raven_laws.specs.Workers.{IsPublishAnswer, IsReadAnswer, LetsGo}
use Rattle.spec_store.proofs.StoreLemmas.{both_true}
use Rattle.raven_laws.proofs.SlotLemmas.{Has-map, Has-mapped}

-- WHAT IS HELD

-- a worker that lets go holds nothing, and each other what it held
let_go-none : (worker : ℕ) (held : List Held) → held_by (filter (λ h. not (h.worker == worker)) held) worker ≡ None
let_go-none worker [] = refl
let_go-none worker (h ∷ held) = elim (h.worker == worker) as (λ b. (h.worker == worker) ≡ b → held_by (cond (not b) (h ∷ filter (λ x. not (x.worker == worker)) held) (filter (λ x. not (x.worker == worker)) held)) worker ≡ None) [
  | true ↦ λ e. let_go-none worker held
  | false ↦ λ e. ap (λ b. cond b (Some h) (held_by (filter (λ x. not (x.worker == worker)) held) worker)) e ∙ let_go-none worker held
] refl

let_go-other : (worker other : ℕ) (held : List Held) → (other ≡ worker → ⊥) → held_by (filter (λ h. not (h.worker == worker)) held) other ≡ held_by held other
let_go-other worker other [] apart = refl
let_go-other worker other (h ∷ held) apart =
    let rest = filter (λ x. not (x.worker == worker)) held in
    elim (h.worker == worker) as (λ b. (h.worker == worker) ≡ b → held_by (cond (not b) (h ∷ rest) rest) other ≡ cond (h.worker == other) (Some h) (held_by held other)) [
      | true ↦ λ e. let_go-other worker other held apart ∙ ap (λ b. cond b (Some h) (held_by held other)) (sym (not-other e))
      | false ↦ λ e. ap (λ o. cond (h.worker == other) (Some h) o) (let_go-other worker other held apart)
    ] refl
  where
    not-other : (h.worker == worker) ≡ true → (h.worker == other) ≡ false
    not-other e = elim (h.worker == other) as (λ b. (h.worker == other) ≡ b → b ≡ false) [
      | true ↦ λ f. absurd (apart (sym (eqb-true h.worker other f) ∙ eqb-true h.worker worker e))
      | false ↦ λ f. refl
    ] refl

-- what is held behind the rest is found if nothing else is
held-last : (held : List Held) (h : Held) → held_by held h.worker ≡ None → held_by (held ++ h ∷ []) h.worker ≡ Some h
held-last [] h none = ap (λ b. cond b (Some h) None) (eq-eqb h.worker h.worker refl)
held-last (x ∷ held) h none = elim (x.worker == h.worker) as (λ b. cond b (Some x) (held_by held h.worker) ≡ None → cond b (Some x) (held_by (held ++ h ∷ []) h.worker) ≡ Some h) [
  | true ↦ λ e. absurd cc
  | false ↦ λ e. held-last held h e
] none

held-before : (held : List Held) (h : Held) (other : ℕ) → (other ≡ h.worker → ⊥) → held_by (held ++ h ∷ []) other ≡ held_by held other
held-before [] h other apart = ap (λ b. cond b (Some h) None) (elim (h.worker == other) as (λ b. (h.worker == other) ≡ b → b ≡ false) [
  | true ↦ λ e. absurd (apart (sym (eqb-true h.worker other e)))
  | false ↦ λ e. refl
] refl)
held-before (x ∷ held) h other apart = ap (λ o. cond (x.worker == other) (Some x) o) (held-before held h other apart)

-- READING

read_batch-answered : (M : Machine) (worker max : ℕ) (name : List ℕ) (s : Slot) (v : Option Version) → serving M.world.slots name ≡ Some s → batch s.version M.world.store max ≡ v
    → IsReadAnswer M worker max name (read_batch M worker s v)
read_batch-answered M worker max name s None serves e = inr (inl (record {
  slot = s;
  serves = serves;
  idle = e;
  reply = refl;
  world = refl;
  holds = let_go-none worker M.held;
  others = λ other apart. let_go-other worker other M.held apart;
}))
read_batch-answered M worker max name s (Some v) serves e =
    let h : Held = record { worker = worker; number = s.number; version = v } in
    let rest = filter (λ x. not (x.worker == worker)) M.held in
    inr (inr (record {
      slot = s;
      serves = serves;
      version = v;
      read = e;
      reply = refl;
      world = refl;
      holds = held-last rest h (let_go-none worker M.held);
      others = λ other apart. held-before rest h other apart ∙ let_go-other worker other M.held apart;
    }))

pub read-answered : (M : Machine) (k : Keeping) (now worker max : ℕ) (name : List ℕ) → IsReadAnswer M worker max name (step M k now (Read worker max name))
read-answered M k now worker max name = by (serving M.world.slots name) refl
  where
    by : (there : Option Slot) → serving M.world.slots name ≡ there → IsReadAnswer M worker max name (read_at M worker max name there)
    by None e = inl (record { none = e; reply = refl })
    by (Some s) e = read_batch-answered M worker max name s (batch s.version M.world.store max) e refl

-- PUBLISHING

lets-go : (M : Machine) (worker : ℕ) (W : World) (reply : Reply) → LetsGo M worker (record { reply = reply; machine = with_world (let_go M worker) W })
lets-go M worker W reply = record { holds = let_go-none worker M.held; others = λ other apart. let_go-other worker other M.held apart }

-- the slot of the number has the version, and each other is as it was
numbered-put : (n : ℕ) (v : Version) (slots : List Slot) → numbered (map (with_version n v) slots) n ≡ option_map (λ s. record { number = s.number; name = s.name; version = v; row = s.row }) (numbered slots n)
numbered-put n v [] = refl
numbered-put n v (s ∷ slots) = elim (s.number == n) as (λ b. (s.number == n) ≡ b
    → cond ((cond b (put s) s).number == n) (Some (cond b (put s) s)) (numbered (map (with_version n v) slots) n) ≡ option_map put (cond b (Some s) (numbered slots n))) [
      | true ↦ λ e. ap (λ b. cond b (Some (put s)) (numbered (map (with_version n v) slots) n)) e
      | false ↦ λ e. ap (λ b. cond b (Some s) (numbered (map (with_version n v) slots) n)) e ∙ numbered-put n v slots
    ] refl
  where
    put : Slot → Slot
    put s = record { number = s.number; name = s.name; version = v; row = s.row }

put-other : (n : ℕ) (v : Version) (s : Slot) → (s.number ≡ n → ⊥) → with_version n v s ≡ s
put-other n v s apart = elim (s.number == n) as (λ b. (s.number == n) ≡ b → cond b (record { number = s.number; name = s.name; version = v; row = s.row }) s ≡ s) [
  | true ↦ λ e. absurd (apart (eqb-true s.number n e))
  | false ↦ λ e. refl
] refl

put-number : (n : ℕ) (v : Version) (s : Slot) → (with_version n v s).number ≡ s.number
put-number n v s = elim (s.number == n) as (λ b. (cond b (record { number = s.number; name = s.name; version = v; row = s.row }) s).number ≡ s.number) [ true ↦ refl | false ↦ refl ]

publish-at : (M : Machine) (worker : ℕ) (h : Held) (there : Option Slot) → held_by M.held worker ≡ Some h → numbered M.world.slots h.number ≡ there
    → IsPublishAnswer M worker (publish_to M worker (published_reply h.version there) (published_in M.world h.number h.version there))
publish-at M worker h None held e = inr (inl (record { batch = h; held = held; gone = e; reply = refl; world = refl; lets = lets-go M worker M.world (Reply.Gone h.number) }))
publish-at M worker h (Some s) held e =
    elim (nat_lt s.version.etag h.version.etag) as (λ b. nat_lt s.version.etag h.version.etag ≡ b
    → IsPublishAnswer M worker (publish_to M worker reply (cond b (put_in W h.number h.version) (Err (Passed s.version.etag))))) [
      | true ↦ λ t. put-at (ltb-true s.version.etag h.version.etag t)
      | false ↦ λ t. inr (inr (inl (record {
        batch = h;
        held = held;
        slot = s;
        live = e;
        passed = ltb-false s.version.etag h.version.etag t;
        reply = refl;
        world = refl;
        lets = lets-go M worker W (Reply.Passed s.version.etag);
      })))
    ] refl
  where
    W : World
    W = M.world

    put : Slot → Slot
    put = with_version h.number h.version

    reply : Reply
    reply = Reply.Published s.version.etag s.name h.version.etag

    may_go : was_cleaned W.store h.version ≡ false → (W.store.cleaned ≤ h.version.cleaned) ⊎ (W.store.cleaned ≤ h.version.etag)
    may_go u = elim (nat_lt h.version.cleaned W.store.cleaned) as (λ b. nat_lt h.version.cleaned W.store.cleaned ≡ b → b && nat_lt h.version.etag W.store.cleaned ≡ false
        → (W.store.cleaned ≤ h.version.cleaned) ⊎ (W.store.cleaned ≤ h.version.etag)) [
          | true ↦ λ f g. inr (ltb-false h.version.etag W.store.cleaned g)
          | false ↦ λ f g. inl (ltb-false h.version.cleaned W.store.cleaned f)
        ] refl u

    put-at : s.version.etag < h.version.etag → IsPublishAnswer M worker (publish_to M worker reply (put_in W h.number h.version))
    put-at ahead = elim (was_cleaned W.store h.version) as (λ c. was_cleaned W.store h.version ≡ c
        → IsPublishAnswer M worker (publish_to M worker reply (cond c (Err (Cleaned W.store.cleaned)) (Ok (with_slots W (map put W.slots)))))) [
          | true ↦ λ u. let both = both_true (nat_lt h.version.cleaned W.store.cleaned) (nat_lt h.version.etag W.store.cleaned) u in inr (inr (inr (inl (record {
            batch = h;
            held = held;
            slot = s;
            live = e;
            ahead = ahead;
            since = ltb-true h.version.cleaned W.store.cleaned both.0;
            past = ltb-true h.version.etag W.store.cleaned both.1;
            reply = refl;
            world = refl;
            lets = lets-go M worker W (Reply.Cleaned W.store.cleaned);
          }))))
          | false ↦ λ u. inr (inr (inr (inr (record {
            batch = h;
            held = held;
            slot = s;
            live = e;
            ahead = ahead;
            current = may_go u;
            reply = refl;
            brought = numbered-put h.number h.version W.slots ∙ ap (option_map (λ x. record { number = x.number; name = x.name; version = h.version; row = x.row })) e;
            kept = λ x there apart. subst (Has (map put W.slots)) (put-other h.number h.version x apart) (Has-mapped put W.slots x there);
            no_more = λ y there apart.
                let x = Has-map put W.slots y there in
                let n = ap (λ (z : Slot). z.number) (sym x.2) ∙ put-number h.number h.version x.0 in
                subst (Has W.slots) (sym (put-other h.number h.version x.0 (λ f. apart (n ∙ f))) ∙ x.2) x.1;
            store = refl;
            notes = refl;
            lets = lets-go M worker (with_slots W (map put W.slots)) reply;
          }))))
        ] refl

pub publish-answered : (M : Machine) (k : Keeping) (now worker : ℕ) → IsPublishAnswer M worker (step M k now (Publish worker))
publish-answered M k now worker = by (held_by M.held worker) refl
  where
    by : (there : Option Held) → held_by M.held worker ≡ there → IsPublishAnswer M worker (publish_by M worker there)
    by None e = inl (record { none = e; reply = refl })
    by (Some h) e = publish-at M worker h (numbered M.world.slots h.number) e refl
