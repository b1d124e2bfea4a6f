-- Publishing a batch on a live value.
use Rattle.std.proofs.Common.{◌≡◌, ℕ, [], ◌∷◌, Option, Some, None, Result, Ok, Err, IfOk, sym, ap, ◌∙◌, subst}
use Rattle.spec_index.specs.World.{Slot, Version, World, numbered}
use Rattle.spec_server.specs.Courses.{Change, Course, only_reply, storing}
use Rattle.spec_server.specs.Workers.{PublishRefusal, publish_refused, published, published_in, published_reply}
use Rattle.spec_server.specs.Machine.{machine_of}
use Rattle.spec_server.specs.Replies as replies
use Rattle.spec_server.specs.Replies.{Reply}
use Rattle.spec_server.specs.Sound.{IsHeld, Sound}
use Rattle.raven_ports.specs.States.{KeeperState}
use Rattle.spec_desk.specs.Keepers.{Keeps}
use Rattle.spec_desk.specs.Lived.{Lived, lived}
use Rattle.spec_desk.specs.Publishing.{publication, publishes}
use Rattle.spec_desk.specs.Stepped.{MayMake}
use Rattle.spec_desk.proofs.Parts.{publish_may}

-- THE COURSE

-- the index is gone
pub is_gone : (W : World) (n : ℕ) (v : Version) → None ≡ numbered W.slots n → only_reply (replies.Gone n) ≡ publication W n v
is_gone W n v e = ap (λ (there : Option Slot). publishes (published_reply v there) (published_in W n v there)) e

pub is_refused : (W : World) (n : ℕ) (v : Version) (refusal : PublishRefusal) → (let r : Result World PublishRefusal = Err refusal in r) ≡ published W n v → only_reply (publish_refused refusal) ≡ publication W n v
is_refused W n v refusal e = ap (publishes (published_reply v (numbered W.slots n))) e

pub is_published : (W V : World) (n : ℕ) (v : Version) (s : Slot) (reply : Reply) (c : Change) → Some s ≡ numbered W.slots n → reply ≡ published_reply v (Some s)
    → (let r : Result World PublishRefusal = Ok V in r) ≡ published W n v → c ≡ storing [] V → record { changes = c ∷ []; reply = reply } ≡ publication W n v
is_published W V n v s reply c there told e is =
    ap (λ (d : Change). (let x : Course = record { changes = d ∷ []; reply = reply } in x)) is
    ∙ ap (λ (r : Reply). (let x : Course = record { changes = storing [] V ∷ []; reply = r } in x)) (told ∙ ap (published_reply v) there)
    ∙ ap (publishes (published_reply v (numbered W.slots n))) e

-- ON A LIVE VALUE

pub publication_at : {T E : Type 0} (view : T → Course) (r : Result T E) (n : ℕ) (v : Version) (W : World) (x : Lived) → W ≡ x.world → IfOk r (λ c. view c ≡ publication W n v)
    → IfOk r (λ c. view c ≡ publication x.world n v)
publication_at view (Err e) n v W x at is = tt
publication_at view (Ok c) n v W x at is = is ∙ ap (λ (V : World). publication V n v) at

-- its change may be made
pub may_publish_in : {T E : Type 0} (view : T → Course) (r : Result T E) (n : ℕ) (v : Version) (W : World) (k : KeeperState) (fronts : ℕ) (V : World) (x : Lived) → lived W k fronts ≡ x → V ≡ W
    → Keeps k.held (machine_of W) → IsHeld x.world (record { worker = 0; number = n; version = v }) → IfOk r (λ c. view c ≡ publication V n v) → IfOk r (λ c. MayMake x (view c).changes)
may_publish_in view (Err f) n v W k fronts V x e at keeps held is = tt
may_publish_in view (Ok c) n v W k fronts V x e at keeps held is =
    let here : W ≡ x.world = ap (λ (z : Lived). z.world) e in
    let same : view c ≡ publication x.world n v = is ∙ ap (λ (U : World). publication U n v) (at ∙ here) in
    let sound = subst (λ (U : World). Sound U) here keeps.sound.world in
    subst (λ (d : Course). MayMake x d.changes) (sym same) (publish_may x (record { worker = 0; number = n; version = v }) sound held)
