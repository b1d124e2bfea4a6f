-- The jobs of a server: one for each door, and some that make batches.
use Rattle.std.specs.Prelude.{◌≡◌, ℕ, zero, suc, ◌+◌, List, [], ◌∷◌, ◌++◌, Bool, true, false, ◌||◌, Option, Some, None, map}
use Rattle.atomic_table.specs.Seated.{TableId}
use Rattle.raven_turn.specs.Passes.{Knowledge}
use Rattle.spec_desk.specs.Lived.{Lived}
use Rattle.serve_ports.specs.Doors.{Doorway}
use Rattle.raven_serve.specs.Fronts.{IsFront, SamePass}

-- a job: its pass, the one moment of its clock if that stands still, the name of the database, and the door of a front
pub record Post : Type 0 where
  pub pass : Knowledge Lived
  pub clock : Option ℕ
  pub name : List ℕ
  pub door : Option Doorway

-- what it leaves: its pass, the door of a front, and whether that failed
pub record Report : Type 0 where
  pub pass : Knowledge Lived
  pub door : Option Doorway
  pub failed : Bool

-- a front served its door; a pump has none
abbrev pub IsDoorDone : Post → Option Doorway → Knowledge Lived → Bool → Option Doorway → Type 0
IsDoorDone job None pass failed None = failed ≡ false
IsDoorDone job None pass failed (Some left) = ⊥
IsDoorDone job (Some door) pass failed None = ⊥
IsDoorDone job (Some door) pass failed (Some left) = IsFront job.clock job.name job.pass door failed left pass

-- a job was done
pub record Does (job : Post) (out : Report) : Type 0 where
  pub pass : SamePass job.pass out.pass
  pub door : IsDoorDone job job.door out.pass out.failed out.door

-- THE JOBS

-- a pass of one share that has seen the same, and has made nothing
abbrev pub share_of : Knowledge Lived → Knowledge Lived
share_of p = record { turn = p.turn; shares = 1; seen = p.seen; made = 0 }

abbrev pub post : Knowledge Lived → Option ℕ → List ℕ → Option Doorway → Post
post p clock name door = record { pass = share_of p; clock = clock; name = name; door = door }

-- so many places without a door
abbrev pub doorless : ℕ → List (Option Doorway)
doorless zero = []
doorless (suc n) = None ∷ doorless n

-- one for each door, and so many without one
abbrev pub places : List Doorway → ℕ → List (Option Doorway)
places [] n = doorless n
places (d ∷ doors) n = Some d ∷ places doors n

-- a job for each place, with one share of this pass
abbrev pub posts : Knowledge Lived → Option ℕ → List ℕ → List (Option Doorway) → List Post
posts p clock name slots = map (post p clock name) slots

-- a job that was not begun
abbrev pub undone : Post → Report
undone job = record { pass = job.pass; door = job.door; failed = false }

-- WHAT THEY LEAVE TOGETHER

-- two passes joined
abbrev pub both : Knowledge Lived → Knowledge Lived → Knowledge Lived
both p q = record { turn = p.turn; shares = p.shares + q.shares; seen = p.seen ++ q.seen; made = p.made + q.made }

-- this pass joined with those of all jobs
abbrev pub join_all : Knowledge Lived → List Report → Knowledge Lived
join_all p [] = p
join_all p (o ∷ outs) = join_all (both p o.pass) outs

abbrev pub with_door : Option Doorway → List Doorway → List Doorway
with_door None doors = doors
with_door (Some d) doors = d ∷ doors

-- the doors that came back, in order
abbrev pub doors_in : List Report → List Doorway
doors_in [] = []
doors_in (o ∷ outs) = with_door o.door (doors_in outs)

-- whether one of them failed
abbrev pub any_failed : List Report → Bool
any_failed [] = false
any_failed (o ∷ outs) = o.failed || any_failed outs

-- a pass of this turn with one share
abbrev pub Belongs : TableId → Report → Type 0
Belongs turn o = (o.pass.turn ≡ turn) × (o.pass.shares ≡ 1)
