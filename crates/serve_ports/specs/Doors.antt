-- What contracts see of a door and of the connections that come in at it.
use Rattle.std.specs.Prelude.{◌≡◌, ◌≤◌, ℕ, ◌+◌, List, [], ◌∷◌, ◌++◌, Bool, true, false, Option, option_map, IfSome}
use Rattle.raven_ports.specs.Faults.{Rose}
use Rattle.raven_ports.specs.Plan.{Plan, is_failing, one_later}
use Rattle.raven_ports.specs.States.{SinkState, SourceState}

-- a connection: its source and its sink
pub record Ends : Type 0 where
  pub source : SourceState
  pub sink : SinkState

abbrev pub ends : SourceState → SinkState → Ends
ends source sink = record { source = source; sink = sink }

-- A door. If it reports them: the connections that are left, those that came back, in order, how many were accepted and have not come back, and which
-- of its calls fail. And whether it is closed, and how often it has failed.
pub record Doorway : Type 0 where
  pub left : Option (List Ends)
  pub back : Option (List Ends)
  pub out : Option ℕ
  pub plan : Option Plan
  pub closed : Bool
  pub faults : ℕ

-- some connection was accepted and has not come back, if the door reports that
abbrev pub IsOneOut : Doorway → Type 0
IsOneOut d = IfSome d.out (λ n. 1 ≤ n)

-- The call accepted this connection: the first of those that were left. The door was not closed.
pub record Accepts (before : Doorway) (conn : Ends) (after : Doorway) : Type 0 where
  pub was_open : before.closed ≡ false
  pub left : before.left ≡ option_map (λ l. conn ∷ l) after.left
  pub back : after.back ≡ before.back
  pub out : after.out ≡ option_map (λ n. n + 1) before.out
  pub planned : IfSome before.plan (λ p. is_failing p ≡ false)
  pub called : after.plan ≡ option_map one_later before.plan
  pub faults : after.faults ≡ before.faults

-- The call found the door closed, and changed nothing else. A door that reports its connections was closed before, and none was left. A real one may
-- have been closed meanwhile, by a call of another door.
pub record FindsClosed (before after : Doorway) : Type 0 where
  pub closed : after.closed ≡ true
  pub was_closed : IfSome before.left (λ l. (before.closed ≡ true) × (l ≡ []))
  pub left : after.left ≡ before.left
  pub back : after.back ≡ before.back
  pub out : after.out ≡ before.out
  pub plan : after.plan ≡ before.plan
  pub faults : after.faults ≡ before.faults

-- The call failed, and the door is open as before.
pub record Fails (before after : Doorway) : Type 0 where
  pub was_open : before.closed ≡ false
  pub is_open : after.closed ≡ false
  pub left : after.left ≡ before.left
  pub back : after.back ≡ before.back
  pub out : after.out ≡ before.out
  pub planned : IfSome before.plan (λ p. is_failing p ≡ true)
  pub called : after.plan ≡ option_map one_later before.plan
  pub faults : Rose before.faults after.faults

-- This connection came back, behind those that came back before.
pub record TakesBack (before : Doorway) (conn : Ends) (after : Doorway) : Type 0 where
  pub left : after.left ≡ before.left
  pub back : after.back ≡ option_map (λ l. l ++ conn ∷ []) before.back
  pub out : before.out ≡ option_map (λ n. n + 1) after.out
  pub plan : after.plan ≡ before.plan
  pub closed : after.closed ≡ before.closed
  pub faults : after.faults ≡ before.faults
