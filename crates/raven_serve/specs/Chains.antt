-- Sessions over connections that come in at a door, and calls that serve them one after another.
use Rattle.std.specs.Prelude.{◌≡◌, ◌≤◌, ℕ, zero, suc, List, Bool, MatchBool, IfSome}
use Rattle.raven_ports.specs.Faults.{Rose}
use Rattle.http_read.specs.declared.request.HttpRequest.{HttpRequest}
use Rattle.http_session.specs.Sessions as sessions
use Rattle.http_session.specs.declared.why.Why.{Why}
use Rattle.http_session.specs.declared.why.Why.TheVariants.{ReadFault, WriteFault}
use Rattle.serve_ports.specs.Doors.{Accepts, Doorway, Ends, Fails, FindsClosed, TakesBack}
use Rattle.raven_serve.specs.declared.next.Next.{Next}
use Rattle.raven_serve.specs.declared.next.Next.TheVariants.{Served, Closed, DoorFault}

-- `A` is what answers a request with which bytes, and `K` what holds of it also if memory runs out.
module _ {D : Type 0} (A : D → HttpRequest → Bool → List ℕ → D → Type 0) (K : D → D → Type 0) where
  -- A session over a connection, which ended so. If the source reports its bytes, the responses are those to the requests of these.
  pub record IsSession (first : D) (before : Ends) (why : Why) (last : D) (after : Ends) : Type 0 where
    pub served : IfSome before.source.left (λ bytes. sessions.Finishes A K first bytes before.sink.held why last after.sink.held)
    pub kept : K first last
    pub reads : before.source.faults ≤ after.source.faults
    pub writes : before.sink.faults ≤ after.sink.faults
    pub read_fault : why ≡ ReadFault → Rose before.source.faults after.source.faults
    pub write_fault : why ≡ WriteFault → Rose before.sink.faults after.sink.faults

  -- One connection came in, a session was served over it, and it was handed back with what was read and written.
  pub record ServesOne (first : D) (before : Doorway) (why : Why) (last : D) (after : Doorway) : Type 0 where
    pub found : Ends
    pub left : Ends
    pub between : Doorway
    pub accepts : Accepts before found between
    pub session : IsSession first found why last left
    pub back : TakesBack between left after

  -- what a call of `serve_next` does
  abbrev pub ServesNext : Next → D → Doorway → D → Doorway → Type 0
  ServesNext (Served why) first before last after = ServesOne first before why last after
  ServesNext Closed first before last after = FindsClosed before after × (last ≡ first)
  ServesNext DoorFault first before last after = Fails before after × (last ≡ first)

  -- a call that served a connection
  pub record Call (first : D) (before : Doorway) (last : D) (after : Doorway) : Type 0 where
    pub why : Why
    pub serves : ServesOne first before why last after

  -- so many such calls
  abbrev pub Chain : ℕ → D → Doorway → D → Doorway → Type 0
  Chain zero first before last after = (last ≡ first) × (after ≡ before)
  Chain (suc n) first before last after = (d : D) × (between : Doorway) × Chain n first before d between × Call d between last after

  -- such calls, and then one that found the door closed; or, if it failed, one that failed
  pub record Runs (first : D) (before : Doorway) (failed : Bool) (last : D) (after : Doorway) : Type 0 where
    pub calls : ℕ
    pub between : Doorway
    pub chain : Chain calls first before last between
    pub stop : MatchBool failed (Fails between after) (FindsClosed between after)
