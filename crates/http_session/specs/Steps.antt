-- One step of a session.
use Rattle.std.specs.Prelude.{◌≡◌, ◌≢◌, ◌⊎◌, ℕ, Bool, List, Option, Result, Ok, Err, ⊤}
use Rattle.raven_ports.specs.Reported.{appended}
use Rattle.raven_ports.specs.declared.ports.SinkFault.{SinkFault}
use Rattle.raven_ports.specs.declared.ports.SinkFault.TheVariants as sink_fault
use Rattle.http_read.specs.declared.end.HttpEnd.{HttpEnd}
use Rattle.http_read.specs.declared.end.HttpEnd.TheVariants.{Ended, ReadFault, NoMemory}
use Rattle.http_read.specs.declared.request.HttpRequest.{HttpRequest}
use Rattle.http_session.specs.declared.why.Why.{Why}
use Rattle.http_session.specs.declared.why.Why.TheVariants as why
use Rattle.raven_ports.specs.Given.{GivesPrefix}
use Rattle.http_session.specs.Sessions.{end_bytes}

-- a request was asked, and its response given, all or a prefix of it; or memory ran out before there was one
abbrev pub Gave : {D : Type 0} → (D → HttpRequest → Bool → List ℕ → D → Type 0) → (D → D → Type 0) → D → HttpRequest → Bool → Option (List ℕ) → Result ⊤ SinkFault → D → Option (List ℕ) → Type 0
Gave A K answerer request last old (Ok _) after new = (response : List ℕ) × A answerer request last response after × (new ≡ appended old response)
Gave A K answerer request last old (Err sink_fault.Failed) after new = (response : List ℕ) × A answerer request last response after × GivesPrefix old new response
Gave A K answerer request last old (Err sink_fault.NoMemory) after new = (K answerer after × (new ≡ old)) ⊎ ((response : List ℕ) × A answerer request last response after × GivesPrefix old new response)

-- the bytes have this end, whatever the source and the memory
abbrev pub Tells : HttpEnd → Type 0
Tells end = (end ≢ ReadFault) × (end ≢ NoMemory)

-- an end of the bytes that is not the end of the source
abbrev pub IsOfBytes : HttpEnd → Type 0
IsOfBytes end = (end ≢ Ended) × Tells end

-- a session that ended at bytes that are no request, names an end of the bytes
abbrev pub NamesEnd : Why → Type 0
NamesEnd (why.Http end) = IsOfBytes end
NamesEnd other = Unit {0}

-- the session ends with this end, and its response was given, all or a prefix of it
abbrev pub Refuses : HttpEnd → Option (List ℕ) → Why → Option (List ℕ) → Type 0
Refuses end old why.Ended new = (end ≡ Ended) × (new ≡ old)
Refuses end old (why.Http e) new = (e ≡ end) × (end ≢ Ended) × Tells end × (new ≡ appended old (end_bytes end))
Refuses end old why.ReadFault new = (end ≡ ReadFault) × (new ≡ old)
Refuses end old why.WriteFault new = Tells end × GivesPrefix old new (end_bytes end)
Refuses end old why.NoMemory new = ((end ≡ NoMemory) × (new ≡ old)) ⊎ (Tells end × GivesPrefix old new (end_bytes end))
Refuses end old why.Closed new = ⊥
Refuses end old why.Enough new = ⊥

-- why the session ends after an end without a response
abbrev pub why_silent : HttpEnd → Why
why_silent Ended = why.Ended
why_silent ReadFault = why.ReadFault
why_silent NoMemory = why.NoMemory
why_silent end = why.Http end

-- why the session ends after the last response
abbrev pub why_after : HttpEnd → Result ⊤ SinkFault → Why
why_after end (Ok _) = why.Http end
why_after end (Err sink_fault.Failed) = why.WriteFault
why_after end (Err sink_fault.NoMemory) = why.NoMemory
