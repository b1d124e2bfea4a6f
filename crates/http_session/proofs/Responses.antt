-- The response to a request, all or a prefix of it.
use Rattle.std.proofs.Common.{◌≡◌, ℕ, List, Bool, Option, Result, Ok, Err, OnOk, OnErr, inl, inr, refl}
use Rattle.std.specs.Prelude.{⊤}
use Rattle.raven_ports.specs.Reported.{appended}
use Rattle.raven_ports.specs.declared.ports.SinkFault.{SinkFault}
use Rattle.raven_ports.specs.declared.ports.SinkFault.TheVariants as sink_fault
use Rattle.http_read.specs.declared.request.HttpRequest.{HttpRequest}
use Rattle.raven_ports.specs.Given.{GivesPrefix}
use Rattle.http_session.specs.Steps.{Gave}

module _ {D : Type 0} (A : D → HttpRequest → Bool → List ℕ → D → Type 0) (K : D → D → Type 0) (answerer after : D) (request : HttpRequest) (last : Bool) (old : Option (List ℕ)) where
  pub gave_none : K answerer after → Gave A K answerer request last old (Err sink_fault.NoMemory) after old
  gave_none kept = inl (kept, refl)

  pub gave_some : (new : Option (List ℕ)) (response : List ℕ) (r : Result ⊤ SinkFault) → A answerer request last response after → OnOk r (new ≡ appended old response) → OnErr r (GivesPrefix old new response)
      → Gave A K answerer request last old r after new
  gave_some new response (Ok _) asked all part = (response, asked, all)
  gave_some new response (Err sink_fault.Failed) asked all part = (response, asked, part)
  gave_some new response (Err sink_fault.NoMemory) asked all part = inr (response, asked, part)

pub ruleset giving = (gave_none, gave_some)
