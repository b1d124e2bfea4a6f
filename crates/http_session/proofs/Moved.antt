-- What is known of one end of a connection after a call of the other.
use Rattle.std.proofs.Common.{◌≡◌, ℕ, List, Bool, Option, Result, IfSome, sym, subst}
use Rattle.std.specs.Prelude.{⊤}
use Rattle.raven_ports.specs.declared.ports.SinkFault.{SinkFault}
use Rattle.http_read.specs.declared.end.HttpEnd.{HttpEnd}
use Rattle.http_read.specs.declared.request.HttpRequest.{HttpRequest}
use Rattle.http_read.specs.Reading.{RequestCame, unread}
use Rattle.http_session.specs.declared.why.Why.{Why}
use Rattle.http_session.specs.Steps.{Gave, Refuses}

pub gave_from : {D : Type 0} (A : D → HttpRequest → Bool → List ℕ → D → Type 0) (K : D → D → Type 0) (answerer after : D) (request : HttpRequest) (last : Bool) (middle now then_now : Option (List ℕ)) (r : Result ⊤ SinkFault)
    → middle ≡ now → Gave A K answerer request last middle r after then_now → Gave A K answerer request last now r after then_now
gave_from A K answerer after request last middle now then_now r is h = subst (λ o. Gave A K answerer request last o r after then_now) is h

pub refuses_from : (end : HttpEnd) (middle now then_now : Option (List ℕ)) (w : Why) → middle ≡ now → Refuses end middle w then_now → Refuses end now w then_now
refuses_from end middle now then_now w is h = subst (λ o. Refuses end o w then_now) is h

pub came_to : (before : Option (List ℕ)) (r : Result HttpRequest HttpEnd) (taken : List ℕ) (middle then_behind : Option (List ℕ)) → then_behind ≡ middle
    → IfSome before (λ rest. RequestCame rest r (unread taken middle)) → IfSome before (λ rest. RequestCame rest r (unread taken then_behind))
came_to before r taken middle then_behind is h = subst (λ o. IfSome before (λ rest. RequestCame rest r (unread taken o))) (sym is) h
