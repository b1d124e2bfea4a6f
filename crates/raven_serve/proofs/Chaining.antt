-- Calls one after another.
use Rattle.std.proofs.Common.{◌≡◌, ℕ, zero, suc, List, Bool, refl, subst, sym}
use Rattle.std.specs.Prelude.{MatchBool}
use Rattle.http_read.specs.declared.request.HttpRequest.{HttpRequest}
use Rattle.http_session.specs.declared.why.Why.{Why}
use Rattle.serve_ports.specs.Doors.{Doorway, Fails, FindsClosed}
use Rattle.raven_serve.specs.Chains.{Chain, Runs, ServesOne}

module _ {D : Type 0} (A : D → HttpRequest → Bool → List ℕ → D → Type 0) (K : D → D → Type 0) (first : D) (before : Doorway) where
  -- the calls so far
  pub record Going (d : D) (now : Doorway) : Type 0 where
    pub calls : ℕ
    pub chain : Chain A K calls first before d now

  pub begins : Going first before
  begins = record { calls = 0; chain = (refl, refl) }

  pub goes_on : (d : D) (now : Doorway) (why : Why) (last : D) (after : Doorway) → Going d now → ServesOne A K d now why last after → Going last after
  goes_on d now why last after g s = record { calls = suc g.calls; chain = (d, now, g.chain, record { why = why; serves = s }) }

  pub ends : (d : D) (now : Doorway) (failed : Bool) (last : D) (after : Doorway) → Going d now → last ≡ d → MatchBool failed (Fails now after) (FindsClosed now after) → Runs A K first before failed last after
  ends d now failed last after g e stop = subst (λ (x : D). Runs A K first before failed x after) (sym e) (record { calls = g.calls; between = now; chain = g.chain; stop = stop })
