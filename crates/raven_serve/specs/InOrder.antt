-- That a door's connections are served in their order.
use Rattle.std.specs.Prelude.{◌≡◌, ℕ, List, [], ◌∷◌, ◌++◌, Bool, option_map, map}
use Rattle.http_read.specs.declared.request.HttpRequest.{HttpRequest}
use Rattle.http_session.specs.declared.why.Why.{Why}
use Rattle.serve_ports.specs.Doors.{Doorway, Ends}
use Rattle.raven_serve.specs.Chains.{IsSession}

-- connections as they came in, and as they were handed back
abbrev pub came_in : List (Ends × Ends) → List Ends
came_in served = map (λ c. c.0) served

abbrev pub handed_back : List (Ends × Ends) → List Ends
handed_back served = map (λ c. c.1) served

module _ {D : Type 0} (A : D → HttpRequest → Bool → List ℕ → D → Type 0) (K : D → D → Type 0) where
  -- a session was served over each of these, one after another
  abbrev pub AreSessions : D → List (Ends × Ends) → D → Type 0
  AreSessions first [] last = last ≡ first
  AreSessions first (c ∷ more) last = (d : D) × ((why : Why) × IsSession A K first c.0 why d c.1) × AreSessions d more last

  -- The first connections that were left at a door came in, in their order, were served one after another, and came back in that order, behind those
  -- that had come back before; if the door reports them.
  pub record ServesInOrder (first : D) (before : Doorway) (last : D) (after : Doorway) : Type 0 where
    pub served : List (Ends × Ends)
    pub sessions : AreSessions first served last
    pub left : before.left ≡ option_map (λ l. came_in served ++ l) after.left
    pub back : after.back ≡ option_map (λ l. l ++ handed_back served) before.back
