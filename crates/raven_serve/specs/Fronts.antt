-- What serves a door over a turn.
use Rattle.std.specs.Prelude.{◌≡◌, ◌-◌, ℕ, List, [], ◌∷◌, Bool, Option}
use Rattle.http_read.specs.declared.request.HttpRequest.{HttpRequest}
use Rattle.raven_turn.specs.Passes.{Knowledge}
use Rattle.spec_desk.specs.Lived.{Follows, Lived}
use Rattle.spec_desk.specs.Receipts.{AllLink}
use Rattle.http_desk.specs.Answers.{AnswersWith, Keeps}
use Rattle.turn_desk.specs.Seated.{Seated, seated, stands_seated}
use Rattle.serve_ports.specs.Doors.{Doorway}
use Rattle.raven_serve.specs.Chains.{Runs}

-- a pass of the same turn with the same shares
abbrev pub SamePass : Knowledge Lived → Knowledge Lived → Type 0
SamePass before after = (after.turn ≡ before.turn) × (after.shares ≡ before.shares)

-- it answers a request to the database of a name with these bytes, and finds what follows all that it has seen
abbrev pub AnswersSeated : Seated × List ℕ → HttpRequest → Bool → List ℕ → Seated × List ℕ → Type 0
AnswersSeated = AnswersWith Follows stands_seated

-- and this holds of it and of the name also if memory ran out
abbrev pub KeepsSeated : Seated × List ℕ → Seated × List ℕ → Type 0
KeepsSeated = Keeps (λ d e. SamePass d.pass e.pass) stands_seated

-- one front less is not at its end
pub record EndsFront (x y : Lived) : Type 0 where
  pub world : y.world ≡ x.world
  pub keeper : y.keeper ≡ x.keeper
  pub fronts : y.fronts ≡ x.fronts - 1

-- From a desk over this pass the connections of a door were served, to the database of this name, until the door was closed, or failed. Then its front
-- ended, in a value that follows all that the desk had seen, and the pass has seen exactly what that left.
pub record IsFront (clock : Option ℕ) (name : List ℕ) (pass : Knowledge Lived) (before : Doorway) (failed : Bool) (after : Doorway) (pass' : Knowledge Lived) : Type 0 where
  pub last : Seated × List ℕ
  pub runs : Runs AnswersSeated KeepsSeated (seated pass clock, name) before failed last after
  pub found : Lived
  pub end : Lived
  pub follows : AllLink Follows last.0.pass.seen found
  pub ended : EndsFront found end
  pub later : Follows found end
  pub now_seen : pass'.seen ≡ end ∷ []
