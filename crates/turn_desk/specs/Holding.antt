-- One hold with the step of a request.
use Rattle.std.specs.Prelude.{◌≡◌, ℕ, Option}
use Rattle.spec_server.specs.Requests.{Request}
use Rattle.spec_server.specs.Replies.{Reply}
use Rattle.spec_server.specs.Sound.{Sound}
use Rattle.spec_desk.specs.Lived.{Lived, Seen, seen_of}
use Rattle.spec_desk.specs.Stepped.{IsStepAt}

-- the hold found x in a sound world, took this away of it, and its step gave the reply and left y
pub record HasStepped (clock : Option ℕ) (q : Request) (x : Lived) (shot : Seen) (reply : Reply) (y : Lived) : Type 0 where
  pub sound : Sound x.world
  pub shown : shot ≡ seen_of x
  pub step : IsStepAt clock q x reply y
