-- What was given to a sink.
use Rattle.std.specs.Prelude.{◌≡◌, ℕ, List, ◌++◌, Option}
use Rattle.raven_ports.specs.Reported.{appended}

-- a prefix of these bytes was added
pub record GivesPrefix (before after : Option (List ℕ)) (bytes : List ℕ) : Type 0 where
  pub prefix : List ℕ
  pub rest : List ℕ
  pub split : bytes ≡ prefix ++ rest
  pub given : after ≡ appended before prefix
