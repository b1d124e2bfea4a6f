-- What becomes of a job.
use Rattle.std.specs.Prelude.{◌≡◌, Result, Ok, Err, List, [], ◌∷◌}

-- it ran and gave this output, or it came back
abbrev pub IsOutcome : {J X : Type 0} → (J → X → Type 0) → J → Result X J → Type 0
IsOutcome done job (Ok output) = done job output
IsOutcome done job (Err back) = back ≡ job

module _ {J X : Type 0} where
  -- the outputs of those that ran
  abbrev pub outputs_in : List (Result X J) → List X
  outputs_in [] = []
  outputs_in (Ok output ∷ rs) = output ∷ outputs_in rs
  outputs_in (Err job ∷ rs) = outputs_in rs

  -- those that came back
  abbrev pub returned_in : List (Result X J) → List J
  returned_in [] = []
  returned_in (Ok output ∷ rs) = returned_in rs
  returned_in (Err job ∷ rs) = job ∷ returned_in rs
