-- Which job was begun.
use Rattle.std.specs.Prelude.{◌≡◌}
use Rattle.raven_crew.specs.Outcomes.{IsOutcome}
use Rattle.raven_crew.specs.declared.start.Begun.{Begun}
use Rattle.raven_crew.specs.declared.start.Begun.TheVariants.{InThread, Here}

-- a thread promised its outcome, or the outcome is there
abbrev pub IsBegun : {J X : Type 0} → (J → X → Type 0) → J → Begun J X → Type 0
IsBegun done job (InThread thread) = thread.promise.0.value ≡ job
IsBegun done job (Here outcome) = IsOutcome done job outcome
