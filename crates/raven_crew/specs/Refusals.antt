-- What a refusal hands back.
use Rattle.std.specs.Prelude.{◌≡◌, List, Bool, true, false, Result, Ok, Err, ⊤}
use Rattle.raven_crew.specs.declared.together.CrewFault.{CrewFault}
use Rattle.raven_crew.specs.declared.together.CrewFault.TheVariants.{Refused, NoMemory}

-- all jobs, in order
abbrev pub HandsBack : {J : Type 0} → List J → CrewFault J → Type 0
HandsBack jobs (Refused back) = back.items ≡ jobs
HandsBack jobs NoMemory = ⊤

-- whether the jobs were refused
abbrev pub is_refused : {X J : Type 0} → Result X (CrewFault J) → Bool
is_refused (Ok outputs) = false
is_refused (Err (Refused back)) = true
is_refused (Err NoMemory) = false
