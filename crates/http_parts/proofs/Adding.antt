-- A route that conflicts with none is refused for want of memory alone.
use Rattle.std.proofs.Common.{◌≡◌, ℕ, List, None, Result, Ok, Err, IfErr, ◌∙◌, refl, sym}
use Rattle.std.specs.Result.{IsErrAnd}
use Rattle.matchit.specs.Rows.{RowsOf}
use Rattle.matchit.specs.Router.{Refused, RouteOf, nearest}
use Rattle.matchit.specs.declared.error.InsertError.{InsertError}
use Rattle.matchit.specs.declared.error.InsertError.TheVariants.{Conflict, InvalidParam, InvalidParamSegment, InvalidCatchAll, OutOfMemory}

pub for_memory : {T : Type 0} (p : List ℕ) (rows : RowsOf (RouteOf T)) (e : InsertError) → nearest p rows ≡ None → Refused p rows e → e ≡ OutOfMemory
for_memory p rows (Conflict with) none refused = let both = sym none ∙ refused.1 in absurd cc
for_memory p rows OutOfMemory none refused = refl
for_memory p rows InvalidParamSegment none refused = absurd refused
for_memory p rows InvalidParam none refused = absurd refused
for_memory p rows InvalidCatchAll none refused = absurd refused

pub only_memory : (r : Result (Unit {0}) InsertError) (e : InsertError) → IsErrAnd r (λ x. x ≡ e) → e ≡ OutOfMemory → IfErr r (λ x. x ≡ OutOfMemory)
only_memory (Ok u) e is memory = tt
only_memory (Err x) e is memory = is ∙ memory
