-- If no count of faults rises, a valid input is answered to its end.
use Rattle.std.proofs.Common.{◌≡◌, ℕ, ◌+◌, ◌≤◌, List, ◌++◌, Option, Some, None, Ok, Err, length, sym, ap, ◌∙◌, subst, arith}
use Rattle.std.proofs.lemmas.List.{length-append}
use Rattle.spec_data.specs.Kept.{KeptRow}
use Rattle.raven_ports.specs.Reported.{preceded}
use Rattle.raven_ports.specs.Taken.{TakesMore}
use Rattle.raven_reading.proofs.Once.{held_once}
use Rattle.spec_server.specs.Lines.{max_input}
use Rattle.spec_server.specs.Options.{setting_with}
use Rattle.raven_desk.specs.Openings.{IsBad}
use Rattle.raven_run.specs.Runs.{IsKeptBad, IsValid, Run}

length_of : (taken script : List ℕ) (after : Option (List ℕ)) → Some script ≡ preceded taken after → length taken ≤ length script
length_of taken script None e = absurd cc
length_of taken script (Some rest) e = let s : script ≡ taken ++ rest = (let same : (a b : List ℕ) → Some a ≡ Some b → a ≡ b = λ a b h. cc in same script (taken ++ rest) e) in
    let l : length script ≡ length taken + length rest = ap length s ∙ length-append taken rest in omega arith

pub not_more : (run : Run) → IsValid run → TakesMore max_input run.before.input.left run.after.input.left → ⊥
not_more run v t =
    let l = length_of t.taken v.script run.after.input.left (sym v.input ∙ t.left) in
    let w = v.within in
    let c = t.count in
    absurd (omega arith)

pub not_bad : (run : Run) (etag : ℕ) → IsValid run → IsKeptBad run etag → ⊥
not_bad run etag v b =
    let bad = subst (λ (h : Option (List KeptRow)). IsBad (setting_with run.base) h etag) v.kept b in
    absurd (let once = held_once (setting_with run.base) v.rows (Ok v.machine) (Err etag) v.opens bad in cc)
