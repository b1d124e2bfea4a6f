-- Brackets that are not there are not open.
use Rattle.std.proofs.Common.{◌≡◌, ℕ, ◌+◌, ◌-◌, ◌≤◌, List, [], ◌∷◌, Bool, true, false, cond, ◌==◌, ◌||◌, count_by, refl, arith}
use Rattle.std.proofs.lemmas.Bool.{le-ltb}
use Rattle.std.proofs.lemmas.List.Sums.{sum_by-cons}
use Rattle.spec_data.specs.Scan.{Place, outside, in_text, escaped, place_after, open_after, is_too_deep}
use Rattle.raven_json.specs.Openings.{is_opening}

opened : (a b : Bool) (c : ℕ) → cond a (c + 1) (cond b (c - 1) c) ≤ c + cond a 1 0
opened true b c = omega arith
opened false true c = omega arith
opened false false c = omega arith

open_step : (p : Place) (c b : ℕ) → open_after p c b ≤ c + cond (is_opening b) 1 0
open_step outside c b = opened (is_opening b) ((b == 125) || (b == 93)) c
open_step in_text c b = omega arith
open_step escaped c b = omega arith

few : (p : Place) (c : ℕ) (bs : List ℕ) → c + count_by is_opening bs ≤ 100 → is_too_deep p c bs ≡ false
few p c [] h = refl
few p c (b ∷ bs) h =
    let step = open_step p c b in
    let more : count_by is_opening (b ∷ bs) ≡ cond (is_opening b) 1 0 + count_by is_opening bs = sum_by-cons (λ x. cond (is_opening x) 1 0) b bs in
    rw (le-ltb 100 (open_after p c b) (omega arith), few (place_after p b) (open_after p c b) bs (omega arith)) refl

pub few_openings : (bs : List ℕ) → count_by is_opening bs ≤ 100 → is_too_deep outside 0 bs ≡ false
few_openings bs h = few outside 0 bs (omega arith)

pub ruleset openings = (few_openings)
