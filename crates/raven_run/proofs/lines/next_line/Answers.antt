use Rattle.std.proofs.Common.{◌≡◌, ◌∷◌, ◌-◌, ◌+◌, ◌∙◌, ap, sym, take, drop, length, arith, List, ℕ, [], ◌<◌, ◌≢◌, get_or}
use Rattle.std.proofs.lemmas.Grind.{common_steps}
use Rattle.spec_server.specs.Lines.{lines}
use Rattle.raven_run.proofs.LineLemmas.{cut, uncut}
use Rattle.raven_run.proofs.lines.next_line.Goals as goal

nothing_after : (bs : List ℕ) → lines (take (length bs - length bs) (drop (length bs) bs)) ≡ []
nothing_after bs = let z : take (length bs - length bs) (drop (length bs) bs) ≡ [] = grind (arith, common_steps) in ap lines z

whole : (bs : List ℕ) → 0 < length bs → ((k : ℕ) → k < length bs → get_or bs k 0 ≢ 10) → lines bs ≡ bs ∷ lines (take (length bs - length bs) (drop (length bs) bs))
whole [] h n = absurd (omega arith)
whole (b ∷ bs) h n = uncut b bs n ∙ ap (λ z. (b ∷ bs) ∷ z) (sym (nothing_after (b ∷ bs)))

pub returns-in-None-clause-line : goal.returns-in-None-clause-line
returns-in-None-clause-line c = whole c.args.bytes.now c.requires c.in-None.ensures.none

all_of : (n : ℕ) (bs : List ℕ) → drop n bs ≡ take (length bs - n) (drop n bs)
all_of n bs = grind (arith, common_steps)

pub returns-in-Some-clause-line : goal.returns-in-Some-clause-line
returns-in-Some-clause-line c = cut c.in-Some.end c.args.bytes.now c.in-Some.ensures.found ∙ rw (← c.without_cr.ensures) (ap (λ z. c.without_cr.result.now ∷ lines z) (all_of (c.in-Some.end + 1) c.args.bytes.now))
