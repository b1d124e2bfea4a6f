-- A text whose first member is put in another's place.
use Rattle.std.proofs.Common.{◌≡◌, ◌++◌, ◌∷◌, [], ◌∙◌, ℕ, List, true, sym, ap, append_assoc, append-nil, codes}
use Rattle.raven_value.specs.DocumentView.{Splits}
use Rattle.spec_data.proofs.MemberLemmas.{pairs_of-entries_of}
use Rattle.spec_data.specs.Data.{Data, null, flag, num, text, array, object, Entries, no_entries, entry}
use Rattle.spec_data.specs.Written.{text_of, entries_text}
use Rattle.raven_json.proofs.Back.{entries_of-pairs_of}
use Rattle.raven_json.specs.Shown.{shown_with}

pub ruleset pairs = (pairs_of-entries_of)

-- the members of which the first has the name, with another first
put_first : (k : List ℕ) (e m : Data) (rest : Entries) → k ≡ codes "@metadata" → shown_with (object (entry k e rest)) m ≡ object (entry (codes "@metadata") m rest)
put_first k e m rest is =
    ap (λ (j : List ℕ). shown_with (object (entry j e rest)) m) is
    ∙ ap (λ (ns : Entries). object (entry (codes "@metadata") m ns)) (entries_of-pairs_of rest)

text_first : (old : List ℕ) (m : Data) (rest : Entries)
    → ((old ++ codes "{\"@metadata\":") ++ text_of m) ++ (entries_text true rest ++ 125 ∷ []) ≡ old ++ text_of (object (entry (codes "@metadata") m rest))
text_first old m rest = simp (append_assoc, append-nil)

pub spliced : (old : List ℕ) (d m : Data) (head behind : List ℕ) → Splits d head behind
    → ((old ++ codes "{\"@metadata\":") ++ text_of m) ++ behind ≡ old ++ text_of (shown_with d m)
spliced old null m head behind s = absurd s
spliced old (flag b) m head behind s = absurd s
spliced old (num z) m head behind s = absurd s
spliced old (text t) m head behind s = absurd s
spliced old (array ds) m head behind s = absurd s
spliced old (object no_entries) m head behind s = absurd s
spliced old (object (entry k null rest)) m head behind s = absurd s
spliced old (object (entry k (flag b) rest)) m head behind s = absurd s
spliced old (object (entry k (num z) rest)) m head behind s = absurd s
spliced old (object (entry k (text t) rest)) m head behind s = absurd s
spliced old (object (entry k (array ds) rest)) m head behind s = absurd s
spliced old (object (entry k (object ms) rest)) m head behind s =
    ap (λ (more : List ℕ). ((old ++ codes "{\"@metadata\":") ++ text_of m) ++ more) (sym s.1.1)
    ∙ text_first old m rest
    ∙ ap (λ (d : Data). old ++ text_of d) (sym (put_first k (object ms) m rest s.0))
