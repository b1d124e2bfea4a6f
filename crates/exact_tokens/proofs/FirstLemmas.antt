-- The first byte decides which pass finds the longest token.
use Rattle.std.proofs.Common.{◌≡◌, ◌<◌, ◌≤◌, ℕ, suc, zero, List, [], ◌∷◌, length, take, arith, refl, sym, subst, ap, ◌∙◌, Option, Some, None, Bool, true}
use Rattle.std.specs.Prelude.{Result, Ok, Err, IfOk}
use Rattle.std.specs.List.{list_all}
use Rattle.exact_tokens.specs.Bytes.{is_letter, is_name_byte}
use Rattle.exact_tokens.specs.Tokens.{where_true, or_shorter, or_all, first_token}
use Rattle.exact_tokens.specs.Marks.{mark_of}
use Rattle.exact_tokens.specs.Passes.{run, mark_at}
use Rattle.exact_tokens.proofs.Longest.{spelled, first_found, first_bad}
use Rattle.exact_tokens.proofs.RunLemmas.{run_le, run_all, run_past, run_more}

pub letter_name : (b : ℕ) → is_letter b ≡ true → is_name_byte b ≡ true
letter_name b is = rw is refl

pub in_ok : {X E : Type 0} {P Q : X → Type 0} (r : Result X E) → ((x : X) → P x → Q x) → IfOk r P → IfOk r Q
in_ok (Ok x) f h = f x h
in_ok (Err e) f h = h

module _ {T : Type 0} (spelled_by : List ℕ → Option T) (bad : T) where
  pub none_first : (s : List ℕ) → s ≡ [] → (bad, 0) ≡ first_token spelled_by bad s
  none_first s is = sym (ap (first_token spelled_by bad) is)

  -- ---- a byte, and all those behind it that pass a test

  pub run_first : (test : ℕ → Bool) (value : List ℕ → T) (b : ℕ) (bs : List ℕ) → test b ≡ true
      → ((m : ℕ) → spelled spelled_by b bs m ≡ where_true (list_all test (take m bs)) (value (b ∷ take m bs)))
      → first_token spelled_by bad (b ∷ bs) ≡ (value (take (run test (b ∷ bs)) (b ∷ bs)), run test (b ∷ bs))
  run_first test value b bs is spells =
      let n = run test bs in
      first_found spelled_by bad b bs n (value (b ∷ take n bs)) (run_le test bs)
      (spells n ∙ ap (λ h. where_true h (value (b ∷ take n bs))) (run_all test bs))
      (λ m h l. spells m ∙ ap (λ h. where_true h (value (b ∷ take m bs))) (run_past test bs m h l))
      ∙ ap (λ k. (value (take k (b ∷ bs)), k)) (sym (run_more test b bs is))

-- ---- marks

module _ {T : Type 0} (spelled_by : List ℕ → Option T) (bad : T) (single : ℕ → Option T) (double : ℕ → ℕ → Option T) where
  -- no mark has three bytes
  too_long : (b c : ℕ) (cs : List ℕ) (m : ℕ) → 1 < m → m ≤ length (c ∷ cs) → mark_of single double (b ∷ take m (c ∷ cs)) ≡ None
  too_long b c cs zero h l = absurd (omega arith)
  too_long b c cs (suc zero) h l = absurd (omega arith)
  too_long b c [] (suc (suc m)) h l = absurd (omega arith)
  too_long b c (d ∷ ds) (suc (suc m)) h l = refl

  module _ (b : ℕ) (bs : List ℕ) (spells : (m : ℕ) → spelled spelled_by b bs m ≡ mark_of single double (b ∷ take m bs)) where
    alone : (o : Option T) → single b ≡ o → bs ≡ [] → first_token spelled_by bad (b ∷ bs) ≡ or_all bad (b ∷ bs) (or_shorter 1 o None)
    alone (Some x) is ends = first_found spelled_by bad b bs 0 x (omega arith) (spells 0 ∙ is) (λ m h l. absurd (let e : length bs ≡ 0 = ap length ends in omega (arith, e)))
    alone None is ends = first_bad spelled_by bad b bs (λ m l. let e : length bs ≡ 0 = ap length ends in let z : m ≡ 0 = omega (arith, e) in subst (λ k. spelled spelled_by b bs k ≡ None) (sym z) (spells 0 ∙ is))

    longer : (c : ℕ) (cs : List ℕ) → bs ≡ c ∷ cs → (m : ℕ) → 1 < m → m ≤ length bs → spelled spelled_by b bs m ≡ None
    longer c cs goes m h l = spells m ∙ ap (λ z. mark_of single double (b ∷ take m z)) goes ∙ too_long b c cs m h (subst (λ z. m ≤ length z) goes l)

    second : (c : ℕ) (cs : List ℕ) → bs ≡ c ∷ cs → spelled spelled_by b bs 1 ≡ double b c
    second c cs goes = spells 1 ∙ ap (λ z. mark_of single double (b ∷ take 1 z)) goes

    without : (c : ℕ) (cs : List ℕ) → bs ≡ c ∷ cs → double b c ≡ None → (m : ℕ) → 0 < m → m ≤ length bs → spelled spelled_by b bs m ≡ None
    without c cs goes none zero h l = absurd (omega arith)
    without c cs goes none (suc zero) h l = second c cs goes ∙ none
    without c cs goes none (suc (suc m)) h l = longer c cs goes (suc (suc m)) (omega arith) l

    pair : (o p : Option T) (c : ℕ) (cs : List ℕ) → bs ≡ c ∷ cs → single b ≡ o → double b c ≡ p → first_token spelled_by bad (b ∷ bs) ≡ or_all bad (b ∷ bs) (or_shorter 2 p (or_shorter 1 o None))
    pair o (Some x) c cs goes is two = first_found spelled_by bad b bs 1 x (let e : length bs ≡ length (c ∷ cs) = ap length goes in omega (arith, e)) (second c cs goes ∙ two) (longer c cs goes)
    pair (Some x) None c cs goes is two = first_found spelled_by bad b bs 0 x (omega arith) (spells 0 ∙ is) (without c cs goes two)
    pair None None c cs goes is two = first_bad spelled_by bad b bs none
      where
        none : (m : ℕ) → m ≤ length bs → spelled spelled_by b bs m ≡ None
        none zero l = spells 0 ∙ is
        none (suc m) l = without c cs goes two (suc m) (omega arith) l

  pub mark_first : (b : ℕ) (bs : List ℕ) → ((m : ℕ) → spelled spelled_by b bs m ≡ mark_of single double (b ∷ take m bs)) → first_token spelled_by bad (b ∷ bs) ≡ or_all bad (b ∷ bs) (mark_at single double (b ∷ bs))
  mark_first b [] spells = alone b [] spells (single b) refl refl
  mark_first b (c ∷ cs) spells = pair b (c ∷ cs) spells (single b) (double b c) c cs refl refl refl
