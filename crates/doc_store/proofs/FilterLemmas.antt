-- Rows that pass two tests.
use Rattle.std.proofs.Common.{◌≡◌, List, [], ◌∷◌, Bool, true, false, cond, ◌&&◌, Some, None, filter, refl, sym, ap, ◌∙◌}
use Rattle.std.specs.List.{find}
use Rattle.spec_data.specs.Rows.{Row}

-- a second test after one that fails changes nothing
pub dropped : {A : Type 0} (b : Bool) (x y : A) → cond (b && false) x y ≡ y
dropped true x y = refl
dropped false x y = refl

-- either test may come first
pub filter-swap : (p q : Row → Bool) (rows : List Row) → filter p (filter q rows) ≡ filter q (filter p rows)
filter-swap p q [] = refl
filter-swap p q (r ∷ rows) =
    let rest : filter p (filter q rows) ≡ filter q (filter p rows) = filter-swap p q rows in
    elim (q r) as (λ b. q r ≡ b → filter p (cond b (r ∷ filter q rows) (filter q rows)) ≡ filter q (cond (p r) (r ∷ filter p rows) (filter p rows))) [
      | true ↦ λ e. elim (p r) as (λ b. cond b (r ∷ filter p (filter q rows)) (filter p (filter q rows)) ≡ filter q (cond b (r ∷ filter p rows) (filter p rows))) [
        | true ↦ ap (λ xs. r ∷ xs) rest ∙ sym (ap (λ b. cond b (r ∷ filter q (filter p rows)) (filter q (filter p rows))) e)
        | false ↦ rest
      ]
      | false ↦ λ e. elim (p r) as (λ b. filter p (filter q rows) ≡ filter q (cond b (r ∷ filter p rows) (filter p rows))) [
        | true ↦ rest ∙ sym (ap (λ b. cond b (r ∷ filter q (filter p rows)) (filter q (filter p rows))) e)
        | false ↦ rest
      ]
    ] refl

-- those that pass one test after the other are those that pass both
pub filter-both : (p q : Row → Bool) (rows : List Row) → filter q (filter p rows) ≡ filter (λ r. p r && q r) rows
filter-both p q [] = refl
filter-both p q (r ∷ rows) =
    elim (p r) as (λ b. filter q (cond b (r ∷ filter p rows) (filter p rows)) ≡ cond (b && q r) (r ∷ filter (λ x. p x && q x) rows) (filter (λ x. p x && q x) rows)) [
      | true ↦ ap (λ xs. cond (q r) (r ∷ xs) xs) (filter-both p q rows)
      | false ↦ filter-both p q rows
    ]

pub find-both : (p q : Row → Bool) (rows : List Row) → find q (filter p rows) ≡ find (λ r. p r && q r) rows
find-both p q [] = refl
find-both p q (r ∷ rows) =
    elim (p r) as (λ b. find q (cond b (r ∷ filter p rows) (filter p rows)) ≡ cond (b && q r) (Some r) (find (λ x. p x && q x) rows)) [
      | true ↦ ap (cond (q r) (Some r)) (find-both p q rows)
      | false ↦ find-both p q rows
    ]

pub none_left : (p : Row → Bool) (rows : List Row) → find p rows ≡ None → filter p rows ≡ []
none_left p [] h = refl
none_left p (x ∷ rows) h =
    elim (p x) as (λ b. cond b (Some x) (find p rows) ≡ None → cond b (x ∷ filter p rows) (filter p rows) ≡ []) [
      | true ↦ λ e. absurd cc
      | false ↦ λ e. none_left p rows e
    ] h
