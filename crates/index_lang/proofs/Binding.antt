-- Which names clauses bind.
use Rattle.std.proofs.Common.{◌≡◌, ℕ, Bool, true, false, ◌||◌, List, [], ◌∷◌, min, length, take, refl, sym, ◌∙◌, ap}
use Rattle.std.proofs.lemmas.List.{take_min}
use Rattle.std.specs.List.{list_any}
use Rattle.std.specs.Str.{bytes_eq}
use Rattle.index_tree.specs.declared.map_query.Clause.{Clause}
use Rattle.index_tree.specs.declared.map_query.Clause.TheVariants as c
use Rattle.index_grammar.specs.declared.spelled.SpelledMap.{SpelledMap}
use Rattle.index_definition.specs.Adding.{is_among}
use Rattle.index_lang.specs.Bound.{bound_by, is_bound_by}
use Rattle.index_lang.specs.Scan.{is_bound}

first_last : (a b c : Bool) → (a || b) || c ≡ b || (a || c)
first_last true true c = refl
first_last true false c = refl
first_last false b c = refl

among_bound : (n : List ℕ) (names : List (List ℕ)) (cs : List Clause) → is_among (bound_by names cs) n ≡ is_among names n || list_any (is_bound_by n) cs
among_bound n names [] = or_false (is_among names n)
  where
    or_false : (b : Bool) → b ≡ b || false
    or_false true = refl
    or_false false = refl
among_bound n names (c.Where a ∷ cs) = among_bound n names cs
among_bound n names (c.Let v a ∷ cs) = among_bound n (v ∷ names) cs ∙ first_last (bytes_eq n v) (is_among names n) (list_any (is_bound_by n) cs)

pub bound_first : (m : SpelledMap) (count : ℕ) (n : List ℕ) (b : Bool) → b ≡ bytes_eq n m.var → b ≡ true → b ≡ is_bound m count n
bound_first m count n b is found = found ∙ sym (among_bound n (m.var ∷ []) (take count m.clauses) ∙ ap (λ b. (b || false) || list_any (is_bound_by n) (take count m.clauses)) (sym is ∙ found))

pub bound_later : (m : SpelledMap) (count : ℕ) (n : List ℕ) (b : Bool) → bytes_eq n m.var ≡ false → b ≡ list_any (is_bound_by n) (take (min count (length m.clauses)) m.clauses) → b ≡ is_bound m count n
bound_later m count n b other is =
    is ∙ ap (list_any (is_bound_by n)) (take_min count m.clauses)
    ∙ sym (among_bound n (m.var ∷ []) (take count m.clauses) ∙ ap (λ b. (b || false) || list_any (is_bound_by n) (take count m.clauses)) other)
