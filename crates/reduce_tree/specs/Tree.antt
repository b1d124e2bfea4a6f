-- What a clause sees of a tree.
use Rattle.std.specs.Prelude.{◌<◌, ◌^◌, ◌-◌, ℕ, List, length, refl}
use Rattle.std.specs.Coded.{Coded, code_by, coded×, coded_ℕ, coded_list}

-- how entries become rows, the entries in the order of their keys, and how many levels of pages there are
pub record Tree (F K E : Type 0) : Type 0 where
  pub fold : F
  pub entries : List (K × E)
  pub levels : ℕ

abbrev pub tree_code : {F K E : Type 0} → Coded F → Coded K → Coded E → Coded (Tree F K E)
tree_code {F} {K} {E} f k e =
    code_by (F × (List (K × E) × ℕ)) (coded× f (coded× (coded_list (coded× k e)) coded_ℕ)) (λ a. (a.fold, (a.entries, a.levels))) (λ p. record { fold = p.0; entries = p.1.0; levels = p.1.1 }) (λ _. refl)

-- a tree of h levels, h at least 2, has more than 16^(h - 1) entries
abbrev pub IsFilledTree : {F K E : Type 0} → Tree F K E → Type 0
IsFilledTree t = 1 < t.levels → 16 ^ (t.levels - 1) < length t.entries
