-- What a walk over what is kept finds, one after another.
use Rattle.std.proofs.Common.{◌≡◌, ◌≤◌, ℕ, suc, List, [], ◌∷◌, ◌++◌, length, Option, Some, None, filter, map, refl, ap, arith}
use Rattle.std.specs.List.{cons_option, filter_map, slice_get}
use Rattle.std.specs.Option.{option_or}
use Rattle.std.specs.Map.{values_of}
use Rattle.index_tree.specs.Meaning.{Fields}
use Rattle.index_version.specs.Entries.{is_past}
use Rattle.index_version.specs.Kept.{Given, entry_given}

abbrev pub ids_of : List (List ℕ × Fields) → List (List ℕ)
ids_of entries = map (λ e. e.0) entries

abbrev pub its_id : Option (List ℕ × Fields) → List (List ℕ)
its_id None = []
its_id (Some e) = e.0 ∷ []

pub ids_step : (e : List ℕ × Given) (es : List (List ℕ × Given)) → ids_of (filter_map entry_given (values_of (e ∷ es))) ≡ its_id (entry_given e.1) ++ ids_of (filter_map entry_given (values_of es))
ids_step e es = elim (entry_given e.1) as (λ o. ids_of (cons_option o (filter_map entry_given (values_of es))) ≡ its_id o ++ ids_of (filter_map entry_given (values_of es))) [
  | None ↦ refl
  | Some x ↦ refl
]

pub first_step : (e : List ℕ × Given) (es : List (List ℕ × Given)) → slice_get (filter_map entry_given (values_of (e ∷ es))) 0 ≡ option_or (entry_given e.1) (slice_get (filter_map entry_given (values_of es)) 0)
first_step e es = elim (entry_given e.1) as (λ o. slice_get (cons_option o (filter_map entry_given (values_of es))) 0 ≡ option_or o (slice_get (filter_map entry_given (values_of es)) 0)) [
  | None ↦ refl
  | Some x ↦ refl
]

pub past_none : (es : List (List ℕ × Given)) → filter (λ e. is_past None e.0) es ≡ es
past_none [] = refl
past_none (e ∷ es) = ap (λ l. e ∷ l) (past_none es)

pub few_entries : (es : List (List ℕ × Given)) → length (filter_map entry_given (values_of es)) ≤ length es
few_entries [] = omega arith
few_entries (e ∷ es) =
    let rest = few_entries es in
    elim (entry_given e.1) as (λ o. length (cons_option o (filter_map entry_given (values_of es))) ≤ suc (length es)) [ None ↦ omega (arith, rest) | Some x ↦ omega (arith, rest) ]
