-- What is inside is no deeper than the whole.
use Rattle.std.proofs.Common.{◌≡◌, ◌<◌, ◌≤◌, ℕ, zero, suc, List, [], ◌∷◌, length, get_or, map, arith, ap}
use Rattle.spec_data.specs.Data.{depth, items_of, items_depth, entries_of, entries_depth}
use Rattle.raven_value.specs.View.{data_of, pair_of}
use Rattle.raven_value.specs.declared.text.Text.{Text}
use Rattle.raven_value.specs.declared.value.Value.{Value}

pub item_depth : (xs : List Value) (i : ℕ) (x : Value) → i < length xs → x ≡ get_or xs i x → depth (data_of x) ≤ items_depth (items_of (map data_of xs))
item_depth [] i x h e = absurd (omega arith)
item_depth (y ∷ ys) zero x h e = let f : depth (data_of x) ≡ depth (data_of y) = ap (λ (z : Value). depth (data_of z)) e in omega arith
item_depth (y ∷ ys) (suc i) x h e = omega (arith, item_depth ys i x (omega arith) e)

pub member_depth : (xs : List (Text × Value)) (i : ℕ) (x : Text × Value) → i < length xs → x ≡ get_or xs i x → depth (data_of x.1) ≤ entries_depth (entries_of (map pair_of xs))
member_depth [] i x h e = absurd (omega arith)
member_depth (y ∷ ys) zero x h e = let f : depth (data_of x.1) ≡ depth (data_of y.1) = ap (λ (z : Text × Value). depth (data_of z.1)) e in omega arith
member_depth (y ∷ ys) (suc i) x h e = omega (arith, member_depth ys i x (omega arith) e)

pub ruleset depths = (item_depth, member_depth)
