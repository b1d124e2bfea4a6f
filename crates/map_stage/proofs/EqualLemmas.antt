use Rattle.std.proofs.Common.{◌≡◌, ◌&&◌, Bool, List, [], ◌∷◌, map, refl, ap, ◌∙◌}
use Rattle.std.specs.Ordering.{on}
use Rattle.std.specs.Str.{bytes_eq}
use Rattle.spec_data.specs.Data.{Data, items_of, entries_of}
use Rattle.raven_value.specs.DataEq.{data_eq, items_eq, entries_eq}
use Rattle.raven_value.specs.View.{data_of, pair_of}
use Rattle.raven_value.specs.declared.text.Text.{Text}
use Rattle.raven_value.specs.declared.value.Value.{Value}
use lib.Pointwise.{pointwise}

items_by : (xs ys : List Value) → pointwise (on data_of data_eq) xs ys ≡ items_eq (items_of (map data_of xs)) (items_of (map data_of ys))
items_by [] [] = refl
items_by [] (y ∷ ys) = refl
items_by (x ∷ xs) [] = refl
items_by (x ∷ xs) (y ∷ ys) = ap (λ b. data_eq (data_of x) (data_of y) && b) (items_by xs ys)

pub same_items : (xs ys : List Value) (v w : List Data) → map data_of xs ≡ v → map data_of ys ≡ w → pointwise (on data_of data_eq) xs ys ≡ items_eq (items_of v) (items_of w)
same_items xs ys v w p q = items_by xs ys ∙ (λ i. items_eq (items_of (p i)) (items_of (q i)))

abbrev same_member : Text × Value → Text × Value → Bool
same_member x y = bytes_eq x.0 y.0 && data_eq (data_of x.1) (data_of y.1)

members_by : (xs ys : List (Text × Value)) → pointwise same_member xs ys ≡ entries_eq (entries_of (map pair_of xs)) (entries_of (map pair_of ys))
members_by [] [] = refl
members_by [] (y ∷ ys) = refl
members_by (x ∷ xs) [] = refl
members_by (x ∷ xs) (y ∷ ys) = ap (λ b. same_member x y && b) (members_by xs ys)

pub same_members : (xs ys : List (Text × Value)) (v w : List (Text × Data)) → map pair_of xs ≡ v → map pair_of ys ≡ w → pointwise same_member xs ys ≡ entries_eq (entries_of v) (entries_of w)
same_members xs ys v w p q = members_by xs ys ∙ (λ i. entries_eq (entries_of (p i)) (entries_of (q i)))
