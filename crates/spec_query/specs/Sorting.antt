-- The order of the rows of an answer.
use Rattle.std.specs.Prelude.{ℕ, ℤ, List, [], ◌∷◌, Bool, if◌then◌else◌, Option, Some, None, unwrap_or, codes}
use Rattle.std.specs.declared.cmp.Ordering.{Ordering}
use Rattle.std.specs.declared.cmp.Ordering.TheVariants.{Equal}
use Rattle.std.specs.Fmt.{signed_decimal}
use Rattle.std.specs.Option.{option_cmp}
use Rattle.std.specs.Ordering.{int_cmp, is_gt, on, ordering_then, ordering_reverse}
use Rattle.spec_data.specs.Folding.{folded, key_cmp}
use Rattle.spec_data.specs.Scalars.{Scalar, nothing, truth, number, words}
use Rattle.index_tree.specs.Meaning.{Fields, field_named}

-- a key of the order, by the name of its field
pub record SortKey : Type 0 where
  pub field : List ℕ
  pub long : Bool
  pub desc : Bool

-- the text as which a value is compared; null has none
abbrev pub text_form : Scalar → Option (List ℕ)
text_form nothing = None
text_form (truth b) = Some (if b then codes "true" else codes "false")
text_form (number n) = Some (signed_decimal n)
text_form (words s) = Some s

-- the number as which a value is compared; only numbers have one
abbrev pub number_form : Scalar → Option ℤ
number_form (number n) = Some n
number_form other = None

-- values without a form are equal and come first; texts are compared by their folded bytes
abbrev pub value_cmp : Bool → Scalar → Scalar → Ordering
value_cmp long a b = if long then option_cmp int_cmp (number_form a) (number_form b) else option_cmp (on folded key_cmp) (text_form a) (text_form b)

-- a field that an entry lacks is null
abbrev pub value_named : List ℕ → Fields → Scalar
value_named name fields = unwrap_or (field_named name fields) nothing

abbrev pub turned : Bool → Ordering → Ordering
turned desc o = if desc then ordering_reverse o else o

abbrev pub key_order : SortKey → Fields → Fields → Ordering
key_order k a b = turned k.desc (value_cmp k.long (value_named k.field a) (value_named k.field b))

-- by the first key, and rows that are equal there by the others
abbrev pub keys_order : List SortKey → Fields → Fields → Ordering
keys_order [] a b = Equal
keys_order (k ∷ ks) a b = ordering_then (key_order k a b) (keys_order ks a b)

-- before the first row that does not come before it
abbrev pub inserted : {X : Type 0} → (X → X → Ordering) → X → List X → List X
inserted cmp x [] = x ∷ []
inserted cmp x (y ∷ ys) = if is_gt (cmp x y) then y ∷ inserted cmp x ys else x ∷ y ∷ ys

-- rows in order; those that are equal stay in the order in which they were
abbrev pub sorted : {X : Type 0} → (X → X → Ordering) → List X → List X
sorted cmp [] = []
sorted cmp (x ∷ xs) = inserted cmp x (sorted cmp xs)
