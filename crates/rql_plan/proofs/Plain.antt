-- Scalars among values, one by one and in lists.
use Rattle.std.proofs.Common.{◌≡◌, List, [], ◌∷◌, true, false, Option, Some, None, is_some, unwrap_or, option_map, map, refl, sym, ap, ◌∙◌}
use Rattle.std.specs.Option.{option_and_then}
use Rattle.spec_data.specs.Data.{Data, null, flag, num, text, array, object, items_of, list_of}
use Rattle.spec_data.specs.Scalars.{Scalar, nothing, scalar_of}
use Rattle.spec_query.specs.Parameters.{plain_scalar, plain_scalars, items_in}

pub list_of_items : (ds : List Data) → list_of (items_of ds) ≡ ds
list_of_items [] = refl
list_of_items (d ∷ ds) = ap (λ more. d ∷ more) (list_of_items ds)

-- a scalar and those behind it
abbrev before : Option Scalar → Option (List Scalar) → Option (List Scalar)
before one more = option_and_then (λ s. option_map (λ others. s ∷ others) more) one

plain_before : (one : Option Scalar) (more : Option (List Scalar)) → is_some one ≡ true → is_some (before one more) ≡ is_some more
plain_before None more h = cc
plain_before (Some s) None h = refl
plain_before (Some s) (Some others) h = refl

none_before : (one : Option Scalar) (more : Option (List Scalar)) → is_some one ≡ false → is_some (before one more) ≡ false
none_before None more h = refl
none_before (Some s) more h = cc

pub plain_first : (d : Data) (ds : List Data) → is_some (plain_scalar d) ≡ true → is_some (plain_scalars (d ∷ ds)) ≡ is_some (plain_scalars ds)
plain_first d ds h = plain_before (plain_scalar d) (plain_scalars ds) h

pub first_not_plain : (d : Data) (ds : List Data) → is_some (plain_scalar d) ≡ false → is_some (plain_scalars (d ∷ ds)) ≡ false
first_not_plain d ds h = none_before (plain_scalar d) (plain_scalars ds) h

pub items_of_list : (ds : List Data) → is_some (items_in (array (items_of ds))) ≡ is_some (plain_scalars ds)
items_of_list ds = ap (λ z. is_some (plain_scalars z)) (list_of_items ds)

pub ruleset plain = (plain_first, first_not_plain, items_of_list)

-- VALUES

pub plain_or_null : (d : Data) → scalar_of d ≡ unwrap_or (plain_scalar d) nothing
plain_or_null null = refl
plain_or_null (flag b) = refl
plain_or_null (num n) = refl
plain_or_null (text s) = refl
plain_or_null (array ds) = refl
plain_or_null (object ms) = refl

plain_is : (d : Data) → is_some (plain_scalar d) ≡ true → plain_scalar d ≡ Some (scalar_of d)
plain_is null h = refl
plain_is (flag b) h = refl
plain_is (num n) h = refl
plain_is (text s) h = refl
plain_is (array ds) h = cc
plain_is (object ms) h = cc

one_plain : (one : Option Scalar) (more : Option (List Scalar)) → is_some (before one more) ≡ true → is_some one ≡ true
one_plain None more h = cc
one_plain (Some s) more h = refl

pub all_plain : (ds : List Data) → is_some (plain_scalars ds) ≡ true → plain_scalars ds ≡ Some (map scalar_of ds)
all_plain [] h = refl
all_plain (d ∷ ds) h =
    let first = one_plain (plain_scalar d) (plain_scalars ds) h in
    let more = all_plain ds (sym (plain_first d ds first) ∙ h) in
    ap (λ one. before one (plain_scalars ds)) (plain_is d first) ∙ ap (λ others. before (Some (scalar_of d)) others) more

pub none_plain : (o : Option (List Scalar)) → is_some o ≡ false → unwrap_or o [] ≡ []
none_plain None h = refl
none_plain (Some xs) h = cc

pub plain_items : (ds : List Data) → is_some (plain_scalars ds) ≡ true → unwrap_or (items_in (array (items_of ds))) [] ≡ map scalar_of ds
plain_items ds h = ap (λ z. unwrap_or (plain_scalars z) []) (list_of_items ds) ∙ ap (λ z. unwrap_or z []) (all_plain ds h)

pub no_items : (ds : List Data) → is_some (plain_scalars ds) ≡ false → unwrap_or (items_in (array (items_of ds))) [] ≡ []
no_items ds h = ap (λ z. unwrap_or (plain_scalars z) []) (list_of_items ds) ∙ none_plain (plain_scalars ds) h

pub ruleset values = (plain_or_null, plain_items, no_items)
