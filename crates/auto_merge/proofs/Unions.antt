-- Paths that are gathered from shapes.
use Rattle.std.proofs.Common.{◌≡◌, ◌<◌, ◌≤◌, ◌+◌, ◌-◌, ℕ, zero, suc, List, [], ◌∷◌, ◌++◌, Bool, true, false, cond, Option, Some, None, Ordering, Less, Equal, Greater, refl, sym, ap, ◌∙◌, arith, length, map, take, drop, get_or}
use Rattle.std.specs.Prelude.{flat_map, if◌then◌else◌, unwrap_or}
use Rattle.std.specs.List.{cons_option, filter_map}
use Rattle.std.specs.Ordering.{match_ordering}
use Rattle.spec_data.specs.Members.{Path}
use Rattle.index_definition.specs.Order.{with_paths}
use Rattle.index_definition.specs.ShapeView.{shape_by, shape_view}
use Rattle.index_definition.specs.declared.shape.Shape.{Shape as Lent}
use Rattle.std.specs.Borrow.{Bor}
use Rattle.spec_index.specs.Optimiser.{Shape, fields_alike, in_order, is_too_wide, path_order, slot_shape, widened, with_path}
use Rattle.spec_index.specs.World.{Slot}
use Rattle.auto_merge.specs.Widening.{all_fields, fields_by, union_by, widened_by}

-- the fields of those of the others that are alike
abbrev pub others_fields : Shape → List Shape → List Path
others_fields shape others = flat_map (λ s. fields_alike shape (Some s)) others

pub put_in : (xs ys : List Path) → with_paths xs (in_order ys) ≡ in_order (xs ++ ys)
put_in [] ys = refl
put_in (x ∷ xs) ys = ap (with_path x) (put_in xs ys)

-- NO FEWER

longer : (p q : Path) (qs : List Path) (o : Ordering) → length qs ≤ length (with_path p qs) → suc (length qs) ≤ length (match_ordering o (p ∷ q ∷ qs) (q ∷ qs) (q ∷ with_path p qs))
longer p q qs Less more = omega arith
longer p q qs Equal more = omega arith
longer p q qs Greater more = omega (arith, more)

no_fewer : (p : Path) (qs : List Path) → length qs ≤ length (with_path p qs)
no_fewer p [] = omega arith
no_fewer p (q ∷ qs) = longer p q qs (path_order p q) (no_fewer p qs)

no_fewer_all : (xs ys : List Path) → length (in_order ys) ≤ length (in_order (xs ++ ys))
no_fewer_all [] ys = omega arith
no_fewer_all (x ∷ xs) ys = let first = no_fewer x (in_order (xs ++ ys)) in let rest = no_fewer_all xs ys in omega (arith, first, rest)

no_fewer_shapes : (shape : Shape) (i : ℕ) (others : List Shape) → length (in_order (others_fields shape (drop i others))) ≤ length (in_order (others_fields shape others))
no_fewer_shapes shape zero others = omega arith
no_fewer_shapes shape (suc i) [] = omega arith
no_fewer_shapes shape (suc i) (s ∷ others) =
    let first = no_fewer_shapes shape i others in
    let rest = no_fewer_all (fields_alike shape (Some s)) (others_fields shape others) in
    omega (arith, first, rest)

many_wide : (fields : List Path) → 64 < length fields → is_too_wide fields ≡ true
many_wide fields many = grind (arith, many)

-- too many of some of the others are too many of all
pub too_many : (shape : Shape) (i : ℕ) (others : List Shape) → 64 < length (in_order (others_fields shape (drop i others))) → None ≡ union_by shape others
too_many shape i others many =
    let some = no_fewer_shapes shape i others in
    let all = no_fewer_all shape.fields (others_fields shape others) in
    ap (λ wide. cond wide None (Some (all_fields shape others))) (sym (many_wide (all_fields shape others) (omega (arith, many, some, all))))

-- ONE MORE

abbrev pub views : List (Bor Lent) → List Shape
views shapes = map (λ s. shape_view s.now) shapes

at_one : (shapes : List (Bor Lent)) (i : ℕ) (s : Bor Lent) → i < length shapes → s ≡ get_or shapes i s → drop i (views shapes) ≡ shape_view s.now ∷ drop (suc i) (views shapes)
at_one [] i s lt is = absurd (omega arith)
at_one (t ∷ shapes) zero s lt is = ap (λ (s : Bor Lent). shape_view s.now ∷ views shapes) (sym is)
at_one (t ∷ shapes) (suc i) s lt is = at_one shapes i s (omega arith) is

-- the fields with those of the one before
pub one_more : (shape : Shape) (shapes : List (Bor Lent)) (i : ℕ) (s : Bor Lent) (old new : List Path) → 0 < i → i ≤ length shapes → s ≡ get_or shapes (i - 1) s
    → old ≡ in_order (others_fields shape (drop i (views shapes))) → new ≡ with_paths (fields_alike shape (Some (shape_view s.now))) old
    → new ≡ in_order (others_fields shape (drop (i - 1) (views shapes)))
one_more shape shapes i s old new some within is so_far put =
    let next : suc (i - 1) ≡ i = omega (arith, some) in
    let at : drop (i - 1) (views shapes) ≡ shape_view s.now ∷ drop i (views shapes) =
    at_one shapes (i - 1) s (omega (arith, some, within)) is ∙ ap (λ k. shape_view s.now ∷ drop k (views shapes)) next in
    put ∙ ap (with_paths (fields_alike shape (Some (shape_view s.now)))) so_far ∙ put_in (fields_alike shape (Some (shape_view s.now))) (others_fields shape (drop i (views shapes)))
    ∙ ap (λ others. in_order (others_fields shape others)) (sym at)

-- ALL

fields_seen : (collection : List ℕ) (groups : Option (List Path)) (fields : List Path) → (shape_by collection groups fields).fields ≡ fields
fields_seen collection None fields = refl
fields_seen collection (Some groups) fields = refl

-- with those of the shape itself
pub all_put : (shape : Lent) (others : List Shape) (i : ℕ) (old new : List Path) → i ≤ 0 → old ≡ in_order (others_fields (shape_view shape) (drop i others)) → new ≡ with_paths shape.fields old
    → new ≡ all_fields (shape_view shape) others
all_put shape others zero old new none so_far put =
    put ∙ ap (with_paths shape.fields) so_far ∙ put_in shape.fields (others_fields (shape_view shape) others)
    ∙ ap (λ fields. in_order (fields ++ others_fields (shape_view shape) others)) (sym (fields_seen shape.collection shape.groups shape.fields))
all_put shape others (suc i) old new none so_far put = absurd (omega (arith, none))

pub is_wide : (shape : Shape) (others : List Shape) (fields : List Path) → fields ≡ all_fields shape others → true ≡ is_too_wide fields → None ≡ union_by shape others
is_wide shape others fields all wide = ap (λ wide. cond wide None (Some (all_fields shape others))) (wide ∙ ap is_too_wide all)

pub is_narrow : (shape : Shape) (others : List Shape) (fields : List Path) → fields ≡ all_fields shape others → false ≡ is_too_wide fields → Some fields ≡ union_by shape others
is_narrow shape others fields all narrow = ap Some all ∙ ap (λ wide. cond wide None (Some (all_fields shape others))) (narrow ∙ ap is_too_wide all)

-- WIDENED BY THE SHAPES OF INDEXES

fields_at_slot : (shape : Shape) (own : Option Shape) (more : List Shape) → fields_alike shape own ++ others_fields shape more ≡ others_fields shape (cons_option own more)
fields_at_slot shape None more = refl
fields_at_slot shape (Some s) more = refl

fields_of_slots : (shape : Shape) (slots : List Slot) → flat_map (λ s. fields_alike shape (slot_shape s)) slots ≡ others_fields shape (filter_map slot_shape slots)
fields_of_slots shape [] = refl
fields_of_slots shape (s ∷ slots) =
    ap (λ fields. fields_alike shape (slot_shape s) ++ fields) (fields_of_slots shape slots) ∙ fields_at_slot shape (slot_shape s) (filter_map slot_shape slots)

if_fits : (shape : Shape) (fields : List Path) (wide : Bool)
    → fields_by shape (unwrap_or (if wide then None else Some fields) shape.fields) ≡ fields_by shape (if wide then shape.fields else fields)
if_fits shape fields true = refl
if_fits shape fields false = refl

pub widened_by_slots : (shape : Shape) (slots : List Slot) → widened_by shape (filter_map slot_shape slots) ≡ widened shape slots
widened_by_slots shape slots =
    if_fits shape (all_fields shape (filter_map slot_shape slots)) (is_too_wide (all_fields shape (filter_map slot_shape slots)))
    ∙ ap (λ fields. fields_by shape (if is_too_wide (in_order (shape.fields ++ fields)) then shape.fields else in_order (shape.fields ++ fields))) (sym (fields_of_slots shape slots))
