-- The ids of orders are fit.
use Rattle.std.proofs.Common.{◌≡◌, ◌<◌, ◌^◌, ◌+◌, ℕ, List, [], ◌∷◌, ◌++◌, length, None, refl, arith, codes}
use Rattle.std.specs.Fmt.{decimal}
use Rattle.spec_data.specs.Faults.{fault_of}
use Rattle.spec_data.specs.Limits.{max_id}
use Rattle.spec_data.proofs.Clean.{IsClean, clean-decimal, faultless, few-decimal}
use Rattle.spec_measure.specs.Orders.{order_id}

length-append : (xs ys : List ℕ) → length (xs ++ ys) ≡ length xs + length ys
length-append [] ys = omega arith
length-append (x ∷ xs) ys = let h = length-append xs ys in omega arith

clean-id : (n : ℕ) → n < 2 ^ 64 → IsClean (order_id n)
clean-id n lt = (refl, (refl, (refl, (refl, (refl, (refl, (refl, clean-decimal n lt)))))))

pub faultless-order_id : (n : ℕ) → n < 2 ^ 64 → fault_of max_id (order_id n) ≡ None
faultless-order_id n lt =
    let l = length-append (codes "orders/") (decimal n) in
    let few = few-decimal n lt in
    faultless max_id (order_id n) (clean-id n lt) (omega (arith, l)) (omega (arith, l, few))
