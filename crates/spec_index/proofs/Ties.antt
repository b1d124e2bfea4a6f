-- Scalars and keys that are alike in order are equal.
use Rattle.std.proofs.Common.{◌≡◌, ℕ, zero, suc, ℤ, List, true, false, refl, sym, ap, ◌∙◌}
use Rattle.std.specs.declared.cmp.Ordering.{Ordering}
use Rattle.std.specs.declared.cmp.Ordering.TheVariants.{Less, Equal, Greater}
use Rattle.std.specs.Ordering.{ordering_then, nat_cmp, int_cmp, ordering_reverse}
use Rattle.std.specs.Cmp.{IsTotalOrder, then_total, on_total, nat_cmp_total}
use Rattle.std.specs.Cmp.Lexicographic.{slice_cmp, lists_total}
use Rattle.std.specs.FinMap.{IsAntisymmetric, slice_cmp-IsAntisymmetric}
use Rattle.std.proofs.lemmas.Map.Lookups.{exact_signed, exact_unsigned, exact_bytes}
use Rattle.spec_data.specs.Folding.{folded}
use Rattle.spec_data.specs.Orders.{order-total}
use Rattle.spec_data.specs.Scalars.{Scalar, nothing, truth, number, words, order, rank, number_in, words_in}
use Rattle.spec_index.specs.Folds.{null_last, nullness, backwards}
use Rattle.spec_index.specs.Rows.{key_order}

then_first : (a b : Ordering) → ordering_then a b ≡ Equal → a ≡ Equal
then_first Less b e = e
then_first Equal b e = refl
then_first Greater b e = e

then_second : (a b : Ordering) → ordering_then a b ≡ Equal → b ≡ Equal
then_second Less b e = absurd (cc e)
then_second Equal b e = e
then_second Greater b e = absurd (cc e)

-- a scalar from its rank, its number and its words
abbrev from_parts : ℕ → ℤ → List ℕ → Scalar
from_parts zero n w = nothing
from_parts (suc zero) n w = truth false
from_parts (suc (suc zero)) n w = truth true
from_parts (suc (suc (suc zero))) n w = number n
from_parts (suc (suc (suc (suc more)))) n w = words w

from_itself : (a : Scalar) → from_parts (rank a) (number_in a) (words_in a) ≡ a
from_itself nothing = refl
from_itself (truth true) = refl
from_itself (truth false) = refl
from_itself (number n) = refl
from_itself (words w) = refl

pub order_ties : IsAntisymmetric order
order_ties a b e =
    let one = then_second (nat_cmp (rank a) (rank b)) _ e in
    let two = then_second (int_cmp (number_in a) (number_in b)) _ one in
    let three = then_second (slice_cmp nat_cmp (folded (words_in a)) (folded (words_in b))) _ two in
    let ranks = exact_unsigned (rank a) (rank b) (then_first _ _ e) in
    let numbers = exact_signed (number_in a) (number_in b) (then_first _ _ one) in
    let texts = exact_bytes (words_in a) (words_in b) three in
    sym (from_itself a) ∙ ap (λ r. from_parts r (number_in a) (words_in a)) ranks ∙ ap (λ n. from_parts (rank b) n (words_in a)) numbers
    ∙ ap (λ w. from_parts (rank b) (number_in b) w) texts ∙ from_itself b

pub key_order-total : IsTotalOrder key_order
key_order-total = lists_total order-total

pub key_ties : IsAntisymmetric key_order
key_ties = slice_cmp-IsAntisymmetric order_ties

pub null_last-total : IsTotalOrder null_last
null_last-total = then_total (on_total nullness nat_cmp_total) order-total

pub null_last-ties : (a b : Scalar) → null_last a b ≡ Equal → a ≡ b
null_last-ties a b e = order_ties a b (then_second _ _ e)

turned_total : {A : Type 0} (R : A → A → Ordering) → IsTotalOrder R → IsTotalOrder (λ a b. R b a)
turned_total R o = record {
  antisymm = λ x y. o.antisymm y x;
  trans = λ x y z p q. o.trans z y x q p;
  congr = λ x y z e. let same : R x y ≡ Equal = o.antisymm x y ∙ ap ordering_reverse e in o.antisymm z x ∙ ap ordering_reverse (o.congr x y z same) ∙ sym (o.antisymm z y);
}

pub backwards-total : IsTotalOrder backwards
backwards-total = turned_total order order-total

pub backwards-ties : (a b : Scalar) → backwards a b ≡ Equal → a ≡ b
backwards-ties a b e = sym (order_ties b a e)
