-- The first of values does not depend on their order or on which are compared first, if only equal values are alike.
use Rattle.std.proofs.Common.{◌≡◌, refl, sym, ap, ◌∙◌}
use Rattle.std.specs.declared.cmp.Ordering.{Ordering}
use Rattle.std.specs.declared.cmp.Ordering.TheVariants.{Less, Equal, Greater}
use Rattle.std.specs.Ordering.{match_ordering, ordering_reverse}
use Rattle.std.specs.Cmp.{IsTotalOrder}
use Rattle.spec_index.specs.Folds.{first}

module _ {A : Type 0} (R : A → A → Ordering) (o : IsTotalOrder R) (ties : (a b : A) → R a b ≡ Equal → a ≡ b) where
  back : (a b : A) (r : Ordering) → R a b ≡ r → R b a ≡ ordering_reverse r
  back a b r e = o.antisymm b a ∙ ap ordering_reverse e

  is_first : (a b : A) (r : Ordering) → R a b ≡ r → first R a b ≡ match_ordering r a a b
  is_first a b r e = ap (λ x. match_ordering x a a b) e

  pub first_comm : (a b : A) → first R a b ≡ first R b a
  first_comm a b =
      elim (R a b) as (λ r. R a b ≡ r → first R a b ≡ first R b a) [
        | Less ↦ λ e. is_first a b Less e ∙ sym (is_first b a Greater (back a b Less e))
        | Equal ↦ λ e. is_first a b Equal e ∙ ties a b e ∙ sym (is_first b a Equal (back a b Equal e))
        | Greater ↦ λ e. is_first a b Greater e ∙ sym (is_first b a Less (back a b Greater e))
      ] refl

  -- three in the order a, b, c
  rising : (a b c : A) → R a b ≡ Less → R b c ≡ Less → first R a c ≡ a
  rising a b c e f = is_first a c Less (o.trans a b c e f)

  pub first_assoc : (a b c : A) → first R (first R a b) c ≡ first R a (first R b c)
  first_assoc a b c =
      elim (R a b) as (λ r. R a b ≡ r → first R (first R a b) c ≡ first R a (first R b c)) [
        | Less ↦ λ e.
            ap (λ x. first R x c) (is_first a b Less e)
            ∙ (elim (R b c) as (λ r. R b c ≡ r → first R a c ≡ first R a (first R b c)) [
              | Less ↦ λ f. rising a b c e f ∙ sym (is_first a b Less e) ∙ sym (ap (first R a) (is_first b c Less f))
              | Equal ↦ λ f. ap (first R a) (sym (ties b c f)) ∙ sym (ap (first R a) (is_first b c Equal f))
              | Greater ↦ λ f. sym (ap (first R a) (is_first b c Greater f))
            ] refl)
        | Equal ↦ λ e.
            ap (λ x. first R x c) (is_first a b Equal e)
            ∙ (elim (R b c) as (λ r. R b c ≡ r → first R a c ≡ first R a (first R b c)) [
              | Less ↦ λ f. is_first a c Less (o.congr a b c e ∙ f) ∙ sym (is_first a b Equal e) ∙ sym (ap (first R a) (is_first b c Less f))
              | Equal ↦ λ f. ap (first R a) (sym (ties b c f)) ∙ sym (ap (first R a) (is_first b c Equal f))
              | Greater ↦ λ f. sym (ap (first R a) (is_first b c Greater f))
            ] refl)
        | Greater ↦ λ e.
            ap (λ x. first R x c) (is_first a b Greater e)
            ∙ (elim (R b c) as (λ r. R b c ≡ r → first R b c ≡ first R a (first R b c)) [
              | Less ↦ λ f. is_first b c Less f ∙ sym (is_first a b Greater e) ∙ sym (ap (first R a) (is_first b c Less f))
              | Equal ↦ λ f. is_first b c Equal f ∙ sym (is_first a b Greater e) ∙ sym (ap (first R a) (is_first b c Equal f))
              | Greater ↦ λ f.
                  let down : R c a ≡ Less = o.trans c b a (back b c Greater f) (back a b Greater e) in
                  is_first b c Greater f ∙ sym (is_first a c Greater (back c a Less down)) ∙ sym (ap (first R a) (is_first b c Greater f))
            ] refl)
      ] refl
