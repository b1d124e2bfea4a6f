-- How keys are ordered, by what they are.
use Rattle.std.proofs.Common.{◌≡◌, ℕ, List, Bool, true, false, Some, None, Ordering, Less, Equal, Greater, refl, sym, ap, ◌∙◌}
use Rattle.std.specs.Ordering.{nat_cmp, int_cmp, ordering_then, ordering_reverse, is_eq}
use Rattle.std.specs.Cmp.Lexicographic.{nat_list_cmp_total}
use Rattle.std.proofs.lemmas.Cmp.{tied_itself}
use Rattle.std.proofs.lemmas.Map.Text.{is_eq-slice_cmp}
use Rattle.std.proofs.lemmas.Slice.Eq.{bytes_eq-Decides}
use Rattle.spec_data.specs.Folding.{folded, key_cmp}
use Rattle.spec_data.specs.Scalars.{Scalar, nothing, truth, number, words, rank, number_in, words_in, order, form, alike}
use Rattle.term_index.specs.Marks.{value_cmp, same_words}
use Rattle.term_index.specs.Totals.{values_total}

-- ORDERS IN TURN

pub then_left : (a b : Ordering) → is_eq (ordering_then a b) ≡ true → is_eq a ≡ true
then_left Less b h = h
then_left Equal b h = refl
then_left Greater b h = h

pub then_right : (a b : Ordering) → is_eq (ordering_then a b) ≡ true → is_eq b ≡ true
then_right Less b h = absurd cc
then_right Equal b h = h
then_right Greater b h = absurd cc

pub equal : (o : Ordering) → is_eq o ≡ true → o ≡ Equal
equal Less h = absurd cc
equal Equal h = refl
equal Greater h = absurd cc

alone : (o r : Ordering) → is_eq o ≡ false → o ≡ ordering_then o r
alone Less r h = refl
alone Equal r h = absurd cc
alone Greater r h = refl

-- TEXTS

pub same_text : (s t : List ℕ) → s ≡ t → key_cmp s t ≡ Equal
same_text s t h = ap (key_cmp s) (sym h) ∙ tied_itself nat_list_cmp_total s

pub folded-same : (v w : Scalar) → same_words v w ≡ true → value_cmp (Some v) (Some w) ≡ Equal
folded-same (words s) (words t) h = same_text (folded s) (folded t) ((bytes_eq-Decides (folded s) (folded t)).0 h)
folded-same (words s) nothing h = absurd cc
folded-same (words s) (truth b) h = absurd cc
folded-same (words s) (number n) h = absurd cc
folded-same nothing w h = absurd cc
folded-same (truth b) w h = absurd cc
folded-same (number n) w h = absurd cc

pub folded-other : (v w : Scalar) → same_words v w ≡ false → value_cmp (Some v) (Some w) ≡ order v w
folded-other (words s) (words t) h = alone (key_cmp (folded s) (folded t)) (key_cmp s t) (is_eq-slice_cmp (folded s) (folded t) ∙ h)
folded-other (words s) nothing h = refl
folded-other (words s) (truth true) h = refl
folded-other (words s) (truth false) h = refl
folded-other (words s) (number n) h = refl
folded-other nothing nothing h = refl
folded-other nothing (truth true) h = refl
folded-other nothing (truth false) h = refl
folded-other nothing (number n) h = refl
folded-other nothing (words t) h = refl
folded-other (truth b) nothing h = refl
folded-other (truth b) (truth c) h = refl
folded-other (truth b) (number n) h = refl
folded-other (truth true) (words t) h = refl
folded-other (truth false) (words t) h = refl
folded-other (number m) nothing h = refl
folded-other (number m) (truth true) h = refl
folded-other (number m) (truth false) h = refl
folded-other (number m) (number n) h = refl
folded-other (number m) (words t) h = refl

pub ruleset folded_order = (folded-same, folded-other)

-- THE END

pub value-end : (v : Scalar) → value_cmp (Some v) None ≡ Less
value-end nothing = refl
value-end (truth true) = refl
value-end (truth false) = refl
value-end (number n) = refl
value-end (words s) = refl

pub end-value : (v : Scalar) → value_cmp None (Some v) ≡ Greater
end-value nothing = refl
end-value (truth true) = refl
end-value (truth false) = refl
end-value (number n) = refl
end-value (words s) = refl

pub ruleset ends = (value-end, end-value)

-- VALUES THAT ARE ALIKE

three : (a b c : Ordering) → a ≡ Equal → b ≡ Equal → c ≡ Equal → ordering_then a (ordering_then b c) ≡ Equal
three a b c e f g = ap (λ o. ordering_then o (ordering_then b c)) e ∙ (ap (λ o. ordering_then o c) f ∙ g)

pub order_tied : (v w : Scalar) → is_eq (order v w) ≡ true → value_cmp (Some v) (Some w) ≡ Equal
order_tied v w h =
    let kinds = nat_cmp (rank v) (rank w) in
    let numbers = int_cmp (number_in v) (number_in w) in
    let texts = key_cmp (folded (words_in v)) (folded (words_in w)) in
    let last = key_cmp (words_in v) (words_in w) in
    let more : is_eq (ordering_then numbers (ordering_then texts last)) ≡ true = then_right kinds (ordering_then numbers (ordering_then texts last)) h in
    let most : is_eq (ordering_then texts last) ≡ true = then_right numbers (ordering_then texts last) more in
    three kinds numbers texts (equal kinds (then_left kinds (ordering_then numbers (ordering_then texts last)) h)) (equal numbers (then_left numbers (ordering_then texts last) more)) (equal texts (then_left texts last most))

form_folded : (exact : Bool) (s t : List ℕ) → form exact s ≡ form exact t → folded s ≡ folded t
form_folded true s t h = ap folded h
form_folded false s t h = h

-- a value that is equal to another is at its place
pub alike_tied : (exact : Bool) (v w : Scalar) → alike exact v w ≡ true → value_cmp (Some v) (Some w) ≡ Equal
alike_tied exact (words s) (words t) h = same_text (folded s) (folded t) (form_folded exact s t ((bytes_eq-Decides (form exact s) (form exact t)).0 h))
alike_tied exact (words s) nothing h = order_tied (words s) nothing h
alike_tied exact (words s) (truth b) h = order_tied (words s) (truth b) h
alike_tied exact (words s) (number n) h = order_tied (words s) (number n) h
alike_tied exact nothing w h = order_tied nothing w h
alike_tied exact (truth b) w h = order_tied (truth b) w h
alike_tied exact (number n) w h = order_tied (number n) w h

pub tied_back : (v w : Scalar) → value_cmp (Some v) (Some w) ≡ Equal → value_cmp (Some w) (Some v) ≡ Equal
tied_back v w h = values_total.antisymm (Some w) (Some v) ∙ ap ordering_reverse h
