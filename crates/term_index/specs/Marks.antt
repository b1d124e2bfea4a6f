-- Where a key is among the terms of a field.
use Rattle.std.specs.Prelude.{ℕ, ℤ, pos, List, [], Bool, false, Option, Some, None}
use Rattle.std.specs.declared.cmp.Ordering.{Ordering}
use Rattle.std.specs.Ordering.{nat_cmp, int_cmp, ordering_then}
use Rattle.std.specs.Str.{bytes_eq}
use Rattle.spec_data.specs.Folding.{folded, key_cmp}
use Rattle.spec_data.specs.Scalars.{Scalar, words, rank, number_in, words_in}

-- no value comes after all values
abbrev pub kind : Option Scalar → ℕ
kind None = 5
kind (Some v) = rank v

abbrev pub number_of : Option Scalar → ℤ
number_of None = pos 0
number_of (Some v) = number_in v

abbrev pub text_of : Option Scalar → List ℕ
text_of None = []
text_of (Some v) = folded (words_in v)

-- null, false, true, numbers by size, texts by their folded forms
abbrev pub value_cmp : Option Scalar → Option Scalar → Ordering
value_cmp a b = ordering_then (nat_cmp (kind a) (kind b)) (ordering_then (int_cmp (number_of a) (number_of b)) (key_cmp (text_of a) (text_of b)))

-- both are texts, and the same without regard to case
abbrev pub same_words : Scalar → Scalar → Bool
same_words (words s) (words t) = bytes_eq (folded s) (folded t)
same_words a b = false

-- the value; before (0), at (1) or after (2) the ids that have it; and the folded id
pub record Mark : Type 0 where
  pub value : Option Scalar
  pub side : ℕ
  pub id : List ℕ

-- all spellings of a text are one value here, so the ids that have it are in order
abbrev pub mark_cmp : Mark → Mark → Ordering
mark_cmp a b = ordering_then (value_cmp a.value b.value) (ordering_then (nat_cmp a.side b.side) (key_cmp a.id b.id))

abbrev pub at_id : Scalar → List ℕ → Mark
at_id v id = record { value = Some v; side = 1; id = folded id }

-- before and after all ids that have the value
abbrev pub before : Scalar → Mark
before v = record { value = Some v; side = 0; id = [] }

abbrev pub after : Scalar → Mark
after v = record { value = Some v; side = 2; id = [] }

-- after all values
abbrev pub past_all : Mark
past_all = record { value = None; side = 0; id = [] }
