-- Between which marks the values are that meet a test.
use Rattle.std.specs.Prelude.{[], Bool, true, false, not, if◌then◌else◌}
use Rattle.spec_data.specs.Scalars.{Scalar, nothing, truth, number, words, Test, Is, Not, Below, AtMost, Above, AtLeast, Between, In, Starts, There, holds}
use Rattle.term_index.specs.Marks.{Mark, before, after, past_all}

abbrev pub before_texts : Mark
before_texts = before (words [])

-- before and after all values that can be in order with this one: numbers with numbers, and texts with texts
abbrev pub kind_start : Scalar → Mark
kind_start (number n) = after (truth true)
kind_start (words s) = before_texts
kind_start other = before nothing

abbrev pub kind_end : Scalar → Mark
kind_end (number n) = before_texts
kind_end other = past_all

-- texts are not in the order of their own bytes, so an exact test looks at all texts
abbrev pub unless_exact : Bool → Scalar → Mark → Mark → Mark
unless_exact exact (words s) all edge = if exact then all else edge
unless_exact exact other all edge = edge

abbrev pub start_at : Bool → Scalar → Mark
start_at exact v = unless_exact exact v before_texts (before v)

abbrev pub start_after : Bool → Scalar → Mark
start_after exact v = unless_exact exact v before_texts (after v)

abbrev pub end_before : Bool → Scalar → Mark
end_before exact v = unless_exact exact v past_all (before v)

abbrev pub end_at : Bool → Scalar → Mark
end_at exact v = unless_exact exact v past_all (after v)

abbrev pub low_edge : Test → Bool → Mark
low_edge (Is a) exact = before a
low_edge (Not a) exact = before nothing
low_edge (Below a) exact = kind_start a
low_edge (AtMost a) exact = kind_start a
low_edge (Above a) exact = start_after exact a
low_edge (AtLeast a) exact = start_at exact a
low_edge (Between a b) exact = start_at exact a
low_edge (In as') exact = before nothing
low_edge (Starts t) exact = before (words t)
low_edge There exact = after nothing

abbrev pub high_edge : Test → Bool → Mark
high_edge (Is a) exact = after a
high_edge (Not a) exact = past_all
high_edge (Below a) exact = end_before exact a
high_edge (AtMost a) exact = end_at exact a
high_edge (Above a) exact = kind_end a
high_edge (AtLeast a) exact = kind_end a
high_edge (Between a b) exact = end_at exact b
high_edge (In as') exact = past_all
high_edge (Starts t) exact = past_all
high_edge There exact = past_all

-- neither the value nor a later one meets the test: the texts that begin with one text follow one another
abbrev pub is_past : Test → Scalar → Bool
is_past (Starts t) v = not (holds (Starts t) false v)
is_past other v = false

-- numbers are in the order of their terms with numbers, and texts with texts unless they are compared exactly
abbrev pub are_in_line : Bool → Scalar → Scalar → Bool
are_in_line exact (number m) (number n) = true
are_in_line exact (words s) (words t) = not exact
are_in_line exact a b = false

-- all terms of the values that equal this one follow one another, and no others are among them
abbrev pub is_one_run : Bool → Scalar → Bool
is_one_run exact (words s) = not exact
is_one_run exact other = true

-- each value between the edges meets the test
abbrev pub is_span : Test → Bool → Bool
is_span (Is a) exact = is_one_run exact a
is_span (Below a) exact = are_in_line exact a a
is_span (AtMost a) exact = are_in_line exact a a
is_span (Above a) exact = are_in_line exact a a
is_span (AtLeast a) exact = are_in_line exact a a
is_span (Between a b) exact = are_in_line exact a b
is_span There exact = true
is_span other exact = false

-- the test asks how texts begin
abbrev pub is_prefix : Test → Bool
is_prefix (Starts t) = true
is_prefix other = false
