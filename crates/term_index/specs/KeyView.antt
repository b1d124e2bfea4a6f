-- Keys of the program, and where they are.
use Rattle.std.specs.Prelude.{ℕ, List}
use Rattle.std.specs.declared.cmp.Ordering.{Ordering}
use Rattle.raven_value.specs.ScalarView.{scalar_view}
use Rattle.raven_value.specs.declared.scalar.Scalar.{Scalar}
use Rattle.term_index.specs.Marks.{Mark, mark_cmp, at_id, before, after, past_all}
use Rattle.term_index.specs.declared.key.Key.{Key}
use Rattle.term_index.specs.declared.key.Key.TheVariants as k

abbrev pub mark_of : Key → Mark
mark_of (k.At t) = at_id (scalar_view t.value) t.id
mark_of (k.Before v) = before (scalar_view v)
mark_of (k.After v) = after (scalar_view v)
mark_of k.End = past_all

abbrev pub by_mark : Key → Key → Ordering
by_mark a b = mark_cmp (mark_of a) (mark_of b)

-- the term of a value and an id
abbrev pub term_of : Scalar → List ℕ → Key
term_of v id = k.At (record { value = v; id = id })
