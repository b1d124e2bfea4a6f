-- What can be said of a list of tokens.
use Rattle.std.specs.Prelude.{List}
use Rattle.exact_parse.specs.Limits.{Verdict}
use Rattle.exact_parse.specs.Steps.{Unexpected, TooLarge, Outcome, Read, Refused}
use Rattle.exact_parse.specs.Exact.{SpellsText, UnexpectedAt, TooLargeAt}

-- a tree; or the tokens from the refused one on, and the kind of the limit
pub data Answer (T K A : Type 0) : Type 0 where
  Spelled : A → Answer T K A
  IsUnexpected : List T → Answer T K A
  IsTooLarge : K → List T → Answer T K A

-- the answer of a reading
abbrev pub answer_of : {T K A : Type 0} → Outcome T K A → Answer T K A
answer_of (Read a c r) = Spelled a
answer_of (Refused (Unexpected k) p) = IsUnexpected p
answer_of (Refused (TooLarge k) p) = IsTooLarge k p

module _ {T K A : Type 0} (X : List T → A → List T → Type 0) (limit : (s : List T) (a : A) (r : List T) → X s a r → Verdict T K) where
  abbrev pub IsAnswer : List T → Answer T K A → Type 0
  IsAnswer ts (Spelled a) = SpellsText X limit ts a
  IsAnswer ts (IsUnexpected p) = UnexpectedAt X limit ts p
  IsAnswer ts (IsTooLarge k p) = TooLargeAt X limit k ts p
