-- The reading of reduces.
use Rattle.std.specs.Prelude.{ℕ, zero, suc, List, [], ◌∷◌, ◌++◌, Bool, true, false, if◌then◌else◌, Option, Some, None}
use Rattle.exact_parse.specs.Steps.{◌>>=◌, ◌>>◌, pure, refuse, too_large, choose, skip, take, Next, Ends, More, loop}
use Rattle.index_tokens.specs.declared.token.Token.TheVariants as t
use Rattle.index_tokens.specs.declared.token.Placed.{Placed}
use Rattle.index_tokens.specs.Reads.{Kind, Reads}
use Rattle.index_tokens.specs.Words.{the, name, variable, word_from, word_in, word_results, word_group, word_by, word_into, word_select, word_new}
use Rattle.index_tree.specs.declared.reduce_query.FoldKind.{FoldKind}
use Rattle.index_tree.specs.declared.reduce_query.FoldKind.TheVariants as kinds
use Rattle.index_tree.specs.declared.reduce_query.FoldValue.{FoldValue}
use Rattle.index_tree.specs.declared.reduce_query.FoldValue.TheVariants as values
use Rattle.reduce_grammar.specs.declared.spelled.KeyForm.{KeyForm}
use Rattle.reduce_grammar.specs.declared.spelled.KeyForm.TheVariants as forms
use Rattle.reduce_grammar.specs.declared.spelled.SpelledKey.{SpelledKey}
use Rattle.reduce_grammar.specs.declared.spelled.PlacedFold.{PlacedFold}
use Rattle.reduce_grammar.specs.declared.spelled.SpelledReduce.{SpelledReduce}
use Rattle.reduce_grammar.specs.Limits.{most_members}
use Rattle.reduce_grammar.specs.Reduces.{spelled_key, in_new, only, word_key, word_sum, fold_of, placed_fold, spelled_reduce}

-- ---- which entries

unfoldable pub source : Reads (List ℕ)
source = take tt (the word_from) >>= λ _. take tt variable >>= λ v. take tt (the word_in) >>= λ _. take tt (the word_results) >>= λ _.
    take tt (the word_group) >>= λ _. take tt variable >>= λ _. take tt (the word_by) >>= λ _. pure v

-- ---- the key

unfoldable pub part : Reads (List ℕ)
part = take tt variable >>= λ _. take tt (the t.Point) >>= λ _. take tt name >>= λ n. pure n

abbrev pub part_as : List (List ℕ) → Option (Unit {0}) → Next Placed Kind (List (List ℕ)) (List (List ℕ))
part_as found (Some v) = More (part >>= λ n. pure (found ++ n ∷ []))
part_as found None = Ends (pure found)

abbrev pub part_next : List (List ℕ) → Option Placed → Next Placed Kind (List (List ℕ)) (List (List ℕ))
part_next found (Some x) = part_as found (the t.Comma x)
part_next found None = Ends (pure found)

-- goes on behind those found
unfoldable pub parts : List (List ℕ) → Reads (List (List ℕ))
parts = loop tt part_next

-- what follows the variable
unfoldable pub key_alone : ℕ → Reads SpelledKey
key_alone place = take tt (the t.Point) >>= λ _. take tt name >>= λ n. pure (spelled_key place (forms.Alone n))

-- what follows `new`
unfoldable pub key_in_new : ℕ → Reads SpelledKey
key_in_new place = take tt (the t.OpenBrace) >>= λ _. part >>= λ n. parts (n ∷ []) >>= λ ns. take tt (the t.CloseBrace) >>= λ _. pure (spelled_key place (forms.New ns))

abbrev pub alone_as : Placed → Option (List ℕ) → Reads SpelledKey
alone_as x (Some v) = skip >> key_alone x.at
alone_as x None = refuse tt

abbrev pub key_as : Placed → Option (Unit {0}) → Reads SpelledKey
key_as x (Some v) = skip >> key_in_new x.at
key_as x None = alone_as x (variable x)

abbrev pub key_by : Option Placed → Reads SpelledKey
key_by (Some x) = key_as x (the word_new x)
key_by None = refuse tt

unfoldable pub key : Reads SpelledKey
key = choose key_by

-- ---- the group

unfoldable pub group : Reads (List ℕ)
group = take tt (the word_into) >>= λ _. take tt variable >>= λ g. take tt (the word_select) >>= λ _. take tt (the word_new) >>= λ _. take tt (the t.OpenBrace) >>= λ _. pure g

-- ---- values

-- a name behind the key
unfoldable pub key_part : Reads FoldValue
key_part = take tt name >>= λ n. pure (values.Key n)

abbrev pub no_part_as : Option (List ℕ) → Reads FoldValue
no_part_as (Some n) = pure (values.Key n)
no_part_as None = refuse tt

abbrev pub key_part_as : List (List ℕ) → Option (Unit {0}) → Reads FoldValue
key_part_as ns (Some v) = skip >> key_part
key_part_as ns None = no_part_as (only ns)

abbrev pub key_part_by : List (List ℕ) → Option Placed → Reads FoldValue
key_part_by ns (Some x) = key_part_as ns (the t.Point x)
key_part_by ns None = no_part_as (only ns)

-- what follows `Key`
unfoldable pub key_value : KeyForm → Reads FoldValue
key_value (forms.Alone n) = pure (values.Key n)
key_value (forms.New ns) = choose (key_part_by ns)

-- what follows the word of a sum by which another one is divided
unfoldable pub divisor : Reads (List ℕ × List ℕ)
divisor = take tt (the t.Open) >>= λ _. take tt variable >>= λ v. take tt (the t.Arrow) >>= λ _. take tt variable >>= λ _. take tt (the t.Point) >>= λ _.
    take tt name >>= λ n. take tt (the t.Close) >>= λ _. pure (v, n)

module _ (g : List ℕ) where
  -- what follows the sign of a quotient
  unfoldable pub sum : Reads (List ℕ × List ℕ)
  sum = take tt (the (t.Word g)) >>= λ _. take tt (the t.Point) >>= λ _. take tt (the word_sum) >>= λ _. divisor

  unfoldable pub divided : List ℕ → List ℕ → Reads FoldValue
  divided v n = sum >>= λ by. pure (values.Quotient v n by.0 by.1)

  abbrev pub over_as : List ℕ → List ℕ → Option (Unit {0}) → Reads FoldValue
  over_as v n (Some x) = skip >> divided v n
  over_as v n None = pure (values.Fold kinds.Sum v n)

  abbrev pub over_by : List ℕ → List ℕ → Option Placed → Reads FoldValue
  over_by v n (Some x) = over_as v n (the t.Slash x)
  over_by v n None = pure (values.Fold kinds.Sum v n)

  -- what follows the parenthesis of a fold: a sum may be divided by another one
  unfoldable pub folded : FoldKind → List ℕ → List ℕ → Reads FoldValue
  folded kinds.Sum v n = choose (over_by v n)
  folded kinds.Min v n = pure (values.Fold kinds.Min v n)
  folded kinds.Max v n = pure (values.Fold kinds.Max v n)

  -- what follows the word of a fold
  unfoldable pub fold : FoldKind → Reads FoldValue
  fold kind = take tt (the t.Open) >>= λ _. take tt variable >>= λ v. take tt (the t.Arrow) >>= λ _. take tt variable >>= λ _. take tt (the t.Point) >>= λ _.
      take tt name >>= λ n. take tt (the t.Close) >>= λ _. folded kind v n

  abbrev pub fold_value_as : Option FoldKind → Reads FoldValue
  fold_value_as (Some kind) = skip >> fold kind
  fold_value_as None = refuse tt

  abbrev pub value_as : KeyForm → Placed → Option (Unit {0}) → Reads FoldValue
  value_as form x (Some v) = skip >> key_value form
  value_as form x None = fold_value_as (fold_of x)

  abbrev pub value_by : KeyForm → Option Placed → Reads FoldValue
  value_by form (Some x) = value_as form x (the word_key x)
  value_by form None = refuse tt

  -- what follows a group and its point
  unfoldable pub group_value : KeyForm → Reads FoldValue
  group_value form = choose (value_by form)

  unfoldable pub value : KeyForm → Reads FoldValue
  value form = take tt (the (t.Word g)) >>= λ _. take tt (the t.Point) >>= λ _. group_value form

-- ---- members

-- what follows a group at the start of a member
unfoldable pub bare : ℕ → Reads PlacedFold
bare place = take tt (the t.Point) >>= λ _. take tt (the word_key) >>= λ _. take tt (the t.Point) >>= λ _. take tt name >>= λ n. pure (placed_fold place n (values.Key n))

abbrev pub bare_where : ℕ → Bool → Reads PlacedFold
bare_where place true = bare place
bare_where place false = refuse tt

-- whether a brace comes next, which is passed then
abbrev pub brace_as : Option (Unit {0}) → Reads Bool
brace_as (Some v) = skip >> pure true
brace_as None = pure false

abbrev pub brace_by : Option Placed → Reads Bool
brace_by (Some x) = brace_as (the t.CloseBrace x)
brace_by None = pure false

unfoldable pub brace : Reads Bool
brace = choose brace_by

abbrev pub unless_closed : Bool → Reads Bool
unless_closed true = pure true
unless_closed false = take tt (the t.Comma) >>= λ _. brace

-- what follows a member: whether it is the last
unfoldable pub ends : Reads Bool
ends = brace >>= unless_closed

abbrev pub no_room_as : Option (List ℕ) → Reads (List PlacedFold)
no_room_as (Some n) = too_large tt
no_room_as None = refuse tt

abbrev pub no_room_by : Option Placed → Reads (List PlacedFold)
no_room_by (Some x) = no_room_as (name x)
no_room_by None = refuse tt

-- if there is no room for a member
unfoldable pub no_room : Reads (List PlacedFold)
no_room = choose no_room_by

module _ (g : List ℕ) (form : KeyForm) where
  -- what follows the name and `=`
  unfoldable pub named : ℕ → List ℕ → Reads PlacedFold
  named place n = value g form >>= λ a. pure (placed_fold place n a)

  abbrev pub bare_as : ℕ → Option (Unit {0}) → Reads PlacedFold
  bare_as place (Some v) = bare_where place (in_new form)
  bare_as place None = refuse tt

  abbrev pub behind_as : Placed → List ℕ → Option (Unit {0}) → Reads PlacedFold
  behind_as x n (Some v) = skip >> named x.at n
  behind_as x n None = bare_as x.at (the (t.Word g) x)

  abbrev pub behind_by : Placed → List ℕ → Option Placed → Reads PlacedFold
  behind_by x n (Some y) = behind_as x n (the t.Assign y)
  behind_by x n None = bare_as x.at (the (t.Word g) x)

  -- what follows the first token
  unfoldable pub behind : Placed → List ℕ → Reads PlacedFold
  behind x n = choose (behind_by x n)

  abbrev pub member_as : Placed → Option (List ℕ) → Reads PlacedFold
  member_as x (Some n) = skip >> behind x n
  member_as x None = refuse tt

  abbrev pub member_by : Option Placed → Reads PlacedFold
  member_by (Some x) = member_as x (name x)
  member_by None = refuse tt

  unfoldable pub member : Reads PlacedFold
  member = choose member_by

  -- goes on behind those found, with room for so many more
  unfoldable pub folds : ℕ → List PlacedFold → Reads (List PlacedFold)
  folds zero found = no_room
  folds (suc room) found = member >>= λ a. ends >>= λ last. if last then pure (found ++ a ∷ []) else folds room (found ++ a ∷ [])

-- ---- the whole text

unfoldable pub reduce_text : Reads SpelledReduce
reduce_text = source >>= λ v. key >>= λ k. group >>= λ g. folds g k.form most_members [] >>= λ all. take tt (the t.End) >>= λ _. pure (spelled_reduce v k g all)
