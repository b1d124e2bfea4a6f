-- Which variables of a reduce are bound, by its spelling.
use Rattle.std.specs.Prelude.{ℕ, ◌||◌, if◌then◌else◌, List, Option, Some, None}
use Rattle.std.specs.Str.{bytes_eq}
use Rattle.index_tokens.specs.declared.token.Placed.{Placed}
use Rattle.index_tokens.specs.Words.{Tokens}
use Rattle.index_tree.specs.declared.reduce_query.FoldValue.{FoldValue}
use Rattle.reduce_grammar.specs.declared.spelled.KeyForm.{KeyForm}
use Rattle.reduce_grammar.specs.declared.spelled.SpelledKey.{SpelledKey}
use Rattle.reduce_grammar.specs.declared.spelled.PlacedFold.{PlacedFold}
use Rattle.reduce_grammar.specs.declared.spelled.SpelledReduce.{SpelledReduce}
use Rattle.reduce_grammar.specs.Reduces.{SpellsSource, source, SpellsPart, part, SpellsParts, first_part, next_part, SpellsKey, alone, in_braces, SpellsGroup, group, SpellsSum, sum, SpellsValue, whole_key, key_part, fold, quotient, SpellsFold, named, bare, SpellsFolds, last, last_comma, more, SpellsReduce, reduce}
use Rattle.index_lang.specs.Bound.{or_else}

-- a variable that is to be this name
abbrev pub unless_is : List ℕ → List ℕ → Placed → Option ℕ
unless_is name w x = if bytes_eq w name then None else Some x.at

-- what is grouped is an entry
abbrev pub unbound_source : {v : List ℕ} {s r : Tokens} → SpellsSource s v r → Option ℕ
unbound_source (source {y = y} {v = v} {w = w} f x i d h is b) = unless_is v w y

module _ (v : List ℕ) where
  -- so is what has the parts of the key
  abbrev pub unbound_part : {s r : Tokens} {n : List ℕ} → SpellsPart s n r → Option ℕ
  unbound_part (part {x = x} {v = w} is p y) = unless_is v w x

  abbrev pub unbound_parts : {s r : Tokens} {ns : List (List ℕ)} → SpellsParts s ns r → Option ℕ
  unbound_parts (first_part x) = unbound_part x
  unbound_parts (next_part xs k x) = or_else (unbound_parts xs) (unbound_part x)

  abbrev pub unbound_key : {s r : Tokens} {key : SpelledKey} → SpellsKey s key r → Option ℕ
  unbound_key (alone {x = x} {v = w} is p y) = unless_is v w x
  unbound_key (in_braces x b xs q) = unbound_parts xs

  -- the name of an entry is not bound again
  abbrev pub unbound_group : {s r : Tokens} {g : List ℕ} → SpellsGroup s g r → Option ℕ
  unbound_group (group {x = x} {g = g} i is z n b) = if bytes_eq g v then Some x.at else None

  -- A fold has its own variable, which is bound in its parentheses alone. It is neither the name of an entry nor that of a group.
  abbrev pub unbound_own : List ℕ → List ℕ → List ℕ → Placed → Placed → Option ℕ
  unbound_own g own w y z = if bytes_eq own v || bytes_eq own g then Some y.at else unless_is own w z

  abbrev pub unbound_sum : {g : List ℕ} {s r : Tokens} {by : List ℕ × List ℕ} → SpellsSum g s by r → Option ℕ
  unbound_sum {g} (sum {y = y} {z = z} {v = own} {w = w} x p f o is a also q u c) = unbound_own g own w y z

  module _ {g : List ℕ} {form : KeyForm} where
    -- of a quotient it is that of its first sum, or else of its second one
    abbrev pub unbound_value : {s r : Tokens} {a : FoldValue} → SpellsValue g form s a r → Option ℕ
    unbound_value (whole_key x p k only) = None
    unbound_value (key_part x p k braces q y) = None
    unbound_value (fold {y = y} {z = z} {v = own} {w = w} x p f o is a also q u c) = unbound_own g own w y z
    unbound_value (quotient {y = y} {z = z} {v = own} {w = w} x p f o is a also q u c d by) = or_else (unbound_own g own w y z) (unbound_sum by)

    abbrev pub unbound_fold : {s r : Tokens} {a : PlacedFold} → SpellsFold g form s a r → Option ℕ
    unbound_fold (named is e x) = unbound_value x
    unbound_fold (bare x braces p k q y) = None

    abbrev pub unbound_folds : {s r : Tokens} {all : List PlacedFold} → SpellsFolds g form s all r → Option ℕ
    unbound_folds (last x is) = unbound_fold x
    unbound_folds (last_comma x is also) = unbound_fold x
    unbound_folds (more x is xs) = or_else (unbound_fold x) (unbound_folds xs)

abbrev pub unbound_in_reduce : {s r : Tokens} {a : SpelledReduce} → SpellsReduce s a r → Option ℕ
unbound_in_reduce (reduce {v = v} entries key groups members end) =
    or_else (unbound_source entries) (or_else (unbound_key v key) (or_else (unbound_group v groups) (unbound_folds v members)))
