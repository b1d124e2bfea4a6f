-- The reading of maps.
use Rattle.std.specs.Prelude.{ℕ, zero, suc, List, [], ◌∷◌, ◌++◌, if◌then◌else◌, Option, Some, None}
use Rattle.exact_parse.specs.Steps.{◌>>=◌, ◌>>◌, pure, refuse, too_large, choose, skip, fresh, take, Next, Ends, More, loop}
use Rattle.index_tokens.specs.declared.token.Token.TheVariants as t
use Rattle.index_tokens.specs.declared.token.Placed.{Placed}
use Rattle.index_tokens.specs.Reads.{Kind, Reads}
use Rattle.index_tokens.specs.Words.{next_is, the, name, variable, word_from, word_in, word_docs, word_where, word_let, word_select, word_new}
use Rattle.index_tree.specs.Trees.{Var}
use Rattle.index_tree.specs.declared.map_query.Clause.{Clause}
use Rattle.index_tree.specs.declared.map_query.Clause.TheVariants as c
use Rattle.index_grammar.specs.declared.spelled.Origin.{Origin}
use Rattle.index_grammar.specs.declared.spelled.PlacedMember.{PlacedMember}
use Rattle.index_grammar.specs.declared.spelled.SpelledMap.{SpelledMap}
use Rattle.index_grammar.specs.Limits.{most_members}
use Rattle.index_grammar.specs.Maps.{origin_of, last_name, placed_member, spelled_map}
use Rattle.index_grammar.specs.ExpressionReading.{expression, points}

unfoldable pub origin : Reads Origin
origin = take tt (the word_from) >>= λ _. take tt variable >>= λ v. take tt (the word_in) >>= λ _. take tt (the word_docs) >>= λ _. take tt (the t.Point) >>= λ _. take tt name >>= λ n. pure (origin_of v n)

-- ---- clauses, behind their words

unfoldable pub filter : Reads Clause
filter = expression >>= λ a. pure (c.Where a)

unfoldable pub binding : Reads Clause
binding = take tt variable >>= λ v. take tt (the t.Assign) >>= λ _. expression >>= λ a. pure (c.Let v a)

abbrev pub clause_next : List Clause → Option Placed → Next Placed Kind (List Clause) (List Clause)
clause_next found h =
    if next_is word_where h then More (filter >>= λ a. pure (found ++ a ∷ [])) else (
    if next_is word_let h then More (binding >>= λ a. pure (found ++ a ∷ [])) else Ends (pure found))

-- goes on behind those found
unfoldable pub clauses : List Clause → Reads (List Clause)
clauses = loop tt clause_next

-- ---- members

-- what follows the name and `=`
unfoldable pub value : ℕ → List ℕ → Reads PlacedMember
value place n = expression >>= λ a. pure (placed_member place n a)

-- what follows the variable of a path
unfoldable pub path : ℕ → List ℕ → Reads PlacedMember
path place v = fresh (points (Var v)) >>= λ a. pure (placed_member place (last_name a) a)

abbrev pub path_as : Placed → Option (List ℕ) → Reads PlacedMember
path_as x (Some v) = path x.at v
path_as x None = refuse tt

-- behind the first token
abbrev pub behind_name : Placed → List ℕ → Reads PlacedMember
behind_name x n = choose (λ h. if next_is t.Assign h then (skip >> value x.at n) else path_as x (variable x))

abbrev pub member_as : Placed → Option (List ℕ) → Reads PlacedMember
member_as x (Some n) = skip >> behind_name x n
member_as x None = refuse tt

abbrev pub member_by : Option Placed → Reads PlacedMember
member_by (Some x) = member_as x (name x)
member_by None = refuse tt

unfoldable pub member : Reads PlacedMember
member = choose member_by

abbrev pub no_room_as : Option (List ℕ) → Reads (List PlacedMember)
no_room_as (Some n) = too_large tt
no_room_as None = refuse tt

abbrev pub no_room_by : Option Placed → Reads (List PlacedMember)
no_room_by (Some x) = no_room_as (name x)
no_room_by None = refuse tt

-- goes on after a member: with its brace, or a comma, which the brace may follow
abbrev pub behind_member : (List PlacedMember → Reads (List PlacedMember)) → List PlacedMember → Option Placed → Reads (List PlacedMember)
behind_member next found h =
    if next_is t.CloseBrace h then (skip >> pure found) else (
    if next_is t.Comma h then (skip >> choose (λ h. if next_is t.CloseBrace h then (skip >> pure found) else next found)) else refuse tt)

-- goes on behind those found, with room for so many more
unfoldable pub members : ℕ → List PlacedMember → Reads (List PlacedMember)
members zero found = choose no_room_by
members (suc room) found = member >>= λ a. choose (behind_member (members room) (found ++ a ∷ []))

-- ---- the whole text

unfoldable pub entry : Reads (List PlacedMember)
entry = take tt (the word_select) >>= λ _. take tt (the word_new) >>= λ _. take tt (the t.OpenBrace) >>= λ _. members most_members []

unfoldable pub map_text : Reads SpelledMap
map_text = origin >>= λ o. clauses [] >>= λ cs. entry >>= λ ms. take tt (the t.End) >>= λ _. pure (spelled_map o cs ms)
