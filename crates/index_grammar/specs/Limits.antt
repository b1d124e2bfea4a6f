-- Where a spelling is past its limits.
use Rattle.std.specs.Prelude.{ℕ, ◌∷◌, List}
use Rattle.exact_parse.specs.Limits.{Verdict, Fine, and_fine, opens, counts}
use Rattle.index_tokens.specs.declared.token.Placed.{Placed}
use Rattle.index_tokens.specs.Words.{Tokens}
use Rattle.index_tokens.specs.Reads.{Kind}
use Rattle.index_tree.specs.Trees.{Tree}
use Rattle.index_tree.specs.declared.map_query.Clause.{Clause}
use Rattle.index_grammar.specs.declared.spelled.PlacedMember.{PlacedMember}
use Rattle.index_grammar.specs.declared.spelled.SpelledMap.{SpelledMap}
use Rattle.index_grammar.specs.Expressions.{Rule, Spells, plain, choice, tighter, binary, signed, post, first, point, number, text, yes, no, null, var, parens, load}
use Rattle.index_grammar.specs.Maps.{SpellsClause, filter, binding, SpellsClauses, no_clause, next_clause, SpellsMember, named, path, SpellsMembers, last, last_comma, more, SpellsEntry, entry, SpellsMap, map}

-- parts that are open within one another
abbrev pub most_open : ℕ
most_open = 64

-- binary operators and points of one clause or member
abbrev pub most_operators : ℕ
most_operators = 256

abbrev pub most_members : ℕ
most_members = 64

-- Parts open at a `(`, also that of `LoadDocument`, at a `?`, to the end of the whole conditional, and at an operator before its operand, to the
-- end of that operand. Those within one another are no more than the room. Binary operators and points are counted, from a count on.
abbrev pub verdict : {rule : Rule} {s r : Tokens} {a : Tree} → Spells rule s a r → (room count : ℕ) → Verdict Placed Kind
verdict (plain x) room n = verdict x room n
verdict (choice {m = m} {p = p} x is y also z) room n = and_fine (verdict x room n) (λ n. opens tt room (p ∷ m) (λ room. and_fine (verdict y room n) (λ n. verdict z room n)))
verdict (tighter x) room n = verdict x room n
verdict (binary {m = m} {o = o} x is at y) room n = and_fine (verdict x room n) (λ n. counts tt most_operators n (o ∷ m) (λ n. verdict y room n))
verdict (signed {s = s} {o = o} is x) room n = opens tt room (o ∷ s) (λ room. verdict x room n)
verdict (post x) room n = verdict x room n
verdict (first x) room n = verdict x room n
verdict (point {r = r} {p = p} {x = x} y is also) room n = and_fine (verdict y room n) (λ n. counts tt most_operators n (p ∷ x ∷ r) (λ n. Fine n))
verdict (number is) room n = Fine n
verdict (text is) room n = Fine n
verdict (yes is) room n = Fine n
verdict (no is) room n = Fine n
verdict (null is) room n = Fine n
verdict (var is) room n = Fine n
verdict (parens {s = s} {p = p} is x also) room n = opens tt room (p ∷ s) (λ room. verdict x room n)
verdict (load {s = s} {p = p} word is x comma quote also) room n = opens tt room (p ∷ s) (λ room. verdict x room n)

-- the count begins anew at each clause
abbrev pub clause_verdict : {s r : Tokens} {a : Clause} → SpellsClause s a r → Verdict Placed Kind
clause_verdict (filter is x) = verdict x most_open 0
clause_verdict (binding is v also x) = verdict x most_open 0

abbrev pub clauses_verdict : {s r : Tokens} {cs : List Clause} → SpellsClauses s cs r → Verdict Placed Kind
clauses_verdict no_clause = Fine 0
clauses_verdict (next_clause x y) = and_fine (clauses_verdict x) (λ n. clause_verdict y)

-- and at each member
abbrev pub member_verdict : {s r : Tokens} {a : PlacedMember} → SpellsMember s a r → Verdict Placed Kind
member_verdict (named is also x) = verdict x most_open 0
member_verdict (path is x) = verdict x most_open 0

-- a member for which there is no room is too large at its first token
abbrev pub members_verdict : {s r : Tokens} {ms : List PlacedMember} → SpellsMembers s ms r → (room : ℕ) → Verdict Placed Kind
members_verdict (last {s = s} x is) room = opens tt room s (λ room. member_verdict x)
members_verdict (last_comma {s = s} x is also) room = opens tt room s (λ room. member_verdict x)
members_verdict (more {s = s} x is y) room = opens tt room s (λ room. and_fine (member_verdict x) (λ n. members_verdict y room))

abbrev pub entry_verdict : {s r : Tokens} {ms : List PlacedMember} → SpellsEntry s ms r → Verdict Placed Kind
entry_verdict (entry is also opening x) = members_verdict x most_members

abbrev pub limit : (s : Tokens) (a : SpelledMap) (r : Tokens) → SpellsMap s a r → Verdict Placed Kind
limit s a r (map o cs x end) = and_fine (clauses_verdict cs) (λ n. entry_verdict x)
