-- Which variables of a map are bound, by its spelling.
use Rattle.std.specs.Prelude.{ℕ, Bool, false, if◌then◌else◌, List, [], ◌∷◌, Option, Some, None}
use Rattle.std.specs.Str.{bytes_eq}
use Rattle.index_tokens.specs.Words.{Tokens}
use Rattle.index_tree.specs.Trees.{Tree}
use Rattle.index_tree.specs.declared.map_query.Clause.{Clause}
use Rattle.index_tree.specs.declared.map_query.Clause.TheVariants as c
use Rattle.index_grammar.specs.declared.spelled.PlacedMember.{PlacedMember}
use Rattle.index_grammar.specs.declared.spelled.SpelledMap.{SpelledMap}
use Rattle.index_grammar.specs.Expressions.{Rule, Spells, plain, choice, tighter, binary, signed, post, first, point, number, text, yes, no, null, var, parens, load}
use Rattle.index_grammar.specs.Maps.{SpellsClause, filter, binding, SpellsClauses, no_clause, next_clause, SpellsMember, named, path, SpellsMembers, last, last_comma, more, SpellsEntry, entry, SpellsMap, map}
use Rattle.index_definition.specs.Adding.{is_among}

abbrev pub or_else : Option ℕ → Option ℕ → Option ℕ
or_else (Some place) other = Some place
or_else None other = other

module _ (bound : List (List ℕ)) where
  -- the place of the first variable of an expression that is none of the bound names
  abbrev pub unbound : {rule : Rule} {s r : Tokens} {a : Tree} → Spells rule s a r → Option ℕ
  unbound (plain x) = unbound x
  unbound (choice x is y also z) = or_else (unbound x) (or_else (unbound y) (unbound z))
  unbound (tighter x) = unbound x
  unbound (binary x is at y) = or_else (unbound x) (unbound y)
  unbound (signed is x) = unbound x
  unbound (post x) = unbound x
  unbound (first x) = unbound x
  unbound (point x is also) = unbound x
  unbound (number is) = None
  unbound (text is) = None
  unbound (yes is) = None
  unbound (no is) = None
  unbound (null is) = None
  unbound (var {x = x} {n = n} is) = if is_among bound n then None else Some x.at
  unbound (parens is x also) = unbound x
  unbound (load word is x comma quote also) = unbound x

  -- a name that is bound already may not be bound again, and is not yet bound in its own value
  abbrev pub unbound_clause : {s r : Tokens} {a : Clause} → SpellsClause s a r → Option ℕ
  unbound_clause (filter is x) = unbound x
  unbound_clause (binding {x = y} {v = v} is also equals x) = if is_among bound v then Some y.at else unbound x

  abbrev pub unbound_member : {s r : Tokens} {a : PlacedMember} → SpellsMember s a r → Option ℕ
  unbound_member (named is also x) = unbound x
  unbound_member (path is x) = unbound x

  abbrev pub unbound_members : {s r : Tokens} {ms : List PlacedMember} → SpellsMembers s ms r → Option ℕ
  unbound_members (last x is) = unbound_member x
  unbound_members (last_comma x is also) = unbound_member x
  unbound_members (more x is xs) = or_else (unbound_member x) (unbound_members xs)

-- the names that are bound behind these clauses
abbrev pub bound_by : List (List ℕ) → List Clause → List (List ℕ)
bound_by bound [] = bound
bound_by bound (c.Where a ∷ cs) = bound_by bound cs
bound_by bound (c.Let v a ∷ cs) = bound_by (v ∷ bound) cs

-- whether a clause binds this name
abbrev pub is_bound_by : List ℕ → Clause → Bool
is_bound_by n (c.Where a) = false
is_bound_by n (c.Let v a) = bytes_eq n v

abbrev pub unbound_clauses : (bound : List (List ℕ)) {s r : Tokens} {cs : List Clause} → SpellsClauses s cs r → Option ℕ
unbound_clauses bound no_clause = None
unbound_clauses bound (next_clause {cs = cs} xs x) = or_else (unbound_clauses bound xs) (unbound_clause (bound_by bound cs) x)

abbrev pub unbound_entry : (bound : List (List ℕ)) {s r : Tokens} {ms : List PlacedMember} → SpellsEntry s ms r → Option ℕ
unbound_entry bound (entry select new open_brace members) = unbound_members bound members

abbrev pub unbound_in : {s r : Tokens} {a : SpelledMap} → SpellsMap s a r → Option ℕ
unbound_in (map {o = o} {cs = cs} from_where xs members end) = or_else (unbound_clauses (o.var ∷ []) xs) (unbound_entry (bound_by (o.var ∷ []) cs) members)
