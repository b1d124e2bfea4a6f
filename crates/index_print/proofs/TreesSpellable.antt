-- What tokens of a text spell can be printed.
use Rattle.std.proofs.Common.{◌≡◌, ℕ, List, [], ◌∷◌, ◌++◌, refl, sym, subst, ap, ◌∙◌, Some, None, map}
use Rattle.index_tokens.specs.declared.token.Token.{Token}
use Rattle.index_tokens.specs.declared.token.Token.TheVariants as t
use Rattle.index_tokens.specs.declared.token.Placed.{Placed}
use Rattle.index_tokens.specs.Tokens.{tokens_of}
use Rattle.index_tokens.specs.Words.{Tokens, Is, word_true, word_false, word_null, word_load, name, variable_as, variable}
use Rattle.index_tokens.proofs.WordLemmas.{name_is, variable_is, quoted_is}
use Rattle.index_tree.specs.declared.map_query.Clause.{Clause}
use Rattle.index_tree.specs.Trees.{Tree}
use Rattle.index_grammar.specs.declared.spelled.Origin.{Origin}
use Rattle.index_grammar.specs.declared.spelled.PlacedMember.{PlacedMember}
use Rattle.index_grammar.specs.declared.spelled.SpelledMap.{SpelledMap}
use Rattle.index_grammar.specs.Expressions.{Rule, Whole, Post, Primary, Spells, plain, choice, tighter, binary, signed, post, first, point, number, text, yes, no, null, var, parens, load}
use Rattle.index_grammar.specs.Maps.{SpellsOrigin, origin, SpellsClause, filter, binding, SpellsClauses, no_clause, next_clause, last_name, SpellsMember, named, path, SpellsMembers, last, last_comma, more, SpellsEntry, entry, SpellsMap}
use Rattle.index_grammar.specs.Maps as grammar
use Rattle.index_grammar.specs.View.{query_of}
use Rattle.index_print.specs.Spellable.{IsName, IsVariable, IsSpellable, IsSpellableClause, IsSpellableMember, Each, HasSome, IsSpellableMap}
use Rattle.index_print.proofs.TokensSound.{IsSound, AllSound, all_sound}

pub name_sound : (x : Placed) (n : List ℕ) → name x ≡ Some n → IsSound x.token → IsName n
name_sound x n is h = subst IsSound (name_is x n is) h

pub variable_sound : (x : Placed) (n : List ℕ) → variable x ≡ Some n → IsSound x.token → IsVariable n
variable_sound x n is h = let parts = variable_is x n is in (subst IsSound parts.0 h, parts.1)

spellable : {rule : Rule} {s r : Tokens} {a : Tree} → Spells rule s a r → AllSound s → IsSpellable a × AllSound r
spellable (plain x) h = spellable x h
spellable (choice x is y also z) h = let p = spellable x h in let q = spellable y p.1.1 in let u = spellable z q.1.1 in ((p.0, q.0, u.0), u.1)
spellable (tighter x) h = spellable x h
spellable (binary x is level y) h = let p = spellable x h in let q = spellable y p.1.1 in ((p.0, q.0), q.1)
spellable (signed is x) h = spellable x h.1
spellable (post x) h = spellable x h
spellable (first x) h = spellable x h
spellable (point {x = x} {n = n} y is called) h = let p = spellable y h in ((p.0, name_sound x n called p.1.1.0), p.1.1.1)
spellable (number is) h = (subst IsSound is h.0, h.1)
spellable (text is) h = (subst IsSound is h.0, h.1)
spellable (yes is) h = (tt, h.1)
spellable (no is) h = (tt, h.1)
spellable (null is) h = (tt, h.1)
spellable (var {x = x} {n = n} is) h = (variable_sound x n is h.0, h.1)
spellable (parens is x also) h = let p = spellable x h.1 in (p.0, p.1.1)
spellable (load {y = y} {v = v} word is x comma quote also) h = let p = spellable x h.1.1 in ((p.0, subst IsSound (quoted_is y v quote) p.1.1.0), p.1.1.1.1)

pub expression_spellable : (bytes : List ℕ) (a : Tree) (r : Tokens) → Spells Whole (tokens_of bytes) a r → IsSpellable a
expression_spellable bytes a r x = (spellable x (all_sound bytes)).0

-- ---- the last name of a path

no_variable : (x : Placed) (token : Token) (v : List ℕ) → Is token x → variable_as token ≡ None → variable x ≡ Some v → ⊥
no_variable x token v is none e = let never : None ≡ Some v = sym none ∙ ap variable_as (sym is) ∙ e in cc

primary_name : {s r : Tokens} {x : Placed} {a : Tree} {v : List ℕ} → Spells Primary (x ∷ s) a r → variable x ≡ Some v → IsSpellable a → IsName (last_name a)
primary_name {x = x} {v = v} (number {n = n} is) e h = absurd (no_variable x (t.Number n) v is refl e)
primary_name {x = x} {v = v} (text {v = w} is) e h = absurd (no_variable x (t.Quoted w) v is refl e)
primary_name {x = x} {v = v} (yes is) e h = absurd (no_variable x word_true v is refl e)
primary_name {x = x} {v = v} (no is) e h = absurd (no_variable x word_false v is refl e)
primary_name {x = x} {v = v} (null is) e h = absurd (no_variable x word_null v is refl e)
primary_name (var is) e h = h.0
primary_name {x = x} {v = v} (parens is y also) e h = absurd (no_variable x t.Open v is refl e)
primary_name {x = x} {v = v} (load word is y comma quote also) e h = absurd (no_variable x word_load v word refl e)

path_name : {s r : Tokens} {x : Placed} {a : Tree} {v : List ℕ} → Spells Post (x ∷ s) a r → variable x ≡ Some v → IsSpellable a → IsName (last_name a)
path_name (first y) e h = primary_name y e h
path_name (point y is called) e h = h.1

-- ---- maps

origin_spellable : {s r : Tokens} {o : Origin} → SpellsOrigin s o r → AllSound s → IsVariable o.var × IsName o.collection × AllSound r
origin_spellable (origin {x = x} {y = y} {v = v} {n = n} f is i d p also) h = (variable_sound x v is h.1.0, name_sound y n also h.1.1.1.1.1.0, h.1.1.1.1.1.1)

clause_spellable : {s r : Tokens} {a : Clause} → SpellsClause s a r → AllSound s → IsSpellableClause a × AllSound r
clause_spellable (filter is x) h = spellable x h.1
clause_spellable (binding {x = x} {v = v} is called also y) h = let p = spellable y h.1.1.1 in ((variable_sound x v called h.1.0, p.0), p.1)

one_more : (cs : List Clause) (a : Clause) → Each IsSpellableClause cs → IsSpellableClause a → Each IsSpellableClause (cs ++ a ∷ [])
one_more [] a h k = (k, tt)
one_more (x ∷ cs) a h k = (h.0, one_more cs a h.1 k)

clauses_spellable : {s r : Tokens} {cs : List Clause} → SpellsClauses s cs r → AllSound s → Each IsSpellableClause cs × AllSound r
clauses_spellable no_clause h = (tt, h)
clauses_spellable (next_clause {cs = cs} {a = a} x y) h = let p = clauses_spellable x h in let q = clause_spellable y p.1 in (one_more cs a p.0 q.0, q.1)

member_spellable : {s r : Tokens} {a : PlacedMember} → SpellsMember s a r → AllSound s → IsSpellableMember a.member × AllSound r
member_spellable (named {x = x} {n = n} is also y) h = let p = spellable y h.1.1 in ((name_sound x n is h.0, p.0), p.1)
member_spellable (path is x) h = let p = spellable x h in ((path_name x is p.0, p.0), p.1)

abbrev AreSpellable : List PlacedMember → Type 0
AreSpellable ms = HasSome (map (λ p. p.member) ms) × Each IsSpellableMember (map (λ p. p.member) ms)

members_spellable : {s r : Tokens} {ms : List PlacedMember} → SpellsMembers s ms r → AllSound s → AreSpellable ms × AllSound r
members_spellable (last x is) h = let p = member_spellable x h in ((tt, (p.0, tt)), p.1.1)
members_spellable (last_comma x is also) h = let p = member_spellable x h in ((tt, (p.0, tt)), p.1.1.1)
members_spellable (more x is y) h = let p = member_spellable x h in let q = members_spellable y p.1.1 in ((tt, (p.0, q.0.1)), q.1)

entry_spellable : {s r : Tokens} {ms : List PlacedMember} → SpellsEntry s ms r → AllSound s → AreSpellable ms × AllSound r
entry_spellable (entry is also opening x) h = members_spellable x h.1.1.1

map_by : {s r : Tokens} {a : SpelledMap} → SpellsMap s a r → AllSound s → IsSpellableMap (query_of a)
map_by (grammar.map o cs x end) h =
    let p = origin_spellable o h in
    let q = clauses_spellable cs p.2 in
    let u = entry_spellable x q.1 in
    (p.0, p.1, q.0, u.0.0, u.0.1)

pub map_spellable : (bytes : List ℕ) (a : SpelledMap) (r : Tokens) → SpellsMap (tokens_of bytes) a r → IsSpellableMap (query_of a)
map_spellable bytes a r x = map_by x (all_sound bytes)
