-- What is spelled as a map is read, unless it is past a limit, and then refused there.
use Rattle.std.proofs.Common.{◌≡◌, ℕ, zero, suc, ◌<◌, List, [], ◌∷◌, ◌++◌, Some, None, refl, sym, ◌∙◌, ap, subst, arith, append_assoc, true, false, cond, Option}
use Rattle.exact_parse.specs.Steps.{head, Outcome, Read, and_then, ◌>>=◌, pure, skip, take, choose}
use Rattle.exact_parse.specs.Limits.{Verdict, and_fine, opens}
use Rattle.exact_parse.specs.Exact.{Meets}
use Rattle.exact_parse.proofs.Meeting.{then_meets, after_meets, ComesTo, loop_goes_on, loop_stops}
use Rattle.index_tokens.specs.declared.token.Token.{Token}
use Rattle.index_tokens.specs.declared.token.Token.TheVariants as t
use Rattle.index_tokens.specs.declared.token.Placed.{Placed}
use Rattle.index_tokens.specs.Reads.{Kind, Reads}
use Rattle.index_tokens.specs.Words.{Tokens, Is, next_is, word_true, word_false, word_null, word_load, variable_as, word_from, word_in, word_docs, word_where, word_let, word_select, word_new, the, name, variable}
use Rattle.index_tokens.proofs.WordLemmas.{name_is, variable_is, is_name}
use Rattle.index_tree.specs.Trees.{Tree, Var}
use Rattle.index_tree.specs.declared.map_query.Clause.{Clause}
use Rattle.index_tree.specs.declared.map_query.Clause.TheVariants as c
use Rattle.index_grammar.specs.declared.spelled.Origin.{Origin}
use Rattle.index_grammar.specs.declared.spelled.PlacedMember.{PlacedMember}
use Rattle.index_grammar.specs.declared.spelled.SpelledMap.{SpelledMap}
use Rattle.index_grammar.specs.Expressions.{Rule, Spells, Whole, Post, Primary, first, point, number, text, yes, no, null, var, parens, load}
use Rattle.index_grammar.specs.Maps.{origin_of, SpellsOrigin, SpellsClause, filter, binding, SpellsClauses, no_clause, next_clause, last_name, placed_member, SpellsMember, named, path, SpellsMembers, last, last_comma, more, SpellsEntry, entry, spelled_map, SpellsMap, map}
use Rattle.index_grammar.specs.Maps as m
use Rattle.index_grammar.specs.Limits.{most_open, most_members, verdict, clause_verdict, clauses_verdict, member_verdict, members_verdict, entry_verdict, limit}
use Rattle.index_grammar.specs.ExpressionReading as expr
use Rattle.index_grammar.specs.ExpressionReading.{deeper_of}
use Rattle.index_grammar.specs.MapReading as read
use Rattle.index_tokens.proofs.Taking.{at_start, test_at, the_reads, name_reads, variable_reads}
use Rattle.index_grammar.proofs.Following.{looseness, ends_expression}
use Rattle.index_grammar.proofs.ExpressionMeets.{var_reach, expression_meets, post_meets}
use Rattle.index_grammar.proofs.MapKeeps.{BehindClauses, clauses_keep}

-- ---- which documents

origin_reads : {s r : Tokens} {o : Origin} → SpellsOrigin s o r → (n : ℕ) → read.origin n s ≡ Read o n r
unfolding read.origin
origin_reads (m.origin {r = r} {f = f} {x = x} {i = i} {d = d} {p = p} {y = y} {v = v} {n = w} from_here bound inside docs is called) n =
    the_reads word_from f (take tt variable >>= λ v. take tt (the word_in) >>= λ _. take tt (the word_docs) >>= λ _. take tt (the t.Point) >>= λ _. take tt name >>= λ w. pure (origin_of v w)) refl from_here n (x ∷ i ∷ d ∷ p ∷ y ∷ r)
    ∙ variable_reads x v (λ v. take tt (the word_in) >>= λ _. take tt (the word_docs) >>= λ _. take tt (the t.Point) >>= λ _. take tt name >>= λ w. pure (origin_of v w)) bound n (i ∷ d ∷ p ∷ y ∷ r)
    ∙ the_reads word_in i (take tt (the word_docs) >>= λ _. take tt (the t.Point) >>= λ _. take tt name >>= λ w. pure (origin_of v w)) refl inside n (d ∷ p ∷ y ∷ r)
    ∙ the_reads word_docs d (take tt (the t.Point) >>= λ _. take tt name >>= λ w. pure (origin_of v w)) refl docs n (p ∷ y ∷ r)
    ∙ the_reads t.Point p (take tt name >>= λ w. pure (origin_of v w)) refl is n (y ∷ r)
    ∙ name_reads y w (λ w. pure (origin_of v w)) called n r

-- ---- clauses

filter_meets : {s r : Tokens} {a : Tree} (x : Spells Whole s a r) → 7 < looseness (head r) → (n : ℕ) → Meets (verdict x most_open 0) (c.Where a) r (read.filter n s)
unfolding read.filter
filter_meets {s = s} {r = r} {a = a} x low n = after_meets (verdict x most_open 0) a r (expr.expression n s) (λ a. pure (c.Where a)) (c.Where a) r (expression_meets x low n) (λ n. refl)

binding_meets : {s r : Tokens} {v : List ℕ} {a : Tree} (x e : Placed) → variable x ≡ Some v → Is t.Assign e → (y : Spells Whole s a r) → 7 < looseness (head r) → (n : ℕ) →
    Meets (verdict y most_open 0) (c.Let v a) r (read.binding n (x ∷ e ∷ s))
unfolding read.binding
binding_meets {s = s} {r = r} {v = v} {a = a} x e bound also y low n =
    subst (Meets (verdict y most_open 0) (c.Let v a) r) (sym (variable_reads x v (λ v. take tt (the t.Assign) >>= λ _. expr.expression >>= λ a. pure (c.Let v a)) bound n (e ∷ s)
    ∙ the_reads t.Assign e (expr.expression >>= λ a. pure (c.Let v a)) refl also n s))
    (after_meets (verdict y most_open 0) a r (expr.expression n s) (λ a. pure (c.Let v a)) (c.Let v a) r (expression_meets y low n) (λ n. refl))

-- the word of a clause, and what goes on with no expression
abbrev AtClause : Tokens → Type 0
AtClause s = 7 < looseness (head s)

clause_at : (found : List Clause) (x : Placed) (u : Token) → Is u x → read.clause_next found (Some x) ≡ read.clause_next found (Some (at_start u))
clause_at found x u is = ap (λ u. read.clause_next found (Some (at_start u))) is

-- what the loop does at the first token of a clause, and what it reads then
clause_goes_on : {s r : Tokens} {a : Clause} (x : SpellsClause s a r) → AtClause r → (found : List Clause) (v : Verdict Placed Kind) (o : Outcome Placed Kind (List Clause)) →
    ComesTo (read.clauses) v found s o → ComesTo (read.clauses) (and_fine v (λ n. clause_verdict x)) (found ++ a ∷ []) r o
unfolding read.clauses
clause_goes_on (filter {s = s} {r = r} {x = x} {a = a} is y) low found v o h =
    loop_goes_on tt BehindClauses read.clause_next clauses_keep v found x s o (read.filter >>= λ a. pure (found ++ a ∷ [])) (λ n. verdict y most_open 0) (found ++ c.Where a ∷ []) r h
    (clause_at found x word_where is)
    (λ n. after_meets (verdict y most_open 0) (c.Where a) r (read.filter n s) (λ a. pure (found ++ a ∷ [])) (found ++ c.Where a ∷ []) r (filter_meets y low n) (λ n. refl))
clause_goes_on (binding {s = s} {r = r} {l = l} {x = x} {e = e} {v = w} {a = a} is bound also y) low found v o h =
    loop_goes_on tt BehindClauses read.clause_next clauses_keep v found l (x ∷ e ∷ s) o (read.binding >>= λ a. pure (found ++ a ∷ [])) (λ n. verdict y most_open 0) (found ++ c.Let w a ∷ []) r h
    (clause_at found l word_let is)
    (λ n. after_meets (verdict y most_open 0) (c.Let w a) r (read.binding n (x ∷ e ∷ s)) (λ a. pure (found ++ a ∷ [])) (found ++ c.Let w a ∷ []) r (binding_meets x e bound also y low n) (λ n. refl))

-- a clause begins with a word
at_clause : {s r : Tokens} {a : Clause} → SpellsClause s a r → AtClause s
at_clause (filter {x = x} is y) = ends_expression word_where x (omega arith) is
at_clause (binding {l = l} is bound also y) = ends_expression word_let l (omega arith) is

clauses_reach : {s r : Tokens} {cs : List Clause} (x : SpellsClauses s cs r) → AtClause r → ComesTo read.clauses (clauses_verdict x) cs r (read.clauses [] 0 s)
clauses_reach no_clause low = refl
clauses_reach (next_clause {s = s} {cs = cs} x y) low = clause_goes_on y low cs (clauses_verdict x) (read.clauses [] 0 s) (clauses_reach x (at_clause y))

data BeginsWith (u : Token) : Tokens → Type 0 where
  begins_with : {x : Placed} {s : Tokens} → Is u x → BeginsWith u (x ∷ s)

clauses_meets : {s r : Tokens} {cs : List Clause} (x : SpellsClauses s cs r) → BeginsWith word_select r → Meets (clauses_verdict x) cs r (read.clauses [] 0 s)
unfolding read.clauses
clauses_meets {s = s} {cs = cs} x (begins_with {x = w} {s = r} is) = loop_stops tt BehindClauses read.clause_next clauses_keep (clauses_verdict x) cs (w ∷ r) (read.clauses [] 0 s) cs (clause_at cs w word_select is)
    (clauses_reach x (ends_expression word_select w (omega arith) is))

-- ---- one member

-- what follows a member
data AtEnd : Tokens → Type 0 where
  at_comma : {k : Placed} {r : Tokens} → Is t.Comma k → AtEnd (k ∷ r)
  at_brace : {q : Placed} {r : Tokens} → Is t.CloseBrace q → AtEnd (q ∷ r)

end_loose : {r : Tokens} → AtEnd r → 7 < looseness (head r)
end_loose (at_comma {k = k} is) = ends_expression t.Comma k (omega arith) is
end_loose (at_brace {q = q} is) = ends_expression t.CloseBrace q (omega arith) is

-- after the first variable of a path comes a point, or the end of the path
data PathGoesOn : Tokens → Tokens → Type 0 where
  at_point : {p : Placed} {m r : Tokens} → Is t.Point p → PathGoesOn (p ∷ m) r
  at_end : {r : Tokens} → PathGoesOn r r

further : {m r : Tokens} {p x : Placed} → Is t.Point p → PathGoesOn m (p ∷ x ∷ r) → PathGoesOn m r
further is (at_point also) = at_point also
further is at_end = at_point is

abbrev Begins : Rule → Tokens → Tokens → Type 0
Begins Post s r = (x : Placed) (v : List ℕ) (m : Tokens) → s ≡ x ∷ m → variable x ≡ Some v → PathGoesOn m r
Begins Primary s r = (x : Placed) (v : List ℕ) (m : Tokens) → s ≡ x ∷ m → variable x ≡ Some v → PathGoesOn m r
Begins _ s r = Unit {0}

no_variable : (u : Token) (y : Placed) (s r : Tokens) → variable_as u ≡ None → Is u y → Begins Primary (y ∷ s) r
no_variable u y s r none is = λ x v m e bound.
    let same : y ≡ x = cc in let bad : None ≡ Some v = sym (ap variable_as is ∙ none) ∙ ap variable same ∙ bound in cc

path_begins : {rule : Rule} {s r : Tokens} {a : Tree} → Spells rule s a r → Begins rule s r
path_begins (first x) = path_begins x
path_begins (point y is also) = λ x v m e bound. further is (path_begins y x v m e bound)
path_begins (number {r = r} {x = x} {n = n} is) = no_variable (t.Number n) x r r refl is
path_begins (text {r = r} {x = x} {v = v} is) = no_variable (t.Quoted v) x r r refl is
path_begins (yes {r = r} {x = x} is) = no_variable word_true x r r refl is
path_begins (no {r = r} {x = x} is) = no_variable word_false x r r refl is
path_begins (null {r = r} {x = x} is) = no_variable word_null x r r refl is
path_begins (var {r = r} is) = λ x v m e bound. let same : r ≡ m = cc in subst (λ m. PathGoesOn m r) same at_end
path_begins (parens {s = s} {r = r} {p = p} is x also) = no_variable t.Open p s r refl is
path_begins (load {s = s} {r = r} {x = x} {p = p} word is y comma quote also) = no_variable word_load x (p ∷ s) r refl word
path_begins _ = tt

-- so it is no member with a name of its own
no_assign : (m r : Tokens) → PathGoesOn m r → AtEnd r → next_is t.Assign (head m) ≡ false
no_assign m r (at_point {p = p} is) end = test_at t.Assign t.Point false p refl is
no_assign m r at_end (at_comma {k = k} is) = test_at t.Assign t.Comma false k refl is
no_assign m r at_end (at_brace {q = q} is) = test_at t.Assign t.CloseBrace false q refl is

value_meets : {s r : Tokens} {a : Tree} (place : ℕ) (v : List ℕ) (y : Spells Whole s a r) → AtEnd r → (n : ℕ) → Meets (verdict y most_open 0) (placed_member place v a) r (read.value place v n s)
unfolding read.value
value_meets {s = s} {r = r} {a = a} place v y end n = after_meets (verdict y most_open 0) a r (expr.expression n s) (λ a. pure (placed_member place v a)) (placed_member place v a) r
    (expression_meets y (end_loose end) n) (λ n. refl)

named_meets : {s r : Tokens} {a : Tree} {v : List ℕ} (x e : Placed) → name x ≡ Some v → Is t.Assign e → (y : Spells Whole s a r) → AtEnd r → (n : ℕ) →
    Meets (verdict y most_open 0) (placed_member x.at v a) r (read.member n (x ∷ e ∷ s))
unfolding read.member
named_meets {s = s} {r = r} {a = a} {v = v} x e is also y end n =
    subst (λ o. Meets (verdict y most_open 0) (placed_member x.at v a) r (read.member_as x o n (x ∷ e ∷ s))) (sym is)
    (subst (λ d. Meets (verdict y most_open 0) (placed_member x.at v a) r (cond d (skip >>= λ _. read.value x.at v) (read.path_as x (variable x)) n (e ∷ s))) (sym (test_at t.Assign t.Assign true e refl also)) (value_meets x.at v y end n))

-- the names behind a variable, and it
post_of : (x : Placed) (v : List ℕ) (s : Tokens) → variable x ≡ Some v → expr.post (deeper_of most_open) 0 (x ∷ s) ≡ expr.points (Var v) 0 s
unfolding expr.post
post_of x v s bound = ap (λ o. and_then o expr.points) (var_reach most_open x v s bound 0)

path_rest : {s r : Tokens} {a : Tree} {v : List ℕ} (x : Placed) → variable x ≡ Some v → (y : Spells Post (x ∷ s) a r) → AtEnd r → (n : ℕ) →
    Meets (verdict y most_open 0) (placed_member x.at (last_name a) a) r (read.path x.at v n s)
unfolding read.path
path_rest {s = s} {r = r} {a = a} {v = v} x bound y end n = after_meets (verdict y most_open 0) a r (expr.points (Var v) 0 s) (λ a. pure (placed_member x.at (last_name a) a)) (placed_member x.at (last_name a) a) r
    (subst (Meets (verdict y most_open 0) a r) (post_of x v s bound) (post_meets y (let low : 7 < looseness (head r) = end_loose end in omega (arith, low)))) (λ n. refl)

path_meets : {s r : Tokens} {a : Tree} {v : List ℕ} (x : Placed) → variable x ≡ Some v → (y : Spells Post (x ∷ s) a r) → AtEnd r → (n : ℕ) →
    Meets (verdict y most_open 0) (placed_member x.at (last_name a) a) r (read.member n (x ∷ s))
unfolding read.member
path_meets {s = s} {r = r} {a = a} {v = v} x bound y end n =
    subst (λ o. Meets (verdict y most_open 0) (placed_member x.at (last_name a) a) r (read.member_as x o n (x ∷ s))) (sym (is_name x v (variable_is x v bound).0))
    (subst (λ d. Meets (verdict y most_open 0) (placed_member x.at (last_name a) a) r (cond d (skip >>= λ _. read.value x.at v) (read.path_as x (variable x)) n s)) (sym (no_assign s r (path_begins y x v s refl bound) end))
    (subst (λ o. Meets (verdict y most_open 0) (placed_member x.at (last_name a) a) r (read.path_as x o n s)) (sym bound)
    (path_rest x bound y end n)))

member_meets : {s r : Tokens} {a : PlacedMember} (d : SpellsMember s a r) → AtEnd r → (n : ℕ) → Meets (member_verdict d) a r (read.member n s)
member_meets (named {x = x} {e = e} is also y) end n = named_meets x e is also y end n
member_meets (path {x = x} is y) end n = path_meets x is y end n

-- ---- the members, from those found on

-- a member begins with a word
data WordAt : Tokens → Type 0 where
  word_at : {x : Placed} {s : Tokens} {v : List ℕ} → name x ≡ Some v → WordAt (x ∷ s)

member_word : {s r : Tokens} {a : PlacedMember} → SpellsMember s a r → WordAt s
member_word (named is also x) = word_at is
member_word (path {x = x} {v = v} bound y) = word_at (is_name x v (variable_is x v bound).0)

members_word : {s r : Tokens} {ms : List PlacedMember} → SpellsMembers s ms r → WordAt s
members_word (last x is) = member_word x
members_word (last_comma x is also) = member_word x
members_word (more x is y) = member_word x

opened : (room : ℕ) (s : Tokens) → WordAt s → (v : ℕ → Verdict Placed Kind) (all : List PlacedMember) (r : Tokens) (found : List PlacedMember) →
    ((k n : ℕ) → Meets (v k) all r (read.members (suc k) found n s)) → (n : ℕ) → Meets (opens tt room s v) all r (read.members room found n s)
unfolding read.members
opened zero s (word_at {x = x} {s = q} is) v all r found y n = ap (λ o. read.no_room_as o n (x ∷ q)) is
opened (suc k) s w v all r found y n = y k n

no_brace : (s : Tokens) → WordAt s → next_is t.CloseBrace (head s) ≡ false
no_brace s (word_at {x = x} {v = v} is) = test_at t.CloseBrace (t.Word v) false x refl (name_is x v is)

module _ (next : List PlacedMember → Reads (List PlacedMember)) (found : List PlacedMember) where
  -- behind a member
  at_brace_reads : (q : Placed) (r : Tokens) → Is t.CloseBrace q → (n : ℕ) → choose (read.behind_member next found) n (q ∷ r) ≡ Read found n r
  at_brace_reads q r is n = ap (λ u. read.behind_member next found (Some (at_start u)) n (q ∷ r)) is

  behind_comma : Option Placed → Reads (List PlacedMember)
  behind_comma h = cond (next_is t.CloseBrace h) (skip >>= λ _. pure found) (next found)

  at_comma_reads : (k : Placed) (s : Tokens) → Is t.Comma k → (n : ℕ) → choose (read.behind_member next found) n (k ∷ s) ≡ behind_comma (head s) n s
  unfolding behind_comma
  at_comma_reads k s is n = ap (λ u. read.behind_member next found (Some (at_start u)) n (k ∷ s)) is

  at_comma_brace_reads : (k q : Placed) (r : Tokens) → Is t.Comma k → Is t.CloseBrace q → (n : ℕ) → choose (read.behind_member next found) n (k ∷ q ∷ r) ≡ Read found n r
  unfolding behind_comma
  at_comma_brace_reads k q r is also n = at_comma_reads k (q ∷ r) is n ∙ ap (λ u. behind_comma (Some (at_start u)) n (q ∷ r)) also

  at_comma_word_reads : (k : Placed) (s : Tokens) → Is t.Comma k → WordAt s → (n : ℕ) → choose (read.behind_member next found) n (k ∷ s) ≡ next found n s
  unfolding behind_comma
  at_comma_word_reads k s is w n = at_comma_reads k s is n ∙ ap (λ d. cond d (skip >>= λ _. pure found) (next found) n s) (no_brace s w)

members_meets : {s r : Tokens} {ms : List PlacedMember} (d : SpellsMembers s ms r) (room : ℕ) (found : List PlacedMember) (n : ℕ) → Meets (members_verdict d room) (found ++ ms) r (read.members room found n s)
unfolding read.members
members_meets (last {s = s} {r = r} {q = q} {a = a} x is) room found n = opened room s (member_word x) (λ k. member_verdict x) (found ++ a ∷ []) r found
    (λ k n. after_meets (member_verdict x) a (q ∷ r) (read.member n s) (λ a. choose (read.behind_member (read.members k) (found ++ a ∷ []))) (found ++ a ∷ []) r
    (member_meets x (at_brace is) n) (λ n. at_brace_reads (read.members k) (found ++ a ∷ []) q r is n)) n
members_meets (last_comma {s = s} {r = r} {k = w} {q = q} {a = a} x is also) room found n = opened room s (member_word x) (λ k. member_verdict x) (found ++ a ∷ []) r found
    (λ k n. after_meets (member_verdict x) a (w ∷ q ∷ r) (read.member n s) (λ a. choose (read.behind_member (read.members k) (found ++ a ∷ []))) (found ++ a ∷ []) r
    (member_meets x (at_comma is) n) (λ n. at_comma_brace_reads (read.members k) (found ++ a ∷ []) w q r is also n)) n
members_meets (more {s = s} {m = m} {r = r} {k = w} {a = a} {ms = ms} x is y) room found n = opened room s (member_word x) (λ k. and_fine (member_verdict x) (λ n. members_verdict y k)) (found ++ a ∷ ms) r found
    (λ k n. then_meets (member_verdict x) a (w ∷ m) (read.member n s) (λ a. choose (read.behind_member (read.members k) (found ++ a ∷ []))) (λ n. members_verdict y k) (found ++ a ∷ ms) r
    (member_meets x (at_comma is) n)
    (λ n. subst (λ all. Meets (members_verdict y k) all r (choose (read.behind_member (read.members k) (found ++ a ∷ [])) n (w ∷ m))) (append_assoc found (a ∷ []) ms)
    (subst (Meets (members_verdict y k) ((found ++ a ∷ []) ++ ms) r) (sym (at_comma_word_reads (read.members k) (found ++ a ∷ []) w m is (members_word y) n))
    (members_meets y k (found ++ a ∷ []) n)))) n

-- ---- the whole text

entry_meets : {s r : Tokens} {ms : List PlacedMember} (d : SpellsEntry s ms r) (n : ℕ) → Meets (entry_verdict d) ms r (read.entry n s)
unfolding read.entry
entry_meets (entry {s = s} {r = r} {x = x} {y = y} {p = p} {ms = ms} is also opening d) n =
    subst (Meets (members_verdict d most_members) ms r)
    (sym (the_reads word_select x (take tt (the word_new) >>= λ _. take tt (the t.OpenBrace) >>= λ _. read.members most_members []) refl is n (y ∷ p ∷ s)
    ∙ the_reads word_new y (take tt (the t.OpenBrace) >>= λ _. read.members most_members []) refl also n (p ∷ s) ∙ the_reads t.OpenBrace p (read.members most_members []) refl opening n s))
    (members_meets d most_members [] n)

-- an entry begins with its word
entry_begins : {s r : Tokens} {ms : List PlacedMember} → SpellsEntry s ms r → BeginsWith word_select s
entry_begins (entry is also opening d) = begins_with is

pub map_text_meets : (s r : Tokens) (a : SpelledMap) (x : SpellsMap s a r) → Meets (limit s a r x) a r (read.map_text 0 s)
unfolding read.map_text
map_text_meets s r a (map {m = m} {n = n} {e = e} {o = o} {cs = cs} {ms = ms} d clauses x end) =
    subst (Meets (and_fine (clauses_verdict clauses) (λ n. entry_verdict x)) (spelled_map o cs ms) r)
    (sym (ap (λ i. and_then i (λ o. read.clauses [] >>= λ cs. read.entry >>= λ ms. take tt (the t.End) >>= λ _. pure (spelled_map o cs ms))) (origin_reads d 0)))
    (then_meets (clauses_verdict clauses) cs n (read.clauses [] 0 m) (λ cs. read.entry >>= λ ms. take tt (the t.End) >>= λ _. pure (spelled_map o cs ms)) (λ n. entry_verdict x) (spelled_map o cs ms) r
    (clauses_meets clauses (entry_begins x))
    (λ k. after_meets (entry_verdict x) ms (e ∷ r) (read.entry k n) (λ ms. take tt (the t.End) >>= λ _. pure (spelled_map o cs ms)) (spelled_map o cs ms) r (entry_meets x k)
    (λ k. the_reads t.End e (pure (spelled_map o cs ms)) refl end k r)))
