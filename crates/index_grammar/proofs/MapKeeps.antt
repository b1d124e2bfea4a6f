-- The reading of maps keeps to the grammar.
use Rattle.std.proofs.Common.{◌≡◌, ℕ, zero, suc, pos, Bool, true, false, List, [], ◌∷◌, ◌++◌, Option, Some, None, refl, ◌∙◌, cond, codes, append_assoc}
use Rattle.exact_parse.specs.Steps.{◌>>=◌, pure, refuse, choose, skip, take, Ends, More}
use Rattle.exact_parse.specs.Keeps.{Goes, Fits, Keeps, Then}
use Rattle.exact_parse.specs.Loops.{LoopKeeps, NextKeeps}
use Rattle.exact_parse.proofs.Keeping.{pure_at, pure_keeps, refuse_at, too_large_at, choose_keeps, skip_at, skip_short, bind_keeps, map_keeps, fresh_keeps}
use Rattle.exact_parse.proofs.Loops.{loop_keeps}
use Rattle.index_tokens.specs.declared.token.Token.TheVariants as t
use Rattle.index_tokens.specs.declared.token.Placed.{Placed}
use Rattle.index_tokens.specs.Reads.{Kind, Reads}
use Rattle.index_tokens.specs.Words.{Tokens, Is, next_is, same_token, word_from, word_in, word_docs, word_where, word_let, word_select, word_new, the, name, variable}
use Rattle.index_tree.specs.Trees.{Num, Var}
use Rattle.index_tree.specs.declared.map_query.Clause.{Clause}
use Rattle.index_tree.specs.declared.map_query.Clause.TheVariants as c
use Rattle.index_grammar.specs.declared.spelled.Origin.{Origin}
use Rattle.index_grammar.specs.declared.spelled.PlacedMember.{PlacedMember}
use Rattle.index_grammar.specs.Expressions.{Spells, Post, number, var, first}
use Rattle.index_grammar.specs.Maps.{origin_of, SpellsOrigin, SpellsClause, filter, binding, SpellsClauses, no_clause, next_clause, last_name, placed_member, SpellsMember, named, path, SpellsMembers, last, last_comma, more, SpellsEntry, entry, spelled_map, SpellsMap, map}
use Rattle.index_grammar.specs.Maps as m
use Rattle.index_grammar.specs.Limits.{most_members}
use Rattle.index_grammar.specs.ExpressionReading as expr
use Rattle.index_grammar.specs.MapReading as read
use Rattle.index_tokens.proofs.Taking.{at_start, same_at, the_keeps, name_keeps, variable_keeps, either_at}
use Rattle.index_grammar.proofs.ExpressionKeeps.{alone, zero_token, expression_keeps, Behind, points_keep}

-- ---- which documents

origin_keeps : Keeps SpellsOrigin read.origin
unfolding read.origin
origin_keeps = the_keeps word_from refl (λ f from_here. variable_keeps (λ v. take tt (the word_in) >>= λ _. take tt (the word_docs) >>= λ _. take tt (the t.Point) >>= λ _. take tt name >>= λ n. pure (origin_of v n))
    (λ x v bound. the_keeps word_in refl (λ i inside. the_keeps word_docs refl (λ d docs. the_keeps t.Point refl (λ p is. name_keeps (λ n. pure (origin_of v n))
    (λ y n called. pure_keeps (λ z. m.origin from_here bound inside docs is called)))))))

-- ---- clauses

pub filter_keeps : (x : Placed) → Is word_where x → Keeps (λ m b r. SpellsClause (x ∷ m) b r) read.filter
unfolding read.filter
filter_keeps x is = bind_keeps (λ a. pure (c.Where a)) expression_keeps (λ a. pure_keeps (λ z s d. filter is d))

pub binding_keeps : (l : Placed) → Is word_let l → Keeps (λ m b r. SpellsClause (l ∷ m) b r) read.binding
unfolding read.binding
binding_keeps l is = variable_keeps (λ v. take tt (the t.Assign) >>= λ _. expr.expression >>= λ a. pure (c.Let v a))
    (λ x v bound. the_keeps t.Assign refl (λ e also. bind_keeps (λ a. pure (c.Let v a)) expression_keeps (λ a. pure_keeps (λ z s d. binding is bound also d))))

-- what goes on behind clauses that are spelled
abbrev pub BehindClauses : List Clause → Tokens → List Clause → Tokens → Type 0
BehindClauses = Then SpellsClauses SpellsClauses

clause_keeps : (found : List Clause) (x : Placed) (p : Reads Clause) → Keeps (λ m b r. SpellsClause (x ∷ m) b r) p → NextKeeps BehindClauses found x (More (p >>= λ a. pure (found ++ a ∷ [])))
clause_keeps found x p keeps = bind_keeps (λ a. pure (found ++ a ∷ [])) keeps (λ a. pure_keeps (λ z m y d r h s0 w. h s0 (next_clause w y)))

pub clauses_keep : LoopKeeps BehindClauses read.clause_next
clauses_keep = record {
  short = λ a. record { more = []; tree = a; spells = λ z s d. d };
  none = λ a n. pure_at {X = BehindClauses a} (λ z s d. d) n [];
  some = λ a x. by a x (same_token word_where x.token) refl;
}
  where
    stays : (a : List Clause) (x : Placed) → NextKeeps {K = Kind} BehindClauses a x (Ends (pure a))
    stays a x n s = pure_at {X = BehindClauses a} (λ z s d. d) n _

    second : (a : List Clause) (x : Placed) (d : Bool) → same_token word_let x.token ≡ d →
        NextKeeps BehindClauses a x (cond d (More (read.binding >>= λ b. pure (a ++ b ∷ []))) (Ends (pure a)))
    second a x true e = clause_keeps a x read.binding (binding_keeps x (same_at word_let x e))
    second a x false e = stays a x

    by : (a : List Clause) (x : Placed) (d : Bool) → same_token word_where x.token ≡ d →
        NextKeeps BehindClauses a x (cond d (More (read.filter >>= λ b. pure (a ++ b ∷ []))) (cond (same_token word_let x.token) (More (read.binding >>= λ b. pure (a ++ b ∷ []))) (Ends (pure a))))
    by a x true e = clause_keeps a x read.filter (filter_keeps x (same_at word_where x e))
    by a x false e = second a x (same_token word_let x.token) refl

all_clauses_keep : Keeps SpellsClauses (read.clauses [])
unfolding read.clauses
all_clauses_keep = map_keeps (λ m b r h. h m no_clause) (loop_keeps tt BehindClauses read.clause_next clauses_keep [])

-- ---- one member

zero_member : {x : Placed} {n : List ℕ} → name x ≡ Some n → (z : Tokens) → SpellsMember (x ∷ at_start t.Assign ∷ zero_token ∷ z) (placed_member x.at n (Num (pos 0))) z
zero_member is z = named is refl (alone (number refl))

value_keeps : (x e : Placed) (n : List ℕ) → name x ≡ Some n → Is t.Assign e → Keeps (λ m b r. SpellsMember (x ∷ e ∷ m) b r) (read.value x.at n)
unfolding read.value
value_keeps x e n is also = bind_keeps (λ a. pure (placed_member x.at n a)) expression_keeps (λ a. pure_keeps (λ z s d. named is also d))

path_keeps : (x : Placed) (v : List ℕ) → variable x ≡ Some v → Keeps (λ m b r. SpellsMember (x ∷ m) b r) (read.path x.at v)
unfolding read.path expr.points
path_keeps x v is = bind_keeps {X = λ m a r. Spells Post (x ∷ m) a r} (λ a. pure (placed_member x.at (last_name a) a))
    (map_keeps (λ m a r h. h (x ∷ m) (first (var is))) (fresh_keeps (loop_keeps tt (Behind Post) expr.point_next points_keep (Var v)))) (λ a. pure_keeps (λ z s d. path is d))

member_short : (x : Placed) (n : List ℕ) → name x ≡ Some n → Goes (λ m b r. SpellsMember (x ∷ m) b r) []
member_short x n is = record { more = at_start t.Assign ∷ zero_token ∷ []; tree = placed_member x.at n (Num (pos 0)); spells = λ z. zero_member is z }

path_fits : (x : Placed) (n : List ℕ) → name x ≡ Some n → (o : Option (List ℕ)) → variable x ≡ o → (k : ℕ) (s : Tokens) → Fits (λ m b r. SpellsMember (x ∷ m) b r) (read.path_as x o) k s (read.path_as x o k s)
path_fits x n is (Some v) e k s = (path_keeps x v e).fits k s
path_fits x n is None e k s = refuse_at {X = λ m b r. SpellsMember (x ∷ m) b r} tt (member_short x n is) k s

behind_keeps : (x : Placed) (n : List ℕ) → name x ≡ Some n → Keeps (λ m b r. SpellsMember (x ∷ m) b r) (read.behind_name x n)
behind_keeps x n is = choose_keeps (λ m b r. SpellsMember (x ∷ m) b r) (λ h. cond (next_is t.Assign h) (skip >>= λ _. read.value x.at n) (read.path_as x (variable x))) (member_short x n is)
    (λ k. path_fits x n is (variable x) refl k [])
    (λ y k s. either_at (λ m b r. SpellsMember (x ∷ m) b r) (skip >>= λ _. read.value x.at n) (read.path_as x (variable x)) k (y ∷ s) (same_token t.Assign y.token)
    (λ e. skip_at (λ m b r. SpellsMember (x ∷ m) b r) (read.value x.at n) y (value_keeps x y n is (same_at t.Assign y e)) k s)
    (λ _. path_fits x n is (variable x) refl k _))

member_any : Goes SpellsMember []
member_any = record {
  more = at_start word_new ∷ at_start t.Assign ∷ zero_token ∷ [];
  tree = placed_member 0 (codes "new") (Num (pos 0));
  spells = λ z. zero_member {x = at_start word_new} refl z;
}

member_token : (x : Placed) (o : Option (List ℕ)) → name x ≡ o → (k : ℕ) (s : Tokens) → Fits SpellsMember (read.member_as x o) k (x ∷ s) (read.member_as x o k (x ∷ s))
member_token x (Some n) is k s = skip_at SpellsMember (read.behind_name x n) x (behind_keeps x n is) k s
member_token x None is k s = refuse_at {X = SpellsMember} tt member_any k _

pub member_keeps : Keeps SpellsMember read.member
unfolding read.member
member_keeps = choose_keeps SpellsMember read.member_by member_any (λ k. refuse_at {X = SpellsMember} tt member_any k []) (λ x. member_token x (name x) refl)

-- ---- the members

-- behind those found, up to the brace
abbrev pub BehindMembers : List PlacedMember → Tokens → List PlacedMember → Tokens → Type 0
BehindMembers found s all r = (ms : List PlacedMember) × SpellsMembers s ms r × (all ≡ found ++ ms)

any_members : (found : List PlacedMember) → Goes (BehindMembers found) []
any_members found = record {
  more = at_start word_new ∷ at_start t.Assign ∷ zero_token ∷ at_start t.CloseBrace ∷ [];
  tree = found ++ placed_member 0 (codes "new") (Num (pos 0)) ∷ [];
  spells = λ z. (placed_member 0 (codes "new") (Num (pos 0)) ∷ [], last (zero_member {x = at_start word_new} refl (at_start t.CloseBrace ∷ z)) refl, refl);
}

no_room_at : (found : List PlacedMember) (x : Placed) (o : Option (List ℕ)) → name x ≡ o → (k : ℕ) (s : Tokens) →
    Fits (BehindMembers found) (read.no_room_as o) k (x ∷ s) (read.no_room_as o k (x ∷ s))
no_room_at found x (Some n) is k s = too_large_at {X = BehindMembers found} tt (record {
  more = at_start t.Assign ∷ zero_token ∷ at_start t.CloseBrace ∷ [];
  tree = found ++ placed_member x.at n (Num (pos 0)) ∷ [];
  spells = λ z. (placed_member x.at n (Num (pos 0)) ∷ [], last (zero_member is (at_start t.CloseBrace ∷ z)) refl, refl);
}) k s
no_room_at found x None is k s = refuse_at {X = BehindMembers found} tt (any_members found) k _

module _ (next : List PlacedMember → Reads (List PlacedMember)) (found : List PlacedMember) (a : PlacedMember) (goes_on : Keeps (BehindMembers (found ++ a ∷ [])) (next (found ++ a ∷ []))) where
  brace_keeps : (q : Placed) → Is t.CloseBrace q → Keeps {K = Kind} (λ m b r. Then SpellsMember (BehindMembers found) a (q ∷ m) b r) (pure (found ++ a ∷ []))
  brace_keeps q is = pure_keeps (λ z s d. (a ∷ [], last d is, refl))

  comma_brace_keeps : (k q : Placed) → Is t.Comma k → Is t.CloseBrace q → Keeps {K = Kind} (λ m b r. Then SpellsMember (BehindMembers found) a (k ∷ q ∷ m) b r) (pure (found ++ a ∷ []))
  comma_brace_keeps k q comma is = pure_keeps (λ z s d. (a ∷ [], last_comma d comma is, refl))

  next_keeps : (k : Placed) → Is t.Comma k → Keeps (λ m b r. Then SpellsMember (BehindMembers found) a (k ∷ m) b r) (next (found ++ a ∷ []))
  next_keeps k comma = map_keeps (λ m b r h s d. (a ∷ h.0, more d comma h.1, h.2 ∙ append_assoc found (a ∷ []) h.0)) goes_on

  behind_comma : Option Placed → Reads (List PlacedMember)
  behind_comma h = cond (next_is t.CloseBrace h) (skip >>= λ _. pure (found ++ a ∷ [])) (next (found ++ a ∷ []))

  comma_keeps : (k : Placed) → Is t.Comma k → Keeps (λ m b r. Then SpellsMember (BehindMembers found) a (k ∷ m) b r) (choose behind_comma)
  unfolding behind_comma
  comma_keeps k comma = choose_keeps (λ m b r. Then SpellsMember (BehindMembers found) a (k ∷ m) b r) behind_comma (next_keeps k comma).short (λ n. (next_keeps k comma).fits n [])
      (λ x n s. either_at (λ m b r. Then SpellsMember (BehindMembers found) a (k ∷ m) b r) (skip >>= λ _. pure (found ++ a ∷ [])) (next (found ++ a ∷ [])) n (x ∷ s) (same_token t.CloseBrace x.token)
      (λ e. skip_at (λ m b r. Then SpellsMember (BehindMembers found) a (k ∷ m) b r) (pure (found ++ a ∷ [])) x (comma_brace_keeps k x comma (same_at t.CloseBrace x e)) n s)
      (λ _. (next_keeps k comma).fits n _))

  brace_short : Goes (Then SpellsMember (BehindMembers found) a) []
  brace_short = skip_short (Then SpellsMember (BehindMembers found) a) (pure (found ++ a ∷ [])) (at_start t.CloseBrace) (brace_keeps (at_start t.CloseBrace) refl)

  behind_member_keeps : Keeps (Then SpellsMember (BehindMembers found) a) (choose (read.behind_member next (found ++ a ∷ [])))
  unfolding behind_comma
  behind_member_keeps = choose_keeps (Then SpellsMember (BehindMembers found) a) (read.behind_member next (found ++ a ∷ [])) brace_short
      (λ n. refuse_at {X = Then SpellsMember (BehindMembers found) a} tt brace_short n [])
      (λ x n s. either_at (Then SpellsMember (BehindMembers found) a) (skip >>= λ _. pure (found ++ a ∷ [])) (cond (next_is t.Comma (Some x)) (skip >>= λ _. choose behind_comma) (refuse tt)) n (x ∷ s) (same_token t.CloseBrace x.token)
      (λ e. skip_at (Then SpellsMember (BehindMembers found) a) (pure (found ++ a ∷ [])) x (brace_keeps x (same_at t.CloseBrace x e)) n s)
      (λ _. either_at (Then SpellsMember (BehindMembers found) a) (skip >>= λ _. choose behind_comma) (refuse tt) n (x ∷ s) (same_token t.Comma x.token)
      (λ e. skip_at (Then SpellsMember (BehindMembers found) a) (choose behind_comma) x (comma_keeps x (same_at t.Comma x e)) n s)
      (λ _. refuse_at {X = Then SpellsMember (BehindMembers found) a} tt brace_short n _)))

members_keep : (room : ℕ) (found : List PlacedMember) → Keeps (BehindMembers found) (read.members room found)
unfolding read.members
members_keep zero found = choose_keeps (BehindMembers found) read.no_room_by (any_members found) (λ n. refuse_at {X = BehindMembers found} tt (any_members found) n []) (λ x. no_room_at found x (name x) refl)
members_keep (suc room) found = bind_keeps (λ a. choose (read.behind_member (read.members room) (found ++ a ∷ []))) member_keeps (λ a. behind_member_keeps (read.members room) found a (members_keep room (found ++ a ∷ [])))

all_members_keep : Keeps SpellsMembers (read.members most_members [])
all_members_keep = map_keeps (λ s b r h. by s b r h.0 h.1 h.2) (members_keep most_members [])
  where
    by : (s : Tokens) (b : List PlacedMember) (r : Tokens) (ms : List PlacedMember) → SpellsMembers s ms r → b ≡ ms → SpellsMembers s b r
    by s b r ms d e = rw e d

-- ---- the whole text

entry_keeps : Keeps SpellsEntry read.entry
unfolding read.entry
entry_keeps = the_keeps word_select refl (λ x is. the_keeps word_new refl (λ y also. the_keeps t.OpenBrace refl (λ p opening. map_keeps (λ s ms r d. entry is also opening d) all_members_keep)))

pub map_text_keeps : Keeps SpellsMap read.map_text
unfolding read.map_text
map_text_keeps = bind_keeps {X = SpellsOrigin} (λ o. read.clauses [] >>= λ cs. read.entry >>= λ ms. take tt (the t.End) >>= λ _. pure (spelled_map o cs ms)) origin_keeps
    (λ o. bind_keeps {X = SpellsClauses} (λ cs. read.entry >>= λ ms. take tt (the t.End) >>= λ _. pure (spelled_map o cs ms)) all_clauses_keep
    (λ cs. bind_keeps {X = SpellsEntry} (λ ms. take tt (the t.End) >>= λ _. pure (spelled_map o cs ms)) entry_keeps
    (λ ms. the_keeps t.End refl (λ e end. pure_keeps (λ z s_entry d_entry s_clauses d_clauses s d. map d d_clauses d_entry end)))))
