-- One pass over the tokens of a map finds the first variable that is not bound.
use Rattle.std.proofs.Common.{◌≡◌, ℕ, ◌+◌, ◌-◌, Bool, true, false, cond, if◌then◌else◌, List, [], ◌∷◌, ◌++◌, length, take, Option, Some, None, is_some, refl, sym, ◌∙◌, ap, arith}
use Rattle.std.proofs.Math.Seq.{take-append_seam}
use Rattle.std.proofs.lemmas.List.{length-append, append-nil, append_assoc}
use Rattle.index_tokens.specs.declared.token.Token.{Token}
use Rattle.index_tokens.specs.declared.token.Token.TheVariants as t
use Rattle.index_tokens.specs.declared.token.Placed.{Placed}
use Rattle.index_tokens.specs.Spelling.{is_reserved}
use Rattle.index_tokens.specs.Words.{Tokens, Is, same_token, word_true, word_false, word_null, word_load, word_let, word_where, word_select, word_new, name_as, variable, variable_as, quoted_as}
use Rattle.index_tree.specs.Trees.{Tree}
use Rattle.index_tree.specs.declared.expression.BinaryOp.{BinaryOp}
use Rattle.index_tree.specs.declared.expression.UnaryOp.{UnaryOp}
use Rattle.index_grammar.specs.declared.spelled.SpelledMap.{SpelledMap}
use Rattle.index_grammar.specs.Operators.{operator_as, sign_as}
use Rattle.index_grammar.specs.Expressions.{Rule, Spells, plain, choice, tighter, binary, signed, post, first, point, number, text, yes, no, null, var, parens, load, Post}
use Rattle.index_tree.specs.declared.map_query.Clause.{Clause}
use Rattle.index_grammar.specs.declared.spelled.PlacedMember.{PlacedMember}
use Rattle.index_grammar.specs.declared.spelled.Origin.{Origin}
use Rattle.index_grammar.specs.Maps.{origin, SpellsClause, filter, binding, SpellsClauses, no_clause, next_clause, SpellsMember, named, path, SpellsMembers, last, last_comma, more, SpellsEntry, entry, SpellsMap, map, spelled_map, SpellsOrigin}
use Rattle.index_lang.specs.Bound.{or_else, unbound, unbound_clause, unbound_clauses, unbound_member, unbound_members, unbound_entry, unbound_in, bound_by}
use Rattle.index_definition.specs.Adding.{is_among}
use Rattle.index_lang.specs.declared.names.Scanned.{Scanned}
use Rattle.index_lang.specs.Scan.{scanned, is_named_by, named_part, is_bound, names, binds, at_reserved, at_word, at_token, follow, scan, scan_map}
use Rattle.index_lang.specs.declared.names.Step.TheVariants.{Found, GoesOn}

or_else_assoc : (p q r : Option ℕ) → or_else (or_else p q) r ≡ or_else p (or_else q r)
or_else_assoc (Some p) q r = refl
or_else_assoc None q r = refl

-- one after the other
pub in_turn : (p q a b c : Option ℕ) → a ≡ or_else p b → b ≡ or_else q c → a ≡ or_else (or_else p q) c
in_turn p q a b c x y = x ∙ ap (or_else p) y ∙ sym (or_else_assoc p q c)

abbrev held : List ℕ → Option (List ℕ) → List ℕ
held other (Some w) = w
held other None = other

pub some_same : (w n : List ℕ) → Some w ≡ Some n → w ≡ n
some_same w n is = ap (held w) is

named_by_none : (k : Token) (s : Tokens) (v : List ℕ) → quoted_as k ≡ Some v → is_named_by (name_as k) s ≡ false
named_by_none (t.Quoted w) s v is = refl
named_by_none _ s v is = cc

module _ (m : SpelledMap) (b g : ℕ) where
  abbrev from : Tokens → Option ℕ
  from s = scan m (scanned b g 0) s

  abbrev at : Placed → Token → Tokens → Option ℕ
  at x k s = follow m (at_token m (scanned b g 0) x k s) (λ st. scan m st s)

  pass : (x : Placed) (s : Tokens) (k : Token) → Is k x → from (x ∷ s) ≡ at x k s
  pass x s k is = ap (λ k. at x k s) is

  pass_operator : (x : Placed) (s : Tokens) (k : Token) (op : BinaryOp) → operator_as k ≡ Some op → at x k s ≡ from s
  pass_operator x s t.Point op is = cc
  pass_operator x s t.OpenBrace op is = cc
  pass_operator x s t.Comma op is = cc
  pass_operator x s (t.Word w) op is = cc
  pass_operator x s t.End op is = cc
  pass_operator x s _ op is = refl

  pass_sign : (x : Placed) (s : Tokens) (k : Token) (op : UnaryOp) → sign_as k ≡ Some op → at x k s ≡ from s
  pass_sign x s t.Point op is = cc
  pass_sign x s t.OpenBrace op is = cc
  pass_sign x s t.Comma op is = cc
  pass_sign x s (t.Word w) op is = cc
  pass_sign x s t.End op is = cc
  pass_sign x s _ op is = refl

  pass_quoted : (x : Placed) (s : Tokens) (k : Token) (v : List ℕ) → quoted_as k ≡ Some v → at x k s ≡ from s
  pass_quoted x s (t.Quoted w) v is = refl
  pass_quoted x s t.Point v is = cc
  pass_quoted x s t.OpenBrace v is = cc
  pass_quoted x s t.Comma v is = cc
  pass_quoted x s (t.Word w) v is = cc
  pass_quoted x s t.End v is = cc
  pass_quoted x s _ v is = refl

  known : (bound : Bool) (x : Placed) (s : Tokens) → follow m (cond bound (GoesOn (scanned b g 0)) (Found x.at)) (λ st. scan m st s) ≡ or_else (cond bound None (Some x.at)) (from s)
  known true x s = refl
  known false x s = refl

  word_free : (reserved : Bool) (x : Placed) (w n : List ℕ) (s : Tokens) → is_reserved w ≡ reserved → cond reserved None (Some w) ≡ Some n →
      follow m (at_word m (scanned b g 0) x w s) (λ st. scan m st s) ≡ or_else (cond (is_among (names m b) n) None (Some x.at)) (from s)
  word_free true x w n s e is = cc
  word_free false x w n s e is =
      ap (λ (reserved : Bool). follow m (cond reserved (at_reserved m (scanned b g 0) w s) (cond (is_among (names m b) w) (GoesOn (scanned b g 0)) (Found x.at))) (λ st. scan m st s)) e
      ∙ known (is_among (names m b) w) x s
      ∙ ap (λ (w : List ℕ). or_else (cond (is_among (names m b) w) None (Some x.at)) (from s)) (some_same w n is)

  pass_variable : (x : Placed) (s : Tokens) (k : Token) (n : List ℕ) → variable_as k ≡ Some n →
      at x k s ≡ or_else (cond (is_among (names m b) n) None (Some x.at)) (from s)
  pass_variable x s (t.Word w) n is = word_free (is_reserved w) x w n s refl is
  pass_variable x s _ n is = cc

  comma : (k y : Placed) (s : Tokens) (v : List ℕ) → Is t.Comma k → quoted_as y.token ≡ Some v → from (k ∷ y ∷ s) ≡ from s
  comma k y s v is quote = pass k (y ∷ s) t.Comma is
      ∙ ap (λ (named : Bool). scan m (scanned b g (cond named 2 0)) (y ∷ s)) (named_by_none y.token s v quote)
      ∙ pass_quoted y s y.token v quote

  scans : {rule : Rule} {s r : Tokens} {a : Tree} (d : Spells rule s a r) → from s ≡ or_else (unbound (names m b) d) (from r)
  scans (plain x) = scans x
  scans (choice {s = s} {m = u} {n = v} {r = r} {p = p} {q = q} x is y also z) =
      in_turn (unbound (names m b) x) (or_else (unbound (names m b) y) (unbound (names m b) z)) (from s) (from u) (from r)
      (scans x ∙ ap (or_else (unbound (names m b) x)) (pass p u t.Question is))
      (in_turn (unbound (names m b) y) (unbound (names m b) z) (from u) (from v) (from r)
      (scans y ∙ ap (or_else (unbound (names m b) y)) (pass q v t.Colon also)) (scans z))
  scans (tighter x) = scans x
  scans (binary {s = s} {m = u} {r = r} {o = o} {op = op} x is at_level y) =
      in_turn (unbound (names m b) x) (unbound (names m b) y) (from s) (from u) (from r)
      (scans x ∙ ap (or_else (unbound (names m b) x)) (pass_operator o u o.token op is)) (scans y)
  scans (signed {s = s} {o = o} {op = op} is x) = pass_sign o s o.token op is ∙ scans x
  scans (post x) = scans x
  scans (first x) = scans x
  scans (point {r = r} {p = p} {x = x} y is also) = scans y ∙ ap (or_else (unbound (names m b) y)) (pass p (x ∷ r) t.Point is)
  scans (number {r = r} {x = x} {n = n} is) = pass x r (t.Number n) is
  scans (text {r = r} {x = x} {v = v} is) = pass x r (t.Quoted v) is
  scans (yes {r = r} {x = x} is) = pass x r (word_true) is
  scans (no {r = r} {x = x} is) = pass x r (word_false) is
  scans (null {r = r} {x = x} is) = pass x r (word_null) is
  scans (var {r = r} {x = x} {n = n} is) = pass_variable x r x.token n is
  scans (parens {s = s} {r = r} {p = p} {q = q} is x also) = pass p s t.Open is ∙ scans x ∙ ap (or_else (unbound (names m b) x)) (pass q r t.Close also)
  scans (load {s = s} {r = r} {x = w} {p = p} {k = k} {y = y} {q = q} {v = v} word is x is_comma quote also) =
      pass w (p ∷ s) (word_load) word ∙ pass p s t.Open is ∙ scans x
      ∙ ap (or_else (unbound (names m b) x)) (comma k y (q ∷ r) v is_comma quote ∙ pass q r t.Close also)

-- ---- clauses

pub named_variable : (k : Token) (v : List ℕ) → variable_as k ≡ Some v → name_as k ≡ Some v
named_variable (t.Word w) v is = by (is_reserved w) is
  where
    by : (reserved : Bool) → cond reserved None (Some w) ≡ Some v → Some w ≡ Some v
    by true is = cc
    by false is = is
named_variable _ v is = cc

module _ (m : SpelledMap) where
  bound_again : (bound : Bool) (place : ℕ) (p a b : Option ℕ) → a ≡ or_else p b → cond bound (Some place) a ≡ or_else (cond bound (Some place) p) b
  bound_again true place p a b e = refl
  bound_again false place p a b e = e

  chosen : (bound : Bool) (place : ℕ) (st : Scanned) (s : Tokens) → follow m (cond bound (Found place) (GoesOn st)) (λ st. scan m st s) ≡ cond bound (Some place) (scan m st s)
  chosen true place st s = refl
  chosen false place st s = refl

  clause_scans : (b n : ℕ) {s r : Tokens} {a : Clause} (d : SpellsClause s a r) →
      scan m (scanned b n 0) s ≡ or_else (unbound_clause (names m n) d) (scan m (scanned n (n + 1) 0) r)
  clause_scans b n (filter {s = s} {x = x} is d) = pass m b n x s (word_where) is ∙ scans m n (n + 1) d
  clause_scans b n (binding {s = s} {r = r} {l = l} {x = x} {e = e} {v = v} is named_so equals d) =
      pass m b n l (x ∷ e ∷ s) (word_let) is
      ∙ ap (λ (o : Option (List ℕ)). follow m (binds m n o (x ∷ e ∷ s)) (λ st. scan m st (x ∷ e ∷ s))) (named_variable x.token v named_so)
      ∙ chosen (is_bound m n v) x.at (scanned n (n + 1) 1) (x ∷ e ∷ s)
      ∙ ap (cond (is_bound m n v) (Some x.at)) (pass m n (n + 1) e s (t.Assign) equals)
      ∙ bound_again (is_bound m n v) x.at (unbound (names m n) d) (scan m (scanned n (n + 1) 0) s) (scan m (scanned n (n + 1) 0) r) (scans m n (n + 1) d)

  less_one : (n : ℕ) → n + 1 - 1 ≡ n
  less_one n = omega arith

  clauses_scan : {s r : Tokens} {cs : List Clause} (xs : SpellsClauses s cs r) (later : List Clause) → m.clauses ≡ cs ++ later →
      scan m (scanned 0 0 0) s ≡ or_else (unbound_clauses (m.var ∷ []) xs) (scan m (scanned (length cs - 1) (length cs) 0) r)
  clauses_scan no_clause later is = refl
  clauses_scan (next_clause {s = s} {m = u} {r = r} {cs = cs} {a = a} xs x) later is =
      in_turn (unbound_clauses (m.var ∷ []) xs) (unbound_clause (bound_by (m.var ∷ []) cs) x)
      (scan m (scanned 0 0 0) s) (scan m (scanned (length cs - 1) (length cs) 0) u) (scan m (scanned (length (cs ++ a ∷ []) - 1) (length (cs ++ a ∷ [])) 0) r)
      (clauses_scan xs (a ∷ later) split)
      (clause_scans (length cs - 1) (length cs) x
      ∙ ap (λ (names : List (List ℕ)). or_else (unbound_clause names x) (scan m (scanned (length cs) (length cs + 1) 0) r)) bound
      ∙ ap (λ n. or_else (unbound_clause (bound_by (m.var ∷ []) cs) x) (scan m (scanned n (length cs + 1) 0) r)) (sym (less_one (length cs)))
      ∙ ap (λ n. or_else (unbound_clause (bound_by (m.var ∷ []) cs) x) (scan m (scanned (n - 1) n 0) r)) (sym (length-append cs (a ∷ []))))
    where
      split : m.clauses ≡ cs ++ (a ∷ later)
      split = is ∙ append_assoc cs (a ∷ []) later

      bound : names m (length cs) ≡ bound_by (m.var ∷ []) cs
      bound = ap (λ (some : List Clause). bound_by (m.var ∷ []) (take (length cs) some)) split ∙ ap (bound_by (m.var ∷ [])) (take-append_seam cs (a ∷ later))

-- ---- members

named_by_variable : (k : Token) (s : Tokens) (v : List ℕ) → variable_as k ≡ Some v → is_named_by (name_as k) s ≡ is_named_by (Some v) s
named_by_variable k s v is = ap (λ o. is_named_by o s) (named_variable k v is)

abbrev equals : Token → Bool
equals k = is_some (found (same_token t.Assign k))
  where
    found : Bool → Option (Unit {0})
    found b = if b then Some tt else None

no_variable : (x : Placed) (k : Token) (v : List ℕ) → Is k x → variable_as k ≡ None → variable x ≡ Some v → ⊥
no_variable x k v e none is = none_some v (sym none ∙ ap variable_as (sym e) ∙ is)
  where
    none_some : (v : List ℕ) → None ≡ Some v → ⊥
    none_some v e = cc

-- what follows the variable of a path is a point, or what follows the path
behind_path : (v : List ℕ) {x : Placed} {s r : Tokens} {a : Tree} → Spells Post (x ∷ s) a r → variable x ≡ Some v → is_named_by (Some v) r ≡ false → is_named_by (Some v) s ≡ false
behind_path v {x = x} (first (var e)) is h = h
behind_path v {x = x} (first (number {n = n} e)) is h = absurd (no_variable x (t.Number n) v e refl is)
behind_path v {x = x} (first (text {v = q} e)) is h = absurd (no_variable x (t.Quoted q) v e refl is)
behind_path v {x = x} (first (yes e)) is h = absurd (no_variable x (word_true) v e refl is)
behind_path v {x = x} (first (no e)) is h = absurd (no_variable x (word_false) v e refl is)
behind_path v {x = x} (first (null e)) is h = absurd (no_variable x (word_null) v e refl is)
behind_path v {x = x} (first (parens e d also)) is h = absurd (no_variable x (t.Open) v e refl is)
behind_path v {x = x} (first (load e bracket d comma quote also)) is h = absurd (no_variable x (word_load) v e refl is)
behind_path v (point d e also) is h = behind_path v d is (ap (λ k. equals k) e)

module _ (m : SpelledMap) (b g : ℕ) where
  abbrev at_member : Tokens → Option ℕ
  at_member s = scan m (scanned b g (named_part s)) s

  member_scans : {s r : Tokens} {a : PlacedMember} (d : SpellsMember s a r) → (n : List ℕ) → is_named_by (Some n) r ≡ false → at_member s ≡ or_else (unbound_member (names m b) d) (from m b g r)
  member_scans (named {s = s} {x = x} {e = e} {n = v} is assign d) n h =
      ap (λ (o : Option (List ℕ)). scan m (scanned b g (cond (is_named_by o (e ∷ s)) 2 0)) (x ∷ e ∷ s)) is
      ∙ ap (λ k. scan m (scanned b g (cond (equals k) 2 0)) (x ∷ e ∷ s)) assign
      ∙ scans m b g d
  member_scans (path {s = s} {x = x} {v = v} is d) n h =
      ap (λ (o : Option (List ℕ)). scan m (scanned b g (cond (is_named_by o s) 2 0)) (x ∷ s)) (named_variable x.token v is)
      ∙ ap (λ (named : Bool). scan m (scanned b g (cond named 2 0)) (x ∷ s)) (behind_path v d is h)
      ∙ scans m b g d

  no_member : (q : Placed) (s : Tokens) → Is t.CloseBrace q → at_member (q ∷ s) ≡ from m b g s
  no_member q s is = ap (λ k. scan m (scanned b g (cond (is_named_by (name_as k) s) 2 0)) (q ∷ s)) is ∙ pass m b g q s (t.CloseBrace) is

  no_equals : (q : Placed) (s : Tokens) (k : Token) → Is k q → equals k ≡ false → is_named_by (Some []) (q ∷ s) ≡ false
  no_equals q s k is e = ap equals is ∙ e

  members_scan : {s r : Tokens} {ms : List PlacedMember} (xs : SpellsMembers s ms r) → at_member s ≡ or_else (unbound_members (names m b) xs) (from m b g r)
  members_scan (last {r = r} {q = q} x is) =
      member_scans x [] (no_equals q r (t.CloseBrace) is refl) ∙ ap (or_else (unbound_member (names m b) x)) (pass m b g q r (t.CloseBrace) is)
  members_scan (last_comma {r = r} {k = k} {q = q} x is also) =
      member_scans x [] (no_equals k (q ∷ r) (t.Comma) is refl) ∙ ap (or_else (unbound_member (names m b) x)) (pass m b g k (q ∷ r) (t.Comma) is ∙ no_member q r also)
  members_scan (more {s = s} {m = u} {r = r} {k = k} x is xs) =
      in_turn (unbound_member (names m b) x) (unbound_members (names m b) xs) (at_member s) (at_member u) (from m b g r)
      (member_scans x [] (no_equals k u (t.Comma) is refl) ∙ ap (or_else (unbound_member (names m b) x)) (pass m b g k u (t.Comma) is)) (members_scan xs)

-- ---- the whole text

pub or_else_none : (p : Option ℕ) → or_else p None ≡ p
or_else_none (Some p) = refl
or_else_none None = refl

origin_scans : (m : SpelledMap) {s r : Tokens} {o : Origin} → SpellsOrigin s o r → scan_map m s ≡ scan m (scanned 0 0 0) r
origin_scans m (origin a b c d e f) = refl

module _ (o : Origin) (cs : List Clause) (ms : List PlacedMember) where
  abbrev whole : SpelledMap
  whole = spelled_map o cs ms

  abbrev count : ℕ
  count = length cs

  all_bound : names whole count ≡ bound_by (o.var ∷ []) cs
  all_bound = take_all cs
    where
      take_all : (cs : List Clause) → bound_by (o.var ∷ []) (take (length cs) cs) ≡ bound_by (o.var ∷ []) cs
      take_all cs = ap (λ (some : List Clause). bound_by (o.var ∷ []) (take (length cs) some)) (sym (append-nil cs)) ∙ ap (bound_by (o.var ∷ [])) (take-append_seam cs [])

  entry_scans : {r s : Tokens} {e : Placed} (d : SpellsEntry s ms (e ∷ r)) → Is t.End e → scan whole (scanned (count - 1) count 0) s ≡ unbound_entry (bound_by (o.var ∷ []) cs) d
  entry_scans {r = r} {e = e} (entry {s = s} {x = x} {y = y} {p = p} is also brace xs) end =
      pass whole (count - 1) count x (y ∷ p ∷ s) (word_select) is
      ∙ pass whole count count y (p ∷ s) (word_new) also
      ∙ pass whole count count p s (t.OpenBrace) brace
      ∙ members_scan whole count count xs
      ∙ ap (or_else (unbound_members (names whole count) xs)) (pass whole count count e r (t.End) end)
      ∙ or_else_none (unbound_members (names whole count) xs)
      ∙ ap (λ (bound : List (List ℕ)). unbound_members bound xs) all_bound

pub map_scans : {s r : Tokens} {m : SpelledMap} (d : SpellsMap s m r) → scan_map m s ≡ unbound_in d
map_scans (map {o = o} {cs = cs} {ms = ms} from_where xs members end) =
    origin_scans (spelled_map o cs ms) from_where
    ∙ clauses_scan (spelled_map o cs ms) xs [] (sym (append-nil cs))
    ∙ ap (or_else (unbound_clauses (o.var ∷ []) xs)) (entry_scans o cs ms members end)
