-- What is spelled as a query is read, unless it is past a limit, and then refused there.
use Rattle.std.proofs.Common.{◌≡◌, ℕ, Bool, true, false, cond, nat_lt, List, [], ◌∷◌, Option, Some, None, refl, sym, ◌∙◌, ap, subst}
use Rattle.std.specs.Option.{option_and_then}
use Rattle.exact_parse.specs.Steps.{head, Outcome, Read, and_then, ◌>>=◌, ◌>>◌, pure, too_large, take, skip, Ends, More, loop}
use Rattle.exact_parse.specs.Limits.{Fine, Over, and_fine}
use Rattle.exact_parse.specs.Exact.{Meets}
use Rattle.exact_parse.proofs.Loops.{loop_ends}
use Rattle.exact_parse.proofs.Meeting.{after_meets, take_reads, ComesTo, loop_goes_on, loop_stops}
use Rattle.spec_data.specs.Members.{Path}
use Rattle.spec_query.specs.Query.{Origin, OfIndex, OfCollection, Field, Cond, Sort, Column, Query}
use Rattle.rql_tokens.specs.declared.key_words.KeyWord.TheVariants as k
use Rattle.rql_tokens.specs.declared.token.Token.{Token}
use Rattle.rql_tokens.specs.declared.token.Token.TheVariants as t
use Rattle.rql_tokens.specs.declared.token.Placed.{Placed}
use Rattle.rql_tokens.specs.Words.{Tokens, Is, same_token, next_is, the, name_as, name, part_as, quoted}
use Rattle.rql_tokens.proofs.WordLemmas.{test_at}
use Rattle.rql_grammar.specs.Reads.{Kind, Reads, unexpected, late}
use Rattle.rql_grammar.specs.Fields.{SpellsList, SpellsPath, SpellsField}
use Rattle.rql_grammar.specs.Conditions.{Spells, Whole}
use Rattle.rql_grammar.specs.Queries.{if_collection, SpellsSource, index, documents, long, desc_of, desc, SpellsLong, as_text, as_told, SpellsDesc, rising, told, sort_of, SpellsSort, sort, SpellsNamed, unnamed, named, column_of, SpellsColumn, column, Clause, Groups, Where, Orders, Columns, Includes, rank, SpellsClause, grouping, filter, ordering, selecting, including, Begun, begun, stepped, further, may_follow, SpellsClauses, no_clause, next_clause, SpellsQuery, query}
use Rattle.rql_grammar.specs.Limits.{Judged, list_verdict, counted_path_verdict, field_verdict, sort_verdict, column_verdict, most_open, verdict, clause_verdict, in_turn, clauses_verdict, limit}
use Rattle.rql_grammar.specs.FieldReading.{list, counted_path, field}
use Rattle.rql_grammar.specs.ConditionReading.{condition}
use Rattle.rql_grammar.specs.QueryReading as read
use Rattle.rql_grammar.proofs.Taking.{the_reads, value_reads}
use Rattle.rql_grammar.proofs.Chains.{list_meets}
use Rattle.rql_grammar.proofs.FieldKeeps.{counted_path_keeps}
use Rattle.rql_grammar.proofs.FieldMeets.{field_meets, counted_path_meets}
use Rattle.rql_grammar.proofs.ConditionMeets.{condition_meets}
use Rattle.rql_grammar.proofs.QueryKeeps.{sort_keeps, column_keeps, BehindClauses, clauses_keep}

-- ---- what follows

-- a token that the test knows comes next
data At (test : Token → Bool) : Tokens → Type 0 where
  at : {x : Placed} {s : Tokens} → test x.token ≡ true → At test (x ∷ s)

-- a clause ends before the word of a clause, and before the end
abbrev ends_clause : Token → Bool
ends_clause (t.Key k.Group) = true
ends_clause (t.Key k.Where) = true
ends_clause (t.Key k.Order) = true
ends_clause (t.Key k.Select) = true
ends_clause (t.Key k.Include) = true
ends_clause t.End = true
ends_clause _ = false

-- and one of several before a comma too
abbrev ends_item : Token → Bool
ends_item t.Comma = true
ends_item u = ends_clause u

item_by : (u : Token) → ends_clause u ≡ true → ends_item u ≡ true
item_by t.Comma e = refl
item_by _ e = e

item_end : (s : Tokens) → At ends_clause s → At ends_item s
item_end s (at {x = x} e) = at (item_by x.token e)

comma_end : (p : Placed) (m : Tokens) → Is t.Comma p → At ends_item (p ∷ m)
comma_end p m is = at (ap ends_item is)

no_comma_by : (u : Token) → ends_clause u ≡ true → same_token t.Comma u ≡ false
no_comma_by t.Comma e = cc
no_comma_by _ e = refl

no_comma : (s : Tokens) → At ends_clause s → next_is t.Comma (head s) ≡ false
no_comma s (at {x = x} e) = no_comma_by x.token e

no_and_by : (u : Token) → ends_clause u ≡ true → same_token (t.Key k.And) u ≡ false
no_and_by (t.Key k.And) e = cc
no_and_by _ e = refl

no_and : (s : Tokens) → At ends_clause s → next_is (t.Key k.And) (head s) ≡ false
no_and s (at {x = x} e) = no_and_by x.token e

no_or_by : (u : Token) → ends_clause u ≡ true → same_token (t.Key k.Or) u ≡ false
no_or_by (t.Key k.Or) e = cc
no_or_by _ e = refl

no_or : (s : Tokens) → At ends_clause s → next_is (t.Key k.Or) (head s) ≡ false
no_or s (at {x = x} e) = no_or_by x.token e

no_point_by : (u : Token) → ends_item u ≡ true → same_token t.Point u ≡ false
no_point_by t.Point e = cc
no_point_by _ e = refl

no_point : (s : Tokens) → At ends_item s → next_is t.Point (head s) ≡ false
no_point s (at {x = x} e) = no_point_by x.token e

no_as_by : (u : Token) → ends_item u ≡ true → same_token (t.Key k.As) u ≡ false
no_as_by (t.Key k.As) e = cc
no_as_by _ e = refl

no_as : (s : Tokens) → At ends_item s → next_is (t.Key k.As) (head s) ≡ false
no_as s (at {x = x} e) = no_as_by x.token e

no_desc_by : (u : Token) → ends_item u ≡ true → option_and_then desc_of (name_as u) ≡ None
no_desc_by (t.Name n) e = cc
no_desc_by _ e = refl

no_desc : (s : Tokens) → At ends_item s → read.desc_at (head s) ≡ None
no_desc s (at {x = x} e) = no_desc_by x.token e

-- ---- what a query is about

source_read : {s r : Tokens} {o : Origin} → SpellsSource s o r → (c : ℕ) → read.one_source c s ≡ Read o c r
unfolding read.one_source
source_read (index {r = r} {i = i} {x = x} {n = n} is text) c =
    ap (λ u. read.source_by (option_and_then if_collection (part_as u)) c (i ∷ x ∷ r)) is
    ∙ the_reads (t.Key k.Index) i (take unexpected quoted >>= λ n. pure (OfIndex n)) refl is c (x ∷ r) ∙ value_reads quoted x n (λ n. pure (OfIndex n)) text c r
source_read (documents {r = r} {x = x} is) c = ap (λ o. read.source_by o c (x ∷ r)) is

-- ---- keys of an order

-- a name that says the direction is neither a point nor `as`
told_by : (u : Token) (b : Bool) → option_and_then desc_of (name_as u) ≡ Some b → (same_token t.Point u ≡ false) × (same_token (t.Key k.As) u ≡ false)
told_by (t.Name n) b e = (refl, refl)
told_by _ b e = cc

desc_begins : {n r : Tokens} {d : Bool} → SpellsDesc n d r → At ends_item r → (next_is t.Point (head n) ≡ false) × (next_is (t.Key k.As) (head n) ≡ false)
desc_begins (rising {r = r}) end = (no_point r end, no_as r end)
desc_begins (told {x = x} {b = b} is) end = told_by x.token b is

long_begins : {m n r : Tokens} {l d : Bool} → SpellsLong m l n → SpellsDesc n d r → At ends_item r → next_is t.Point (head m) ≡ false
long_begins as_text y end = (desc_begins y end).0
long_begins (as_told {a = a} is called) y end = test_at t.Point (t.Key k.As) false a refl is

long_read : {m n r : Tokens} {l d : Bool} → SpellsLong m l n → SpellsDesc n d r → At ends_item r → (c : ℕ) → read.long_if_any c m ≡ Read l c n
unfolding read.long_if_any
long_read (as_text {r = n}) y end c = ap (λ b. cond b (skip >> take unexpected long) (pure false) c n) (desc_begins y end).1
long_read (as_told {r = n} {a = a} {x = x} {b = b} is called) y end c =
    ap (λ b. cond b (skip >> take unexpected long) (pure false) c (a ∷ x ∷ n)) (test_at (t.Key k.As) (t.Key k.As) true a refl is) ∙ take_reads unexpected long x b called c n

desc_read : {n r : Tokens} {d : Bool} → SpellsDesc n d r → At ends_item r → (c : ℕ) → read.desc_if_any c n ≡ Read d c r
unfolding read.desc_if_any
desc_read (rising {r = r}) end c = ap (λ o. read.desc_by o c r) (no_desc r end)
desc_read (told {r = r} {x = x} is) end c = ap (λ o. read.desc_by o c (x ∷ r)) is

sort_meets : (s r : Tokens) (b : Sort) (x : SpellsSort s b r) → At ends_item r → (c : ℕ) → Meets (sort_verdict s b r x c) b r (read.one_sort c s)
unfolding read.one_sort
sort_meets s r b (sort {m = m} {n = n} {a = a} {l = l} {d = d} x y z) end c =
    after_meets (field_verdict s a m x c) a m (field c s) (λ a. read.long_if_any >>= λ l. read.desc_if_any >>= λ d. pure (sort_of a l d)) (sort_of a l d) r (field_meets s m a x (long_begins y z end) c)
    (λ c. ap (λ o. and_then o (λ l. read.desc_if_any >>= λ d. pure (sort_of a l d))) (long_read y z end c) ∙ ap (λ o. and_then o (λ d. pure (sort_of a l d))) (desc_read z end c))

-- ---- columns

named_begins : {m r : Tokens} {n : Option (List ℕ)} → SpellsNamed m n r → At ends_item r → next_is t.Point (head m) ≡ false
named_begins (unnamed {r = r}) end = no_point r end
named_begins (named {a = a} is called) end = test_at t.Point (t.Key k.As) false a refl is

named_read : {m r : Tokens} {n : Option (List ℕ)} → SpellsNamed m n r → At ends_item r → (c : ℕ) → read.name_if_any c m ≡ Read n c r
unfolding read.name_if_any
named_read (unnamed {r = r}) end c = ap (λ b. cond b (skip >> (take unexpected name >>= λ n. pure (Some n))) (pure None) c r) (no_as r end)
named_read (named {r = r} {a = a} {x = x} {n = n} is called) end c =
    ap (λ b. cond b (skip >> (take unexpected name >>= λ n. pure (Some n))) (pure None) c (a ∷ x ∷ r)) (test_at (t.Key k.As) (t.Key k.As) true a refl is)
    ∙ value_reads name x n (λ n. pure (Some n)) called c r

column_meets : (s r : Tokens) (b : Column) (x : SpellsColumn s b r) → At ends_item r → (c : ℕ) → Meets (column_verdict s b r x c) b r (read.one_column c s)
unfolding read.one_column
column_meets s r b (column {m = m} {a = a} {n = n} x y) end c =
    after_meets (field_verdict s a m x c) a m (field c s) (λ a. read.name_if_any >>= λ n. pure (column_of a n)) (column_of a n) r (field_meets s m a x (named_begins y end) c)
    (λ c. ap (λ o. and_then o (λ n. pure (column_of a n))) (named_read y end c))

-- ---- lists of these

paths_meet : {s r : Tokens} {paths : List Path} (x : SpellsList t.Comma SpellsPath s paths r) → At ends_clause r → (c : ℕ) → Meets (list_verdict counted_path_verdict x c) paths r (list t.Comma counted_path c s)
paths_meet {r = r} x end c = list_meets SpellsPath t.Comma counted_path counted_path_keeps counted_path_verdict (At ends_item) refl comma_end
    (λ s r path y end c. counted_path_meets s r path y (no_point r end) c) x (item_end r end) (no_comma r end) c

sorts_meet : {s r : Tokens} {sorts : List Sort} (x : SpellsList t.Comma SpellsSort s sorts r) → At ends_clause r → (c : ℕ) → Meets (list_verdict sort_verdict x c) sorts r (list t.Comma read.one_sort c s)
sorts_meet {r = r} x end c = list_meets SpellsSort t.Comma read.one_sort sort_keeps sort_verdict (At ends_item) refl comma_end sort_meets x (item_end r end) (no_comma r end) c

columns_meet : {s r : Tokens} {columns : List Column} (x : SpellsList t.Comma SpellsColumn s columns r) → At ends_clause r → (c : ℕ) →
    Meets (list_verdict column_verdict x c) columns r (list t.Comma read.one_column c s)
columns_meet {r = r} x end c = list_meets SpellsColumn t.Comma read.one_column column_keeps column_verdict (At ends_item) refl comma_end column_meets x (item_end r end) (no_comma r end) c

-- ---- clauses

-- a clause begins with a word
clause_begins : {s r : Tokens} {a : Clause} → SpellsClause s a r → At ends_clause s
clause_begins (grouping is also d) = at (ap ends_clause is)
clause_begins (filter is d) = at (ap ends_clause is)
clause_begins (ordering is also d) = at (ap ends_clause is)
clause_begins (selecting is d) = at (ap ends_clause is)
clause_begins (including is d) = at (ap ends_clause is)

-- at the word of a clause
clause_word : (b : Begun) (x : Placed) (u : Token) → Is u x → read.clause_next b (Some x) ≡ read.clause_as b u
clause_word b x u is = ap (read.clause_as b) is

module _ (o : Origin) where
  -- a clause that comes in its turn is read, and another one is refused at its word
  turn_goes_on : (v : Judged) (b : Begun) (x : Placed) (m : Tokens) (i : Outcome Placed Kind Begun) (n : ℕ) (p : Reads Clause) (w : ℕ → Judged) (a : Clause) (r : Tokens) →
      ComesTo read.clauses v b (x ∷ m) i → read.clause_next b (Some x) ≡ read.clause_of b n p → may_follow b n ≡ true → ((c : ℕ) → Meets (w c) a r (p c m)) →
      ComesTo read.clauses (and_fine v (λ c. in_turn b.passed n (x ∷ m) (w c))) (stepped b n a) r i
  unfolding read.clauses
  turn_goes_on (Fine c) b x m i n p w a r l is may y = by (nat_lt b.passed n) refl
    where
      next : (d : Bool) → nat_lt b.passed n ≡ d → read.clause_next b (Some x) ≡ cond d (More (p >>= λ a. pure (stepped b n a))) (Ends (too_large late))
      next d e = is ∙ ap (λ may. cond may (cond (nat_lt b.passed n) (More (p >>= λ a. pure (stepped b n a))) (Ends (too_large late))) (Ends (pure b))) may
          ∙ ap (λ d. cond d (More (p >>= λ a. pure (stepped b n a))) (Ends (too_large late))) e

      by : (d : Bool) → nat_lt b.passed n ≡ d → ComesTo (loop unexpected read.clause_next) (cond d (w c) (Over late (x ∷ m))) (stepped b n a) r i
      by true e = loop_goes_on unexpected (BehindClauses o) read.clause_next (clauses_keep o) (Fine c) b x m i (p >>= λ a. pure (stepped b n a)) w (stepped b n a) r l (next true e)
          (λ c. after_meets (w c) a r (p c m) (λ a. pure (stepped b n a)) (stepped b n a) r (y c) (λ n. refl))
      by false e = l ∙ loop_ends unexpected (BehindClauses o) read.clause_next (clauses_keep o) b c (x ∷ m) (too_large late) (next false e)
  turn_goes_on (Over j q) b x m i n p w a r l is may y = l

  clause_goes_on : {s r : Tokens} {a : Clause} (x : SpellsClause s a r) → At ends_clause r → (b : Begun) → may_follow b (rank a) ≡ true → (v : Judged) (i : Outcome Placed Kind Begun) →
      ComesTo read.clauses v b s i → ComesTo read.clauses (and_fine v (λ c. in_turn b.passed (rank a) s (clause_verdict x c))) (further b a) r i
  unfolding read.grouping read.filter read.ordering read.selecting read.including
  clause_goes_on (grouping {s = s} {r = r} {g = g} {b = h} {paths = paths} is also d) end b may v i l =
      turn_goes_on v b g (h ∷ s) i 1 read.grouping (λ c. list_verdict counted_path_verdict d c) (Groups paths) r l (clause_word b g (t.Key k.Group) is) may
      (λ c. subst (Meets (list_verdict counted_path_verdict d c) (Groups paths) r) (sym (the_reads (t.Key k.By) h (list t.Comma counted_path >>= λ paths. pure (Groups paths)) refl also c s))
      (after_meets (list_verdict counted_path_verdict d c) paths r (list t.Comma counted_path c s) (λ paths. pure (Groups paths)) (Groups paths) r (paths_meet d end c) (λ n. refl)))
  clause_goes_on (filter {s = s} {r = r} {w = x} {a = a} is d) end b may v i l =
      turn_goes_on v b x s i 2 read.filter (λ c. verdict d most_open c) (Where a) r l (clause_word b x (t.Key k.Where) is) may
      (λ c. after_meets (verdict d most_open c) a r (condition c s) (λ a. pure (Where a)) (Where a) r (condition_meets d (no_and r end) (no_or r end) c) (λ n. refl))
  clause_goes_on (ordering {s = s} {r = r} {o = x} {b = h} {sorts = sorts} is also d) end b may v i l =
      turn_goes_on v b x (h ∷ s) i 3 read.ordering (λ c. list_verdict sort_verdict d c) (Orders sorts) r l (clause_word b x (t.Key k.Order) is) may
      (λ c. subst (Meets (list_verdict sort_verdict d c) (Orders sorts) r) (sym (the_reads (t.Key k.By) h (list t.Comma read.one_sort >>= λ sorts. pure (Orders sorts)) refl also c s))
      (after_meets (list_verdict sort_verdict d c) sorts r (list t.Comma read.one_sort c s) (λ sorts. pure (Orders sorts)) (Orders sorts) r (sorts_meet d end c) (λ n. refl)))
  clause_goes_on (selecting {s = s} {r = r} {x = x} {columns = columns} is d) end b may v i l =
      turn_goes_on v b x s i 4 read.selecting (λ c. list_verdict column_verdict d c) (Columns columns) r l (clause_word b x (t.Key k.Select) is) may
      (λ c. after_meets (list_verdict column_verdict d c) columns r (list t.Comma read.one_column c s) (λ columns. pure (Columns columns)) (Columns columns) r (columns_meet d end c) (λ n. refl))
  clause_goes_on (including {s = s} {r = r} {x = x} {paths = paths} is d) end b may v i l =
      turn_goes_on v b x s i 5 read.including (λ c. list_verdict counted_path_verdict d c) (Includes paths) r l (clause_word b x (t.Key k.Include) is) may
      (λ c. after_meets (list_verdict counted_path_verdict d c) paths r (list t.Comma counted_path c s) (λ paths. pure (Includes paths)) (Includes paths) r (paths_meet d end c) (λ n. refl))

  clauses_reach : {s r : Tokens} {b : Begun} (x : SpellsClauses o s b r) → At ends_clause r → ComesTo read.clauses (clauses_verdict x) b r (read.clauses (begun o) 0 s)
  clauses_reach no_clause end = refl
  clauses_reach (next_clause {s = s} {b = b} x y may) end = clause_goes_on y end b may (clauses_verdict x) (read.clauses (begun o) 0 s) (clauses_reach x (clause_begins y))

clauses_end : (b : Begun) (e : Placed) → Is t.End e → read.clause_next b (Some e) ≡ Ends (pure b)
clauses_end b e is = ap (read.clause_as b) is

clauses_meets : (o : Origin) {s r : Tokens} {e : Placed} {b : Begun} (x : SpellsClauses o s b (e ∷ r)) → Is t.End e → Meets (clauses_verdict x) b (e ∷ r) (read.clauses (begun o) 0 s)
unfolding read.clauses
clauses_meets o {s = s} {r = r} {e = e} {b = b} x end = loop_stops unexpected (BehindClauses o) read.clause_next (clauses_keep o) (clauses_verdict x) b (e ∷ r) (read.clauses (begun o) 0 s) b (clauses_end b e end)
    (clauses_reach o x (at (ap ends_clause end)))

-- ---- the whole text

pub query_text_meets : (s r : Tokens) (a : Query) (x : SpellsQuery s a r) → Meets (limit s a r x) a r (read.query_text 0 s)
unfolding read.query_text
query_text_meets s r a (query {s = n} {m = m} {x = f} {e = e} {o = o} {b = b} is source clauses end) =
    subst (Meets (clauses_verdict clauses) b.query r)
    (sym (the_reads (t.Key k.From) f (read.one_source >>= λ o. read.clauses (begun o) >>= λ b. take unexpected (the t.End) >>= λ _. pure b.query) refl is 0 n
    ∙ ap (λ i. and_then i (λ o. read.clauses (begun o) >>= λ b. take unexpected (the t.End) >>= λ _. pure b.query)) (source_read source 0)))
    (after_meets (clauses_verdict clauses) b (e ∷ r) (read.clauses (begun o) 0 m) (λ b. take unexpected (the t.End) >>= λ _. pure b.query) b.query r (clauses_meets o clauses end)
    (λ c. the_reads t.End e (pure b.query) refl end c r))
