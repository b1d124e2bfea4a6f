-- What clauses and whole queries read, by the next token.
use Rattle.std.proofs.Common.{◌≡◌, ℕ, ◌<◌, ◌≤◌, Bool, true, false, cond, nat_lt, not, ◌&&◌, ◌==◌, List, [], ◌∷◌, length, Option, Some, None, refl, ◌∙◌, ap, arith}
use Rattle.std.proofs.lemmas.Bool.{ltb-true, lt-ltb}
use Rattle.exact_parse.specs.Steps.{head, tail, Outcome, TooLarge, Read, Refused, and_then, ◌>>=◌, pure, too_large, take, Next, Ends, More, turn, loop}
use Rattle.exact_parse.proofs.Keeping.{read_shorter}
use Rattle.exact_parse.proofs.Loops.{loop_ends, loop_turn}
use Rattle.spec_query.specs.Query.{Origin, OfCollection, Query, is_of_index}
use Rattle.rql_tokens.specs.declared.key_words.KeyWord.TheVariants as k
use Rattle.rql_tokens.specs.declared.token.Token.{Token}
use Rattle.rql_tokens.specs.declared.token.Token.TheVariants as t
use Rattle.rql_tokens.specs.declared.token.Placed.{Placed}
use Rattle.rql_tokens.specs.Words.{Tokens, the}
use Rattle.rql_grammar.specs.Reads.{Kind, Reads, unexpected, late}
use Rattle.rql_grammar.specs.Queries.{Clause, with_clause, Begun, begun, stepped, may_follow}
use Rattle.rql_grammar.specs.QueryReading as read
use Rattle.rql_grammar.proofs.Taking.{at_start}
use Rattle.rql_grammar.proofs.QueryKeeps.{Ranked, grouping_keeps, filter_keeps, ordering_keeps, selecting_keeps, including_keeps, BehindClauses, clauses_keep}
use Rattle.rql_parser.specs.declared.section.Section.{Section}
use Rattle.rql_parser.specs.declared.section.Section.TheVariants as word
use Rattle.rql_parser.specs.Parts.{rank_of, clause_reading, into_query, section_as, section_at, following, rest_of, all_clauses}

-- ---- at the word of a clause

clause_then : Begun → Option Section → Next Placed Kind Begun Begun
clause_then b (Some section) = read.clause_of b (rank_of section) (clause_reading section)
clause_then b None = Ends (pure b)

next_as : (b : Begun) (u : Token) → read.clause_as b u ≡ clause_then b (section_as u)
unfolding clause_then
next_as b (t.Key k.Group) = refl
next_as b (t.Key k.Where) = refl
next_as b (t.Key k.Order) = refl
next_as b (t.Key k.Select) = refl
next_as b (t.Key k.Include) = refl
next_as b _ = refl

next_is_clause : (b : Begun) (h : Option Placed) → read.clause_next b h ≡ clause_then b (section_at h)
unfolding clause_then
next_is_clause b (Some x) = next_as b x.token
next_is_clause b None = refl

-- the clause that may follow, or none
abbrev pub next_of : Begun → Option Placed → Option Section
next_of b h = following (is_of_index b.query) b.passed (section_at h)

abbrev step_of : Begun → Section → Next Placed Kind Begun Begun
step_of b section = cond (nat_lt b.passed (rank_of section)) (More (clause_reading section >>= λ a. pure (stepped b (rank_of section) a))) (Ends (too_large late))

none_then : (b : Begun) (o : Option Section) → following (is_of_index b.query) b.passed o ≡ None → clause_then b o ≡ Ends (pure b)
unfolding clause_then
none_then b None e = refl
none_then b (Some section) e = by (may_follow b (rank_of section)) e
  where
    by : (d : Bool) → ◌≡◌ {A = Option Section} (cond d (Some section) None) None → cond d (step_of b section) (Ends (pure b)) ≡ Ends (pure b)
    by true e = cc
    by false e = refl

some_then : (b : Begun) (o : Option Section) (section : Section) → following (is_of_index b.query) b.passed o ≡ Some section → clause_then b o ≡ step_of b section
unfolding clause_then
some_then b None section e = cc
some_then b (Some other) section e = by (may_follow b (rank_of other)) e
  where
    by : (d : Bool) → ◌≡◌ {A = Option Section} (cond d (Some other) None) (Some section) → cond d (step_of b other) (Ends (pure b)) ≡ step_of b section
    by true e = let same : other ≡ section = cc in ap (step_of b) same
    by false e = cc

not_below : (c most : ℕ) → most ≤ c → nat_lt c most ≡ false
not_below c most h = by (nat_lt c most) refl
  where
    by : (d : Bool) → nat_lt c most ≡ d → nat_lt c most ≡ false
    by false e = e
    by true e = let lt : c < most = ltb-true c most e in absurd (omega (arith, lt, h))

-- ---- what goes on behind what is there of a query

-- the origin makes no difference
abbrev any : Origin
any = OfCollection []

turned : (b : Begun) (c : ℕ) (s : Tokens) (n : Next Placed Kind Begun Begun) → read.clause_next b (head s) ≡ n → loop unexpected read.clause_next b c s ≡ turn unexpected true (loop unexpected read.clause_next) n c s
turned b c s n is = loop_turn unexpected (BehindClauses any) read.clause_next (clauses_keep any) b c s ∙ ap (λ n. turn unexpected true (loop unexpected read.clause_next) n c s) is

pub rest_end : (b : Begun) (c : ℕ) (s : Tokens) → next_of b (head s) ≡ None → rest_of b c s ≡ Read b.query c s
unfolding read.clauses
rest_end b c s e = ap (λ i. and_then i (λ b. pure b.query)) (turned b c s (Ends (pure b)) (next_is_clause b (head s) ∙ none_then b (section_at (head s)) e))

pub rest_late : (b : Begun) (c : ℕ) (s : Tokens) (section : Section) → next_of b (head s) ≡ Some section → rank_of section ≤ b.passed → rest_of b c s ≡ Refused (TooLarge late) s
unfolding read.clauses
rest_late b c s section e h = ap (λ i. and_then i (λ b. pure b.query)) (turned b c s (Ends (too_large late))
    (next_is_clause b (head s) ∙ some_then b (section_at (head s)) section e
    ∙ ap (λ d. cond d (More (clause_reading section >>= λ a. pure (stepped b (rank_of section) a))) (Ends (too_large late))) (not_below b.passed (rank_of section) h)))

pub rest_on : (b : Begun) (c : ℕ) (s : Tokens) (section : Section) → next_of b (head s) ≡ Some section → b.passed < rank_of section →
    rest_of b c s ≡ and_then (into_query b.query section c (tail s)) (λ q. rest_of (record { query = q; passed = rank_of section }))
unfolding read.clauses
rest_on b c s section e h = ap (λ i. and_then i (λ b. pure b.query)) (turned b c s (More (clause_reading section >>= λ a. pure (stepped b (rank_of section) a)))
    (next_is_clause b (head s) ∙ some_then b (section_at (head s)) section e
    ∙ ap (λ d. cond d (More (clause_reading section >>= λ a. pure (stepped b (rank_of section) a))) (Ends (too_large late))) (lt-ltb b.passed (rank_of section) h)))
    ∙ again (clause_reading section c (tail s))
  where
    again : (i : Outcome Placed Kind Clause) → and_then (and_then (and_then i (λ a. pure (stepped b (rank_of section) a))) (loop unexpected read.clause_next)) (λ b. pure b.query)
        ≡ and_then (and_then i (λ a. pure (with_clause b.query a))) (λ q. loop unexpected read.clause_next (record { query = q; passed = rank_of section }) >>= λ b. pure b.query)
    again (Read a c s) = refl
    again (Refused j s) = refl

-- ---- whole queries

pub query_text_is : (c : ℕ) (s : Tokens) → read.query_text c s
    ≡ and_then (take unexpected (the (t.Key k.From)) c s) (λ _. read.one_source >>= λ o. all_clauses o >>= λ q. take unexpected (the t.End) >>= λ _. pure q)
unfolding read.query_text
query_text_is c s = by_from (take unexpected (the (t.Key k.From)) c s)
  where
    by_clauses : (i : Outcome Placed Kind Begun) → and_then i (λ b. take unexpected (the t.End) >>= λ _. pure b.query) ≡ and_then (and_then i (λ b. pure b.query)) (λ q. take unexpected (the t.End) >>= λ _. pure q)
    by_clauses (Read b c s) = refl
    by_clauses (Refused j s) = refl

    by_source : (i : Outcome Placed Kind Origin) → and_then i (λ o. read.clauses (begun o) >>= λ b. take unexpected (the t.End) >>= λ _. pure b.query)
        ≡ and_then i (λ o. all_clauses o >>= λ q. take unexpected (the t.End) >>= λ _. pure q)
    by_source (Read o c s) = by_clauses (read.clauses (begun o) c s)
    by_source (Refused j s) = refl

    by_from : (i : Outcome Placed Kind (Unit {0})) → and_then i (λ _. read.one_source >>= λ o. read.clauses (begun o) >>= λ b. take unexpected (the t.End) >>= λ _. pure b.query)
        ≡ and_then i (λ _. read.one_source >>= λ o. all_clauses o >>= λ q. take unexpected (the t.End) >>= λ _. pure q)
    by_from (Read x c s) = by_source (read.one_source c s)
    by_from (Refused j s) = refl

-- ---- what is left gets shorter

section_shorter : (section : Section) (c : ℕ) (s : Tokens) (a : Clause) (n : ℕ) (m : Tokens) → clause_reading section c s ≡ Read a n m → length m ≤ length s
section_shorter word.Group = read_shorter (Ranked 1 (at_start (t.Key k.Group))) read.grouping (grouping_keeps (at_start (t.Key k.Group)) refl)
section_shorter word.Where = read_shorter (Ranked 2 (at_start (t.Key k.Where))) read.filter (filter_keeps (at_start (t.Key k.Where)) refl)
section_shorter word.Order = read_shorter (Ranked 3 (at_start (t.Key k.Order))) read.ordering (ordering_keeps (at_start (t.Key k.Order)) refl)
section_shorter word.Select = read_shorter (Ranked 4 (at_start (t.Key k.Select))) read.selecting (selecting_keeps (at_start (t.Key k.Select)) refl)
section_shorter word.Include = read_shorter (Ranked 5 (at_start (t.Key k.Include))) read.including (including_keeps (at_start (t.Key k.Include)) refl)

pub into_shorter : (q : Query) (section : Section) (c : ℕ) (s : Tokens) (p : Query) (n : ℕ) (m : Tokens) → into_query q section c s ≡ Read p n m → length m ≤ length s
into_shorter q section c s p n m e = by (clause_reading section c s) refl e
  where
    by : (i : Outcome Placed Kind Clause) → clause_reading section c s ≡ i → and_then i (λ a. pure (with_clause q a)) ≡ Read p n m → length m ≤ length s
    by (Read a x y) is e = let same : y ≡ m = cc in let h = section_shorter section c s a x y is in omega (arith, h, ap length same)
    by (Refused j y) is e = let bad : ◌≡◌ {A = Outcome Placed Kind Query} (Refused j y) (Read p n m) = e in cc

pub clause_shorter : (b : Begun) (s m : Tokens) (section : Section) → next_of b (head s) ≡ Some section → length m ≤ length (tail s) → length m < length s
clause_shorter b [] m section e h = cc
clause_shorter b (x ∷ s) m section e h = omega (arith, h)
