-- The reading of queries keeps to the grammar.
use Rattle.std.proofs.Common.{◌≡◌, ℕ, Bool, true, false, cond, nat_lt, List, [], ◌∷◌, Option, Some, None, refl, ◌∙◌, ap, subst, codes}
use Rattle.exact_parse.specs.Steps.{◌>>=◌, pure, too_large, take, skip, Ends, More}
use Rattle.exact_parse.specs.Keeps.{Goes, Fits, Keeps, Then}
use Rattle.exact_parse.specs.Loops.{LoopKeeps, NextKeeps}
use Rattle.exact_parse.proofs.Keeping.{pure_at, pure_keeps, refuse_at, too_large_at, choose_keeps, skip_at, bind_keeps, map_keeps, take_keeps}
use Rattle.exact_parse.proofs.Loops.{loop_keeps}
use Rattle.spec_query.specs.Query.{Origin, OfIndex, OfCollection, Field, Sort, Column}
use Rattle.rql_tokens.specs.declared.key_words.KeyWord.TheVariants as k
use Rattle.rql_tokens.specs.declared.token.Token.{Token}
use Rattle.rql_tokens.specs.declared.token.Token.TheVariants as t
use Rattle.rql_tokens.specs.declared.token.Placed.{Placed}
use Rattle.rql_tokens.specs.Words.{Tokens, Is, same_token, next_is, the, name, quoted}
use Rattle.rql_tokens.proofs.WordLemmas.{same_at}
use Rattle.rql_grammar.specs.Reads.{Kind, Reads, unexpected, late}
use Rattle.rql_grammar.specs.Fields.{SpellsPath, SpellsField}
use Rattle.rql_grammar.specs.Queries.{collection, SpellsSource, index, documents, long, desc, SpellsLong, as_text, as_told, SpellsDesc, rising, told, sort_of, SpellsSort, sort, SpellsNamed, unnamed, named, column_of, SpellsColumn, column, Clause, Groups, Where, Orders, Columns, Includes, rank, SpellsClause, Begun, begun, stepped, may_follow, SpellsClauses, no_clause, next_clause, SpellsQuery, query}
use Rattle.rql_grammar.specs.Queries as q
use Rattle.rql_grammar.specs.FieldReading.{list, counted_path, field}
use Rattle.rql_grammar.specs.QueryReading as read
use Rattle.rql_grammar.proofs.Taking.{at_start, the_keeps, name_keeps, quoted_keeps, one_token_keeps, either_at}
use Rattle.rql_grammar.proofs.Chains.{list_keeps}
use Rattle.rql_grammar.proofs.FieldKeeps.{x_token, counted_path_keeps, field_keeps}
use Rattle.rql_grammar.proofs.ConditionKeeps.{condition_keeps}

-- ---- what a query is about

source_short : Goes SpellsSource []
source_short = record { more = x_token ∷ []; tree = OfCollection (codes "x"); spells = λ z. documents {x = x_token} refl }

index_keeps : Keeps SpellsSource read.one_index
index_keeps = the_keeps (t.Key k.Index) refl (λ i is. quoted_keeps (λ n. pure (OfIndex n)) (λ x n text. pure_keeps (λ z. index is text)))

source_keeps : Keeps SpellsSource read.one_source
unfolding read.one_source
source_keeps = choose_keeps SpellsSource (λ h. read.source_by (read.collection_at h)) source_short (λ c. index_keeps.fits c []) (λ x c s. by x (collection x) refl c s)
  where
    by : (x : Placed) (o : Option (List ℕ)) → collection x ≡ o → (c : ℕ) (s : Tokens) → Fits SpellsSource (read.source_by o) c (x ∷ s) (read.source_by o c (x ∷ s))
    by x (Some n) is c s = skip_at SpellsSource (pure (OfCollection n)) x (pure_keeps (λ z. documents is)) c s
    by x None is c s = index_keeps.fits c (x ∷ s)

-- ---- keys of an order, and columns

long_keeps : Keeps SpellsLong read.long_if_any
unfolding read.long_if_any
long_keeps = choose_keeps SpellsLong (λ h. cond (next_is (t.Key k.As) h) (skip >>= λ _. take unexpected long) (pure false)) short (λ c. pure_at {X = SpellsLong} (λ z. as_text) c [])
    (λ a c s. either_at SpellsLong (skip >>= λ _. take unexpected long) (pure false) c (a ∷ s) (same_token (t.Key k.As) a.token)
    (λ e. skip_at SpellsLong (take unexpected long) a (told_keeps a (same_at (t.Key k.As) a e)) c s) (λ _. pure_at {X = SpellsLong} (λ z. as_text) c _))
  where
    short : Goes SpellsLong []
    short = record { more = []; tree = false; spells = λ z. as_text }

    told_keeps : (a : Placed) → Is (t.Key k.As) a → Keeps (λ m b r. SpellsLong (a ∷ m) b r) (take unexpected long)
    told_keeps a is = one_token_keeps long (at_start (t.Name (codes "long"))) true refl (λ x b h z. as_told is h)

desc_keeps : Keeps SpellsDesc read.desc_if_any
unfolding read.desc_if_any
desc_keeps = choose_keeps SpellsDesc (λ h. read.desc_by (read.desc_at h)) short (λ c. pure_at {X = SpellsDesc} (λ z. rising) c []) (λ x c s. by x (desc x) refl c s)
  where
    short : Goes SpellsDesc []
    short = record { more = []; tree = false; spells = λ z. rising }

    by : (x : Placed) (o : Option Bool) → desc x ≡ o → (c : ℕ) (s : Tokens) → Fits SpellsDesc (read.desc_by o) c (x ∷ s) (read.desc_by o c (x ∷ s))
    by x (Some d) is c s = skip_at SpellsDesc (pure d) x (pure_keeps (λ z. told is)) c s
    by x None is c s = pure_at {X = SpellsDesc} (λ z. rising) c _

pub sort_keeps : Keeps SpellsSort read.one_sort
unfolding read.one_sort
sort_keeps = bind_keeps (λ a. read.long_if_any >>= λ l. read.desc_if_any >>= λ d. pure (sort_of a l d)) field_keeps
    (λ a. bind_keeps (λ l. read.desc_if_any >>= λ d. pure (sort_of a l d)) long_keeps
    (λ l. bind_keeps (λ d. pure (sort_of a l d)) desc_keeps (λ d. pure_keeps (λ z n dd m ll s aa. sort aa ll dd))))

named_keeps : Keeps SpellsNamed read.name_if_any
unfolding read.name_if_any
named_keeps = choose_keeps SpellsNamed (λ h. cond (next_is (t.Key k.As) h) (skip >>= λ _. take unexpected name >>= λ n. pure (Some n)) (pure None)) short (λ c. pure_at {X = SpellsNamed} (λ z. unnamed) c [])
    (λ a c s. either_at SpellsNamed (skip >>= λ _. take unexpected name >>= λ n. pure (Some n)) (pure None) c (a ∷ s) (same_token (t.Key k.As) a.token)
    (λ e. skip_at SpellsNamed (take unexpected name >>= λ n. pure (Some n)) a (name_keeps (λ n. pure (Some n)) (λ x n called. pure_keeps (λ z. named (same_at (t.Key k.As) a e) called))) c s)
    (λ _. pure_at {X = SpellsNamed} (λ z. unnamed) c _))
  where
    short : Goes SpellsNamed []
    short = record { more = []; tree = None; spells = λ z. unnamed }

pub column_keeps : Keeps SpellsColumn read.one_column
unfolding read.one_column
column_keeps = bind_keeps (λ a. read.name_if_any >>= λ n. pure (column_of a n)) field_keeps
    (λ a. bind_keeps (λ n. pure (column_of a n)) named_keeps (λ n. pure_keeps (λ z m nn s aa. column aa nn)))

-- ---- clauses

-- of a rank, behind the word
abbrev pub Ranked : ℕ → Placed → Tokens → Clause → Tokens → Type 0
Ranked n x m a r = SpellsClause (x ∷ m) a r × (rank a ≡ n)

pub grouping_keeps : (x : Placed) → Is (t.Key k.Group) x → Keeps (Ranked 1 x) read.grouping
unfolding read.grouping
grouping_keeps x is = the_keeps (t.Key k.By) refl (λ b also. bind_keeps (λ paths. pure (Groups paths)) (list_keeps SpellsPath t.Comma counted_path counted_path_keeps)
    (λ paths. pure_keeps (λ z s d. (q.grouping is also d, refl))))

pub filter_keeps : (x : Placed) → Is (t.Key k.Where) x → Keeps (Ranked 2 x) read.filter
unfolding read.filter
filter_keeps x is = bind_keeps (λ a. pure (Where a)) condition_keeps (λ a. pure_keeps (λ z s d. (q.filter is d, refl)))

pub ordering_keeps : (x : Placed) → Is (t.Key k.Order) x → Keeps (Ranked 3 x) read.ordering
unfolding read.ordering
ordering_keeps x is = the_keeps (t.Key k.By) refl (λ b also. bind_keeps (λ sorts. pure (Orders sorts)) (list_keeps SpellsSort t.Comma read.one_sort sort_keeps)
    (λ sorts. pure_keeps (λ z s d. (q.ordering is also d, refl))))

pub selecting_keeps : (x : Placed) → Is (t.Key k.Select) x → Keeps (Ranked 4 x) read.selecting
unfolding read.selecting
selecting_keeps x is = bind_keeps (λ columns. pure (Columns columns)) (list_keeps SpellsColumn t.Comma read.one_column column_keeps) (λ columns. pure_keeps (λ z s d. (q.selecting is d, refl)))

pub including_keeps : (x : Placed) → Is (t.Key k.Include) x → Keeps (Ranked 5 x) read.including
unfolding read.including
including_keeps x is = bind_keeps (λ paths. pure (Includes paths)) (list_keeps SpellsPath t.Comma counted_path counted_path_keeps) (λ paths. pure_keeps (λ z s d. (q.including is d, refl)))

module _ (o : Origin) where
  -- what goes on behind clauses that are spelled
  abbrev pub BehindClauses : Begun → Tokens → Begun → Tokens → Type 0
  BehindClauses = Then (SpellsClauses o) (SpellsClauses o)

  stays : (b : Begun) (c : ℕ) (s : Tokens) → Fits {K = Kind} (BehindClauses b) (pure b) c s (pure b c s)
  stays b c s = pure_at {X = BehindClauses b} (λ z s d. d) c s

  -- its rank is that of its word
  clause_spelled : (b : Begun) (n : ℕ) {s m r : Tokens} {a : Clause} → may_follow b n ≡ true → rank a ≡ n → SpellsClauses o s b m → SpellsClause m a r → SpellsClauses o s (stepped b n a) r
  clause_spelled b n {s = s} {r = r} {a = a} may e w d = subst (λ n. SpellsClauses o s (stepped b n a) r) e (next_clause w d (ap (may_follow b) e ∙ may))

  clause_goes : (b : Begun) (x : Placed) (n : ℕ) → may_follow b n ≡ true → Goes (Ranked n x) [] → Goes (BehindClauses b) (x ∷ [])
  clause_goes b x n may g = record { more = g.more; tree = stepped b n g.tree; spells = λ z s w. clause_spelled b n may ((g.spells z).1) w ((g.spells z).0) }

  clause_keeps : (b : Begun) (x : Placed) (n : ℕ) (p : Reads Clause) → Keeps (Ranked n x) p → NextKeeps BehindClauses b x (read.clause_of b n p)
  clause_keeps b x n p keeps = by (may_follow b n) refl (nat_lt b.passed n)
    where
      by : (may : Bool) → may_follow b n ≡ may → (d : Bool) → NextKeeps BehindClauses b x (cond may (cond d (More (p >>= λ a. pure (stepped b n a))) (Ends (too_large late))) (Ends (pure b)))
      by true may true = bind_keeps (λ a. pure (stepped b n a)) keeps (λ a. pure_keeps (λ z m y e r h s w. h s (clause_spelled b n may y.1 w y.0)))
      by true may false = λ c s. too_large_at {X = BehindClauses b} late (clause_goes b x n may keeps.short) c s
      by false may d = λ c s. stays b c (x ∷ s)

  pub clauses_keep : LoopKeeps BehindClauses read.clause_next
  clauses_keep = record {
    short = λ b. record { more = []; tree = b; spells = λ z s d. d };
    none = λ b c. stays b c [];
    some = λ b x. by b x x.token refl;
  }
    where
      by : (b : Begun) (x : Placed) (u : Token) → Is u x → NextKeeps BehindClauses b x (read.clause_as b u)
      by b x (t.Key k.Group) is = clause_keeps b x 1 read.grouping (grouping_keeps x is)
      by b x (t.Key k.Where) is = clause_keeps b x 2 read.filter (filter_keeps x is)
      by b x (t.Key k.Order) is = clause_keeps b x 3 read.ordering (ordering_keeps x is)
      by b x (t.Key k.Select) is = clause_keeps b x 4 read.selecting (selecting_keeps x is)
      by b x (t.Key k.Include) is = clause_keeps b x 5 read.including (including_keeps x is)
      by b x _ is = λ c s. stays b c (x ∷ s)

  pub all_clauses_keep : Keeps (SpellsClauses o) (read.clauses (begun o))
  unfolding read.clauses
  all_clauses_keep = map_keeps (λ m b r h. h m no_clause) (loop_keeps unexpected BehindClauses read.clause_next clauses_keep (begun o))

-- ---- the whole text

pub query_text_keeps : Keeps SpellsQuery read.query_text
unfolding read.query_text
query_text_keeps = the_keeps (t.Key k.From) refl (λ f is. bind_keeps {X = SpellsSource} (λ o. read.clauses (begun o) >>= λ b. take unexpected (the t.End) >>= λ _. pure b.query) source_keeps
    (λ o. bind_keeps {X = SpellsClauses o} (λ b. take unexpected (the t.End) >>= λ _. pure b.query) (all_clauses_keep o)
    (λ b. the_keeps t.End refl (λ e end. pure_keeps (λ z m clauses s source. query is source clauses end)))))
