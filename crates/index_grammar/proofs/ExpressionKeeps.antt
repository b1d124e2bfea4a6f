-- The reading of each rule of expressions keeps to the grammar.
use Rattle.std.proofs.Common.{◌≡◌, ℕ, zero, suc, pos, Bool, true, false, nat_eq, List, [], ◌∷◌, Option, Some, None, refl, cond, codes}
use Rattle.std.proofs.lemmas.Bool.{eqb-true}
use Rattle.std.specs.Str.{bytes_eq}
use Rattle.exact_parse.specs.Steps.{◌>>=◌, pure, refuse, take, skip, within, Counts, Ends}
use Rattle.exact_parse.specs.Keeps.{Goes, Fits, Keeps, Then}
use Rattle.exact_parse.specs.Loops.{LoopKeeps, NextKeeps}
use Rattle.exact_parse.proofs.Keeping.{pure_at, pure_keeps, refuse_at, refuse_keeps, choose_keeps, skip_at, skip_short, within_at, bind_keeps, map_keeps, fresh_keeps}
use Rattle.exact_parse.proofs.Loops.{loop_keeps}
use Rattle.index_tokens.specs.declared.token.Token.{Token}
use Rattle.index_tokens.specs.declared.token.Token.TheVariants as t
use Rattle.index_tokens.specs.declared.token.Placed.{Placed}
use Rattle.index_tokens.specs.Spelling.{is_reserved}
use Rattle.index_tokens.specs.Reads.{Kind, Reads}
use Rattle.index_tokens.specs.Words.{Tokens, Is, next_is, same_token, word_load, the, quoted, name}
use Rattle.index_tokens.proofs.WordLemmas.{is_variable}
use Rattle.index_tree.specs.declared.expression.BinaryOp.{BinaryOp}
use Rattle.index_tree.specs.declared.expression.UnaryOp.{UnaryOp}
use Rattle.index_tree.specs.Trees.{Tree, If, Binary, Unary, Dot, Load, Num, Quoted, Flag, Null, Var}
use Rattle.index_grammar.specs.Operators.{operator, sign, level_of}
use Rattle.index_grammar.specs.Expressions.{Rule, Whole, Level, Post, Primary, Spells, plain, choice, tighter, binary, signed, post, first, point, number, text, yes, no, null, var, parens, load}
use Rattle.index_grammar.specs.Limits.{most_open, most_operators}
use Rattle.index_grammar.specs.ExpressionReading as read
use Rattle.index_grammar.specs.ExpressionReading.{Deeper, deeper_of}
use Rattle.index_tokens.proofs.Taking.{at_start, same_at, the_keeps, name_keeps, quoted_keeps, either_at, word_is}

-- ---- the shortest spelling of each rule

-- a primary is an expression
pub alone : {s r : Tokens} {a : Tree} → Spells Primary s a r → Spells Whole s a r
alone d = plain (tighter (tighter (tighter (tighter (tighter (tighter (post (first d))))))))

abbrev pub zero_token : Placed
zero_token = at_start (t.Number (pos 0))

primary_short : Goes (Spells Primary) []
primary_short = record { more = zero_token ∷ []; tree = Num (pos 0); spells = λ z. number refl }

pub whole_short : Goes (Spells Whole) []
whole_short = record { more = zero_token ∷ []; tree = Num (pos 0); spells = λ z. alone (number refl) }

unary_short : Goes (Spells (Level zero)) []
unary_short = record { more = zero_token ∷ []; tree = Num (pos 0); spells = λ z. post (first (number refl)) }

-- ---- loops

-- what goes on behind a part that is spelled
abbrev pub Behind : Rule → Tree → Tokens → Tree → Tokens → Type 0
Behind rule = Then (Spells rule) (Spells rule)

stays : {rule : Rule} (a : Tree) → Goes (Behind rule a) []
stays a = record { more = []; tree = a; spells = λ z s d. d }

pub points_keep : LoopKeeps (Behind Post) read.point_next
points_keep = record { short = stays; none = λ a n. pure_at {X = Behind Post a} (λ z s d. d) n []; some = λ a x. by a x (same_token t.Point x.token) refl }
  where
    by : (a : Tree) (x : Placed) (d : Bool) → same_token t.Point x.token ≡ d → NextKeeps {K = Kind} (Behind Post) a x (cond d (Counts tt most_operators (take tt name >>= λ n. pure (Dot a n))) (Ends (pure a)))
    by a x true e = name_keeps (λ n. pure (Dot a n)) (λ y n is. pure_keeps (λ z d r h s0 w. h s0 (point w (same_at t.Point x e) is)))
    by a x false e = λ n s. pure_at {X = Behind Post a} (λ z s d. d) n _

pub climb_keeps : (n : ℕ) (operand : Reads Tree) → Keeps (Spells (Level n)) operand → LoopKeeps (Behind (Level (suc n))) (read.operator_next operand (suc n))
climb_keeps n operand operand_keeps = record {
  short = stays;
  none = λ a c. pure_at {X = Behind (Level (suc n)) a} (λ z s d. d) c [];
  some = λ a x. by a x (operator x) refl;
}
  where
    at_op : (a : Tree) (x : Placed) (op : BinaryOp) → operator x ≡ Some op → (d : Bool) → nat_eq (level_of op) (suc n) ≡ d →
        NextKeeps (Behind (Level (suc n))) a x (read.operator_then operand a (cond d (Some op) None))
    at_op a x op is true e = bind_keeps (λ b. pure (Binary op a b)) operand_keeps (λ b. pure_keeps (λ z m y d r h s0 w. h s0 (binary w is (eqb-true (level_of op) (suc n) e) y)))
    at_op a x op is false e = λ c s. pure_at {X = Behind (Level (suc n)) a} (λ z s d. d) c _

    by : (a : Tree) (x : Placed) (o : Option BinaryOp) → operator x ≡ o → NextKeeps (Behind (Level (suc n))) a x (read.operator_then operand a (read.at_level (suc n) o))
    by a x (Some op) is = at_op a x op is (nat_eq (level_of op) (suc n)) refl
    by a x None is = λ c s. pure_at {X = Behind (Level (suc n)) a} (λ z s d. d) c _

-- ---- the rules

-- what is nested keeps to the grammar
pub record Inside (deeper : Deeper) : Type 0 where
  pub whole : Keeps (Spells Whole) deeper.whole
  pub unary : Keeps (Spells (Level zero)) deeper.unary

module _ (deeper : Deeper) (inside : Inside deeper) where
  closing_keeps : (p : Placed) → Is t.Open p → Keeps (λ m b r. Spells Primary (p ∷ m) b r) (read.closing deeper)
  closing_keeps p is = bind_keeps (λ a. take tt (the t.Close) >>= λ _. pure a) inside.whole (λ a. the_keeps t.Close refl (λ q also. pure_keeps (λ z s d. parens is d also)))

  loading_keeps : (x p : Placed) → Is word_load x → Is t.Open p → Keeps (λ m b r. Spells Primary (x ∷ p ∷ m) b r) (read.loading deeper)
  loading_keeps x p word is = bind_keeps (λ a. take tt (the t.Comma) >>= λ _. take tt quoted >>= λ v. take tt (the t.Close) >>= λ _. pure (Load a v)) inside.whole
      (λ a. the_keeps t.Comma refl (λ k comma. quoted_keeps (λ v. take tt (the t.Close) >>= λ _. pure (Load a v))
      (λ y v quote. the_keeps t.Close refl (λ q also. pure_keeps (λ z s d. load word is d comma quote also)))))

  load_short : (x : Placed) → Is word_load x → Goes (λ m b r. Spells Primary (x ∷ m) b r) []
  load_short x word = skip_short (λ m b r. Spells Primary (x ∷ m) b r) (read.loading deeper) (at_start t.Open) (loading_keeps x (at_start t.Open) word refl)

  load_keeps : (x : Placed) → Is word_load x → Keeps (λ m b r. Spells Primary (x ∷ m) b r) (read.load deeper)
  unfolding read.load
  load_keeps x word = choose_keeps (λ m b r. Spells Primary (x ∷ m) b r) (λ h. cond (next_is t.Open h) (within tt deeper.has_room (skip >>= λ _. read.loading deeper)) (refuse tt)) (load_short x word)
      (λ n. refuse_at {X = λ m b r. Spells Primary (x ∷ m) b r} tt (load_short x word) n [])
      (λ p n s. either_at (λ m b r. Spells Primary (x ∷ m) b r) (within tt deeper.has_room (skip >>= λ _. read.loading deeper)) (refuse tt) n (p ∷ s) (same_token t.Open p.token)
      (λ e. within_at (λ m b r. Spells Primary (x ∷ m) b r) (read.loading deeper) p (loading_keeps x p word (same_at t.Open p e)) tt deeper.has_room n s)
      (λ _. refuse_at {X = λ m b r. Spells Primary (x ∷ m) b r} tt (load_short x word) n _))

  -- one of the reserved words that are primaries
  reserved_token : (x : Placed) (w : List ℕ) → Is (t.Word w) x → (n : ℕ) (s : Tokens) → Fits (Spells Primary) (read.reserved_primary deeper w) n (x ∷ s) (read.reserved_primary deeper w n (x ∷ s))
  reserved_token x w is n s =
      either_at (Spells Primary) (skip >>= λ _. pure (Flag true)) _ n (x ∷ s) (bytes_eq w (codes "true")) (λ e. skip_at (Spells Primary) (pure (Flag true)) x (pure_keeps (λ z. yes (word_is w (codes "true") x is e))) n s)
      (λ _. either_at (Spells Primary) (skip >>= λ _. pure (Flag false)) _ n (x ∷ s) (bytes_eq w (codes "false")) (λ e. skip_at (Spells Primary) (pure (Flag false)) x (pure_keeps (λ z. no (word_is w (codes "false") x is e))) n s)
      (λ _. either_at (Spells Primary) (skip >>= λ _. pure Null) _ n (x ∷ s) (bytes_eq w (codes "null")) (λ e. skip_at (Spells Primary) (pure Null) x (pure_keeps (λ z. null (word_is w (codes "null") x is e))) n s)
      (λ _. either_at (Spells Primary) (skip >>= λ _. read.load deeper) (refuse tt) n (x ∷ s) (bytes_eq w (codes "LoadDocument")) (λ e. skip_at (Spells Primary) (read.load deeper) x (load_keeps x (word_is w (codes "LoadDocument") x is e)) n s)
      (λ _. refuse_at {X = Spells Primary} tt primary_short n _))))

  primary_token : (x : Placed) (u : Token) → Is u x → (n : ℕ) (s : Tokens) → Fits (Spells Primary) (read.primary_as deeper u) n (x ∷ s) (read.primary_as deeper u n (x ∷ s))
  primary_token x (t.Number v) is n s = skip_at (Spells Primary) (pure (Num v)) x (pure_keeps (λ z. number is)) n s
  primary_token x (t.Quoted v) is n s = skip_at (Spells Primary) (pure (Quoted v)) x (pure_keeps (λ z. text is)) n s
  primary_token x (t.Word w) is n s = either_at (Spells Primary) (read.reserved_primary deeper w) (skip >>= λ _. pure (Var w)) n (x ∷ s) (is_reserved w)
      (λ _. reserved_token x w is n s) (λ e. skip_at (Spells Primary) (pure (Var w)) x (pure_keeps (λ z. var (is_variable x w is e))) n s)
  primary_token x t.Open is n s = within_at (Spells Primary) (read.closing deeper) x (closing_keeps x is) tt deeper.has_room n s
  primary_token x _ is n s = refuse_at {X = Spells Primary} tt primary_short n _

  primary_keeps : Keeps (Spells Primary) (read.primary deeper)
  unfolding read.primary
  primary_keeps = choose_keeps (Spells Primary) (read.primary_by deeper) primary_short (λ n. refuse_at {X = Spells Primary} tt primary_short n []) (λ x. primary_token x x.token refl)

  post_keeps : Keeps (Spells Post) (read.post deeper)
  unfolding read.post read.points
  post_keeps = bind_keeps read.points (map_keeps (λ s a r. first) primary_keeps) (loop_keeps tt (Behind Post) read.point_next points_keep)

  posted : Keeps (Spells (Level zero)) (read.post deeper)
  posted = map_keeps (λ s a r. post) post_keeps

  unary_token : (x : Placed) (o : Option UnaryOp) → sign x ≡ o → (n : ℕ) (s : Tokens) → Fits (Spells (Level zero)) (read.unary_as deeper o) n (x ∷ s) (read.unary_as deeper o n (x ∷ s))
  unary_token x (Some op) is n s = within_at (Spells (Level zero)) (deeper.unary >>= λ a. pure (Unary op a)) x
      (bind_keeps (λ a. pure (Unary op a)) inside.unary (λ a. pure_keeps (λ z s d. signed is d))) tt deeper.has_room n s
  unary_token x None is n s = posted.fits n _

  unary_keeps : Keeps (Spells (Level zero)) (read.unary deeper)
  unfolding read.unary
  unary_keeps = choose_keeps (Spells (Level zero)) (λ h. read.unary_as deeper (read.sign_at h)) posted.short (λ n. posted.fits n []) (λ x. unary_token x (sign x) refl)

  level_keeps : (n : ℕ) → Keeps (Spells (Level n)) (read.level deeper n)
  unfolding read.level read.climb
  level_keeps zero = unary_keeps
  level_keeps (suc n) = bind_keeps (read.climb (read.level deeper n) (suc n)) (map_keeps (λ s a r. tighter) (level_keeps n))
      (loop_keeps tt (Behind (Level (suc n))) (read.operator_next (read.level deeper n) (suc n)) (climb_keeps n (read.level deeper n) (level_keeps n)))

  -- ---- the whole

  abbrev Rest : Tree → Tokens → Tree → Tokens → Type 0
  Rest = Then (Spells (Level 6)) (Spells Whole)

  branches_keep : (a : Tree) (p : Placed) → Is t.Question p → Keeps (λ m b r. Rest a (p ∷ m) b r) (read.branches deeper a)
  branches_keep a p is = bind_keeps (λ b. take tt (the t.Colon) >>= λ _. deeper.whole >>= λ c. pure (If a b c)) inside.whole
      (λ b. the_keeps t.Colon refl (λ q also. bind_keeps (λ c. pure (If a b c)) inside.whole (λ c. pure_keeps (λ z s dc s1 db s0 da. choice da is db also dc))))

  conditional_keeps : (a : Tree) → Keeps (Rest a) (read.conditional deeper a)
  unfolding read.conditional
  conditional_keeps a = choose_keeps (Rest a) (λ h. cond (next_is t.Question h) (within tt deeper.has_room (skip >>= λ _. read.branches deeper a)) (pure a))
      (record { more = []; tree = a; spells = λ z s d. plain d }) (λ n. pure_at {X = Rest a} (λ z s d. plain d) n [])
      (λ x n s. either_at (Rest a) (within tt deeper.has_room (skip >>= λ _. read.branches deeper a)) (pure a) n (x ∷ s) (same_token t.Question x.token)
      (λ e. within_at (Rest a) (read.branches deeper a) x (branches_keep a x (same_at t.Question x e)) tt deeper.has_room n s)
      (λ _. pure_at {X = Rest a} (λ z s d. plain d) n _))

  whole_keeps : Keeps (Spells Whole) (read.whole deeper)
  unfolding read.whole
  whole_keeps = bind_keeps (read.conditional deeper) (level_keeps 6) conditional_keeps

-- with any room; if there is none, nothing inside is begun
pub inside_of : (room : ℕ) → Inside (deeper_of room)
unfolding deeper_of
inside_of zero = record { whole = refuse_keeps tt whole_short; unary = refuse_keeps tt unary_short }
inside_of (suc room) = record { whole = whole_keeps (deeper_of room) (inside_of room); unary = unary_keeps (deeper_of room) (inside_of room) }

pub level_at : (room n : ℕ) → Keeps (Spells (Level n)) (read.level (deeper_of room) n)
level_at room = level_keeps (deeper_of room) (inside_of room)

pub expression_keeps : Keeps (Spells Whole) read.expression
unfolding read.expression
expression_keeps = fresh_keeps (whole_keeps (deeper_of most_open) (inside_of most_open))
