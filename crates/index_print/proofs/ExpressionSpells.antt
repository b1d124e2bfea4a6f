-- The tokens of a printed expression spell it.
use Rattle.std.proofs.Common.{◌≡◌, ◌≢◌, ◌<◌, ℕ, zero, suc, pos, negsuc, List, [], ◌∷◌, ◌++◌, length, refl, sym, subst, ap, ◌∙◌, append_assoc, arith, codes, None, Bool, true, false, ne_eqb}
use Rattle.std.proofs.lemmas.Bool.{and_parts}
use Rattle.std.specs.Fmt.{decimal}
use Rattle.std.specs.List.{list_all}
use Rattle.index_tokens.specs.declared.token.Token.{Token}
use Rattle.index_tokens.specs.declared.token.Token.TheVariants as t
use Rattle.index_tokens.specs.Spelling.{is_letter, is_digit, double}
use Rattle.index_tokens.specs.Tokens.{placed, tokens_from}
use Rattle.index_tokens.specs.Words.{Tokens}
use Rattle.index_tokens.proofs.WordLemmas.{is_variable}
use Rattle.index_tree.specs.declared.expression.BinaryOp.{BinaryOp}
use Rattle.index_tree.specs.declared.expression.BinaryOp.TheVariants as b
use Rattle.index_tree.specs.declared.expression.UnaryOp.{UnaryOp}
use Rattle.index_tree.specs.declared.expression.UnaryOp.TheVariants as u
use Rattle.index_tree.specs.Trees.{Tree, If, Binary, Unary, Dot, Load, Num, Quoted, Flag, Null, Var}
use Rattle.index_grammar.specs.Expressions.{Rule, Whole, Level, Post, Primary, Spells, plain, choice, tighter, binary, signed, post, first, point, number, text, yes, no, null, var, parens, load}
use Rattle.index_print.specs.Print.{sign, mark, is_compound, in_parentheses_if, printed, operand, quoted}
use Rattle.index_print.specs.Spellable.{IsSpellable, IsVariable, IsApart}
use Rattle.index_print.proofs.Digits.{digits}
use Rattle.index_print.proofs.Prefixes.{Next, IsAlone, word_next, number_next, quoted_next, open_next, close_next, point_next, dash_next, bang_next, comma_next, question_next, colon_next, slash_next, between_gaps, double_between_gaps}

-- The tokens of the first bytes up to those of the second, at some places, are these.
pub record After (X : Tokens → Tokens → Type 0) (place : ℕ) (s r : List ℕ) : Type 0 where
  pub behind : ℕ
  pub spells : X (tokens_from place 0 s) (tokens_from behind 0 r)

-- the tokens end before this one
pub up_to : (X : Tokens → Tokens → Type 0) (x : Token) (place : ℕ) (s r z : List ℕ) (p : After X place s r) (n : Next x p.behind r z) → X (tokens_from place 0 s) (placed n.start x ∷ tokens_from n.behind 0 z)
up_to X x place s r z p n = subst (X (tokens_from place 0 s)) n.is p.spells

-- they begin with this one
pub from_on : (X : Tokens → Type 0) (x : Token) (place : ℕ) (s r : List ℕ) (n : Next x place s r) → X (placed n.start x ∷ tokens_from n.behind 0 r) → X (tokens_from place 0 s)
from_on X x place s r n h = subst X (sym n.is) h

-- ---- levels

at_level : (n : ℕ) {s r : Tokens} {a : Tree} → Spells Post s a r → Spells (Level n) s a r
at_level zero x = post x
at_level (suc n) x = tighter (at_level n x)

pub whole_post : {s r : Tokens} {a : Tree} → Spells Post s a r → Spells Whole s a r
whole_post x = plain (at_level 6 x)

abbrev token_of : BinaryOp → Token
token_of b.Or = t.OrOr
token_of b.And = t.AndAnd
token_of b.Equal = t.Equals
token_of b.NotEqual = t.NotEquals
token_of b.Below = t.Below
token_of b.AtMost = t.AtMost
token_of b.Above = t.Above
token_of b.AtLeast = t.AtLeast
token_of b.Plus = t.Plus
token_of b.Minus = t.Dash
token_of b.Times = t.Star
token_of b.Over = t.Slash
token_of b.Rest = t.Percent

joined : (op : BinaryOp) {s m r : Tokens} {x y : Tree} (k : ℕ) → Spells Post s x (placed k (token_of op) ∷ m) → Spells Post m y r → Spells Whole s (Binary op x y) r
joined b.Or k x y = plain (binary (at_level 6 x) refl refl (at_level 5 y))
joined b.And k x y = plain (tighter (binary (at_level 5 x) refl refl (at_level 4 y)))
joined b.Equal k x y = plain (tighter (tighter (binary (at_level 4 x) refl refl (at_level 3 y))))
joined b.NotEqual k x y = plain (tighter (tighter (binary (at_level 4 x) refl refl (at_level 3 y))))
joined b.Below k x y = plain (tighter (tighter (tighter (binary (at_level 3 x) refl refl (at_level 2 y)))))
joined b.AtMost k x y = plain (tighter (tighter (tighter (binary (at_level 3 x) refl refl (at_level 2 y)))))
joined b.Above k x y = plain (tighter (tighter (tighter (binary (at_level 3 x) refl refl (at_level 2 y)))))
joined b.AtLeast k x y = plain (tighter (tighter (tighter (binary (at_level 3 x) refl refl (at_level 2 y)))))
joined b.Plus k x y = plain (tighter (tighter (tighter (tighter (binary (at_level 2 x) refl refl (at_level 1 y))))))
joined b.Minus k x y = plain (tighter (tighter (tighter (tighter (binary (at_level 2 x) refl refl (at_level 1 y))))))
joined b.Times k x y = plain (tighter (tighter (tighter (tighter (tighter (binary (at_level 1 x) refl refl (at_level 0 y)))))))
joined b.Over k x y = plain (tighter (tighter (tighter (tighter (tighter (binary (at_level 1 x) refl refl (at_level 0 y)))))))
joined b.Rest k x y = plain (tighter (tighter (tighter (tighter (tighter (binary (at_level 1 x) refl refl (at_level 0 y)))))))

sign_next : (op : BinaryOp) (place : ℕ) (s : List ℕ) → Next (token_of op) place (32 ∷ (sign op ++ 32 ∷ s)) s
sign_next b.Or = double_between_gaps 124 124 t.OrOr (refl, refl, λ e. omega arith, refl) refl
sign_next b.And = double_between_gaps 38 38 t.AndAnd (refl, refl, λ e. omega arith, refl) refl
sign_next b.Equal = double_between_gaps 61 61 t.Equals (refl, refl, λ e. omega arith, refl) refl
sign_next b.NotEqual = double_between_gaps 33 61 t.NotEquals (refl, refl, λ e. omega arith, refl) refl
sign_next b.Below = between_gaps 60 t.Below (refl, refl, λ e. omega arith, refl) refl refl
sign_next b.AtMost = double_between_gaps 60 61 t.AtMost (refl, refl, λ e. omega arith, refl) refl
sign_next b.Above = between_gaps 62 t.Above (refl, refl, λ e. omega arith, refl) refl refl
sign_next b.AtLeast = double_between_gaps 62 61 t.AtLeast (refl, refl, λ e. omega arith, refl) refl
sign_next b.Plus = between_gaps 43 t.Plus (refl, refl, λ e. omega arith, refl) refl refl
sign_next b.Minus = between_gaps 45 t.Dash (refl, refl, λ e. omega arith, refl) refl refl
sign_next b.Times = between_gaps 42 t.Star (refl, refl, λ e. omega arith, refl) refl refl
sign_next b.Over = slash_next
sign_next b.Rest = between_gaps 37 t.Percent (refl, refl, λ e. omega arith, refl) refl refl

-- ---- operands

-- what is no compound is a post
abbrev rule_of : Bool → Rule
rule_of true = Whole
rule_of false = Post

abbrev SpelledBy : Rule → Tree → Tokens → Tokens → Type 0
SpelledBy rule x = λ s r. Spells rule s x r

abbrev Prints : Tree → Type 0
Prints x = (place : ℕ) (s : List ℕ) → IsApart s → After (SpelledBy (rule_of (is_compound x)) x) place (printed x ++ s) s

abbrev PrintsOperand : Tree → Type 0
PrintsOperand x = (place : ℕ) (s : List ℕ) → IsApart s → After (SpelledBy Post x) place (operand x ++ s) s

operand_by : (compound : Bool) (x : Tree) (bytes : List ℕ) → ((place : ℕ) (s : List ℕ) → IsApart s → After (SpelledBy (rule_of compound) x) place (bytes ++ s) s)
    → (place : ℕ) (s : List ℕ) → IsApart s → After (SpelledBy Post x) place (in_parentheses_if compound bytes ++ s) s
operand_by false x bytes h place s apart = h place s apart
operand_by true x bytes h place s apart =
    let p = open_next place (bytes ++ 41 ∷ s) in
    let inner = h p.behind (41 ∷ s) refl in
    let q = close_next inner.behind s in
    let body = up_to (SpelledBy Whole x) t.Close p.behind (bytes ++ 41 ∷ s) (41 ∷ s) s inner q in
    let whole : Spells Post (tokens_from place 0 (40 ∷ (bytes ++ 41 ∷ s))) x (tokens_from q.behind 0 s) =
    from_on (λ z. Spells Post z x (tokens_from q.behind 0 s)) t.Open place (40 ∷ (bytes ++ 41 ∷ s)) (bytes ++ 41 ∷ s) p (first (parens refl body refl)) in
    record { behind = q.behind; spells = subst (λ z. Spells Post (tokens_from place 0 (40 ∷ z)) x (tokens_from q.behind 0 s)) (sym (append_assoc bytes (41 ∷ []) s)) whole }

-- ---- a `!` and its operand

bang_alone : (c : ℕ) → c ≢ 61 → double 33 c ≡ None
bang_alone c other = rw (ne_eqb c 61 other) refl

digit_other : (c : ℕ) → is_digit c ≡ true → c ≢ 61
digit_other c digit is = let never : false ≡ true = ap is_digit (sym is) ∙ digit in cc

letter_other : (c : ℕ) → is_letter c ≡ true → c ≢ 61
letter_other c letter is = let never : false ≡ true = ap is_letter (sym is) ∙ letter in cc

digits_alone : (w s : List ℕ) → list_all is_digit w ≡ true → 0 < length w → IsAlone 33 (w ++ s)
digits_alone [] s all some = absurd (omega arith)
digits_alone (c ∷ w) s all some = bang_alone c (digit_other c (and_parts (is_digit c) (list_all is_digit w) all).0)

variable_alone : (w s : List ℕ) → IsVariable w → IsAlone 33 (w ++ s)
variable_alone [] s h = absurd h.0
variable_alone (c ∷ w) s h = bang_alone c (letter_other c h.0.0)

-- No operand begins with `=`.
operand_alone : (x : Tree) → IsSpellable x → (s : List ℕ) → IsAlone 33 (operand x ++ s)
operand_alone (If p x y) h s = refl
operand_alone (Binary op x y) h s = refl
operand_alone (Unary op x) h s = refl
operand_alone (Dot x name) h s = subst (IsAlone 33) (sym (append_assoc (operand x) (46 ∷ name) s)) (operand_alone x h.0 (46 ∷ (name ++ s)))
operand_alone (Load x collection) h s = refl
operand_alone (Num (pos n)) h s = let d = digits n h in digits_alone (decimal n) s d.0 d.2
operand_alone (Num (negsuc n)) h s = absurd h
operand_alone (Quoted value) h s = refl
operand_alone (Flag true) h s = refl
operand_alone (Flag false) h s = refl
operand_alone Null h s = refl
operand_alone (Var name) h s = variable_alone name s h

abbrev unary_token : UnaryOp → Token
unary_token u.Bang = t.Bang
unary_token u.Minus = t.Dash

mark_next : (op : UnaryOp) (place : ℕ) (s : List ℕ) → IsAlone 33 s → Next (unary_token op) place (mark op ++ s) s
mark_next u.Bang place s alone = bang_next place s alone
mark_next u.Minus place s alone = dash_next place s

unary : (op : UnaryOp) {s r : Tokens} {x : Tree} (k : ℕ) → Spells Post s x r → Spells Whole (placed k (unary_token op) ∷ s) (Unary op x) r
unary u.Bang k x = plain (tighter (tighter (tighter (tighter (tighter (tighter (signed refl (post x))))))))
unary u.Minus k x = plain (tighter (tighter (tighter (tighter (tighter (tighter (signed refl (post x))))))))

-- ---- each kind of expression

if_text : (p x y s : List ℕ) → p ++ (32 ∷ 63 ∷ 32 ∷ (x ++ (32 ∷ 58 ∷ 32 ∷ (y ++ s)))) ≡ (p ++ (codes " ? " ++ (x ++ (codes " : " ++ y)))) ++ s
if_text p x y s = simp append_assoc

if_prints : (p x y : Tree) → PrintsOperand p → PrintsOperand x → PrintsOperand y → Prints (If p x y)
if_prints p x y f g h place s apart =
    let third = operand y ++ s in
    let second = operand x ++ (32 ∷ 58 ∷ 32 ∷ third) in
    let test = f place (32 ∷ 63 ∷ 32 ∷ second) refl in
    let question = question_next test.behind second in
    let value = g question.behind (32 ∷ 58 ∷ 32 ∷ third) refl in
    let colon = colon_next value.behind third in
    let other = h colon.behind s apart in
    let whole : Spells Whole (tokens_from place 0 (operand p ++ (32 ∷ 63 ∷ 32 ∷ second))) (If p x y) (tokens_from other.behind 0 s) =
    choice (at_level 6 (up_to (SpelledBy Post p) t.Question place (operand p ++ (32 ∷ 63 ∷ 32 ∷ second)) (32 ∷ 63 ∷ 32 ∷ second) second test question)) refl
    (whole_post (up_to (SpelledBy Post x) t.Colon question.behind second (32 ∷ 58 ∷ 32 ∷ third) third value colon)) refl (whole_post other.spells) in
    record { behind = other.behind; spells = subst (λ z. Spells Whole (tokens_from place 0 z) (If p x y) (tokens_from other.behind 0 s)) (if_text (operand p) (operand x) (operand y) s) whole }

binary_text : (x op y s : List ℕ) → x ++ (32 ∷ (op ++ (32 ∷ (y ++ s)))) ≡ (x ++ (codes " " ++ (op ++ (codes " " ++ y)))) ++ s
binary_text x op y s = simp append_assoc

binary_prints : (op : BinaryOp) (x y : Tree) → PrintsOperand x → PrintsOperand y → Prints (Binary op x y)
binary_prints op x y f g place s apart =
    let second = operand y ++ s in
    let middle = 32 ∷ (sign op ++ (32 ∷ second)) in
    let left = f place middle refl in
    let operator = sign_next op left.behind second in
    let right = g operator.behind s apart in
    let whole : Spells Whole (tokens_from place 0 (operand x ++ middle)) (Binary op x y) (tokens_from right.behind 0 s) =
    joined op operator.start (up_to (SpelledBy Post x) (token_of op) place (operand x ++ middle) middle second left operator) right.spells in
    record { behind = right.behind; spells = subst (λ z. Spells Whole (tokens_from place 0 z) (Binary op x y) (tokens_from right.behind 0 s)) (binary_text (operand x) (sign op) (operand y) s) whole }

unary_prints : (op : UnaryOp) (x : Tree) → IsSpellable x → PrintsOperand x → Prints (Unary op x)
unary_prints op x h f place s apart =
    let rest = operand x ++ s in
    let operator = mark_next op place rest (operand_alone x h s) in
    let value = f operator.behind s apart in
    let whole : Spells Whole (tokens_from place 0 (mark op ++ rest)) (Unary op x) (tokens_from value.behind 0 s) =
    from_on (λ z. Spells Whole z (Unary op x) (tokens_from value.behind 0 s)) (unary_token op) place (mark op ++ rest) rest operator (unary op operator.start value.spells) in
    record { behind = value.behind; spells = subst (λ z. Spells Whole (tokens_from place 0 z) (Unary op x) (tokens_from value.behind 0 s)) (sym (append_assoc (mark op) (operand x) s)) whole }

dot_prints : (x : Tree) (name : List ℕ) → IsSpellable (Dot x name) → PrintsOperand x → Prints (Dot x name)
dot_prints x name h f place s apart =
    let rest = 46 ∷ (name ++ s) in
    let value = f place rest refl in
    let dot = point_next value.behind (name ++ s) in
    let word = word_next name h.1 dot.behind s apart in
    let upto = up_to (SpelledBy Post x) t.Point place (operand x ++ rest) rest (name ++ s) value dot in
    let whole : Spells Post (tokens_from place 0 (operand x ++ rest)) (Dot x name) (tokens_from word.behind 0 s) =
    point (subst (λ z. Spells Post (tokens_from place 0 (operand x ++ rest)) x (placed dot.start t.Point ∷ z)) word.is upto) refl refl in
    record { behind = word.behind; spells = subst (λ z. Spells Post (tokens_from place 0 z) (Dot x name) (tokens_from word.behind 0 s)) (sym (append_assoc (operand x) (46 ∷ name) s)) whole }

load_text : (x collection s : List ℕ) → codes "LoadDocument(" ++ (x ++ (44 ∷ 32 ∷ (collection ++ (41 ∷ s)))) ≡ (codes "LoadDocument(" ++ (x ++ (codes ", " ++ (collection ++ codes ")")))) ++ s
load_text x collection s = simp append_assoc

load_prints : (x : Tree) (collection : List ℕ) → IsSpellable (Load x collection)
    → ((place : ℕ) (s : List ℕ) → IsApart s → After (SpelledBy Whole x) place (printed x ++ s) s) → Prints (Load x collection)
load_prints x collection h f place s apart =
    let last = quoted collection ++ (41 ∷ s) in
    let behind = 44 ∷ 32 ∷ last in
    let inner = printed x ++ behind in
    let word = word_next (codes "LoadDocument") (refl, refl) place (40 ∷ inner) refl in
    let opening = open_next word.behind inner in
    let value = f opening.behind behind refl in
    let comma = comma_next value.behind last in
    let name = quoted_next collection h.1 comma.behind (41 ∷ s) in
    let closing = close_next name.behind s in
    let upto = up_to (SpelledBy Whole x) t.Comma opening.behind inner behind last value comma in
    let body : Spells Whole (tokens_from opening.behind 0 inner) x (placed comma.start t.Comma ∷ placed name.start (t.Quoted collection) ∷ placed closing.start t.Close ∷ tokens_from closing.behind 0 s) =
    subst (λ z. Spells Whole (tokens_from opening.behind 0 inner) x (placed comma.start t.Comma ∷ z)) (name.is ∙ ap (λ z. placed name.start (t.Quoted collection) ∷ z) closing.is) upto in
    let whole : Spells Post (tokens_from place 0 (codes "LoadDocument(" ++ inner)) (Load x collection) (tokens_from closing.behind 0 s) =
    subst (λ z. Spells Post z (Load x collection) (tokens_from closing.behind 0 s))
    (sym (word.is ∙ ap (λ z. placed word.start (t.Word (codes "LoadDocument")) ∷ z) opening.is)) (first (load refl refl body refl refl refl)) in
    record { behind = closing.behind; spells = subst (λ z. Spells Post (tokens_from place 0 z) (Load x collection) (tokens_from closing.behind 0 s)) (load_text (printed x) (quoted collection) s) whole }

-- what one token spells
primary : (w s : List ℕ) (x : Token) (a : Tree) (place : ℕ) → Next x place (w ++ s) s → ((k : ℕ) (r : Tokens) → Spells Primary (placed k x ∷ r) a r) → After (SpelledBy Post a) place (w ++ s) s
primary w s x a place n spells = record {
  behind = n.behind;
  spells = from_on (λ z. Spells Post z a (tokens_from n.behind 0 s)) x place (w ++ s) s n (first (spells n.start (tokens_from n.behind 0 s)));
}

-- ---- all expressions

as_whole : (compound : Bool) (x : Tree) (place : ℕ) (s r : List ℕ) → After (SpelledBy (rule_of compound) x) place s r → After (SpelledBy Whole x) place s r
as_whole true x place s r p = p
as_whole false x place s r p = record { behind = p.behind; spells = whole_post p.spells }

prints : (x : Tree) → IsSpellable x → Prints x
prints (If p x y) h =
    if_prints p x y (operand_by (is_compound p) p (printed p) (prints p h.0)) (operand_by (is_compound x) x (printed x) (prints x h.1)) (operand_by (is_compound y) y (printed y) (prints y h.2))
prints (Binary op x y) h = binary_prints op x y (operand_by (is_compound x) x (printed x) (prints x h.0)) (operand_by (is_compound y) y (printed y) (prints y h.1))
prints (Unary op x) h = unary_prints op x h (operand_by (is_compound x) x (printed x) (prints x h))
prints (Dot x name) h = dot_prints x name h (operand_by (is_compound x) x (printed x) (prints x h.0))
prints (Load x collection) h = load_prints x collection h (λ place s apart. as_whole (is_compound x) x place (printed x ++ s) s (prints x h.0 place s apart))
prints (Num (pos n)) h = λ place s apart. primary (decimal n) s (t.Number (pos n)) (Num (pos n)) place (number_next n h place s apart) (λ k r. number refl)
prints (Num (negsuc n)) h = absurd h
prints (Quoted value) h = λ place s apart. primary (quoted value) s (t.Quoted value) (Quoted value) place (quoted_next value h place s) (λ k r. text refl)
prints (Flag true) h = λ place s apart. primary (codes "true") s (t.Word (codes "true")) (Flag true) place (word_next (codes "true") (refl, refl) place s apart) (λ k r. yes refl)
prints (Flag false) h = λ place s apart. primary (codes "false") s (t.Word (codes "false")) (Flag false) place (word_next (codes "false") (refl, refl) place s apart) (λ k r. no refl)
prints Null h = λ place s apart. primary (codes "null") s (t.Word (codes "null")) Null place (word_next (codes "null") (refl, refl) place s apart) (λ k r. null refl)
prints (Var name) h = λ place s apart. primary name s (t.Word name) (Var name) place (word_next name h.0 place s apart) (λ k r. var (is_variable (placed k (t.Word name)) name refl h.1))

-- The tokens of a printed expression, up to what is behind it, spell the expression.
pub expression_spelled : (x : Tree) → IsSpellable x → (place : ℕ) (s : List ℕ) → IsApart s → After (λ m r. Spells Whole m x r) place (printed x ++ s) s
expression_spelled x h place s apart = as_whole (is_compound x) x place (printed x ++ s) s (prints x h place s apart)
