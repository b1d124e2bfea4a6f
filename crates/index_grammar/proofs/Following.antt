-- Which tokens go on with an expression.
use Rattle.std.proofs.Common.{◌≡◌, ℕ, suc, ◌<◌, Bool, true, false, nat_eq, [], ◌∷◌, Option, Some, None, refl, sym, ◌∙◌, ap, subst, arith, cond}
use Rattle.std.proofs.lemmas.Bool.{eqb-true, eq-eqb}
use Rattle.exact_parse.specs.Steps.{head, ◌>>=◌, pure, take, Counts, Ends}
use Rattle.index_tokens.specs.declared.token.Token.{Token}
use Rattle.index_tokens.specs.declared.token.Token.TheVariants as t
use Rattle.index_tokens.specs.declared.token.Placed.{Placed}
use Rattle.index_tokens.specs.Words.{Tokens, Is, same_token, name}
use Rattle.index_tree.specs.declared.expression.BinaryOp.{BinaryOp}
use Rattle.index_tree.specs.Trees.{Tree, Dot}
use Rattle.index_grammar.specs.Operators.{operator_as, operator, level_of}
use Rattle.index_grammar.specs.Limits.{most_operators}
use Rattle.index_grammar.specs.ExpressionReading.{at_level, operator_at, point_next}

abbrev pub other_looseness : Token → ℕ
other_looseness t.Point = 0
other_looseness t.Question = 7
other_looseness _ = 8

abbrev pub looseness_by : Token → Option BinaryOp → ℕ
looseness_by x (Some op) = level_of op
looseness_by x None = other_looseness x

abbrev pub looseness_as : Token → ℕ
looseness_as u = looseness_by u (operator_as u)

-- How loosely the next token goes on with an expression: a point most tightly, then the operators by their levels, then the question mark. No other
-- token goes on with one.
abbrev pub looseness : Option Placed → ℕ
looseness (Some x) = looseness_as x.token
looseness None = 8

-- a token that goes on with no expression
pub ends_expression : (u : Token) (x : Placed) → 7 < looseness_as u → Is u x → 7 < looseness (Some x)
ends_expression u x h is = subst (λ n. 7 < n) (ap looseness_as (sym is)) h

-- ---- points

no_point : (u : Token) → 0 < looseness_as u → same_token t.Point u ≡ false
no_point t.Point h = absurd (omega (arith, h))
no_point _ h = refl

pub points_end : (a : Tree) (r : Tokens) → 0 < looseness (head r) → point_next a (head r) ≡ Ends (pure a)
points_end a [] h = refl
points_end a (x ∷ r) h = ap (λ d. cond d (Counts tt most_operators (take tt name >>= λ n. pure (Dot a n))) (Ends (pure a))) (no_point x.token h)

-- ---- operators

no_operator_by : (n : ℕ) (u : Token) (o : Option BinaryOp) → n < looseness_by u o → at_level n o ≡ None
no_operator_by n u None h = refl
no_operator_by n u (Some op) h = other (nat_eq (level_of op) n) refl
  where
    other : (d : Bool) → nat_eq (level_of op) n ≡ d → cond d (Some op) None ≡ None
    other false e = refl
    other true e = let same : level_of op ≡ n = eqb-true (level_of op) n e in absurd (omega (arith, same, h))

pub no_operator : (n : ℕ) (r : Tokens) → n < looseness (head r) → operator_at n (head r) ≡ None
no_operator n [] h = refl
no_operator n (x ∷ r) h = no_operator_by n x.token (operator x) h

pub operator_is : (n : ℕ) (x : Placed) (op : BinaryOp) → operator x ≡ Some op → level_of op ≡ n → operator_at n (Some x) ≡ Some op
operator_is n x op is at = ap (at_level n) is ∙ ap (λ d. cond d (Some op) None) (eq-eqb (level_of op) n at)

pub operator_loose : (n : ℕ) (x : Placed) (op : BinaryOp) → operator x ≡ Some op → level_of op ≡ suc n → n < looseness (Some x)
operator_loose n x op is at = let e : looseness (Some x) ≡ level_of op = ap (looseness_by x.token) is in omega (arith, e, at)

-- ---- question marks

pub no_question : (u : Token) → 7 < looseness_as u → same_token t.Question u ≡ false
no_question t.Question h = absurd (omega (arith, h))
no_question _ h = refl
