-- One turn of a loop.
use Rattle.std.proofs.Common.{◌≡◌, ℕ, suc, List, [], ◌∷◌, ◌++◌, true, false, cond, Option, Some, None, is_some, refl, sym, ◌∙◌, ap, ap₂}
use Rattle.exact_parse.specs.Steps.{head, tail, Unexpected, Outcome, Read, Refused, and_then, ◌>>=◌, pure}
use Rattle.exact_parse.proofs.Loops.{loop_ends, loop_more}
use Rattle.index_tokens.specs.declared.token.Token.TheVariants as t
use Rattle.index_tokens.specs.declared.token.Placed.{Placed}
use Rattle.index_tokens.specs.Words.{Tokens, same_token, next_is, variable, word_new}
use Rattle.reduce_grammar.specs.declared.spelled.KeyForm.{KeyForm}
use Rattle.reduce_grammar.specs.declared.spelled.PlacedFold.{PlacedFold}
use Rattle.reduce_grammar.specs.ReduceReading as read
use Rattle.reduce_grammar.proofs.ReduceKeeps.{Behind, parts_turn}

-- a comma goes on with the parts
pub parts_on : (found : List (List ℕ)) (c d : ℕ) (s r : Tokens) → next_is t.Comma (head s) ≡ true → r ≡ tail s → d ≡ c →
    read.parts found c s ≡ and_then (read.part d r) (λ n. read.parts (found ++ n ∷ []))
unfolding read.parts
parts_on found c d [] r is e f = cc
parts_on found c d (x ∷ s) r is e f = loop_more tt Behind read.part_next parts_turn found c x s (read.part >>= λ n. pure (found ++ n ∷ [])) (ap (λ b. read.part_as found (cond b (Some tt) None)) is)
    ∙ by (read.part c s) ∙ ap₂ (λ (d : ℕ) (r : Tokens). and_then (read.part d r) (λ n. read.parts (found ++ n ∷ []))) (sym f) (sym e)
  where
    by : (o : Outcome Placed (Unit {0}) (List ℕ)) → and_then (and_then o (λ n. pure (found ++ n ∷ []))) read.parts ≡ and_then o (λ n. read.parts (found ++ n ∷ []))
    by (Read n c r) = refl
    by (Refused k r) = refl

-- and nothing else
pub parts_end : (found : List (List ℕ)) (c d : ℕ) (s r : Tokens) → next_is t.Comma (head s) ≡ false → r ≡ s → d ≡ c → read.parts found c s ≡ Read found d r
unfolding read.parts
parts_end found c d [] r is e f = loop_ends tt Behind read.part_next parts_turn found c [] (pure found) refl ∙ ap₂ (λ (d : ℕ) (r : Tokens). Read found d r) (sym f) (sym e)
parts_end found c d (x ∷ s) r is e f = loop_ends tt Behind read.part_next parts_turn found c (x ∷ s) (pure found) (ap (λ b. read.part_as found (cond b (Some tt) None)) is)
    ∙ ap₂ (λ (d : ℕ) (r : Tokens). Read found d r) (sym f) (sym e)

-- a member, if there is room for one
pub folds_on : (g : List ℕ) (form : KeyForm) (room next : ℕ) (found : List PlacedFold) (c : ℕ) (s : Tokens) → room ≡ suc next →
    read.folds g form room found c s ≡ and_then (read.member g form c s) (λ a. read.ends >>= λ last. cond last (pure (found ++ a ∷ [])) (read.folds g form next (found ++ a ∷ [])))
unfolding read.folds
folds_on g form room next found c s e = ap (λ room. read.folds g form room found c s) e

-- if there is none
pub folds_end : (g : List ℕ) (form : KeyForm) (room : ℕ) (found : List PlacedFold) (c : ℕ) (s : Tokens) → room ≡ 0 → read.folds g form room found c s ≡ read.no_room c s
unfolding read.folds
folds_end g form room found c s e = ap (λ room. read.folds g form room found c s) e

-- ---- the key

-- a variable begins a key of one part
pub key_is_alone : (c : ℕ) (s r : Tokens) (x : Placed) → s ≡ x ∷ r → same_token word_new x.token ≡ false → is_some (variable x) ≡ true → read.key c s ≡ read.key_alone x.at c r
unfolding read.key
key_is_alone c s r x e word is = ap (read.key c) e ∙ ap (λ b. read.key_as x (cond b (Some tt) None) c (x ∷ r)) word ∙ by (variable x) is
  where
    by : (o : Option (List ℕ)) → is_some o ≡ true → read.alone_as x o c (x ∷ r) ≡ read.key_alone x.at c r
    by (Some v) is = refl
    by None is = cc

-- what is neither a variable nor `new` begins none
pub key_is_none : (c : ℕ) (s r : Tokens) (x : Placed) → s ≡ x ∷ r → same_token word_new x.token ≡ false → is_some (variable x) ≡ false → read.key c s ≡ Refused (Unexpected tt) s
unfolding read.key
key_is_none c s r x e word is = ap (read.key c) e ∙ ap (λ b. read.key_as x (cond b (Some tt) None) c (x ∷ r)) word ∙ by (variable x) is ∙ ap (Refused (Unexpected tt)) (sym e)
  where
    by : (o : Option (List ℕ)) → is_some o ≡ false → read.alone_as x o c (x ∷ r) ≡ Refused (Unexpected tt) (x ∷ r)
    by (Some v) is = cc
    by None is = refl
