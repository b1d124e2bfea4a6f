-- What a token is, by what takes it.
use Rattle.std.proofs.Common.{◌≡◌, ℕ, List, Bool, true, false, cond, Option, Some, None, refl, sym, ◌∙◌, ap}
use Rattle.std.proofs.lemmas.Slice.Eq.{bytes_eq-Decides}
use Rattle.index_tokens.specs.declared.token.Token.{Token}
use Rattle.index_tokens.specs.declared.token.Token.TheVariants as t
use Rattle.index_tokens.specs.declared.token.Placed.{Placed}
use Rattle.index_tokens.specs.Spelling.{is_reserved}
use Rattle.index_tokens.specs.Words.{Is, same_token, the, name_as, name, variable_as, variable, quoted_as, quoted}

same_is : (a b : Token) → same_token a b ≡ true → b ≡ a
same_is (t.Word a) (t.Word b) e = ap t.Word (sym ((bytes_eq-Decides a b).0 e))
same_is t.OpenBrace t.OpenBrace e = refl
same_is t.CloseBrace t.CloseBrace e = refl
same_is t.Open t.Open e = refl
same_is t.Close t.Close e = refl
same_is t.Comma t.Comma e = refl
same_is t.Point t.Point e = refl
same_is t.Assign t.Assign e = refl
same_is t.Arrow t.Arrow e = refl
same_is t.Question t.Question e = refl
same_is t.Colon t.Colon e = refl
same_is t.Slash t.Slash e = refl
same_is t.End t.End e = refl
same_is _ _ e = cc

-- What is taken as this token is this token.
pub taken_is : (token : Token) (x : Placed) (v : Unit {0}) → the token x ≡ Some v → Is token x
taken_is token x v e = by (same_token token x.token) refl e
  where
    by : (d : Bool) → same_token token x.token ≡ d → cond d (Some tt) None ≡ Some v → Is token x
    by true is e = same_is token x.token is
    by false is e = cc

-- A token that is the same as itself is taken.
pub is_taken : (token : Token) (x : Placed) → same_token token token ≡ true → Is token x → the token x ≡ Some tt
is_taken token x self is = ap (λ u. cond (same_token token u) (Some tt) None) is ∙ ap (λ d. cond d (Some tt) None) self

-- A word is the same as itself.
pub word_same : (w : List ℕ) → same_token (t.Word w) (t.Word w) ≡ true
word_same w = (bytes_eq-Decides w w).1 refl

-- What has a value that the token has not is not that token.
pub not_taken : {V : Type 0} (token : Token) (value : Token → Option V) → value token ≡ None → (x : Placed) (v : V) → value x.token ≡ Some v → the token x ≡ None
not_taken {V = V} token value none x v is = by (the token x) refl
  where
    by : (o : Option (Unit {0})) → the token x ≡ o → the token x ≡ None
    by (Some u) e = let bad : ◌≡◌ {A = Option V} None (Some v) = sym none ∙ sym (ap value (taken_is token x u e)) ∙ is in cc
    by None e = e

name_as_is : (token : Token) (n : List ℕ) → name_as token ≡ Some n → token ≡ t.Word n
name_as_is (t.Word w) n e = let same : w ≡ n = cc in ap t.Word same
name_as_is _ n e = cc

-- A name is a word.
pub name_is : (x : Placed) (n : List ℕ) → name x ≡ Some n → Is (t.Word n) x
name_is x n = name_as_is x.token n

pub is_name : (x : Placed) (n : List ℕ) → Is (t.Word n) x → name x ≡ Some n
is_name x n is = ap name_as is

variable_as_is : (token : Token) (n : List ℕ) → variable_as token ≡ Some n → (token ≡ t.Word n) × (is_reserved n ≡ false)
variable_as_is (t.Word w) n e = by (is_reserved w) refl e
  where
    by : (d : Bool) → is_reserved w ≡ d → cond d None (Some w) ≡ Some n → (t.Word w ≡ t.Word n) × (is_reserved n ≡ false)
    by true is e = cc
    by false is e = let same : w ≡ n = cc in (ap t.Word same, ap is_reserved (sym same) ∙ is)
variable_as_is _ n e = cc

-- A variable is a word that is not reserved.
pub variable_is : (x : Placed) (n : List ℕ) → variable x ≡ Some n → Is (t.Word n) x × (is_reserved n ≡ false)
variable_is x n = variable_as_is x.token n

pub is_variable : (x : Placed) (n : List ℕ) → Is (t.Word n) x → is_reserved n ≡ false → variable x ≡ Some n
is_variable x n is free = ap variable_as is ∙ ap (λ d. cond d None (Some n)) free

quoted_as_is : (token : Token) (v : List ℕ) → quoted_as token ≡ Some v → token ≡ t.Quoted v
quoted_as_is (t.Quoted w) v e = let same : w ≡ v = cc in ap t.Quoted same
quoted_as_is _ v e = cc

pub quoted_is : (x : Placed) (v : List ℕ) → quoted x ≡ Some v → Is (t.Quoted v) x
quoted_is x v = quoted_as_is x.token v
