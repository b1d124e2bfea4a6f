-- What a token is, by what takes it.
use Rattle.std.proofs.Common.{◌≡◌, ℕ, List, Bool, true, false, cond, Option, Some, None, refl, sym, ◌∙◌, ap, inl, inr, ◌⊎◌}
use Rattle.std.proofs.lemmas.Slice.Eq.{bytes_eq-Decides}
use Rattle.std.specs.Str.{bytes_eq}
use Rattle.rql_tokens.specs.declared.key_words.KeyWord.{KeyWord}
use Rattle.rql_tokens.specs.declared.key_words.KeyWord.TheVariants as k
use Rattle.rql_tokens.specs.declared.token.Token.{Token}
use Rattle.rql_tokens.specs.declared.token.Token.TheVariants as t
use Rattle.rql_tokens.specs.declared.token.Placed.{Placed}
use Rattle.rql_tokens.specs.KeyWords.{key_of, key_text}
use Rattle.rql_tokens.specs.Words.{Is, same_token, the, name_as, name, part_as, part, quoted_as, quoted}

-- ---- marks and key words

-- the text of a key word spells it
key_back : (a : KeyWord) → key_of (key_text a) ≡ Some a
unfolding key_of
key_back k.From = refl
key_back k.Index = refl
key_back k.Group = refl
key_back k.By = refl
key_back k.Where = refl
key_back k.Order = refl
key_back k.Select = refl
key_back k.Include = refl
key_back k.And = refl
key_back k.Or = refl
key_back k.Not = refl
key_back k.In = refl
key_back k.Between = refl
key_back k.As = refl
key_back k.True = refl
key_back k.False = refl
key_back k.Null = refl
key_back k.Exact = refl

same_keys : (a b : KeyWord) → bytes_eq (key_text a) (key_text b) ≡ true → b ≡ a
same_keys a b e =
    let texts : key_text a ≡ key_text b = (bytes_eq-Decides (key_text a) (key_text b)).0 e in
    let keys : ◌≡◌ {A = Option KeyWord} (Some b) (Some a) = sym (key_back b) ∙ ap key_of (sym texts) ∙ key_back a in cc

same_is : (a b : Token) → same_token a b ≡ true → b ≡ a
same_is (t.Key a) (t.Key b) e = ap t.Key (same_keys a b e)
same_is t.Open t.Open e = refl
same_is t.Close t.Close e = refl
same_is t.Comma t.Comma e = refl
same_is t.Point t.Point e = refl
same_is t.Dollar t.Dollar e = refl
same_is t.End t.End e = refl
same_is _ _ e = cc

-- What is taken as this token is this token.
pub taken_is : (token : Token) (x : Placed) (v : Unit {0}) → the token x ≡ Some v → Is token x
taken_is token x v e = by (same_token token x.token) refl e
  where
    by : (d : Bool) → same_token token x.token ≡ d → cond d (Some tt) None ≡ Some v → Is token x
    by true is e = same_is token x.token is
    by false is e = cc

-- A token that is the same as itself is taken.
pub is_taken : (token : Token) (x : Placed) → same_token token token ≡ true → Is token x → the token x ≡ Some tt
is_taken token x self is = ap (λ u. cond (same_token token u) (Some tt) None) is ∙ ap (λ d. cond d (Some tt) None) self

-- a token that passes the test for this one is this one
pub same_at : (token : Token) (x : Placed) → same_token token x.token ≡ true → Is token x
same_at token x e = same_is token x.token e

-- and the test is known of a token that is known
pub test_at : (token other : Token) (d : Bool) (x : Placed) → same_token token other ≡ d → Is other x → same_token token x.token ≡ d
test_at token other d x e is = ap (same_token token) is ∙ e

-- ---- names, parts and texts

name_as_is : (token : Token) (n : List ℕ) → name_as token ≡ Some n → token ≡ t.Name n
name_as_is (t.Name m) n e = let same : m ≡ n = cc in ap t.Name same
name_as_is _ n e = cc

pub name_is : (x : Placed) (n : List ℕ) → name x ≡ Some n → Is (t.Name n) x
name_is x n = name_as_is x.token n

quoted_as_is : (token : Token) (v : List ℕ) → quoted_as token ≡ Some v → token ≡ t.Quoted v
quoted_as_is (t.Quoted w) v e = let same : w ≡ v = cc in ap t.Quoted same
quoted_as_is _ v e = cc

pub quoted_is : (x : Placed) (v : List ℕ) → quoted x ≡ Some v → Is (t.Quoted v) x
quoted_is x v = quoted_as_is x.token v

part_as_is : (token : Token) (n : List ℕ) → part_as token ≡ Some n → (token ≡ t.Name n) ⊎ (token ≡ t.Quoted n)
part_as_is (t.Name m) n e = let same : m ≡ n = cc in inl (ap t.Name same)
part_as_is (t.Quoted m) n e = let same : m ≡ n = cc in inr (ap t.Quoted same)
part_as_is _ n e = cc

-- a part is a name or a text
pub part_is : (x : Placed) (n : List ℕ) → part x ≡ Some n → Is (t.Name n) x ⊎ Is (t.Quoted n) x
part_is x n = part_as_is x.token n
