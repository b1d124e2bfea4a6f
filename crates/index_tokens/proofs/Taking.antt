-- What takes one token keeps to a relation, and reads that token.
use Rattle.std.proofs.Common.{◌≡◌, ℕ, List, [], ◌∷◌, Bool, true, false, cond, Some, None, refl, ◌∙◌, ap, codes}
use Rattle.std.proofs.lemmas.Slice.Eq.{bytes_eq-Decides}
use Rattle.std.specs.Str.{bytes_eq}
use Rattle.exact_parse.specs.Steps.{and_then, ◌>>=◌, take}
use Rattle.exact_parse.specs.Keeps.{Fits, Keeps}
use Rattle.exact_parse.proofs.Keeping.{take_keeps}
use Rattle.exact_parse.proofs.Meeting.{take_reads}
use Rattle.index_tokens.specs.declared.token.Token.{Token}
use Rattle.index_tokens.specs.declared.token.Token.TheVariants as t
use Rattle.index_tokens.specs.declared.token.Placed.{Placed}
use Rattle.index_tokens.specs.Words.{Tokens, Is, same_token, the, name, variable, quoted}
use Rattle.index_tokens.proofs.WordLemmas.{taken_is, is_taken}
use Rattle.index_tokens.specs.Reads.{Reads}

abbrev pub at_start : Token → Placed
at_start token = record { at = 0; token = token }

pub the_keeps : {B : Type 0} {Z : Tokens → B → Tokens → Type 0} {q : Reads B} (token : Token) → same_token token token ≡ true →
    ((x : Placed) → Is token x → Keeps (λ m b r. Z (x ∷ m) b r) q) → Keeps Z (take tt (the token) >>= λ _. q)
the_keeps {Z = Z} {q = q} token self h = take_keeps tt (the token) Z (λ _. q) (at_start token) tt (is_taken token (at_start token) self refl) (λ x v e. h x (taken_is token x v e))

pub name_keeps : {B : Type 0} {Z : Tokens → B → Tokens → Type 0} (q : List ℕ → Reads B) →
    ((x : Placed) (n : List ℕ) → name x ≡ Some n → Keeps (λ m b r. Z (x ∷ m) b r) (q n)) → Keeps Z (take tt name >>= q)
name_keeps {Z = Z} q h = take_keeps tt name Z q (at_start (t.Word (codes "x"))) (codes "x") refl h

pub variable_keeps : {B : Type 0} {Z : Tokens → B → Tokens → Type 0} (q : List ℕ → Reads B) →
    ((x : Placed) (n : List ℕ) → variable x ≡ Some n → Keeps (λ m b r. Z (x ∷ m) b r) (q n)) → Keeps Z (take tt variable >>= q)
variable_keeps {Z = Z} q h = take_keeps tt variable Z q (at_start (t.Word (codes "x"))) (codes "x") refl h

pub quoted_keeps : {B : Type 0} {Z : Tokens → B → Tokens → Type 0} (q : List ℕ → Reads B) →
    ((x : Placed) (v : List ℕ) → quoted x ≡ Some v → Keeps (λ m b r. Z (x ∷ m) b r) (q v)) → Keeps Z (take tt quoted >>= q)
quoted_keeps {Z = Z} q h = take_keeps tt quoted Z q (at_start (t.Quoted [])) [] refl h

-- a token that passes the test for this one is this one
pub same_at : (token : Token) (x : Placed) → same_token token x.token ≡ true → Is token x
same_at token x e = taken_is token x tt (ap (λ d. cond d (Some tt) None) e)

-- and the test is known of a token that is known
pub test_at : (token other : Token) (d : Bool) (x : Placed) → same_token token other ≡ d → Is other x → same_token token x.token ≡ d
test_at token other d x e is = ap (same_token token) is ∙ e

-- one of two readings, by a test
pub either_at : {A : Type 0} (X : Tokens → A → Tokens → Type 0) (p q : Reads A) (n : ℕ) (s : Tokens) (d : Bool) →
    (d ≡ true → Fits X p n s (p n s)) → (d ≡ false → Fits X q n s (q n s)) → Fits X (cond d p q) n s (cond d p q n s)
either_at X p q n s true h k = h refl
either_at X p q n s false h k = k refl

-- a word that passes the test for this one is this one
pub word_is : (w v : List ℕ) (x : Placed) → Is (t.Word w) x → bytes_eq w v ≡ true → Is (t.Word v) x
word_is w v x is e = is ∙ ap t.Word ((bytes_eq-Decides w v).0 e)

-- ---- and reads that token

pub the_reads : {B : Type 0} (token : Token) (x : Placed) (q : Reads B) → same_token token token ≡ true → Is token x → (n : ℕ) (r : Tokens) →
    (take tt (the token) >>= λ _. q) n (x ∷ r) ≡ q n r
the_reads token x q self is n r = ap (λ o. and_then o (λ _. q)) (take_reads tt (the token) x tt (is_taken token x self is) n r)

pub name_reads : {B : Type 0} (x : Placed) (v : List ℕ) (q : List ℕ → Reads B) → name x ≡ Some v → (n : ℕ) (r : Tokens) → (take tt name >>= q) n (x ∷ r) ≡ q v n r
name_reads x v q is n r = ap (λ o. and_then o q) (take_reads tt name x v is n r)

pub variable_reads : {B : Type 0} (x : Placed) (v : List ℕ) (q : List ℕ → Reads B) → variable x ≡ Some v → (n : ℕ) (r : Tokens) → (take tt variable >>= q) n (x ∷ r) ≡ q v n r
variable_reads x v q is n r = ap (λ o. and_then o q) (take_reads tt variable x v is n r)

pub quoted_reads : {B : Type 0} (x : Placed) (v : List ℕ) (q : List ℕ → Reads B) → quoted x ≡ Some v → (n : ℕ) (r : Tokens) → (take tt quoted >>= q) n (x ∷ r) ≡ q v n r
quoted_reads x v q is n r = ap (λ o. and_then o q) (take_reads tt quoted x v is n r)
