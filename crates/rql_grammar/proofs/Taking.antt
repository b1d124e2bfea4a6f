-- What takes one token keeps to a relation, and reads that token.
use Rattle.std.proofs.Common.{◌≡◌, ℕ, List, [], ◌∷◌, Bool, true, false, cond, Option, Some, None, refl, ap, codes}
use Rattle.exact_parse.specs.Steps.{and_then, ◌>>=◌, pure, take, take_by, take_as}
use Rattle.exact_parse.specs.Keeps.{Goes, Fits, Keeps}
use Rattle.exact_parse.proofs.Keeping.{pure_keeps, refuse_at, choose_keeps, skip_at, take_keeps}
use Rattle.exact_parse.proofs.Meeting.{take_reads}
use Rattle.rql_tokens.specs.declared.token.Token.{Token}
use Rattle.rql_tokens.specs.declared.token.Token.TheVariants as t
use Rattle.rql_tokens.specs.declared.token.Placed.{Placed}
use Rattle.rql_tokens.specs.Words.{Tokens, Is, same_token, the, name, quoted}
use Rattle.rql_tokens.proofs.WordLemmas.{taken_is, is_taken}
use Rattle.rql_grammar.specs.Reads.{Reads, unexpected}

abbrev pub at_start : Token → Placed
at_start token = record { at = 0; token = token; called = false }

pub the_keeps : {B : Type 0} {Z : Tokens → B → Tokens → Type 0} {q : Reads B} (token : Token) → same_token token token ≡ true →
    ((x : Placed) → Is token x → Keeps (λ m b r. Z (x ∷ m) b r) q) → Keeps Z (take unexpected (the token) >>= λ _. q)
the_keeps {Z = Z} {q = q} token self h =
    take_keeps unexpected (the token) Z (λ _. q) (at_start token) tt (is_taken token (at_start token) self refl) (λ x v e. h x (taken_is token x v e))

pub name_keeps : {B : Type 0} {Z : Tokens → B → Tokens → Type 0} (q : List ℕ → Reads B) →
    ((x : Placed) (n : List ℕ) → name x ≡ Some n → Keeps (λ m b r. Z (x ∷ m) b r) (q n)) → Keeps Z (take unexpected name >>= q)
name_keeps {Z = Z} q h = take_keeps unexpected name Z q (at_start (t.Name (codes "x"))) (codes "x") refl h

pub quoted_keeps : {B : Type 0} {Z : Tokens → B → Tokens → Type 0} (q : List ℕ → Reads B) →
    ((x : Placed) (v : List ℕ) → quoted x ≡ Some v → Keeps (λ m b r. Z (x ∷ m) b r) (q v)) → Keeps Z (take unexpected quoted >>= q)
quoted_keeps {Z = Z} q h = take_keeps unexpected quoted Z q (at_start (t.Quoted [])) [] refl h

-- one token alone, by its value
pub one_token_keeps : {W : Type 0} {Z : Tokens → W → Tokens → Type 0} (value : Placed → Option W) (x : Placed) (v : W) → value x ≡ Some v →
    ((x : Placed) (v : W) → value x ≡ Some v → (z : Tokens) → Z (x ∷ z) v z) → Keeps Z (take unexpected value)
one_token_keeps {W = W} {Z = Z} value x v is h = choose_keeps Z (take_by unexpected value) short (λ c. refuse_at {X = Z} unexpected short c []) (λ x c s. by x (value x) refl c s)
  where
    short : Goes Z []
    short = record { more = x ∷ []; tree = v; spells = h x v is }

    by : (x : Placed) (o : Option W) → value x ≡ o → (c : ℕ) (s : Tokens) → Fits Z (take_as unexpected o) c (x ∷ s) (take_as unexpected o c (x ∷ s))
    by x (Some v) is c s = skip_at Z (pure v) x (pure_keeps (λ z. h x v is z)) c s
    by x None is c s = refuse_at {X = Z} unexpected short c _

-- one of two readings, by a test
pub either_at : {A : Type 0} (X : Tokens → A → Tokens → Type 0) (p q : Reads A) (n : ℕ) (s : Tokens) (d : Bool) →
    (d ≡ true → Fits X p n s (p n s)) → (d ≡ false → Fits X q n s (q n s)) → Fits X (cond d p q) n s (cond d p q n s)
either_at X p q n s true h k = h refl
either_at X p q n s false h k = k refl

-- ---- and reads that token

pub the_reads : {B : Type 0} (token : Token) (x : Placed) (q : Reads B) → same_token token token ≡ true → Is token x → (n : ℕ) (r : Tokens) →
    (take unexpected (the token) >>= λ _. q) n (x ∷ r) ≡ q n r
the_reads token x q self is n r = ap (λ o. and_then o (λ _. q)) (take_reads unexpected (the token) x tt (is_taken token x self is) n r)

-- of any value
pub value_reads : {W B : Type 0} (value : Placed → Option W) (x : Placed) (v : W) (q : W → Reads B) → value x ≡ Some v → (n : ℕ) (r : Tokens) →
    (take unexpected value >>= q) n (x ∷ r) ≡ q v n r
value_reads value x v q is n r = ap (λ o. and_then o q) (take_reads unexpected value x v is n r)
