-- The steps that the reading of every rule is made of, for any kind of token, of refusal and of tree.
use Rattle.std.specs.Prelude.{ℕ, zero, suc, ◌+◌, Bool, true, false, if◌then◌else◌, nat_lt, List, [], ◌∷◌, length, Option, Some, None}

abbrev pub head : {T : Type 0} → List T → Option T
head [] = None
head (x ∷ s) = Some x

-- Why a token is refused: nothing of the grammar goes on with it, or it is past a limit. A language has its own kinds of both.
pub data Cause (K : Type 0) : Type 0 where
  Unexpected : K → Cause K
  TooLarge : K → Cause K

-- A tree, the count so far, and the tokens that are left; or a cause, and the tokens from the refused one on.
pub data Outcome (T K A : Type 0) : Type 0 where
  Read : A → ℕ → List T → Outcome T K A
  Refused : Cause K → List T → Outcome T K A

-- what reads from a count and tokens on
abbrev pub Reader : Type 0 → Type 0 → Type 0 → Type 0
Reader T K A = ℕ → List T → Outcome T K A

abbrev pub and_then : {T K A B : Type 0} → Outcome T K A → (A → Reader T K B) → Outcome T K B
and_then (Read a c s) f = f a c s
and_then (Refused k s) f = Refused k s

infixl 10 ◌>>=◌
-- one after the other
abbrev pub ◌>>=◌ : {T K A B : Type 0} → Reader T K A → (A → Reader T K B) → Reader T K B
p >>= f = λ c s. and_then (p c s) f

infixl 10 ◌>>◌
abbrev pub ◌>>◌ : {T K A B : Type 0} → Reader T K A → Reader T K B → Reader T K B
p >> q = p >>= (λ _. q)

-- reads nothing and gives this
abbrev pub pure : {T K A : Type 0} → A → Reader T K A
pure a = λ c s. Read a c s

-- refuses the next token, with which nothing goes on
abbrev pub refuse : {T K A : Type 0} → K → Reader T K A
refuse k = λ c s. Refused (Unexpected k) s

-- refuses the next token, which is past a limit
abbrev pub too_large : {T K A : Type 0} → K → Reader T K A
too_large k = λ c s. Refused (TooLarge k) s

-- goes by the next token
abbrev pub choose : {T K A : Type 0} → (Option T → Reader T K A) → Reader T K A
choose p = λ c s. p (head s) c s

abbrev pub tail : {T : Type 0} → List T → List T
tail [] = []
tail (x ∷ s) = s

-- passes the next token, which `choose` has found there
abbrev pub skip : {T K : Type 0} → Reader T K (Unit {0})
skip = λ c s. Read tt c (tail s)

-- at a token that opens a part: refused there if there is no room for it
abbrev pub within : {T K A : Type 0} → K → Bool → Reader T K A → Reader T K A
within k has_room p = if has_room then p else too_large k

-- counts the next token, of which there may be so many
abbrev pub counted : {T K A : Type 0} → K → ℕ → Reader T K A → Reader T K A
counted k most p = λ c s. within k (nat_lt c most) p (c + 1) s

-- counts anew
abbrev pub fresh : {T K A : Type 0} → Reader T K A → Reader T K A
fresh p = λ c s. p 0 s

abbrev pub take_as : {T K V : Type 0} → K → Option V → Reader T K V
take_as k (Some v) = skip >> pure v
take_as k None = refuse k

abbrev pub take_by : {T K V : Type 0} → K → (T → Option V) → Option T → Reader T K V
take_by k value (Some x) = take_as k (value x)
take_by k value None = refuse k

-- takes one token that has a value, and refuses any other
abbrev pub take : {T K V : Type 0} → K → (T → Option V) → Reader T K V
take k value = choose (take_by k value)

-- ---- loops

-- What a loop does at the next token: it ends by reading this; or it passes the token, reads this and goes on; or the same with a token
-- that counts, of which there may be so many.
pub data Next (T K A B : Type 0) : Type 0 where
  Ends : Reader T K B → Next T K A B
  More : Reader T K A → Next T K A B
  Counts : K → ℕ → Reader T K A → Next T K A B

abbrev pub turn : {T K A B : Type 0} → K → Bool → (A → Reader T K B) → Next T K A B → Reader T K B
turn k has_turn more (Ends q) = q
turn k has_turn more (More p) = within k has_turn (skip >> (p >>= more))
turn k has_turn more (Counts j most p) = counted j most (within k has_turn (skip >> (p >>= more)))

-- the loop with so many turns, and the kind of refusal if one more is needed
unfoldable pub turns : {T K A B : Type 0} → K → (A → Option T → Next T K A B) → ℕ → A → Reader T K B
turns k next zero a = choose (λ h. turn k false (λ b. too_large k) (next a h))
turns k next (suc n) a = choose (λ h. turn k true (turns k next n) (next a h))

-- The loop: a turn for each token that is left is enough, since each turn passes one. So the kind is one that no text gives.
unfoldable pub loop : {T K A B : Type 0} → K → (A → Option T → Next T K A B) → A → Reader T K B
loop k next a = λ c s. turns k next (length s) a c s
