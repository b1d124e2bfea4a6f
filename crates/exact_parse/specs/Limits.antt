-- Where a spelling is past its limits.
use Rattle.std.specs.Prelude.{ℕ, zero, suc, ◌+◌, if◌then◌else◌, nat_lt, List}

-- the count so far; or the kind of the limit, and the tokens from the first one on that is past it
pub data Verdict (T K : Type 0) : Type 0 where
  Fine : ℕ → Verdict T K
  Over : K → List T → Verdict T K

abbrev pub and_fine : {T K : Type 0} → Verdict T K → (ℕ → Verdict T K) → Verdict T K
and_fine (Fine c) f = f c
and_fine (Over k p) f = Over k p

-- a token that opens a part, with room for so many
abbrev pub opens : {T K : Type 0} → K → ℕ → List T → (ℕ → Verdict T K) → Verdict T K
opens k zero p f = Over k p
opens k (suc room) p f = f room

-- a token that counts, of which there may be so many
abbrev pub counts : {T K : Type 0} → K → ℕ → ℕ → List T → (ℕ → Verdict T K) → Verdict T K
counts k most c p f = if nat_lt c most then f (c + 1) else Over k p
