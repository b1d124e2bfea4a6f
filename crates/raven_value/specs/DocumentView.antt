-- The text of a document, and the data that it is read as.
use Rattle.std.specs.Prelude.{refl, ◌≡◌, ◌<◌, ◌≤◌, ℕ, List, [], ◌∷◌, ◌++◌, Result, Ok, Err, codes, length, true}
use Rattle.spec_data.specs.Data.{Data, null, object, Entries, entry, depth}
use Rattle.spec_data.specs.Json.{JsonRefusal, reading}
use Rattle.spec_data.specs.Limits.{max_depth}
use Rattle.spec_data.specs.Sound.{IsSound}
use Rattle.spec_data.specs.Written.{text_of, entries_text}

abbrev or_null : Result Data JsonRefusal → Data
or_null (Ok d) = d
or_null (Err e) = null

-- what the bytes are read as, and null if they are refused
pub data_in : List ℕ → Data
data_in bytes = or_null (reading bytes)

-- the bytes are the text that is written for what they are read as
pub record IsWritten (bytes : List ℕ) : Type 0 where
  pub written : text_of (data_in bytes) ≡ bytes
  pub sound : IsSound (data_in bytes)
  pub shallow : depth (data_in bytes) ≤ max_depth

-- the first member is the metadata, which is an object whose text has so many bytes
abbrev BeginsWith : ℕ → Entries → Type 0
BeginsWith n (entry k (object ms) rest) = (k ≡ codes "@metadata") × (length (text_of (object ms)) ≡ n)
BeginsWith n other = ⊥

-- as many bytes as the text of the metadata has, if this is the first member and an object; 0 says nothing
abbrev pub IsHead : ℕ → Data → Type 0
IsHead n (object ms) = 0 < n → BeginsWith n ms
IsHead n other = 0 < n → ⊥

abbrev EntriesSplit : Entries → List ℕ → List ℕ → Type 0
EntriesSplit (entry k (object ms) rest) head behind = (k ≡ codes "@metadata") × ((text_of (object ms) ≡ head) × (entries_text true rest ++ 125 ∷ [] ≡ behind))
EntriesSplit other head behind = ⊥

-- the first member is the metadata, an object of this text, and this stands behind it
abbrev pub Splits : Data → List ℕ → List ℕ → Type 0
Splits (object ms) head behind = EntriesSplit ms head behind
Splits other head behind = ⊥

pub data_in-read : (bytes : List ℕ) (d : Data) → reading bytes ≡ Ok d → data_in bytes ≡ d
unfolding data_in
data_in-read bytes d h = rw h refl
