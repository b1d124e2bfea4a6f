-- The body after a head.
use Rattle.std.specs.Prelude.{◌≡◌, ℕ, ◌+◌, ◌<◌, ◌≤◌, ◌⊎◌, ◌==◌, nat_lt, List, [], ◌∷◌, ◌++◌, length, take, drop, if◌then◌else◌}
use Rattle.http_read.specs.declared.fields.Framing.{Framing}
use Rattle.http_read.specs.declared.fields.Framing.TheVariants.{Sized, Chunked}
use Rattle.http_read.specs.declared.end.HttpEnd.{HttpEnd}
use Rattle.http_read.specs.declared.end.HttpEnd.TheVariants.{BodyTooLarge, BadChunk, Truncated}
use Rattle.httparse.specs.Grammar.{ChunkLine, chunk_size, print_chunk_line, ReadsChunkLine, HasNoChunkLine, NeverHasChunkLine}

-- the longest body
abbrev pub max_body : ℕ
max_body = 4194304

-- the longest chunk line with its line end
abbrev pub max_line : ℕ
max_line = 64

-- bytes and what follows them, or why there is no request
pub data Found : Type 0 where
  Whole : List ℕ → List ℕ → Found
  Fails : HttpEnd → Found

-- these bytes before those found
abbrev pub put_before : List ℕ → Found → Found
put_before bytes (Whole found rest) = Whole (bytes ++ found) rest
put_before bytes (Fails end) = Fails end

-- so many bytes
abbrev pub bytes_of : ℕ → List ℕ → Found
bytes_of n bytes = if nat_lt (length bytes) n then Fails Truncated else Whole (take n bytes) (drop n bytes)

-- a body whose length is stated
abbrev pub sized : ℕ → List ℕ → Found
sized n bytes = if nat_lt max_body n then Fails BodyTooLarge else bytes_of n bytes

-- these bytes of a chunk, if CR LF follows
abbrev pub ended_by : List ℕ → List ℕ → Found
ended_by chunk [] = Fails Truncated
ended_by chunk (b ∷ []) = if b == 13 then Fails Truncated else Fails BadChunk
ended_by chunk (b ∷ c ∷ rest) = if b == 13 then (if c == 10 then Whole chunk rest else Fails BadChunk) else Fails BadChunk

abbrev pub ended : Found → Found
ended (Whole chunk rest) = ended_by chunk rest
ended (Fails end) = Fails end

-- the bytes of a chunk after its line, and CR LF
abbrev pub chunk_of : ℕ → List ℕ → Found
chunk_of n bytes = ended (bytes_of n bytes)

-- the size that a chunk line states and what follows the line, or why there is no request
pub data LineFound : Type 0 where
  Line : ℕ → List ℕ → LineFound
  Cut : HttpEnd → LineFound

-- the bytes begin with this chunk line, or fail so
abbrev pub IsLine : List ℕ → LineFound → Type 0
IsLine bytes (Line size rest) = (line : ChunkLine) × ReadsChunkLine bytes line rest × (length (print_chunk_line line) ≤ max_line) × (size ≡ chunk_size line)
IsLine bytes (Cut BadChunk) = NeverHasChunkLine (take max_line bytes) ⊎ ((max_line ≤ length bytes) × HasNoChunkLine (take max_line bytes))
IsLine bytes (Cut Truncated) = (length bytes < max_line) × HasNoChunkLine bytes × ¬ (NeverHasChunkLine bytes)
IsLine bytes (Cut _) = ⊥

-- the bytes begin with chunks up to one of size 0, or fail so; the chunks before them have so many bytes
pub data IsChunks : ℕ → List ℕ → Found → Type 0 where
  cut : {so_far : ℕ} {bytes : List ℕ} {end : HttpEnd} → IsLine bytes (Cut end) → IsChunks so_far bytes (Fails end)
  large : {so_far : ℕ} {bytes : List ℕ} (size : ℕ) (rest : List ℕ) → IsLine bytes (Line size rest) → max_body < so_far + size → IsChunks so_far bytes (Fails BodyTooLarge)
  broken : {so_far : ℕ} {bytes : List ℕ} {end : HttpEnd} (size : ℕ) (rest : List ℕ) → IsLine bytes (Line size rest) → so_far + size ≤ max_body → chunk_of size rest ≡ Fails end → IsChunks so_far bytes (Fails end)
  last : {so_far : ℕ} {bytes chunk after : List ℕ} (rest : List ℕ) → IsLine bytes (Line 0 rest) → so_far ≤ max_body → chunk_of 0 rest ≡ Whole chunk after → IsChunks so_far bytes (Whole chunk after)
  more : {so_far : ℕ} {bytes chunk : List ℕ} {found : Found} (size : ℕ) (rest after : List ℕ) → IsLine bytes (Line size rest) → 0 < size → so_far + size ≤ max_body → chunk_of size rest ≡ Whole chunk after
      → IsChunks (so_far + size) after found → IsChunks so_far bytes (put_before chunk found)

-- the bytes begin with this body, or fail so
abbrev pub IsBody : Framing → List ℕ → Found → Type 0
IsBody (Sized n) bytes found = found ≡ sized n bytes
IsBody Chunked bytes found = IsChunks 0 bytes found
