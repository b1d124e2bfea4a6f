-- The limits of data.
use Rattle.std.specs.Prelude.{ℕ}

-- the greatest etag; up to it a double holds every whole number exactly
abbrev pub max_etag : ℕ
max_etag = 9007199254740991

-- every moment is below this, which is the end of the year 9998, in microseconds since 1970-01-01T00:00:00Z
abbrev pub moments_end : ℕ
moments_end = 253370764800000000

-- the longest text of a document, in bytes
abbrev pub max_body : ℕ
max_body = 1048576

-- the longest id, in bytes
abbrev pub max_id : ℕ
max_id = 512

-- the longest name of an index, in bytes
abbrev pub max_name : ℕ
max_name = 214

-- the longest name of a definition, in bytes
abbrev pub max_index_name : ℕ
max_index_name = 200

-- how many brackets of a JSON text may be open at once
abbrev pub max_depth : ℕ
max_depth = 100
