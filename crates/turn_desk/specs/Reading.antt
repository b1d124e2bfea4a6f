-- Requests that change no world.
use Rattle.std.specs.Prelude.{Bool, true, false}
use Rattle.spec_server.specs.Requests.{Request, Find, Get, Indexes, Mask, Stale, Stats}

-- A query of one index is not among them: it may make that index.
abbrev pub changes_nothing : Request → Bool
changes_nothing (Get id) = true
changes_nothing (Find index field words) = true
changes_nothing (Mask ask) = true
changes_nothing (Stale name cutoff) = true
changes_nothing Indexes = true
changes_nothing Stats = true
changes_nothing other = false
