-- A document as it is shown.
use Rattle.std.specs.Prelude.{codes}
use Rattle.spec_data.specs.Data.{Data, object, entries_of, pairs_of}
use Rattle.spec_data.specs.Rising.{put}

-- with this metadata, if it is an object
abbrev pub shown_with : Data → Data → Data
shown_with (object ms) metadata = object (entries_of (put (codes "@metadata") metadata (pairs_of ms)))
shown_with other metadata = other
