-- The limits of the program, and which base ids are valid.
use Rattle.std.specs.Prelude.{ℕ, List, codes, Bool, ◌&&◌, ◌==◌, length}
use Rattle.spec_store.specs.Commit.{Setting}
use Rattle.std.specs.List.{list_all}
use Rattle.std.specs.Char.{is_ascii_alphanumeric}

-- the base id if the program is given none: 22 letters `A`
abbrev pub base_id : List ℕ
base_id = codes "AAAAAAAAAAAAAAAAAAAAAA"

abbrev pub program : Setting
program = record { base = base_id; max_rows = 4000000; max_slots = 256; max_notes = 65536 }

-- a valid base id: 22 ASCII letters or digits
abbrev pub is_base_id : List ℕ → Bool
is_base_id text = length text == 22 && list_all is_ascii_alphanumeric text
