-- Which texts are base ids.
use Rattle.std.specs.Prelude.{ℕ, List, if◌then◌else◌, Option, Some, None}
use Rattle.spec_store.specs.Limits.{is_base_id}

abbrev pub read_base_id : List ℕ → Option (List ℕ)
read_base_id text = if is_base_id text then Some text else None
