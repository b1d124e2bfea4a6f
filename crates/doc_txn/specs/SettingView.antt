-- The base id and the limits of the program, and what they are.
use Rattle.std.specs.Prelude.{ℕ, List}
use Rattle.spec_store.specs.Commit.{Setting}
use Rattle.doc_txn.specs.declared.limits.Limits.{Limits}

abbrev pub setting_of : List ℕ → Limits → Setting
setting_of base limits = record { base = base; max_rows = limits.rows; max_slots = limits.slots; max_notes = limits.notes }
