-- Which row keeps a world from being opened, and what is taken of one.
use Rattle.std.specs.Prelude.{◌≡◌, ℕ, List, [], ◌++◌, Bool, Option, Some, None, Ok, drop, length, if◌then◌else◌}
use Rattle.spec_data.specs.Rows.{Row}
use Rattle.spec_store.specs.Commit.{Setting}
use Rattle.index_tree.specs.Definitions.{Definition}
use Rattle.spec_server.specs.Opening.{ReadRow, rows_of, slots_after, slots_from}
use Rattle.spec_index.specs.World.{Slot}
use Rattle.index_lang.specs.Openings.{AreReadRows, EndsAt, IsReadRow}
use Rattle.doc_store.specs.declared.opening.OpenFault.{OpenFault}
use Rattle.doc_store.specs.declared.opening.OpenFault.TheVariants.{KeptBad, NoMemory}
use Rattle.doc_txn.specs.SettingView.{setting_of}
use Rattle.doc_txn.specs.declared.limits.Limits.{Limits}

-- a bad row is named by its etag; memory may run out at any point
abbrev pub TellsBadRow : Setting → List Row → OpenFault → Type 0
TellsBadRow s rows (KeptBad etag) = EndsAt s rows etag
TellsBadRow s rows NoMemory = Unit {0}

abbrev pub read_as : Row → Option Definition → ReadRow
read_as r d = record { row = r; definition = d }

-- what is read of the row, which is one of `all`, makes these slots of those, if it is good
pub record TakesRow (limits : Limits) (all : List Row) (count : ℕ) (old new : List Slot) (r : Row) (is_good : Bool) : Type 0 where
  pub definition : Option Definition
  pub right : IsReadRow (read_as r definition)
  pub taken : (base : List ℕ) → (if is_good then Some new else None) ≡ slots_after (setting_of base limits) all count old (read_as r definition)

-- so many of all rows were read, and are those of these slots
pub record HasRead (s : Setting) (all : List Row) (many : ℕ) (found : List Slot) : Type 0 where
  pub read : List ReadRow
  pub rows : rows_of read ++ drop many all ≡ all
  pub count : length read ≡ many
  pub right : AreReadRows read
  pub slots : slots_from s all 0 [] read ≡ Ok found
