-- What the refusals of the program are.
use Rattle.std.specs.Prelude.{◌≡◌, ℕ, Option, Some, Result, Err}
use Rattle.spec_store.specs.Commit as is
use Rattle.doc_txn.specs.declared.fault.TxnKind.{TxnKind}
use Rattle.doc_txn.specs.declared.fault.TxnKind.TheVariants as k
use Rattle.doc_txn.specs.declared.fault.TxnFault.{TxnFault}
use Rattle.doc_txn.specs.declared.fault.TxnFault.TheVariants as f

abbrev pub kind_view : TxnKind → is.Refusal
kind_view k.ReservedId = is.ReservedId
kind_view (k.TooLarge len) = is.TooLarge len
kind_view (k.CollectionChanged from) = is.CollectionChanged from
kind_view (k.Conflict expected found) = is.Conflict expected found
kind_view (k.StoreFull rows) = is.StoreFull rows
kind_view (k.EtagsSpent last) = is.EtagsSpent last

-- a refusal is that of the transaction, in its place and kind; memory alone may run out at any point
abbrev pub Refuses : TxnFault → Result is.Written is.Refused → Type 0
Refuses (f.Refused at kind) outcome = outcome ≡ Err (record { at = at; kind = kind_view kind })
Refuses f.NoMemory outcome = Unit {0}

-- the same of the command at this place, by the first of the tests that refuses it
abbrev pub RefusesAt : ℕ → TxnFault → Option is.Refusal → Type 0
RefusesAt place (f.Refused at kind) refusal = (at ≡ place) × (refusal ≡ Some (kind_view kind))
RefusesAt place f.NoMemory refusal = Unit {0}
