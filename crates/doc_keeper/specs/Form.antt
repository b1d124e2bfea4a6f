-- Why a kept row is refused.
use Rattle.std.specs.Prelude.{◌≡◌, Option, None}
use Rattle.spec_data.specs.Kept.{KeptRow}
use Rattle.spec_data.specs.Rows.{Row}
use Rattle.doc_store.specs.declared.opening.OpenFault.{OpenFault}
use Rattle.doc_store.specs.declared.opening.OpenFault.TheVariants.{KeptBad, NoMemory}

-- a bad row is no row of a store, and is named by its etag; memory may run out anywhere
abbrev pub IsRowFault : OpenFault → KeptRow → Option Row → Type 0
IsRowFault (KeptBad etag) k row = (etag ≡ k.etag) × (row ≡ None)
IsRowFault NoMemory k row = Unit {0}
