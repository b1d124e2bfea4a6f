-- What is loaded from a keeper.
use Rattle.std.specs.Prelude.{◌≡◌, ℕ, ◌+◌, ◌-◌, ◌*◌, ◌<◌, List, length, Option, None, IfSome, Result, Err}
use Rattle.spec_data.specs.Kept.{KeptRow, EtagsRise, kept_after}
use Rattle.spec_data.specs.Rows.{Row}
use Rattle.spec_store.specs.Kept.{rows_in}
use Rattle.raven_ports.specs.Plan.{Plan, calls_later}
use Rattle.doc_keeper.specs.declared.loading.LoadFault.{LoadFault}
use Rattle.doc_keeper.specs.declared.loading.LoadFault.TheVariants.{Failed, KeptBad, NoMemory}

-- how many rows are loaded at a time
abbrev pub page_length : ℕ
page_length = 1024

-- a keeper gave these rows past an etag
pub record IsPage (held : Option (List KeptRow)) (after : Option ℕ) (page : List KeptRow) : Type 0 where
  pub rows : IfSome held (λ all. page ≡ kept_after after page_length all)
  pub order : IfSome held (λ all. EtagsRise None all)
  pub rising : EtagsRise after page

-- these are the rows in what the keeper gave, or the etag of the first bad one; if the keeper reports what it holds, it gave all of that
pub record IsLoaded (max : ℕ) (held : Option (List KeptRow)) (loaded : Result (List Row) ℕ) : Type 0 where
  pub given : List KeptRow
  pub rising : EtagsRise None given
  pub all : IfSome held (λ rows. given ≡ rows)
  pub rows : rows_in max given ≡ loaded

-- a bad row is the first invalid one, and is named by its etag
abbrev pub IsCause : ℕ → Option (List KeptRow) → LoadFault → Type 0
IsCause max held Failed = Unit {0}
IsCause max held (KeptBad etag) = IsLoaded max held (Err etag)
IsCause max held NoMemory = Unit {0}

-- a bad row is the first invalid one among the rows of a page, and is named by its etag
abbrev pub IsPageFault : LoadFault → Result (List Row) ℕ → Type 0
IsPageFault Failed loaded = ⊥
IsPageFault (KeptBad etag) loaded = loaded ≡ Err etag
IsPageFault NoMemory loaded = Unit {0}

-- Some calls later: no more than one for each page of what the keeper holds, if it reports that, and one that finds no more.
pub record AreCalls (held : Option (List KeptRow)) (before after : Option Plan) : Type 0 where
  pub calls : ℕ
  pub after_them : after ≡ calls_later calls before
  pub few : IfSome held (λ all. page_length * (calls - 1) < length all + page_length)
