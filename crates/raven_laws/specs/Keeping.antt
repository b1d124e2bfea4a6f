-- What a keeper stores after events.
use Rattle.std.specs.Prelude.{◌≡◌, ◌≤◌, ◌-◌, ℕ, List, [], ◌∷◌, Bool, if◌then◌else◌, Option, Some, None}
use Rattle.spec_data.specs.Kept.{KeptRow}
use Rattle.spec_store.specs.Cleaning.{clean, kept_by, old_tombstones}
use Rattle.spec_store.specs.Commit.{AreNext}
use Rattle.spec_store.specs.Store.{Store, last, with_rows}
use Rattle.spec_server.specs.Requests.{Event}
use Rattle.spec_server.specs.Courses.{Machine, Change, is_taken, takes_after}
use Rattle.spec_server.specs.Machine.{after, changes_of}

-- the store of a change is the one before it with the rows of the change, whose etags go on from its last
pub record IsStored (S : Store) (c : Change) : Type 0 where
  pub store : c.world.store ≡ with_rows S c.rows
  pub next : AreNext (last S) c.rows

-- it is the one before it without the rows of the change, which are its tombstones up to an etag that is below the last
pub record IsCleared (S : Store) (c : Change) (upto : ℕ) : Type 0 where
  pub store : c.world.store ≡ clean upto S
  pub rows : c.rows ≡ old_tombstones upto S.rows
  pub below : upto ≤ last S - 1

abbrev pub IsDone : Store → Change → Option ℕ → Type 0
IsDone S c None = IsStored S c
IsDone S c (Some upto) = IsCleared S c upto

-- the change does to the store what it asks of the keeper
abbrev pub IsItsRows : Store → Change → Type 0
IsItsRows S c = IsDone S c c.cleans

-- so one change after another
abbrev pub AreTheirRows : Store → List Change → Type 0
AreTheirRows S [] = Unit {0}
AreTheirRows S (c ∷ more) = IsItsRows S c × AreTheirRows c.world.store more

-- the changes that are made: those before the first whose rows the keeper does not take
abbrev pub changes_made : List Bool → List Change → List Change
changes_made takes [] = []
changes_made takes (c ∷ more) = if is_taken takes c.rows then c ∷ changes_made (takes_after c.rows takes) more else []

abbrev pub kept_after_one : Change → List KeptRow → List KeptRow
kept_after_one c held = kept_by c.rows c.cleans held

-- what the keeper stores after all of these, if it stored `held` before
abbrev pub kept_after_all : List Change → List KeptRow → List KeptRow
kept_after_all [] held = held
kept_after_all (c ∷ more) held = kept_after_all more (kept_after_one c held)

-- what the keeper stores after an event
abbrev pub kept_after_event : Machine → Event → List KeptRow → List KeptRow
kept_after_event M e held = kept_after_all (changes_made e.keeping.takes (changes_of M.world e.now e.line)) held

-- what the keeper stores after the events, if it stored `held` before
abbrev pub stored_after : List Event → Machine → List KeptRow → List KeptRow
stored_after [] M held = held
stored_after (e ∷ es) M held = stored_after es (after M e) (kept_after_event M e held)
