-- What opens from the rows of a database, if each definition stands in the second version.
use Rattle.std.specs.Prelude.{◌≡◌, ◌≤◌, List, [], ◌∷◌, Ok, length, map}
use Rattle.spec_data.specs.Kept.{all_kept}
use Rattle.spec_data.specs.Rows.{Row, Body, doc, gone}
use Rattle.spec_data.specs.Written.{text_of}
use Rattle.spec_store.specs.Commit.{Setting}
use Rattle.spec_store.specs.Kept.{max_body}
use Rattle.spec_store.specs.Store.{store_of}
use Rattle.spec_server.specs.Courses.{Machine}
use Rattle.spec_index.specs.World.{World}
use Rattle.raven_laws.specs.Versions.{upgraded}
use Rattle.index_lang.specs.Openings.{IsOpened}

-- the text is no longer than one that may be stored
abbrev pub IsShort : Body → Type 0
IsShort (doc d) = length (text_of d) ≤ max_body
IsShort gone = Unit {0}

abbrev pub AreShort : List Row → Type 0
AreShort [] = Unit {0}
AreShort (r ∷ rows) = IsShort r.body × AreShort rows

-- these rows, with the member `Version` in the body of each definition, open a machine with the same indexes
pub record OpensUpgraded (s : Setting) (W : World) : Type 0 where
  pub machine : Machine
  pub opens : IsOpened s (all_kept (map upgraded W.store.rows)) (Ok machine)
  pub store : machine.world.store ≡ store_of (map upgraded W.store.rows)
  pub slots : machine.world.slots ≡ W.slots
