-- What a keeper is asked to do and what it does, as far as it reports it.
use Rattle.std.specs.Prelude.{◌≡◌, ◌≤◌, ℕ, List, [], ◌∷◌, Bool, true, false, not, Option, option_map, IfSome}
use Rattle.spec_data.specs.Rows.{Row}
use Rattle.spec_store.specs.Cleaning.{kept_by}
use Rattle.raven_ports.specs.Faults.{Rose}
use Rattle.raven_ports.specs.Plan.{is_failing, one_later}
use Rattle.raven_ports.specs.States.{KeeperState}

-- to store these rows; or, with an etag, to remove the tombstones up to it, which are these rows
pub record Task : Type 0 where
  pub rows : List Row
  pub cleans : Option ℕ

-- It was asked this once. It did it, or it failed, and then its count rose. If it reports which calls fail, it failed exactly at one of these.
pub record AskedOnce (before after : KeeperState) (taken : Bool) (rows : List Row) (cleans : Option ℕ) : Type 0 where
  pub kept : taken ≡ true → after.held ≡ option_map (kept_by rows cleans) before.held
  pub failed : taken ≡ false → (after.held ≡ before.held) × Rose before.count after.count
  pub planned : IfSome before.plan (λ p. taken ≡ not (is_failing p))
  pub called : after.plan ≡ option_map one_later before.plan
  pub later : before.count ≤ after.count

-- It was asked a task, unless that has no rows, and then more. If it did not take it, it was asked no more. Of each call `takes` says whether it took it.
abbrev pub AskedAnd : KeeperState → KeeperState → List Bool → List Row → Option ℕ → (KeeperState → List Bool → Type 0) → Type 0
AskedAnd before after takes [] cleans more = more before takes
AskedAnd before after [] (r ∷ rows) cleans more = ⊥
AskedAnd before after (true ∷ takes) (r ∷ rows) cleans more = (between : KeeperState) × AskedOnce before between true (r ∷ rows) cleans × more between takes
AskedAnd before after (false ∷ takes) (r ∷ rows) cleans more = (takes ≡ []) × AskedOnce before after false (r ∷ rows) cleans

-- It was asked each of these tasks that has rows, one after another, up to the first that it did not take.
abbrev pub Asked : KeeperState → KeeperState → List Bool → List Task → Type 0
Asked before after takes [] = (takes ≡ []) × (after ≡ before)
Asked before after takes (t ∷ more) = AskedAnd before after takes t.rows t.cleans (λ between left. Asked between after left more)
