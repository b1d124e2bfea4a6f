-- What clients and workers may ask, and the events of a run.
use Rattle.std.specs.Prelude.{◌≡◌, ℕ, List, [], ◌∷◌, Bool, true, false, Option}
use Rattle.std.specs.List.{list_any}
use Rattle.spec_data.specs.Data.{Data}
use Rattle.index_tree.specs.Definitions.{Definition}
use Rattle.spec_query.specs.Query as query
use Rattle.spec_store.specs.Commit.{Command, Expect}
use Rattle.spec_index.specs.World.{is_automatic}

pub data Request : Type 0 where
  Put : (id : List ℕ) (expected : Expect) (body : Data) → Request
  Delete : (id : List ℕ) (expected : Expect) → Request
  Bulk : (commands : List Command) → Request
  Get : (id : List ℕ) → Request
  Define : (name : List ℕ) (definition : Definition) → Request
  -- the parts of an index of several maps are defined, one after another
  Multi : (parts : List (List ℕ × Definition)) → Request
  Remove : (name : List ℕ) → Request
  Auto : (collection field : List ℕ) → Request
  Find : (index field words : List ℕ) → Request
  Ask : (ask : query.Ask) → Request
  -- a query of an index of several maps
  Mask : (ask : query.Ask) → Request
  -- one batch for each index, or for the one of this name
  Pump : (max : ℕ) (index : Option (List ℕ)) → Request
  -- the replacement of the index of this name takes the name
  Switch : (name : List ℕ) → Request
  -- each replacement that is not stale takes its name, and automatic indexes that are no longer needed go
  Tidy : Request
  -- the tombstones that no index has to read any more go
  Clean : Request
  Stale : (name : List ℕ) (cutoff : Option ℕ) → Request
  Indexes Stats : Request

-- what one line asks
pub data Line : Type 0 where
  Do : Request → Line
  -- the worker reads a batch of at most `max` rows for the index of this name, and holds it
  Read : (worker max : ℕ) (index : List ℕ) → Line
  -- the worker publishes the batch that it holds
  Publish : (worker : ℕ) → Line

-- whether it may store rows more than once, one change after another
abbrev pub makes_several : Request → Bool
makes_several (Multi parts) = true
makes_several Tidy = true
makes_several other = false

-- the commands that a client's request asks to write
abbrev pub commands_in : Request → List Command
commands_in (Put id expected body) = Command.Put id expected body ∷ []
commands_in (Delete id expected) = Command.Delete id expected ∷ []
commands_in (Bulk commands) = commands
commands_in other = []

-- the commands that a line asks to write
abbrev pub commands_on : Line → List Command
commands_on (Do request) = commands_in request
commands_on other = []

-- EVENTS

-- What the keeper does in one step: for each call that stores rows, in order, whether it takes them, and its counts of faults before and after.
-- A call past the end of the list takes its rows.
pub record Keeping : Type 0 where
  pub takes : List Bool
  pub before : ℕ
  pub after : ℕ

-- a keeper that takes all
abbrev pub takes_all : Keeping
takes_all = record { takes = []; before = 0; after = 0 }

-- what a line asks, the moment at which it comes, and what the keeper does
pub record Event : Type 0 where
  pub line : Line
  pub now : ℕ
  pub keeping : Keeping

-- what a client may send: it defines no automatic index, since the server makes those
abbrev pub IsFromClient : Line → Type 0
IsFromClient (Do (Define name definition)) = is_automatic definition ≡ false
IsFromClient (Do (Multi parts)) = list_any (λ p. is_automatic p.1) parts ≡ false
IsFromClient other = Unit {0}

abbrev pub AreFromClients : List Event → Type 0
AreFromClients [] = Unit {0}
AreFromClients (e ∷ es) = IsFromClient e.line × AreFromClients es
