-- What a request has to be for what it writes to open again.
use Rattle.std.specs.Prelude.{◌≡◌, List, ◌++◌, Bool, true, false, ◌&&◌, nat_le}
use Rattle.std.specs.List.{list_all, list_any}
use Rattle.spec_data.specs.Data.{Data, object, depth}
use Rattle.spec_data.specs.Limits.{max_depth}
use Rattle.spec_store.specs.Commit.{Command}
use Rattle.spec_index.specs.World.{is_automatic}
use Rattle.spec_query.specs.Fields.{asked_fields, selected_fields}
use Rattle.spec_query.specs.Query.{Field, At, Count, Sum, Query}
use Rattle.spec_server.specs.Requests.{Line, Do, Put, Bulk, Define, Multi, Auto, Ask}
use Rattle.spec_server.specs.Opening.{is_part, is_path}

-- a document as JSON can have it: an object at most a hundred deep
abbrev pub is_body : Data → Bool
is_body (object ms) = nat_le (depth (object ms)) max_depth
is_body other = false

-- what the command puts, if it puts something, is such a document
abbrev pub puts_body : Command → Bool
puts_body (Command.Put id expected body) = is_body body
puts_body (Command.Delete id expected) = true

abbrev pub put_bodies : List Command → Bool
put_bodies commands = list_all puts_body commands

-- its path, if it names one, can be that of an index
abbrev pub has_valid_path : Field → Bool
has_valid_path (At path) = is_path path
has_valid_path Count = true
has_valid_path (Sum path) = is_path path

-- so can all paths that a query names, but for those that it includes, which no index has
abbrev pub has_valid_paths : Query → Bool
has_valid_paths q = list_all is_path q.groups && list_all has_valid_path (asked_fields q ++ selected_fields q)

-- Documents are such documents, an index by name is no automatic one, since those are the server's, and the paths of an automatic index can be
-- read back.
abbrev pub IsWellFormed : Line → Type 0
IsWellFormed (Do (Put id expected body)) = is_body body ≡ true
IsWellFormed (Do (Bulk commands)) = put_bodies commands ≡ true
IsWellFormed (Do (Define name definition)) = is_automatic definition ≡ false
IsWellFormed (Do (Auto collection field)) = is_part field ≡ true
IsWellFormed (Do (Ask ask)) = has_valid_paths ask.query ≡ true
IsWellFormed (Do (Multi parts)) = list_any (λ p. is_automatic p.1) parts ≡ false
IsWellFormed other = Unit {0}
