-- What stored rows open: a machine, or the first row that is not valid.
use Rattle.std.specs.Prelude.{ℕ, pos, ◌+◌, List, [], ◌∷◌, ◌++◌, Bool, true, false, not, ◌&&◌, ◌||◌, ◌==◌, nat_le, nat_lt, if◌then◌else◌, Option, Some, None, Result, Ok, Err, length, codes, drop, map, ◌≡◌}
use Rattle.std.specs.List.{list_all, list_any}
use Rattle.std.specs.Option.{option_map}
use Rattle.std.specs.Ordering.{is_lt}
use Rattle.std.specs.Str.{bytes_eq}
use Rattle.spec_data.specs.Data.{Data, null, num, text, array, object, Items, no_items, item, Entries, no_entries, entries_of, pairs_of}
use Rattle.spec_data.specs.Faults.{is_fit}
use Rattle.spec_data.specs.Folding.{folded, key_cmp}
use Rattle.spec_data.specs.Members.{Path, member}
use Rattle.spec_data.specs.Rising.{without}
use Rattle.spec_data.specs.Rows.{Row, is_document}
use Rattle.spec_store.specs.Commit.{Setting, is_index_id}
use Rattle.index_tree.specs.Definitions.{Definition, Static, Auto, AutoReduce, Texts}
use Rattle.index_tree.specs.Mapper.{joined}
use Rattle.spec_store.specs.Store.{row_at, store_of}
pub use Rattle.spec_index.specs.World.{replaced_name}
use Rattle.spec_index.specs.World.{Slot, index_id, new_version, begins_with_auto, begins_with_replacement, is_reserved_name, max_index_name}
use Rattle.spec_server.specs.Courses.{Machine}
use Rattle.spec_server.specs.Machine.{machine_of}
use Rattle.spec_data.specs.Kept.{KeptRow}
use Rattle.spec_store.specs.Kept.{rows_in}

-- THE DEFINITION IN A BODY, as the server stores it

-- a part of a path has a byte, and none of `.`, `(` and `)`
abbrev pub is_part : List ℕ → Bool
is_part part = nat_lt 0 (length part) && not (list_any (λ b. (b == 46) || (b == 40) || (b == 41)) part)

abbrev pub and_then_some : {A B : Type 0} → Option A → (A → Option B) → Option B
and_then_some None more = None
and_then_some (Some a) more = more a

-- the texts of a list of texts
abbrev pub words_of : Items → Option (List (List ℕ))
words_of no_items = Some []
words_of (item (text t) more) = option_map (λ ts. t ∷ ts) (words_of more)
words_of (item other more) = None

-- a path has at least one part
abbrev pub is_path : Path → Bool
is_path path = nat_lt 0 (length path) && list_all is_part path

abbrev pub path_of : Data → Option Path
path_of (array ds) = and_then_some (words_of ds) (λ path. if is_path path then Some path else None)
path_of other = None

abbrev pub paths_of : Items → Option (List Path)
paths_of no_items = Some []
paths_of (item d more) = and_then_some (path_of d) (λ path. option_map (λ paths. path ∷ paths) (paths_of more))

-- each joined form is below the next
abbrev pub are_rising : List Path → Bool
are_rising [] = true
are_rising (p ∷ []) = true
are_rising (p ∷ q ∷ more) = is_lt (key_cmp (joined p) (joined q)) && are_rising (q ∷ more)

-- a list of paths in order
abbrev pub paths_read : Option Data → Option (List Path)
paths_read (Some (array ds)) = and_then_some (paths_of ds) (λ paths. if are_rising paths then Some paths else None)
paths_read other = None

abbrev pub is_empty_object : Option Data → Bool
is_empty_object (Some (object no_entries)) = true
is_empty_object other = false

abbrev pub is_kind : List ℕ → Option Data → Bool
is_kind kind (Some (text t)) = bytes_eq t kind
is_kind kind other = false

abbrev pub text_in : Option Data → Option (List ℕ)
text_in (Some (text t)) = Some t
text_in other = None

-- the definition of an automatic index without groups, from the four members of its body
abbrev pub auto_read : Option Data → Option Data → Option Data → Option Data → Option Definition
auto_read metadata collection fields kind =
    if is_empty_object metadata && is_kind (codes "auto") kind
    then and_then_some (text_in collection) (λ c. option_map (Auto c) (paths_read fields))
    else None

-- that of one with groups, from the five members of its body
abbrev pub reduce_read : Option Data → Option Data → Option Data → Option Data → Option Data → Option Definition
reduce_read metadata collection groups kind sums =
    if is_empty_object metadata && is_kind (codes "auto-reduce") kind
    then and_then_some (text_in collection) (λ c. and_then_some (paths_read groups) (λ gs. option_map (AutoReduce c gs) (paths_read sums)))
    else None

-- the texts of an index, from the four members of its body: that of a map, and that of a reduce or null
abbrev pub texts_read : Option Data → Option Data → Option Data → Option Data → Option Texts
texts_read (Some (object no_entries)) (Some (text kind)) (Some (text map)) (Some null) = if bytes_eq kind (codes "static") then Some (map, None) else None
texts_read (Some (object no_entries)) (Some (text kind)) (Some (text map)) (Some (text reduce)) = if bytes_eq kind (codes "static") then Some (map, Some reduce) else None
texts_read metadata kind map reduce = None

-- what a body says before its texts are read
pub data BodyForm : Type 0 where
  NoForm : BodyForm
  AutoForm : (definition : Definition) → BodyForm
  -- only in the second version there may be quotients
  StaticForm : (may_divide : Bool) (texts : Texts) → BodyForm

abbrev pub form_of : Option Definition → Option Texts → BodyForm
form_of (Some d) other = AutoForm d
form_of None (Some texts) = StaticForm false texts
form_of None None = NoForm

abbrev pub reduce_form : Option Definition → BodyForm
reduce_form None = NoForm
reduce_form (Some d) = AutoForm d

-- what a body of the first version says; it has exactly four members, or five for an automatic index with groups
abbrev pub first_form : Data → BodyForm
first_form (object ms) =
    if length (pairs_of ms) == 4
    then form_of (auto_read (member (codes "@metadata") ms) (member (codes "Collection") ms) (member (codes "Fields") ms) (member (codes "Kind") ms))
    (texts_read (member (codes "@metadata") ms) (member (codes "Kind") ms) (member (codes "Map") ms) (member (codes "Reduce") ms))
    else (
    if length (pairs_of ms) == 5
    then reduce_form (reduce_read (member (codes "@metadata") ms) (member (codes "Collection") ms) (member (codes "Groups") ms) (member (codes "Kind") ms) (member (codes "Sums") ms))
    else NoForm)
first_form other = NoForm

abbrev pub is_two : Data → Bool
is_two (num (pos n)) = n == 2
is_two other = false

-- these members without that which says the version, if it says the second one
abbrev pub without_version : Entries → Option Data → Option Data
without_version ms None = None
without_version ms (Some version) = if is_two version then Some (object (entries_of (without (codes "Version") (pairs_of ms)))) else None

-- what a body of the second version says beside its version
abbrev pub second_body : Data → Option Data
second_body (object ms) = without_version ms (member (codes "Version") ms)
second_body other = None

abbrev pub dividing : BodyForm → BodyForm
dividing (StaticForm may_divide texts) = StaticForm true texts
dividing other = other

abbrev pub form_by : Option Data → Data → BodyForm
form_by (Some second) body = dividing (first_form second)
form_by None body = first_form body

-- What the body says. One that says another version is of no form, since it has a member too many, or lacks one.
abbrev pub body_form : Data → BodyForm
body_form body = form_by (second_body body) body

-- ROWS OF DEFINITIONS

abbrev pub is_defining : Row → Bool
is_defining r = is_document r && bytes_eq r.collection (codes "@indexes")

-- the name in the id of a definition's row: what follows `@index/`
abbrev pub name_in : Row → List ℕ
name_in r = drop 7 r.id

-- a valid name of an automatic index
abbrev pub is_auto_name : List ℕ → Bool
is_auto_name name = is_fit max_index_name name && begins_with_auto name

-- a valid name of an index that a client defined
abbrev pub is_static_name : List ℕ → Bool
is_static_name name = is_fit max_index_name name && not (is_reserved_name name)

-- a definition by texts may also be a replacement, of an index with a valid name
abbrev pub may_be_named : Definition → List ℕ → Bool
may_be_named (Static map reduce map_text reduce_text) name = is_static_name (replaced_name name)
may_be_named (Auto collection fields) name = is_auto_name name
may_be_named (AutoReduce collection groups sums) name = is_auto_name name

abbrev pub is_live : Option Row → Bool
is_live None = false
is_live (Some r) = is_document r

-- if the name is that of a replacement, these rows have a live one for the index that it is to replace
abbrev pub is_beside : List Row → List ℕ → Bool
is_beside all name = not (begins_with_replacement name) || is_live (row_at (folded (index_id (replaced_name name))) all)

-- a row, and the definition that its body was read as, if it is the row of one
pub record ReadRow : Type 0 where
  pub row : Row
  pub definition : Option Definition

-- the id begins with `@index/` exactly if the collection is `@indexes`
abbrev pub is_filed : Row → Bool
is_filed r = if bytes_eq r.collection (codes "@indexes") then is_index_id r.id else not (is_index_id r.id)

-- after so many rows and these slots, the row is past the limit of rows or, if it is a definition, of slots
abbrev pub is_too_many : Setting → ℕ → List Slot → Row → Bool
is_too_many s rows slots r = nat_le s.max_rows rows || (is_defining r && nat_le s.max_slots (length slots))

-- the slot of a definition's row: its index has recorded nothing yet
abbrev pub slot_of : Row → Definition → Slot
slot_of r d = record { number = r.etag; name = name_in r; version = new_version d; row = r.etag }

-- The slots with that of the row, which is one of `all`. Nothing if the row has no definition, if the definition may not have the row's name, or
-- if it is to replace an index that has no row.
abbrev pub with_slot : List Row → List Slot → Row → Option Definition → Option (List Slot)
with_slot all slots r None = None
with_slot all slots r (Some d) = if may_be_named d (name_in r) && is_beside all (name_in r) then Some (slots ++ slot_of r d ∷ []) else None

abbrev pub slots_with : List Row → List Slot → ReadRow → Option (List Slot)
slots_with all slots x = if is_defining x.row then with_slot all slots x.row x.definition else Some slots

abbrev pub slots_after : Setting → List Row → ℕ → List Slot → ReadRow → Option (List Slot)
slots_after s all rows slots x = if is_too_many s rows slots x.row || not (is_filed x.row) then None else slots_with all slots x

-- THE WORLD: one row after another, in order of etag; the error is the etag of the first row that is not valid

abbrev pub or_bad : ℕ → Option (List Slot) → Result (List Slot) ℕ
or_bad etag None = Err etag
or_bad etag (Some slots) = Ok slots

abbrev pub and_then : Result (List Slot) ℕ → (List Slot → Result (List Slot) ℕ) → Result (List Slot) ℕ
and_then (Err etag) more = Err etag
and_then (Ok slots) more = more slots

abbrev pub slots_from : Setting → List Row → ℕ → List Slot → List ReadRow → Result (List Slot) ℕ
slots_from s all count slots [] = Ok slots
slots_from s all count slots (x ∷ xs) = and_then (or_bad x.row.etag (slots_after s all count slots x)) (λ more. slots_from s all (count + 1) more xs)

abbrev pub opened_with : Setting → List Row → Result (List Slot) ℕ → Result Machine ℕ
opened_with s rows (Err etag) = Err etag
opened_with s rows (Ok slots) = Ok (machine_of (record { setting = s; store = store_of rows; slots = slots; notes = [] }))

abbrev pub rows_of : List ReadRow → List Row
rows_of xs = map (λ x. x.row) xs

-- the machine that these rows of a store open, which begin `all`, or the etag of the first that is not valid
abbrev pub opened : Setting → List Row → List ReadRow → Result Machine ℕ
opened s all xs = opened_with s (rows_of xs) (slots_from s all 0 [] xs)

-- the stored rows open this machine, with the definitions in `read` as what was read of them
pub record OpenedFrom (s : Setting) (held : List KeptRow) (M : Machine) : Type 0 where
  pub read : List ReadRow
  pub rows : rows_in s.max_rows held ≡ Ok (rows_of read)
  pub opens : opened s (rows_of read) read ≡ Ok M
