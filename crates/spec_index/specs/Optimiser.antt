-- Which automatic index answers a query, and the name of a new one.
use Rattle.std.specs.Prelude.{ℕ, ◌+◌, suc, zero, List, [], ◌∷◌, ◌++◌, Bool, true, false, not, ◌&&◌, ◌||◌, nat_lt, nat_le, if◌then◌else◌, Option, Some, None, is_some, length, codes, filter, flat_map, map, sum_by}
use Rattle.std.specs.List.{list_any, list_all}
use Rattle.std.specs.Str.{bytes_eq}
use Rattle.std.specs.Fmt.{decimal}
use Rattle.std.specs.Cmp.Lexicographic.{pointwise, slice_cmp}
use Rattle.std.specs.declared.cmp.Ordering.{Ordering}
use Rattle.std.specs.Ordering.{is_gt, match_ordering, ordering_then}
use Rattle.spec_data.specs.Folding.{key_cmp}
use Rattle.spec_data.specs.Faults.{is_fit}
use Rattle.spec_data.specs.Limits.{max_index_name}
use Rattle.spec_data.specs.Members.{Path}
use Rattle.spec_store.specs.Commit.{Delete, AnyVector}
use Rattle.spec_store.specs.Store.{Store}
use Rattle.spec_store.specs.Stale.{stale}
use Rattle.index_tree.specs.Definitions.{Definition, Static, Auto, AutoReduce}
use Rattle.index_tree.specs.Mapper.{joined}
use Rattle.spec_index.specs.World.{Slot, SlotChange, World, index_id, reads, serving}

-- what a query asks of an index, and what an automatic index has: without groups its fields, and with groups what is summed for each of them
pub record Shape : Type 0 where
  pub collection : List ℕ
  pub grouped : Bool
  pub groups : List Path
  pub fields : List Path

-- the shape of an automatic index; a static one has none
abbrev pub shape_of : Definition → Option Shape
shape_of (Static map reduce map_text reduce_text) = None
shape_of (Auto collection fields) = Some (record { collection = collection; grouped = false; groups = []; fields = fields })
shape_of (AutoReduce collection groups sums) = Some (record { collection = collection; grouped = true; groups = groups; fields = sums })

-- the definition of an automatic index of the shape
abbrev pub definition_of : Shape → Definition
definition_of shape = if shape.grouped then AutoReduce shape.collection shape.groups shape.fields else Auto shape.collection shape.fields

abbrev pub slot_shape : Slot → Option Shape
slot_shape s = shape_of s.version.definition

-- the index is not stale, without a cutoff
abbrev pub is_fresh : Store → Slot → Bool
is_fresh S s = not (stale S (reads s.version) s.version.etag None)

abbrev pub same_path : Path → Path → Bool
same_path = pointwise bytes_eq

abbrev pub has_path : List Path → Path → Bool
has_path fields path = list_any (same_path path) fields

-- the same collection, and the same groups if there are any
abbrev pub is_alike : Shape → Shape → Bool
is_alike a b = bytes_eq a.collection b.collection && ((if a.grouped then b.grouped else not b.grouped) && pointwise same_path a.groups b.groups)

-- an index of shape a can answer a query of shape b
abbrev pub covers : Option Shape → Shape → Bool
covers None b = false
covers (Some a) b = is_alike a b && list_all (has_path a.fields) b.fields

abbrev pub fields_in : Option Shape → ℕ
fields_in None = 0
fields_in (Some a) = length a.fields

abbrev pub width : Slot → ℕ
width s = fields_in (slot_shape s)

-- a beats b: it is fresh and b is stale, or both are fresh or both stale and a has fewer fields
abbrev pub beats : Store → Slot → Slot → Bool
beats S a b = (is_fresh S a && not (is_fresh S b)) || ((is_fresh S a || not (is_fresh S b)) && nat_lt (width a) (width b))

-- a, unless the best of the later slots beats it
abbrev pub better : Store → Slot → Option Slot → Option Slot
better S a None = Some a
better S a (Some b) = if beats S b a then Some b else Some a

abbrev pub best : Store → List Slot → Option Slot
best S [] = None
best S (a ∷ more) = better S a (best S more)

-- PATHS IN ORDER: that of the bytes of their joined forms; no two paths that a query can name have the same

abbrev pub path_order : Path → Path → Ordering
path_order p q = ordering_then (key_cmp (joined p) (joined q)) (slice_cmp key_cmp p q)

-- with one more in its place, if it is not there
abbrev pub with_path : Path → List Path → List Path
with_path p [] = p ∷ []
with_path p (q ∷ qs) = match_ordering (path_order p q) (p ∷ q ∷ qs) (q ∷ qs) (q ∷ with_path p qs)

-- each path once, in order
abbrev pub in_order : List Path → List Path
in_order [] = []
in_order (p ∷ ps) = with_path p (in_order ps)

-- THE CHOICE

-- the fields of an automatic index of the same collection and groups
abbrev pub fields_alike : Shape → Option Shape → List Path
fields_alike shape None = []
fields_alike shape (Some a) = if is_alike a shape then a.fields else []

-- those of the shape and of all indexes of the same collection and groups
abbrev pub all_fields : Shape → List Slot → List Path
all_fields shape slots = in_order (shape.fields ++ flat_map (λ s. fields_alike shape (slot_shape s)) slots)

-- an index has at most so many fields, and so many bytes in their names together
abbrev pub is_too_wide : List Path → Bool
is_too_wide fields = nat_lt 64 (length fields) || nat_lt 65536 (sum_by (λ p. length (joined p)) fields)

-- the shape that takes in the fields of the others or, if that is too wide, the shape itself
abbrev pub widened : Shape → List Slot → Shape
widened shape slots = record {
  collection = shape.collection;
  grouped = shape.grouped;
  groups = shape.groups;
  fields = if is_too_wide (all_fields shape slots) then shape.fields else all_fields shape slots;
}

pub data Choice : Type 0 where
  -- this index
  Use : (slot : Slot) → Choice
  -- a new index of this shape
  Make : (shape : Shape) → Choice

abbrev pub chosen : Shape → List Slot → Option Slot → Choice
chosen shape slots (Some s) = Use s
chosen shape slots None = Make (widened shape slots)

-- the best slot that covers the shape, or a new one
abbrev pub pick : Shape → Store → List Slot → Choice
pick shape S slots = chosen shape slots (best S (filter (λ s. covers (slot_shape s) shape) slots))

-- NAMES

abbrev pub and_between : List (List ℕ) → List ℕ
and_between [] = []
and_between (name ∷ []) = name
and_between (name ∷ more) = name ++ (codes "And" ++ and_between more)

-- before the first name that is not below it
abbrev pub with_name : List ℕ → List (List ℕ) → List (List ℕ)
with_name name [] = name ∷ []
with_name name (n ∷ more) = if is_gt (key_cmp name n) then n ∷ with_name name more else name ∷ n ∷ more

-- the joined paths of the fields; with groups, those of the sums, and `Count` among them in the order of the bytes
abbrev pub value_names : Shape → List (List ℕ)
value_names shape = if shape.grouped then with_name (codes "Count") (map joined shape.fields) else map joined shape.fields

abbrev pub reduced_by : Shape → List ℕ
reduced_by shape = if shape.grouped then codes "ReducedBy" ++ and_between (map joined shape.groups) else []

abbrev pub plain_name : Shape → List ℕ
plain_name shape = codes "Auto/" ++ (shape.collection ++ (codes "/By" ++ (and_between (value_names shape) ++ reduced_by shape)))

-- the name with `/` and the first number from n on that makes it free; after so many tries the next number is taken as it is
abbrev pub free_name : ℕ → ℕ → List ℕ → List Slot → List ℕ
free_name zero n name slots = name ++ (codes "/" ++ decimal n)
free_name (suc more) n name slots =
    if is_some (serving slots (name ++ (codes "/" ++ decimal n))) then free_name more (n + 1) name slots else name ++ (codes "/" ++ decimal n)

-- the name if it is free, else with a number; as many tries as there are slots are enough
abbrev pub first_free : List ℕ → List Slot → List ℕ
first_free name slots = if is_some (serving slots name) then free_name (length slots) 2 name slots else name

-- the name of a new slot: made of the collection and the fields or, if that is too long or has a control character, of the slot's number
abbrev pub name_of : List Slot → ℕ → Shape → List ℕ
name_of slots number shape =
    if is_fit max_index_name (first_free (plain_name shape) slots) then first_free (plain_name shape) slots
    else first_free (codes "Auto/" ++ decimal number) slots

-- RETIREMENT

-- of the shapes of two automatic indexes, b covers a and has more fields
abbrev pub is_wider : Option Shape → Option Shape → Bool
is_wider b None = false
is_wider b (Some a) = covers b a && nat_lt (length a.fields) (fields_in b)

-- b answers all that a answers, has more fields, and is no further back
abbrev pub outdoes : Slot → Slot → Bool
outdoes b a = is_wider (slot_shape b) (slot_shape a) && nat_le a.version.etag b.version.etag

-- one of the slots outdoes this one
abbrev pub is_retired : List Slot → Slot → Bool
is_retired slots a = list_any (λ b. outdoes b a) slots

abbrev pub retired : List Slot → List Slot
retired slots = filter (is_retired slots) slots

-- the slots without the retired ones, whose rows are deleted
abbrev pub retirement : World → SlotChange
retirement W = record {
  slots = filter (λ s. not (is_retired W.slots s)) W.slots;
  notes = W.notes;
  commands = map (λ s. Delete (index_id s.name) AnyVector) (retired W.slots);
  name = [];
}
