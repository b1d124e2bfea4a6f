-- Indexes of several maps: the indexes `N/1`, `N/2` and so on, whose entries are reduced together where a question asks so.
use Rattle.std.specs.Prelude.{ℕ, zero, suc, ◌+◌, List, [], ◌∷◌, ◌++◌, Bool, false, not, nat_le, if◌then◌else◌, Option, Some, None, Result, Ok, Err, codes, find, flat_map, length}
use Rattle.std.specs.Fmt.{decimal}
use Rattle.std.specs.List.{list_any}
use Rattle.spec_data.specs.Tables.{Table}
use Rattle.spec_store.specs.Store.{Store}
use Rattle.spec_store.specs.Stale.{stale}
use Rattle.index_tree.specs.Definitions.{Definition, Static, is_same, reduce_code}
use Rattle.index_tree.specs.Mapper.{mapper_of}
use Rattle.index_tree.specs.Meaning.{Fields}
use Rattle.spec_query.specs.Binding.{PlanRefusal, bind, check}
use Rattle.spec_query.specs.Offering.{offered_of}
use Rattle.spec_query.specs.Plan.{Plan}
use Rattle.spec_query.specs.Query.{Ask, OfCollection, OfIndex}
use Rattle.spec_index.specs.Reduces.{reduce_of}
use Rattle.spec_index.specs.Mapping.{scratch}
use Rattle.spec_index.specs.World.{Slot, World, reads, serving}
use Rattle.spec_server.specs.Asking.{answer_of, found_by}
use Rattle.spec_server.specs.Replies.{Reply, BadPlan, NoIndex, NotOneReduce}
use Rattle.spec_server.specs.Shown.{shown}

-- THE PARTS of the index of a name

abbrev pub part_name : List ℕ → ℕ → List ℕ
part_name name n = name ++ (codes "/" ++ decimal n)

abbrev pub then_parts : Option Slot → List Slot → List Slot
then_parts None more = []
then_parts (Some s) more = s ∷ more

-- from the number n on, at most so many, up to the first name that no slot has
abbrev pub parts_from : (most n : ℕ) → List ℕ → List Slot → List Slot
parts_from zero n name slots = []
parts_from (suc most) n name slots = then_parts (serving slots (part_name name n)) (parts_from most (n + 1) name slots)

-- there are no more parts than slots
abbrev pub parts_of : World → List ℕ → List Slot
parts_of W name = parts_from (length W.slots) 1 name W.slots

-- both have a reduce by a text, and these say the same
abbrev pub same_reduce : Definition → Definition → Bool
same_reduce (Static map (Some r) load text) (Static other (Some s) more words) = is_same reduce_code r s
same_reduce d e = false

-- the first part whose reduce is not that of the first one; the first one itself if it has none
abbrev pub other_part : Slot → List Slot → Option Slot
other_part first parts = find (λ s. not (same_reduce first.version.definition s.version.definition)) parts

-- WHAT THEY HAVE TOGETHER

-- the entries of all parts over these tables, part by part
abbrev pub all_entries : (Slot → Table) → List Slot → List (List ℕ × Fields)
all_entries tables parts = flat_map (λ s. scratch (mapper_of s.version.definition) (tables s)) parts

abbrev pub recorded : Slot → Table
recorded s = s.version.table

-- a part is stale, up to the cutoff
abbrev pub is_one_stale : Store → Option ℕ → List Slot → Bool
is_one_stale S cutoff parts = list_any (λ s. stale S (reads s.version) s.version.etag cutoff) parts

-- the least etag of the parts, of which `etag` is one
abbrev pub least_etag : ℕ → List Slot → ℕ
least_etag etag [] = etag
least_etag etag (s ∷ parts) = least_etag (if nat_le etag s.version.etag then etag else s.version.etag) parts

-- THE ANSWER

-- the rows are those of all entries, reduced by the reduce that the parts share
abbrev pub answer_together : (Slot → Table) → World → Ask → List ℕ → Slot → List Slot → Plan → Reply
answer_together tables W ask name first parts q =
    answer_of (found_by (reduce_of first.version.definition) (shown W.setting.base) q (all_entries tables parts) W.store)
    (least_etag first.version.etag parts) name (is_one_stale W.store ask.cutoff parts)

abbrev pub together_if_bound : (Slot → Table) → World → Ask → List ℕ → Slot → List Slot → Result Plan PlanRefusal → Reply
together_if_bound tables W ask name first parts (Ok q) = answer_together tables W ask name first parts q
together_if_bound tables W ask name first parts (Err refusal) = BadPlan refusal

-- the query has to fit the definition of the first part
abbrev pub unless_other : (Slot → Table) → World → Ask → List ℕ → Slot → List Slot → Option Slot → Reply
unless_other tables W ask name first parts (Some s) = NotOneReduce s.number
unless_other tables W ask name first parts None = together_if_bound tables W ask name first parts (bind ask (offered_of first.version.definition))

-- one part alone is no index of several maps
abbrev pub answer_parts : (Slot → Table) → World → Ask → List ℕ → List Slot → Reply
answer_parts tables W ask name [] = NoIndex name
answer_parts tables W ask name (s ∷ []) = NoIndex name
answer_parts tables W ask name (s ∷ t ∷ more) = unless_other tables W ask name s (s ∷ t ∷ more) (other_part s (s ∷ t ∷ more))

abbrev pub answer_named : (Slot → Table) → World → Ask → Reply
answer_named tables W ask = elim ask.query.origin [
  | OfIndex name ↦ answer_parts tables W ask name (parts_of W name)
  | OfCollection collection ↦ NoIndex collection
]

abbrev pub unless_unfit : Reply → Option PlanRefusal → Reply
unless_unfit reply None = reply
unless_unfit reply (Some refusal) = BadPlan refusal

-- the answer over these tables; it changes nothing
abbrev pub answer_several_over : (Slot → Table) → World → Ask → Reply
answer_several_over tables W ask = unless_unfit (answer_named tables W ask) (check ask)

abbrev pub answer_several : World → Ask → Reply
answer_several W ask = answer_several_over recorded W ask
