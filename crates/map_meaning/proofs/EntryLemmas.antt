-- The fields of an entry rise by the bytes of their names.
use Rattle.std.proofs.Common.{◌≡◌, pos, List, [], ◌∷◌, Option, Some, None, refl, ap, ◌∙◌, subst}
use Rattle.std.specs.FinMap.{get}
use Rattle.spec_data.specs.Data.{Data}
use Rattle.spec_data.specs.Members.{Path}
use Rattle.spec_data.specs.Rising.{IsRising, put}
use Rattle.spec_data.specs.Rows.{Row, Body}
use Rattle.spec_data.specs.Scalars.{number, scalar_of}
use Rattle.spec_data.specs.Tables.{Table}
use Rattle.spec_data.proofs.MemberLemmas.{IsRising-put}
use Rattle.index_tree.specs.declared.map_query.MapMember.{MapMember}
use Rattle.index_tree.specs.declared.map_query.MapQuery.{MapQuery}
use Rattle.index_tree.specs.Asking.{Lookup, Asking, gives, goes_on}
use Rattle.index_tree.specs.Definitions.{Definition, Static, Auto, AutoReduce}
use Rattle.index_tree.specs.Evaluate.{Bindings, document_of, evaluate}
use Rattle.index_tree.specs.Mapper.{count_name, field_of, fields_at, joined, mapper_of, sum_name, sums_at}
use Rattle.index_tree.specs.Meaning.{Fields, Entry, where_some, bound_after, fields_with, fields_under, entry_of, outcome_of, meaning}

abbrev Rises : Fields → Type 0
Rises fields = IsRising fields

-- WHAT A MAP GIVES

-- a computation that comes to a value went on from one
went_on : {A B : Type 0} (o : Option A) (more : A → Asking B) (b : B) → (goes_on o more).outcome ≡ Some b → (a : A) × (o ≡ Some a) × ((more a).outcome ≡ Some b)
went_on None more b h = absurd cc
went_on (Some a) more b h = (a, refl, h)

same_fields : (a b : Fields) → Some a ≡ Some b → a ≡ b
same_fields a b h = cc

with_rises : (find : Lookup) (bound : Bindings) (members : List MapMember) (found fields : Fields) → Rises found
    → (fields_with find bound found members).outcome ≡ Some fields → Rises fields
with_rises find bound [] found fields r h = subst Rises (same_fields found fields h) r
with_rises find bound (m ∷ more) found fields r h =
    let w = went_on (evaluate find bound m.value).outcome (λ v. fields_with find bound (put m.name (scalar_of v) found) more) fields h in
    with_rises find bound more (put m.name (scalar_of w.0) found) fields (IsRising-put m.name (scalar_of w.0) found r) w.2

same_entry : (a b : Fields) → Some (Some a) ≡ Some (Some b) → a ≡ b
same_entry a b h = cc

under_rises : (find : Lookup) (members : List MapMember) (o : Option Bindings) (fields : Fields)
    → (where_some o (fields_under find members)).outcome ≡ Some (Some fields) → Rises fields
under_rises find members None fields h = absurd cc
under_rises find members (Some bound) fields h =
    let w = went_on (fields_with find bound [] members).outcome (λ all. gives (Some all)) (Some fields) h in
    with_rises find bound members [] fields tt (w.1 ∙ ap (λ (all : Fields). Some all) (same_entry w.0 fields w.2))

entry_rises : (query : MapQuery) (document : Data) (find : Lookup) (fields : Fields) → (entry_of query document find).outcome ≡ Some (Some fields) → Rises fields
entry_rises query document find fields h =
    let w = went_on (bound_after find ((query.var, document) ∷ []) query.clauses).outcome (λ bound. where_some bound (fields_under find query.members)) (Some fields) h in
    under_rises find query.members w.0 fields w.2

-- an outcome is an entry only of fields
outcome_told : (o : Option (Option Fields)) (fields : Fields) → outcome_of o ≡ Entry fields → o ≡ Some (Some fields)
outcome_told None fields h = absurd cc
outcome_told (Some None) fields h = absurd cc
outcome_told (Some (Some found)) fields h = let same : found ≡ fields = cc in ap (λ (all : Fields). Some (Some all)) same

map_rises : (query : MapQuery) (d : Row) (find : Lookup) (fields : Fields) → (meaning query d find).outcome ≡ Entry fields → Rises fields
map_rises query d find fields h =
    let document = document_of d.body in
    entry_rises query document find fields (outcome_told (entry_of query document find).outcome fields h)

-- WHAT AN AUTOMATIC INDEX GIVES

at_rises : (body : Body) (paths : List Path) (found : Fields) → Rises found → Rises (fields_at body found paths)
at_rises body [] found r = r
at_rises body (path ∷ more) found r =
    at_rises body more (put (joined path) (field_of body path) found) (IsRising-put (joined path) (field_of body path) found r)

sums_rise : (body : Body) (paths : List Path) (found : Fields) → Rises found → Rises (sums_at body found paths)
sums_rise body [] found r = r
sums_rise body (path ∷ more) found r =
    sums_rise body more (put (sum_name path) (field_of body path) found) (IsRising-put (sum_name path) (field_of body path) found r)

-- the groups and a one
abbrev counted : Body → List Path → Fields
counted body groups = put count_name (number (pos 1)) (fields_at body [] groups)

counted_rises : (body : Body) (groups : List Path) → Rises (counted body groups)
counted_rises body groups = IsRising-put count_name (number (pos 1)) (fields_at body [] groups) (at_rises body groups [] tt)

same_outcome : (a b : Fields) → Entry a ≡ Entry b → a ≡ b
same_outcome a b h = cc

pub entries_rise : (definition : Definition) (d : Row) (T : Table) (fields : Fields) → ((mapper_of definition).meaning d T).outcome ≡ Entry fields → IsRising fields
entries_rise (Static map reduce map_text reduce_text) d T fields h = map_rises map d (get T) fields h
entries_rise (Auto collection paths) d T fields h = subst Rises (same_outcome (fields_at d.body [] paths) fields h) (at_rises d.body paths [] tt)
entries_rise (AutoReduce collection groups sums) d T fields h =
    subst Rises (same_outcome (sums_at d.body (counted d.body groups) sums) fields h) (sums_rise d.body sums (counted d.body groups) (counted_rises d.body groups))
