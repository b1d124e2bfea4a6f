-- An entry has no fields but those of its definition.
use Rattle.std.proofs.Common.{◌≡◌, ℕ, pos, List, [], ◌∷◌, ◌++◌, Bool, true, false, cond, ◌||◌, Option, Some, None, map, refl, sym, ap, ◌∙◌, subst}
use Rattle.std.specs.declared.cmp.Ordering.TheVariants.{Less, Equal, Greater}
use Rattle.std.specs.FinMap.{get}
use Rattle.std.specs.List.{list_any}
use Rattle.std.specs.Ordering.{match_ordering}
use Rattle.std.specs.Str.{bytes_eq}
use Rattle.spec_data.specs.Data.{null}
use Rattle.spec_data.specs.Folding.{key_cmp}
use Rattle.spec_data.specs.Members.{Path}
use Rattle.spec_data.specs.Rising.{Pairs, put}
use Rattle.spec_data.specs.Rows.{Row, Body}
use Rattle.spec_data.specs.Scalars.{number, scalar_of}
use Rattle.spec_data.specs.Tables.{Table}
use Rattle.spec_store.proofs.KeyedLemmas.{key_ties}
use Rattle.index_tree.specs.declared.map_query.MapMember.{MapMember}
use Rattle.index_tree.specs.declared.map_query.MapQuery.{MapQuery}
use Rattle.index_tree.specs.Asking.{Lookup, Asking, gives, goes_on}
use Rattle.index_tree.specs.Evaluate.{Bindings, document_of, evaluate}
use Rattle.index_tree.specs.Mapper.{count_name, field_of, fields_at, joined, mapper_of, sum_name, sums_at}
use Rattle.index_tree.specs.Meaning.{Fields, Entry, field_named, where_some, bound_after, fields_with, fields_under, entry_of, outcome_of, meaning}
use Rattle.index_definition.specs.DefinitionView.{automatic, definition_view}
use Rattle.index_definition.specs.Reading.{fields, names, put_all, shape_names}
use Rattle.index_definition.specs.declared.definition.DefBody.{DefBody}
use Rattle.index_definition.specs.declared.definition.DefBody.TheVariants.{Static, Auto}
use Rattle.index_version.specs.Meaning.{grouped_fields}

-- NAMES

abbrev has_name : {A : Type 0} → List ℕ → List (List ℕ × A) → Bool
has_name name ms = list_any (bytes_eq name) (map (λ m. m.0) ms)

twice : (a b : Bool) → (a || b) ≡ (a || (a || b))
twice true b = refl
twice false b = refl

later : (a b c : Bool) → (a || (b || c)) ≡ (b || (a || c))
later true true c = refl
later true false c = refl
later false true c = refl
later false false c = refl

neither : (a b : Bool) → (a || b) ≡ false → (a ≡ false) × (b ≡ false)
neither true b h = absurd cc
neither false b h = (refl, h)

both_false : (a b : Bool) → a ≡ false → b ≡ false → (a || b) ≡ false
both_false a b h g = ap (λ x. x || b) h ∙ g

name_put : {A : Type 0} (name k : List ℕ) (a : A) (ms : List (List ℕ × A)) → has_name name (put k a ms) ≡ (bytes_eq name k || has_name name ms)
name_put name k a [] = refl
name_put {A} name k a (m ∷ ms) =
    elim (key_cmp k m.0) as (λ r. key_cmp k m.0 ≡ r → has_name name (match_ordering r ((k, a) ∷ m ∷ ms) ((k, a) ∷ ms) (m ∷ put k a ms)) ≡ (bytes_eq name k || (bytes_eq name m.0 || has_name name ms))) [
      | Less ↦ λ e. refl
      | Equal ↦ λ e. twice (bytes_eq name k) (has_name name ms) ∙ ap (λ x. bytes_eq name k || (bytes_eq name x || has_name name ms)) (key_ties k m.0 e)
      | Greater ↦ λ e. ap (λ b. bytes_eq name m.0 || b) (name_put name k a ms) ∙ later (bytes_eq name m.0) (bytes_eq name k) (has_name name ms)
    ] refl

-- what has a name in it after all were put has it before, or it was put
name_put_all : (name : List ℕ) (all : List (List ℕ)) (found : Pairs) → has_name name (put_all all found) ≡ false → (list_any (bytes_eq name) all ≡ false) × (has_name name found ≡ false)
name_put_all name [] found none = (refl, none)
name_put_all name (x ∷ all) found none =
    let rest = name_put_all name all (put x null found) none in
    let two = neither (bytes_eq name x) (has_name name found) (sym (name_put name x null found) ∙ rest.1) in
    (both_false (bytes_eq name x) (list_any (bytes_eq name) all) two.0 rest.0, two.1)

-- no field of a name that is not there
unnamed : (name : List ℕ) (fs : Fields) → has_name name fs ≡ false → field_named name fs ≡ None
unnamed name [] none = refl
unnamed name (f ∷ fs) none =
    let two = neither (bytes_eq name f.0) (has_name name fs) none in
    ap (λ b. cond b (Some f.1) (field_named name fs)) two.0 ∙ unnamed name fs two.1

-- WHAT A MAP GIVES

went_on : {A B : Type 0} (o : Option A) (more : A → Asking B) (b : B) → (goes_on o more).outcome ≡ Some b → (a : A) × (o ≡ Some a) × ((more a).outcome ≡ Some b)
went_on None more b h = absurd cc
went_on (Some a) more b h = (a, refl, h)

same_fields : (a b : Fields) → Some a ≡ Some b → a ≡ b
same_fields a b h = cc

with_none : (name : List ℕ) (find : Lookup) (bound : Bindings) (members : List MapMember) (found fs : Fields) → list_any (bytes_eq name) (map (λ m. m.name) members) ≡ false → has_name name found ≡ false
    → (fields_with find bound found members).outcome ≡ Some fs → has_name name fs ≡ false
with_none name find bound [] found fs none before h = subst (λ x. has_name name x ≡ false) (same_fields found fs h) before
with_none name find bound (m ∷ more) found fs none before h =
    let two = neither (bytes_eq name m.name) (list_any (bytes_eq name) (map (λ x. x.name) more)) none in
    let w = went_on (evaluate find bound m.value).outcome (λ v. fields_with find bound (put m.name (scalar_of v) found) more) fs h in
    with_none name find bound more (put m.name (scalar_of w.0) found) fs two.1 (name_put name m.name (scalar_of w.0) found ∙ both_false (bytes_eq name m.name) (has_name name found) two.0 before) w.2

same_entry : (a b : Fields) → Some (Some a) ≡ Some (Some b) → a ≡ b
same_entry a b h = cc

under_none : (name : List ℕ) (find : Lookup) (members : List MapMember) (o : Option Bindings) (fs : Fields) → list_any (bytes_eq name) (map (λ m. m.name) members) ≡ false
    → (where_some o (fields_under find members)).outcome ≡ Some (Some fs) → has_name name fs ≡ false
under_none name find members None fs none h = absurd cc
under_none name find members (Some bound) fs none h =
    let w = went_on (fields_with find bound [] members).outcome (λ all. gives (Some all)) (Some fs) h in
    with_none name find bound members [] fs none refl (w.1 ∙ ap (λ (all : Fields). Some all) (same_entry w.0 fs w.2))

-- an outcome is an entry only of fields
outcome_told : (o : Option (Option Fields)) (fs : Fields) → outcome_of o ≡ Entry fs → o ≡ Some (Some fs)
outcome_told None fs h = absurd cc
outcome_told (Some None) fs h = absurd cc
outcome_told (Some (Some found)) fs h = let same : found ≡ fs = cc in ap (λ (all : Fields). Some (Some all)) same

map_none : (name : List ℕ) (query : MapQuery) (d : Row) (find : Lookup) (fs : Fields) → list_any (bytes_eq name) (map (λ m. m.name) query.members) ≡ false
    → (meaning query d find).outcome ≡ Entry fs → has_name name fs ≡ false
map_none name query d find fs none h =
    let w = went_on (bound_after find ((query.var, document_of d.body) ∷ []) query.clauses).outcome (λ bound. where_some bound (fields_under find query.members)) (Some fs)
    (outcome_told (entry_of query (document_of d.body) find).outcome fs h) in
    under_none name find query.members w.0 fs none w.2

-- WHAT AN AUTOMATIC INDEX GIVES

at_none : (name : List ℕ) (body : Body) (paths : List Path) (found : Fields) → list_any (bytes_eq name) (map joined paths) ≡ false → has_name name found ≡ false → has_name name (fields_at body found paths) ≡ false
at_none name body [] found none before = before
at_none name body (path ∷ more) found none before =
    let two = neither (bytes_eq name (joined path)) (list_any (bytes_eq name) (map joined more)) none in
    at_none name body more (put (joined path) (field_of body path) found) two.1
    (name_put name (joined path) (field_of body path) found ∙ both_false (bytes_eq name (joined path)) (has_name name found) two.0 before)

same_outcome : (a b : Fields) → Entry a ≡ Entry b → a ≡ b
same_outcome a b h = cc

none_in : (name : List ℕ) (some more : List (List ℕ)) → list_any (bytes_eq name) (some ++ more) ≡ false → (list_any (bytes_eq name) some ≡ false) × (list_any (bytes_eq name) more ≡ false)
none_in name [] more none = (refl, none)
none_in name (x ∷ some) more none =
    let two = neither (bytes_eq name x) (list_any (bytes_eq name) (some ++ more)) none in
    let rest = none_in name some more two.1 in
    (both_false (bytes_eq name x) (list_any (bytes_eq name) some) two.0 rest.0, rest.1)

sums_none : (name : List ℕ) (body : Body) (paths : List Path) (found : Fields) → list_any (bytes_eq name) (map sum_name paths) ≡ false → has_name name found ≡ false → has_name name (sums_at body found paths) ≡ false
sums_none name body [] found none before = before
sums_none name body (path ∷ more) found none before =
    let two = neither (bytes_eq name (sum_name path)) (list_any (bytes_eq name) (map sum_name more)) none in
    sums_none name body more (put (sum_name path) (field_of body path) found) two.1
    (name_put name (sum_name path) (field_of body path) found ∙ both_false (bytes_eq name (sum_name path)) (has_name name found) two.0 before)

grouped_none : (name : List ℕ) (body : Body) (groups sums : List Path) → list_any (bytes_eq name) (map joined groups ++ count_name ∷ map sum_name sums) ≡ false → has_name name (grouped_fields groups sums body) ≡ false
grouped_none name body groups sums none =
    let two = none_in name (map joined groups) (count_name ∷ map sum_name sums) none in
    let more = neither (bytes_eq name count_name) (list_any (bytes_eq name) (map sum_name sums)) two.1 in
    let keys = fields_at body [] groups in
    sums_none name body sums (put count_name (number (pos 1)) keys) more.1
    (name_put name count_name (number (pos 1)) keys ∙ both_false (bytes_eq name count_name) (has_name name keys) more.0 (at_none name body groups [] two.0 refl))

shape_none : (name collection : List ℕ) (groups : Option (List Path)) (fields : List Path) (d : Row) (T : Table) (fs : Fields) → list_any (bytes_eq name) (shape_names groups fields) ≡ false
    → ((mapper_of (automatic collection groups fields)).meaning d T).outcome ≡ Entry fs → has_name name fs ≡ false
shape_none name collection None fields d T fs none h = subst (λ x. has_name name x ≡ false) (same_outcome (fields_at d.body [] fields) fs h) (at_none name d.body fields [] none refl)
shape_none name collection (Some groups) sums d T fs none h =
    subst (λ x. has_name name x ≡ false) (same_outcome (grouped_fields groups sums d.body) fs h) (grouped_none name d.body groups sums none)

gives_none : (name : List ℕ) (body : DefBody) (d : Row) (T : Table) (fs : Fields) → list_any (bytes_eq name) (names body) ≡ false → ((mapper_of (definition_view body)).meaning d T).outcome ≡ Entry fs → has_name name fs ≡ false
gives_none name (Static query reduce text reduce_text) d T fs none h = map_none name query d (get T) fs none h
gives_none name (Auto shape) d T fs none h = shape_none name shape.collection shape.groups shape.fields d T fs none h

-- a name that no field of the definition has is no name in an entry
pub not_in_entry : (name : List ℕ) (body : DefBody) (d : Row) (T : Table) (fs : Fields) → list_any (bytes_eq name) (fields body) ≡ false
    → ((mapper_of (definition_view body)).meaning d T).outcome ≡ Entry fs → field_named name fs ≡ None
not_in_entry name body d T fs none h = unnamed name fs (gives_none name body d T fs (name_put_all name (names body) [] none).0 h)
