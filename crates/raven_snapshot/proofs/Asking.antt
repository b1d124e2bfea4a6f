-- How the answer to a query comes from its parts.
use Rattle.std.proofs.Common.{◌≡◌, ℕ, List, [], ◌∷◌, Bool, true, false, not, cond, ◌&&◌, Option, Some, None, is_some, is_none, option_map, Ok, ◌++◌, codes, filter, map, refl, sym, ap, ◌∙◌, subst}
use Rattle.std.specs.FinMap.{values}
use Rattle.std.specs.Option.{option_or}
use Rattle.raven_base.specs.Counts.{Counts}
use Rattle.spec_data.specs.Data.{Data}
use Rattle.spec_data.specs.Members.{Path}
use Rattle.spec_data.specs.Rows.{Row}
use Rattle.spec_data.specs.Scalars.{Is, Scalar, words}
use Rattle.spec_data.specs.Tables.{Table, table_of}
use Rattle.spec_store.specs.Stale.{stale}
use Rattle.spec_store.specs.Store.{Store, last, row_at}
use Rattle.index_tree.specs.Definitions.{Definition}
use Rattle.index_tree.specs.Mapper.{mapper_of}
use Rattle.index_tree.specs.Meaning.{Fields, field_named}
use Rattle.index_tree.specs.declared.reduce_query.ReduceQuery.{ReduceQuery}
use Rattle.spec_query.specs.Binding.{PlanRefusal, NoField, bind, check, key_of, plan_of, refusal_of}
use Rattle.spec_query.specs.Binding as binding
use Rattle.spec_query.specs.Condition.{Always, Has, meets, passes}
use Rattle.spec_query.specs.Finding.{Found, find_entries, find_rows, is_document_of}
use Rattle.spec_query.specs.Fields.{not_offered}
use Rattle.spec_query.specs.Offering.{offered_of}
use Rattle.spec_query.specs.Parameters.{bound_where}
use Rattle.spec_query.specs.Plan.{Plan}
use Rattle.spec_query.specs.Query.{Ask, Origin, OfIndex, OfCollection, Query, is_empty, is_of_index, is_whole}
use Rattle.spec_query.specs.Printing.{field_text}
use Rattle.spec_index.specs.Optimiser.{Choice, Make, Shape, Use, pick}
use Rattle.spec_index.specs.Reduces.{reduce_of}
use Rattle.spec_index.specs.Find.{field_is_text, found_in, is_text}
use Rattle.spec_index.specs.World.{Slot, Version, World, reads, serving}
use Rattle.spec_server.specs.Asking.{Answered, MustMake, Ready, answer_ask, answer_by, answer_from_collection, answer_from_index, answer_if_bound, answer_of, answer_over, answer_picked, found_by, found_over, unless_refused, without_ids}
use Rattle.spec_server.specs.Answers.{has_reduce, ids_found}
use Rattle.spec_server.specs.Replies.{Reply, BadPlan, Index, NoIndex}
use Rattle.spec_server.specs.Shapes.{shape_asked}
use Rattle.spec_server.specs.Shown.{shown}
use Rattle.index_definition.specs.DefinitionView.{automatic}
use Rattle.index_version.specs.Entries.{all_entries}
use Rattle.index_version.specs.Reduced.{entries_of, rows_by, rows_of}
use Rattle.rql_eval.specs.Pages.{ReadsAtMost}
use Rattle.rql_eval.specs.Rows.{without_fields}
use Rattle.rql_eval.proofs.Paging.{no_reads}
use Rattle.rql_plan.specs.Shapes.{shape_if_any}
use Rattle.raven_snapshot.specs.AnsweredView.{name_of_choice}
use Rattle.raven_snapshot.specs.Asked.{ReadsToAnswer, counted}

-- IN AN INDEX

-- an automatic index with groups groups its entries
pub groups_them : (collection : List ℕ) (groups : Option (List Path)) (fields : List Path) → is_some groups ≡ has_reduce (automatic collection groups fields)
groups_them collection None fields = refl
groups_them collection (Some groups) fields = refl

pub ruleset grouped = (groups_them)

-- the entries of a version are asked for where it has no reduce
pub no_reduce : (d : Definition) → has_reduce d ≡ false → reduce_of d ≡ None
no_reduce d h = by (reduce_of d) h
  where
    by : (o : Option ReduceQuery) → is_some o ≡ false → o ≡ None
    by None h = refl
    by (Some query) h = absurd cc

pub by_rows : (v : Version) (show : Row → Data → Data) (q : Plan) (S : Store) (found : Found) (groups : List Fields) → has_reduce v.definition ≡ true → groups ≡ rows_of v.definition v.table
    → found ≡ find_rows show (λ id. row_at id S.rows) q (without_ids groups) → found ≡ found_by (reduce_of v.definition) show q (all_entries v) S
by_rows v show q S found groups has are is =
    elim (reduce_of v.definition) as (λ (o : Option ReduceQuery). is_some o ≡ true → groups ≡ rows_by o (entries_of v.definition v.table) → found ≡ found_by o show q (all_entries v) S) [
      | None ↦ λ h g. absurd cc
      | Some reduce ↦ λ h g. is ∙ ap (λ rows. find_rows show (λ id. row_at id S.rows) q (without_ids rows)) g
    ] has are

pub by_entries : (v : Version) (show : Row → Data → Data) (q : Plan) (S : Store) (found : Found) → has_reduce v.definition ≡ false
    → found ≡ find_entries show (λ id. row_at id S.rows) q (all_entries v) → found ≡ found_by (reduce_of v.definition) show q (all_entries v) S
by_entries v show q S found has is =
    elim (reduce_of v.definition) as (λ (o : Option ReduceQuery). is_some o ≡ false → found ≡ found_by o show q (all_entries v) S) [
      | None ↦ λ h. is
      | Some reduce ↦ λ h. absurd cc
    ] has

pub nothing_read : (n : ℕ) (counts : Counts) → ReadsAtMost n counts counts
nothing_read = no_reads

pub reads_counted : (m n : ℕ) (before after : Counts) → m ≡ n → ReadsAtMost m before after → ReadsAtMost n before after
reads_counted m n before after same h = subst (λ k. ReadsAtMost k before after) same h

pub ruleset findings = (by_rows, by_entries, nothing_read, reads_counted)

ready_same : (a b : Reply) → Ready a ≡ Ready b → a ≡ b
ready_same a b h = cc

-- all that is refused for a definition is told by one refusal, the first
pub all_told : (T : Table) (W : World) (ask : Ask) (s : Slot) (reply : Reply) → Ready reply ≡ unless_refused (Ready (answer_by T W ask s)) (refusal_of ask (offered_of s.version.definition)) → reply ≡ answer_by T W ask s
all_told T W ask s reply is = by (refusal_of ask (offered_of s.version.definition)) is
  where
    by : (c : Option PlanRefusal) → Ready reply ≡ unless_refused (Ready (answer_if_bound T W ask s (binding.unless_refused (plan_of ask) c))) c → reply ≡ answer_if_bound T W ask s (binding.unless_refused (plan_of ask) c)
    by None h = ready_same reply _ h
    by (Some r) h = ready_same reply _ h

pub if_bound : (T : Table) (W : World) (ask : Ask) (s : Slot) (q : Plan) (reply : Reply) → bind ask (offered_of s.version.definition) ≡ Ok q → reply ≡ answer_over T W ask s q → reply ≡ answer_by T W ask s
if_bound T W ask s q reply bound is = is ∙ sym (ap (answer_if_bound T W ask s) bound)

pub answered : (W : World) (ask : Ask) (s : Slot) (q : Plan) (reply : Reply) (found : Found) (etag : ℕ) (name : List ℕ) (flag : Bool) → reply ≡ answer_of found etag name flag → found ≡ found_over s.version.definition s.version.table W q → etag ≡ s.version.etag → name ≡ s.name
    → flag ≡ stale W.store (reads s.version) s.version.etag ask.cutoff → reply ≡ answer_over s.version.table W ask s q
answered W ask s q reply found etag name flag is f e n b = is ∙ λ i. answer_of (f i) (e i) (n i) (b i)

pub from_served : (W : World) (ask : Ask) (name : List ℕ) (s : Slot) (reply : Reply) → serving W.slots name ≡ Some s → reply ≡ answer_by s.version.table W ask s
    → reply ≡ answer_from_index W ask name (serving W.slots name)
from_served W ask name s reply h is = is ∙ sym (ap (answer_from_index W ask name) h)

pub from_none : (W : World) (ask : Ask) (name : List ℕ) (reply : Reply) → serving W.slots name ≡ None → reply ≡ NoIndex name → reply ≡ answer_from_index W ask name (serving W.slots name)
from_none W ask name reply h is = is ∙ sym (ap (answer_from_index W ask name) h)

pub nothing_answered : (answered : Answered) (counts : Counts) → ReadsToAnswer answered counts counts
nothing_answered (Ready reply) counts = no_reads (counted reply) counts
nothing_answered (MustMake shape) counts = no_reads 0 counts

pub ruleset answers = (reads_counted, nothing_read, nothing_answered)

-- UNLESS IT IS REFUSED

-- what only a definition refuses
abbrev missing : Ask → Slot → Option PlanRefusal
missing ask s = option_map (λ field. NoField (field_text field)) (not_offered (offered_of s.version.definition) ask.query)

abbrev bound_by : Table → World → Ask → Slot → (c more : Option PlanRefusal) → Answered
bound_by T W ask s c more = Ready (answer_if_bound T W ask s (binding.unless_refused (plan_of ask) (option_or c more)))

-- an index refuses what is refused without one
checked : (T : Table) (W : World) (ask : Ask) (s : Slot) → Ready (answer_by T W ask s) ≡ unless_refused (Ready (answer_by T W ask s)) (check ask)
checked T W ask s = by (check ask) (missing ask s)
  where
    by : (c more : Option PlanRefusal) → bound_by T W ask s c more ≡ unless_refused (bound_by T W ask s c more) c
    by None more = refl
    by (Some r) more = refl

pub served_checked : (W : World) (ask : Ask) (name : List ℕ) (s : Slot) (reply : Reply) → serving W.slots name ≡ Some s → reply ≡ answer_by s.version.table W ask s
    → Ready reply ≡ unless_refused (Ready (answer_from_index W ask name (serving W.slots name))) (check ask)
served_checked W ask name s reply h is = ap Ready is ∙ checked s.version.table W ask s ∙ sym (ap (λ o. unless_refused (Ready (answer_from_index W ask name o)) (check ask)) h)

pub none_checked : (W : World) (ask : Ask) (name told : List ℕ) (answered : Answered) → serving W.slots name ≡ None → told ≡ name → answered ≡ unless_refused (Ready (NoIndex told)) (check ask)
    → answered ≡ unless_refused (Ready (answer_from_index W ask name (serving W.slots name))) (check ask)
none_checked W ask name told answered h same is = is ∙ ap (λ n. unless_refused (Ready (NoIndex n)) (check ask)) same ∙ sym (ap (λ o. unless_refused (Ready (answer_from_index W ask name o)) (check ask)) h)

-- the index that was picked
pub picked_checked : (W : World) (ask : Ask) (choice : Choice) (s : Slot) (reply : Reply) → Use s ≡ choice → reply ≡ answer_by s.version.table W ask s
    → Ready reply ≡ unless_refused (answer_picked W ask choice) (check ask)
picked_checked W ask choice s reply h is = ap Ready is ∙ checked s.version.table W ask s ∙ ap (λ x. unless_refused (answer_picked W ask x) (check ask)) h

-- or none
pub made_checked : (W : World) (ask : Ask) (choice : Choice) (shape : Shape) (answered : Answered) → Make shape ≡ choice → answered ≡ unless_refused (MustMake shape) (check ask)
    → answered ≡ unless_refused (answer_picked W ask choice) (check ask)
made_checked W ask choice shape answered h is = is ∙ ap (λ x. unless_refused (answer_picked W ask x) (check ask)) h

-- IN A COLLECTION

last_two : (a b c d : Bool) → (a && b && c && d) ≡ true → (c ≡ true) × (d ≡ true)
last_two true true true true h = (refl, refl)
last_two true true true false h = absurd cc
last_two true true false d h = absurd cc
last_two true false c d h = absurd cc
last_two false b c d h = absurd cc

none_there : {A : Type 0} (o : Option A) → is_none o ≡ true → o ≡ None
none_there None h = refl
none_there (Some a) h = absurd cc

nothing_in : {A : Type 0} (xs : List A) → is_empty xs ≡ true → xs ≡ []
nothing_in [] h = refl
nothing_in (x ∷ xs) h = absurd cc

whole_parts : (q : Query) → is_whole q ≡ true → (q.cond ≡ None) × (q.sorts ≡ [])
whole_parts q h = let two = last_two (not (is_of_index q)) (is_empty q.groups) (is_none q.cond) (is_empty q.sorts) h in (none_there q.cond two.0, nothing_in q.sorts two.1)

pub whole_condition : (ask : Ask) (q : Plan) → is_whole ask.query ≡ true → q ≡ plan_of ask → q.condition ≡ Always
whole_condition ask q h is = ap (λ (p : Plan). p.condition) is ∙ ap (bound_where ask.parameters) (whole_parts ask.query h).0

pub whole_order : (ask : Ask) (q : Plan) → is_whole ask.query ≡ true → q ≡ plan_of ask → q.order ≡ []
whole_order ask q h is = ap (λ (p : Plan). p.order) is ∙ ap (map key_of) (whole_parts ask.query h).1

pub if_passed : (reply : Reply) (ask : Ask) → check ask ≡ None → Ready reply ≡ unless_refused (Ready reply) (check ask)
if_passed reply ask h = sym (ap (unless_refused (Ready reply)) h)

pub in_collection : (W : World) (ask : Ask) (collection : List ℕ) (q : Plan) (reply : Reply) (found : Found) (documents : List Row) (etag : ℕ) (name : List ℕ) → reply ≡ answer_of found etag name false
    → found ≡ find_entries (shown W.setting.base) (λ id. row_at id W.store.rows) q (without_fields documents) → documents ≡ values (table_of (filter (is_document_of collection) W.store.rows)) → q ≡ plan_of ask → etag ≡ last W.store
    → name ≡ codes "collection/" ++ collection → check ask ≡ None → Ready reply ≡ unless_refused (Ready (answer_from_collection W ask collection)) (check ask)
in_collection W ask collection q reply found documents etag name is f are plan e n passed =
    ap Ready (is
    ∙ λ i. answer_of ((f ∙ λ j. find_entries (shown W.setting.base) (λ id. row_at id W.store.rows) (plan j) (without_fields (are j))) i) (e i) (n i) false)
    ∙ if_passed (answer_from_collection W ask collection) ask passed

pub ruleset collections = (whole_condition, whole_order, if_passed)

-- BY THE ORIGIN

abbrev by_origin : World → Ask → Origin → Answered
by_origin W ask origin = elim origin [
  | OfIndex name ↦ Ready (answer_from_index W ask name (serving W.slots name))
  | OfCollection c ↦ cond (is_whole ask.query) (Ready (answer_from_collection W ask c)) (answer_picked W ask (pick (shape_asked c ask.query) W.store W.slots))
]

pub told_index : (W : World) (ask : Ask) (name : List ℕ) (answered : Answered) → ask.query.origin ≡ OfIndex name
    → answered ≡ unless_refused (Ready (answer_from_index W ask name (serving W.slots name))) (check ask) → answered ≡ answer_ask W ask
told_index W ask name answered h is = is ∙ sym (ap (λ o. unless_refused (by_origin W ask o) (check ask)) h)

asked_of : (q : Query) (c : List ℕ) → q.origin ≡ OfCollection c → shape_if_any q ≡ cond (is_whole q) None (Some (shape_asked c q))
asked_of q c h = ap (λ (o : Origin). elim o [ OfIndex name ↦ None | OfCollection d ↦ cond (is_whole q) None (Some (shape_asked d q)) ]) h

none_asked : (b : Bool) (shape : Shape) → (let o : Option Shape = None in o) ≡ cond b None (Some shape) → b ≡ true
none_asked true shape h = refl
none_asked false shape h = absurd cc

some_asked : (b : Bool) (a shape : Shape) → Some a ≡ cond b None (Some shape) → (b ≡ false) × (a ≡ shape)
some_asked true a shape h = absurd cc
some_asked false a shape h = (refl, let same : a ≡ shape = cc in same)

-- a query that asks for no index is about the whole collection
pub asks_whole : (q : Query) (c : List ℕ) → q.origin ≡ OfCollection c → None ≡ shape_if_any q → is_whole q ≡ true
asks_whole q c h none = none_asked (is_whole q) (shape_asked c q) (none ∙ asked_of q c h)

pub told_whole : (W : World) (ask : Ask) (c : List ℕ) (answered : Answered) → ask.query.origin ≡ OfCollection c → is_whole ask.query ≡ true
    → answered ≡ unless_refused (Ready (answer_from_collection W ask c)) (check ask) → answered ≡ answer_ask W ask
told_whole W ask c answered h whole is =
    is
    ∙ sym (ap (λ b. unless_refused (cond b (Ready (answer_from_collection W ask c)) (answer_picked W ask (pick (shape_asked c ask.query) W.store W.slots))) (check ask)) whole)
    ∙ sym (ap (λ o. unless_refused (by_origin W ask o) (check ask)) h)

pub told_picked : (W : World) (ask : Ask) (c : List ℕ) (shape : Shape) (answered : Answered) → ask.query.origin ≡ OfCollection c → Some shape ≡ shape_if_any ask.query
    → answered ≡ unless_refused (answer_picked W ask (pick shape W.store W.slots)) (check ask) → answered ≡ answer_ask W ask
told_picked W ask c shape answered h asks is =
    let some = some_asked (is_whole ask.query) shape (shape_asked c ask.query) (asks ∙ asked_of ask.query c h) in
    is
    ∙ ap (λ x. unless_refused (answer_picked W ask (pick x W.store W.slots)) (check ask)) some.1
    ∙ sym (ap (λ b. unless_refused (cond b (Ready (answer_from_collection W ask c)) (answer_picked W ask (pick (shape_asked c ask.query) W.store W.slots))) (check ask)) some.0)
    ∙ sym (ap (λ o. unless_refused (by_origin W ask o) (check ask)) h)

pub ruleset origins = (told_index, nothing_read)

-- A TEXT

text_is : (name ws : List ℕ) (e : List ℕ × Fields) → meets (Has name (Is (words ws))) false e.1 ≡ field_is_text name ws e.1
text_is name ws e = by (field_named name e.1)
  where
    by : (v : Option Scalar) → passes (Is (words ws)) false v ≡ is_text ws v
    by None = refl
    by (Some x) = refl

pub texts_found : (v : Version) (name ws : List ℕ) (ids : List (List ℕ)) → has_reduce v.definition ≡ false
    → ids ≡ map (λ e. e.0) (filter (λ e. meets (Has name (Is (words ws))) false e.1) (all_entries v)) → ids ≡ ids_found v.definition v.table name ws
texts_found v name ws ids has is =
    is ∙ ap (map (λ (e : List ℕ × Fields). e.0)) (λ i. filter (λ e. text_is name ws e i) (all_entries v))
    ∙ ap (λ b. cond b [] (found_in (mapper_of v.definition) v.table name ws)) (sym has)

pub no_texts : (v : Version) (name ws : List ℕ) → has_reduce v.definition ≡ true → [] ≡ ids_found v.definition v.table name ws
no_texts v name ws has = ap (λ b. cond b [] (found_in (mapper_of v.definition) v.table name ws)) (sym has)

pub ruleset texts = (texts_found, no_texts, nothing_read)

-- THE NAME OF AN INDEX

pub names_used : (choice : Choice) (s : Slot) (reply : Reply) → Use s ≡ choice → reply ≡ Index s.name → Ready reply ≡ name_of_choice choice
names_used choice s reply h is = ap Ready is ∙ ap name_of_choice h

pub names_none : (choice : Choice) (shape : Shape) → Make shape ≡ choice → MustMake shape ≡ name_of_choice choice
names_none choice shape h = ap name_of_choice h

pub of_shape : (choice : Choice) (a b : Shape) (S : Store) (slots : List Slot) → choice ≡ pick a S slots → a ≡ b → choice ≡ pick b S slots
of_shape choice a b S slots h same = h ∙ ap (λ x. pick x S slots) same

pub ruleset names = (names_used, names_none, of_shape)
