-- What an index answers to a query.
use Rattle.std.proofs.Common.{◌≡◌, ℕ, List, Bool, true, false, not, ◌&&◌, cond, is_none, Some, None, refl, sym, ap, ◌∙◌}
use Rattle.std.specs.Option.{option_map, option_or}
use Rattle.spec_data.specs.Tables.{Table}
use Rattle.spec_store.specs.Stale.{stale}
use Rattle.spec_query.specs.Binding.{NoField, check, plan_of}
use Rattle.spec_query.specs.Binding as plan
use Rattle.spec_query.specs.Fields.{not_offered}
use Rattle.spec_query.specs.Offering.{offered_of}
use Rattle.spec_query.specs.Printing.{field_text}
use Rattle.spec_query.specs.Query.{Ask, Origin, OfIndex, OfCollection, Query, is_empty, is_of_index, is_whole}
use Rattle.spec_index.specs.Index.{documents}
use Rattle.spec_index.specs.World.{Slot, World, reads, serving}
use Rattle.spec_index.specs.Optimiser.{pick}
use Rattle.spec_server.specs.Asking.{Answered, Ready, answer_ask, answer_by, answer_from_collection, answer_from_index, answer_if_bound, answer_over, answer_picked, unless_refused}
use Rattle.spec_server.specs.Shapes.{shape_asked}
use Rattle.spec_server.specs.Requests.{takes_all}
use Rattle.spec_server.specs.Courses.{Machine, settled}
use Rattle.spec_server.specs.Indexing.{ask_course}
use Rattle.spec_server.specs.Answers.{is_stale}
use Rattle.spec_server.specs.Replies.{Reply}
use Rattle.spec_server.specs.Sound.{Has, Sound}
use Rattle.raven_laws.specs.Queries.{AsksIndex, FitsIndex, IsAnsweredUpTo, by_name, by_shape, query_reply}
use Rattle.raven_laws.proofs.IndexLemmas.{fresh_exact, fresh_whole}
use Rattle.raven_laws.proofs.PickLemmas.{picked-has}
use Rattle.raven_laws.proofs.SlotLemmas.{served}

-- WHERE A QUERY IS ANSWERED FROM

abbrev pub answer_by_origin : World → Ask → Origin → Answered
answer_by_origin W ask origin = elim origin [
  | OfIndex name ↦ Ready (answer_from_index W ask name (serving W.slots name))
  | OfCollection collection ↦
      cond (is_whole ask.query) (Ready (answer_from_collection W ask collection)) (answer_picked W ask (pick (shape_asked collection ask.query) W.store W.slots))
]

abbrev is_index : Origin → Bool
is_index origin = elim origin [ OfIndex name ↦ true | OfCollection collection ↦ false ]

pub of_index : (q : Query) (name : List ℕ) → q.origin ≡ OfIndex name → is_of_index q ≡ true
of_index q name is = ap is_index is

pub of_collection : (q : Query) (collection : List ℕ) → q.origin ≡ OfCollection collection → is_of_index q ≡ false
of_collection q collection is = ap is_index is

-- a query that an index answers is on no whole collection
pub not-whole : (W : World) (ask : Ask) (s : Slot) → AsksIndex W ask s → is_whole ask.query ≡ false
not-whole W ask s (by_name name origin serves) = ap (λ b. not b && is_empty ask.query.groups && is_none ask.query.cond && is_empty ask.query.sorts) (of_index ask.query name origin)
not-whole W ask s (by_shape collection origin whole picked) = whole

-- THE ANSWER OF AN INDEX

-- what needs no index is refused for the same cause by every index
refused-alike : (T : Table) (W : World) (ask : Ask) (s : Slot) → unless_refused (Ready (answer_by T W ask s)) (check ask) ≡ Ready (answer_by T W ask s)
refused-alike T W ask s =
    elim (check ask) as (λ o. check ask ≡ o → unless_refused (Ready (answer_by T W ask s)) o ≡ Ready (answer_by T W ask s)) [
      | None ↦ λ e. refl
      | Some refusal ↦ λ e. sym (ap (λ o. Ready (answer_if_bound T W ask s (plan.unless_refused (plan_of ask)
          (option_or o (option_map (λ field. NoField (field_text field)) (not_offered (offered_of s.version.definition) ask.query)))))) e)
    ] refl

-- the index that is asked has the answer ready
pub index-ready : (W : World) (ask : Ask) (s : Slot) → AsksIndex W ask s → answer_ask W ask ≡ Ready (answer_by s.version.table W ask s)
index-ready W ask s (by_name name origin serves) =
    ap (λ o. unless_refused (answer_by_origin W ask o) (check ask)) origin
    ∙ ap (λ there. unless_refused (Ready (answer_from_index W ask name there)) (check ask)) serves
    ∙ refused-alike s.version.table W ask s
index-ready W ask s (by_shape collection origin whole picked) =
    ap (λ o. unless_refused (answer_by_origin W ask o) (check ask)) origin
    ∙ ap (λ b. unless_refused (cond b (Ready (answer_from_collection W ask collection)) (answer_picked W ask (pick (shape_asked collection ask.query) W.store W.slots))) (check ask)) whole
    ∙ ap (λ c. unless_refused (answer_picked W ask c) (check ask)) picked
    ∙ refused-alike s.version.table W ask s

-- the reply to an answer that is ready, or after an index was made
abbrev pub reply_by : Machine → Ask → Answered → Reply
reply_by M ask a = (settled M takes_all (ask_course M.world 0 ask a)).reply

pub index-answer : (M : Machine) (ask : Ask) (s : Slot) → AsksIndex M.world ask s → query_reply M ask ≡ answer_by s.version.table M.world ask s
index-answer M ask s asks = ap (reply_by M ask) (index-ready M.world ask s asks)

-- it is one of the indexes
pub asked-has : (W : World) (ask : Ask) (s : Slot) → Sound W → AsksIndex W ask s → Has W.slots s
asked-has W ask s o (by_name name origin serves) = (served W.slots name s serves).0
asked-has W ask s o (by_shape collection origin whole picked) = picked-has W.store W.slots (shape_asked collection ask.query) s picked

-- a query that is not refused gets what its plan finds
pub bound-answer : (T : Table) (W : World) (ask : Ask) (s : Slot) → FitsIndex ask s → answer_by T W ask s ≡ answer_over T W ask s (plan_of ask)
bound-answer T W ask s fits = ap (λ o. answer_if_bound T W ask s (plan.unless_refused (plan_of ask) o)) fits

pub plan-answer : (M : Machine) (ask : Ask) (s : Slot) → AsksIndex M.world ask s → FitsIndex ask s → query_reply M ask ≡ answer_over s.version.table M.world ask s (plan_of ask)
plan-answer M ask s asks fits = index-answer M ask s asks ∙ bound-answer s.version.table M.world ask s fits

-- an index that is not stale has recorded all documents
pub fresh-query : (M : Machine) → Sound M.world → (ask : Ask) (s : Slot) → AsksIndex M.world ask s → is_stale M.world.store s ≡ false
    → query_reply M ask ≡ answer_by (documents (reads s.version) M.world.store) M.world ask s
fresh-query M o ask s asks is_fresh =
    let f = o.fits s (asked-has M.world ask s o asks) in
    index-answer M ask s asks
    ∙ ap (λ T. answer_by T M.world ask s) (fresh_whole (reads s.version) s.version.table M.world.store s.version.etag o.store f.agrees is_fresh)

-- one that is not stale up to a cutoff has recorded what there is up to there
pub cutoff-whole : (M : Machine) → Sound M.world → (ask : Ask) (s : Slot) → AsksIndex M.world ask s → stale M.world.store (reads s.version) s.version.etag ask.cutoff ≡ false → IsAnsweredUpTo M ask s
cutoff-whole M o ask s asks is_fresh =
    let f = o.fits s (asked-has M.world ask s o asks) in
    record {
      table = s.version.table;
      answer = index-answer M ask s asks;
      whole = fresh_exact (reads s.version) s.version.table M.world.store s.version.etag ask.cutoff f.agrees is_fresh;
    }
