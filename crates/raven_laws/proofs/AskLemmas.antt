-- What a query asks of an index, and what is answered to it.
use Rattle.std.proofs.Common.{arith, ◌≡◌, ℕ, ◌+◌, ◌<◌, ◌^◌, List, [], ◌∷◌, ◌++◌, Bool, true, false, cond, nat_le, length, is_some, filter, Option, Some, None, Result, Ok, Err, refl, sym, ap, ◌∙◌, subst, inl, inr, ◌↔◌}
use Rattle.std.proofs.lemmas.Bool.{leb-true}
use Rattle.std.specs.List.{filter_map}
use Rattle.spec_data.specs.Members.{Path}
use Rattle.spec_query.specs.Binding.{PlanRefusal, check}
use Rattle.spec_query.specs.Fields.{asked_fields, selected_fields}
use Rattle.spec_query.specs.Query.{Ask, At, Count, Field, OfCollection, OfIndex, Origin, Query, Sum, is_empty, is_whole}
use Rattle.spec_store.specs.Commit.{Refused, Server, Written, commit}
use Rattle.spec_store.specs.Store.{last}
use Rattle.spec_index.specs.Optimiser.{Choice, Make, Shape, Use, best, chosen, covers, definition_of, in_order, pick, shape_of, slot_shape, widened}
use Rattle.spec_index.specs.World.{Slot, SlotRefusal, World, added, serving}
use Rattle.index_tree.specs.Definitions.{Auto, AutoReduce}
use Rattle.spec_server.specs.Asking.{Answered, answer_from_collection, answer_from_index, answer_picked, unless_refused}
use Rattle.spec_server.specs.Requests.{Keeping}
use Rattle.spec_server.specs.Courses.{Machine, changed, is_taken, same_machine, settled, with_world}
use Rattle.spec_server.specs.Indexing.{answer_made, answer_making, ask_course, made_name, make}
use Rattle.spec_server.specs.Replies.{Reply}
use Rattle.spec_server.specs.Shapes.{grouped_shape, path_in, plain_shape, shape_asked, sum_in}
use Rattle.spec_server.specs.Sound.{Has, Sound}
use Rattle.raven_laws.proofs.ListedLemmas.{commit_from-applied}
use Rattle.raven_laws.specs.Asked.{AskIsAnswered, AsksGroups, AsksPlain, AsksShape, IsAskAnswer, IsMakingAnswer, NeedsIndex}
use Rattle.raven_laws.specs.Choices.{IsChosen}
use Rattle.raven_laws.specs.Queries.{AsksIndex, by_name, by_shape}
use Rattle.raven_laws.specs.Definitions.{new_slot}
use Rattle.raven_laws.proofs.AnswerLemmas.{Has-filter_map}
use Rattle.raven_laws.proofs.ChangeLemmas.{not-taken}
use Rattle.raven_laws.proofs.ChoiceLemmas.{pick-chosen}
use Rattle.raven_laws.proofs.CoverLemmas.{widened-covers}
use Rattle.raven_laws.proofs.DefinitionLemmas.{new-made}
use Rattle.raven_laws.proofs.EntryLemmas.{into-filter_map}
use Rattle.raven_laws.proofs.NameLemmas.{name_of-free}
use Rattle.raven_laws.proofs.QueryLemmas.{answer_by_origin}
use Rattle.raven_laws.proofs.UnionLemmas.{Has-in_order, in_order-Has, in_order-ordered}

-- WHAT IS ASKED

same_path_of : (p q : Path) → Some p ≡ Some q → p ≡ q
same_path_of p q h = cc

path-in : (f : Field) (p : Path) → path_in f ≡ Some p → f ≡ At p
path-in (At path) p h = ap At (same_path_of path p h)
path-in Count p h = absurd cc
path-in (Sum path) p h = absurd cc

sum-in : (f : Field) (p : Path) → sum_in f ≡ Some p → f ≡ Sum p
sum-in (At path) p h = absurd cc
sum-in Count p h = absurd cc
sum-in (Sum path) p h = ap Sum (same_path_of path p h)

in-order-iff : (ps : List Path) (p : Path) → Has (in_order ps) p ↔ Has ps p
in-order-iff ps p = (Has-in_order ps p, in_order-Has ps p)

plain-is : (collection : List ℕ) (q : Query) → AsksPlain collection q (plain_shape collection q)
plain-is collection q = record {
  collection_is = refl;
  plain = refl;
  groups = refl;
  ordered = in_order-ordered (filter_map path_in (asked_fields q));
  fields = λ p. (
    λ h. let r = Has-filter_map path_in (asked_fields q) p (Has-in_order (filter_map path_in (asked_fields q)) p h) in subst (Has (asked_fields q)) (path-in r.0 p r.2) r.1,
    λ at. in_order-Has (filter_map path_in (asked_fields q)) p (into-filter_map path_in (asked_fields q) (At p) p at refl),
  );
}

grouped-is : (collection : List ℕ) (q : Query) → AsksGroups collection q (grouped_shape collection q)
grouped-is collection q =
    let all = asked_fields q ++ selected_fields q in
    record {
      collection_is = refl;
      grouped = refl;
      groups_ordered = in_order-ordered q.groups;
      groups = in-order-iff q.groups;
      ordered = in_order-ordered (filter_map sum_in all);
      sums = λ p. (
        λ h. let r = Has-filter_map sum_in all p (Has-in_order (filter_map sum_in all) p h) in subst (Has all) (sum-in r.0 p r.2) r.1,
        λ at. in_order-Has (filter_map sum_in all) p (into-filter_map sum_in all (Sum p) p at refl),
      );
    }

pub asked-shape : (collection : List ℕ) (q : Query) → AsksShape collection q (shape_asked collection q)
asked-shape collection q = by q.groups refl
  where
    by : (gs : List Path) → q.groups ≡ gs → AsksShape collection q (shape_asked collection q)
    by [] e = inl (e, subst (λ b. AsksPlain collection q (cond b (plain_shape collection q) (grouped_shape collection q))) (sym (ap (λ (x : List Path). is_empty x) e)) (plain-is collection q))
    by (g ∷ gs) e = inr (
      λ none. let f = sym e ∙ none in cc,
      subst (λ b. AsksGroups collection q (cond b (plain_shape collection q) (grouped_shape collection q))) (sym (ap (λ (x : List Path). is_empty x) e)) (grouped-is collection q),
    )

-- THE INDEX THAT IS MADE is the only one that covers what is asked

only-last : (test : Slot → Bool) (slots : List Slot) (s : Slot) → ((t : Slot) → Has slots t → test t ≡ false) → test s ≡ true → filter test (slots ++ s ∷ []) ≡ s ∷ []
only-last test [] s none own = ap (λ b. cond b (s ∷ []) []) own
only-last test (t ∷ slots) s none own =
    ap (λ b. cond b (t ∷ filter test (slots ++ s ∷ [])) (filter test (slots ++ s ∷ []))) (none t (inl refl)) ∙ only-last test slots s (λ u at. none u (inr at)) own

-- a shape has no groups, if it is not of groups
abbrev IsFit : Shape → Type 0
IsFit shape = shape.grouped ≡ false → shape.groups ≡ []

own-shape : (shape : Shape) → IsFit shape → shape_of (definition_of shape) ≡ Some shape
own-shape shape fit = by shape.grouped refl
  where
    by : (b : Bool) → shape.grouped ≡ b
        → shape_of (cond b (AutoReduce shape.collection shape.groups shape.fields) (Auto shape.collection shape.fields)) ≡ Some shape
    by true e = ap (λ (b : Bool). Some (record { collection = shape.collection; grouped = b; groups = shape.groups; fields = shape.fields })) (sym e)
    by false e = λ i. Some (record { collection = shape.collection; grouped = sym e i; groups = sym (fit e) i; fields = shape.fields })

asked-fit : (collection : List ℕ) (q : Query) → IsFit (shape_asked collection q)
asked-fit collection q e = elim (asked-shape collection q) [
  | inl plain ↦ (let is = plain.1 in is.groups)
  | inr grouped ↦ (let is = grouped.1 in absurd (let f : true ≡ false = sym is.grouped ∙ e in cc))
]

asks-new : (M : Machine) (ask : Ask) (collection : List ℕ) (shape : Shape) (V : World) → NeedsIndex M ask collection shape
    → let s = new_slot M (made_name M.world shape) (definition_of shape) in V.slots ≡ M.world.slots ++ s ∷ [] → AsksIndex V ask s
asks-new M ask collection shape V need is =
    let s = new_slot M (made_name M.world shape) (definition_of shape) in
    let asked = shape_asked collection ask.query in
    let wide = need.chosen.1 in
    let fit : IsFit shape = λ e. wide.groups ∙ asked-fit collection ask.query (sym wide.grouped ∙ e) in
    let own : covers (slot_shape s) asked ≡ true = ap (λ o. covers o asked) (own-shape shape fit) ∙ need.covers_it in
    let one = only-last (λ t. covers (slot_shape t) asked) M.world.slots s need.chosen.0 own in
    by_shape collection need.origin need.part (
    ap (λ slots. pick asked V.store slots) is ∙ ap (λ slots. chosen asked (M.world.slots ++ s ∷ []) (best V.store slots)) one
    )

-- WHAT IS ANSWERED

same_make : (a b : Shape) → Make a ≡ Make b → a ≡ b
same_make a b h = cc

not_make : (s : Slot) (made : Shape) → Use s ≡ Make made → ⊥
not_make s made h = cc

-- what is to be made for a shape covers it
picked-covers : (shape made : Shape) (M : Machine) → pick shape M.world.store M.world.slots ≡ Make made → covers (Some made) shape ≡ true
picked-covers shape made M h = by (best M.world.store (filter (λ s. covers (slot_shape s) shape) M.world.slots)) h
  where
    by : (found : Option Slot) → chosen shape M.world.slots found ≡ Make made → covers (Some made) shape ≡ true
    by None e = subst (λ s. covers (Some s) shape ≡ true) (same_make (widened shape M.world.slots) made e) (widened-covers shape M.world.slots)
    by (Some s) e = absurd (not_make s made e)

new-answer : (M : Machine) (k : Keeping) (now : ℕ) (ask : Ask) (collection : List ℕ) (shape : Shape) → NeedsIndex M ask collection shape → serving M.world.slots (made_name M.world shape) ≡ None → nat_le M.world.setting.max_slots (length M.world.slots) ≡ false
    → let c = added M.world (made_name M.world shape) (definition_of shape) in
    IsMakingAnswer M k now ask shape (settled M k (answer_made M.world ask c (commit M.world.setting Server now c.commands M.world.store)))
new-answer M k now ask collection shape need free room = by (commit M.world.setting Server now (added M.world (made_name M.world shape) (definition_of shape)).commands M.world.store) refl
  where
    by : (o : Result Written Refused) → commit M.world.setting Server now (added M.world (made_name M.world shape) (definition_of shape)).commands M.world.store ≡ o
        → IsMakingAnswer M k now ask shape (settled M k (answer_made M.world ask (added M.world (made_name M.world shape) (definition_of shape)) o))
    by (Err refused) e = inr (inl (record { refused = refused; cause = e; reply = refl }))
    by (Ok w) e =
        let name = made_name M.world shape in
        let d = definition_of shape in
        let c = added M.world name d in
        let V = changed M.world w.store c in
        let N = with_world M V in
        elim (is_taken k.takes w.rows) as (λ b. is_taken k.takes w.rows ≡ b
        → IsMakingAnswer M k now ask shape (cond b (record { reply = answer_from_index V ask name (serving V.slots name); machine = N }) (same_machine M (Reply.KeeperFault k.before k.after)))) [
          | true ↦ λ t.
              let new = new-made M k now name d free room (record { reply = Reply.Index name; machine = N }) (record {
                wrote = w;
                unrefused = e;
                taken = t;
                made = refl;
                store = commit_from-applied 0 M.world.setting Server now c.commands (record { store = M.world.store; rows = [] }) w e;
              }) in
              inr (inr (inr (record { new = new; asks = asks-new M ask collection shape V need new.slots; reply = ap (answer_from_index V ask name) new.serves })))
          | false ↦ λ t. let n = not-taken k.takes w.rows t in inr (inr (inl (record { later = n.0; failed = n.1; reply = refl })))
        ] refl

making-answered : (M : Machine) (k : Keeping) (now : ℕ) (ask : Ask) (collection : List ℕ) (shape : Shape) → NeedsIndex M ask collection shape → Sound M.world → M.world.setting.max_slots < 2 ^ 32
    → IsMakingAnswer M k now ask shape (settled M k (answer_making M.world now ask (made_name M.world shape) (make M.world shape)))
making-answered M k now ask collection shape need o few =
    let W = M.world in
    let name = made_name W shape in
    let d = definition_of shape in
    let free : serving W.slots name ≡ None = name_of-free W.slots (last W.store + 1) shape (let a = o.limits.slots in omega arith) in
    elim (nat_le W.setting.max_slots (length W.slots)) as (λ b. nat_le W.setting.max_slots (length W.slots) ≡ b
    → IsMakingAnswer M k now ask shape (settled M k (answer_making W now ask name
    (cond b (Err SlotRefusal.TooManyIndexes) (cond (is_some (serving W.slots name)) (Err SlotRefusal.NameServes) (Ok (added W name d))))))) [
      | true ↦ λ e. inl (record { full = leb-true W.setting.max_slots (length W.slots) e; reply = refl })
      | false ↦ λ e. subst (λ found. IsMakingAnswer M k now ask shape (settled M k (answer_making W now ask name (cond (is_some found) (Err SlotRefusal.NameServes) (Ok (added W name d))))))
          (sym free) (new-answer M k now ask collection shape need free e)
    ] refl

pub ask-answered : (M : Machine) (k : Keeping) (now : ℕ) (ask : Ask) → Sound M.world → M.world.setting.max_slots < 2 ^ 32 → AskIsAnswered M k now ask
ask-answered M k now ask o few = by_check (check ask) refl
  where
    by_pick : (collection : List ℕ) (c : Choice) → check ask ≡ None → ask.query.origin ≡ OfCollection collection → is_whole ask.query ≡ false
        → pick (shape_asked collection ask.query) M.world.store M.world.slots ≡ c → IsAskAnswer M k now ask (settled M k (ask_course M.world now ask (answer_picked M.world ask c)))
    by_pick collection (Use s) e origin part picked = IsAskAnswer.answered s (by_shape collection origin part picked) refl
    by_pick collection (Make shape) e origin part picked =
        let need : NeedsIndex M ask collection shape = record {
          origin = origin;
          part = part;
          unrefused = e;
          chosen = subst (IsChosen M.world.store M.world.slots (shape_asked collection ask.query)) picked (pick-chosen M.world.store M.world.slots (shape_asked collection ask.query) o.rising);
          covers_it = picked-covers (shape_asked collection ask.query) shape M picked;
        } in
        IsAskAnswer.making collection shape need (making-answered M k now ask collection shape need o few)

    by_name_of : (name : List ℕ) (there : Option Slot) → ask.query.origin ≡ OfIndex name → serving M.world.slots name ≡ there
        → IsAskAnswer M k now ask (settled M k (ask_course M.world now ask (Answered.Ready (answer_from_index M.world ask name there))))
    by_name_of name None origin e = IsAskAnswer.no_index name origin (record { none = e; reply = refl })
    by_name_of name (Some s) origin e = IsAskAnswer.answered s (by_name name origin e) refl

    by_whole : (collection : List ℕ) (b : Bool) → check ask ≡ None → ask.query.origin ≡ OfCollection collection → is_whole ask.query ≡ b
        → IsAskAnswer M k now ask (settled M k (ask_course M.world now ask (cond b (Answered.Ready (answer_from_collection M.world ask collection)) (answer_picked M.world ask (pick (shape_asked collection ask.query) M.world.store M.world.slots)))))
    by_whole collection true e origin whole = IsAskAnswer.whole collection origin whole refl
    by_whole collection false e origin part = by_pick collection (pick (shape_asked collection ask.query) M.world.store M.world.slots) e origin part refl

    by_origin : (origin : Origin) → check ask ≡ None → ask.query.origin ≡ origin → IsAskAnswer M k now ask (settled M k (ask_course M.world now ask (answer_by_origin M.world ask origin)))
    by_origin (OfIndex name) e origin = by_name_of name (serving M.world.slots name) origin refl
    by_origin (OfCollection collection) e origin = by_whole collection (is_whole ask.query) e origin refl

    by_check : (o : Option PlanRefusal) → check ask ≡ o → IsAskAnswer M k now ask (settled M k (ask_course M.world now ask (unless_refused (answer_by_origin M.world ask ask.query.origin) o)))
    by_check None e = by_origin ask.query.origin e refl
    by_check (Some refusal) e = IsAskAnswer.refused refusal e refl
