-- The flags in replies are exact.
use Rattle.std.proofs.Common.{◌≡◌, ℕ, List, [], ◌∷◌, ◌++◌, true, false, cond, codes, Option, Some, None, Result, Ok, Err, map, refl, sym, ap, ◌∙◌, subst, inl, inr}
use Rattle.spec_store.specs.Commit.{Refusal, Refused, Server, Written, commit}
use Rattle.spec_store.specs.Stale.{stale}
use Rattle.spec_query.specs.Binding.{PlanRefusal, bind, check}
use Rattle.spec_query.specs.Offering.{offered_of}
use Rattle.spec_query.specs.Plan.{Plan}
use Rattle.spec_query.specs.Query as query
use Rattle.spec_query.specs.Query.{Origin, OfIndex, OfCollection, is_whole}
use Rattle.spec_index.specs.Optimiser.{Choice, Make, Shape, Use, pick}
use Rattle.spec_index.specs.World.{Slot, SlotChange, SlotRefusal, reads, serving}
use Rattle.spec_server.specs.Asking.{Answered, MustMake, Ready, answer_ask, answer_from, answer_from_collection, answer_from_index, answer_if_bound, answer_picked, unless_refused}
use Rattle.spec_server.specs.Replies.{Reply}
use Rattle.spec_server.specs.Shapes.{shape_asked}
use Rattle.spec_server.specs.Requests.{Keeping, Find, Ask, Stale, Indexes, Line, Do}
use Rattle.spec_server.specs.Courses.{Machine, Replied, changed, is_taken, same_machine, settled, with_world}
use Rattle.spec_server.specs.Writes.{refused_at, write_refused}
use Rattle.spec_server.specs.Indexing.{answer_made, answer_making, ask_course, made_name, make, slot_refused}
use Rattle.spec_server.specs.Answers.{answer_find, answer_stale, is_stale, listing}
use Rattle.spec_server.specs.Machine.{step}
use Rattle.spec_server.specs.Sound.{Has, Sound}
use Rattle.raven_laws.specs.Flags.{Flag, FlagIsExact, FlagsAreExact, ShowsFlag, flag, flags_in, listed_flag}
use Rattle.raven_laws.specs.Queries.{AsksIndex, FitsIndex}
use Rattle.spec_store.proofs.StaleLemmas.{stale-Unseen, Unseen-stale, fresh-seen, seen-fresh}
use Rattle.raven_laws.proofs.Moving.{Moves, made-Moves}
use Rattle.raven_laws.proofs.PickLemmas.{picked-has}
use Rattle.raven_laws.proofs.PartFlags.{told-several}
use Rattle.raven_laws.proofs.SlotLemmas.{Has-map, Has-mapped, served, serves}
use Rattle.raven_laws.proofs.QueryLemmas.{answer_by_origin, not-whole, plan-answer}

-- INDEXES

-- the flag that is computed is exact, up to any cutoff
exact_flag : (M : Machine) (name : List ℕ) (cutoff : Option ℕ) (s : Slot) → Sound M.world → serving M.world.slots name ≡ Some s
    → FlagIsExact M (flag name cutoff (stale M.world.store (reads s.version) s.version.etag cutoff))
exact_flag M name cutoff s o h =
    let S = M.world.store in
    let scope = reads s.version in
    record {
      slot = s;
      serves = h;
      stale = (stale-Unseen S scope s.version.etag cutoff o.store, Unseen-stale S scope s.version.etag cutoff);
      fresh = (fresh-seen S scope s.version.etag cutoff, seen-fresh S scope s.version.etag cutoff o.store);
    }

find_flag : (M : Machine) (index field ws : List ℕ) (f : Flag) (there : Option Slot) → Sound M.world → serving M.world.slots index ≡ there
    → Has (flags_in (Do (Find index field ws)) (answer_find M.world index field ws there)) f → FlagIsExact M f
find_flag M index field ws f None o h at = absurd at
find_flag M index field ws f (Some s) o h (inl same) = subst (FlagIsExact M) same (exact_flag M index None s o h)
find_flag M index field ws f (Some s) o h (inr no_more) = absurd no_more

stale_flag : (M : Machine) (name : List ℕ) (cutoff : Option ℕ) (f : Flag) (there : Option Slot) → Sound M.world → serving M.world.slots name ≡ there
    → Has (flags_in (Do (Stale name cutoff)) (answer_stale M.world name cutoff there)) f → FlagIsExact M f
stale_flag M name cutoff f None o h at = absurd at
stale_flag M name cutoff f (Some s) o h (inl same) = subst (FlagIsExact M) same (exact_flag M name cutoff s o h)
stale_flag M name cutoff f (Some s) o h (inr no_more) = absurd no_more

listing_flag : (M : Machine) (f : Flag) → Sound M.world → Has (map listed_flag (map (listing M.world.store) M.world.slots)) f → FlagIsExact M f
listing_flag M f o at =
    let l = Has-map listed_flag (map (listing M.world.store) M.world.slots) f at in
    let s = Has-map (listing M.world.store) M.world.slots l.0 l.1 in
    subst (FlagIsExact M) (ap listed_flag s.2 ∙ l.2) (exact_flag M s.0.name None s.0 o (serves M.world.slots s.0 o.apart s.1))

-- QUERIES

found_flag : (M : Machine) (ask : query.Ask) (f : Flag) (s : Slot) (q : Result Plan PlanRefusal) → Sound M.world → Has M.world.slots s
    → Has (flags_in (Do (Ask ask)) (answer_if_bound s.version.table M.world ask s q)) f → FlagIsExact M f
found_flag M ask f s (Err refusal) o has at = absurd at
found_flag M ask f s (Ok q) o has at =
    let exact = exact_flag M s.name ask.cutoff s o (serves M.world.slots s o.apart has) in
    elim (is_whole ask.query) as (λ b. Has (cond b [] (flag s.name ask.cutoff (stale M.world.store (reads s.version) s.version.etag ask.cutoff) ∷ [])) f → FlagIsExact M f) [
      | true ↦ λ h. absurd h
      | false ↦ λ h. elim h [ inl same ↦ subst (FlagIsExact M) same exact | inr no_more ↦ absurd no_more ]
    ] at

index_flag : (M : Machine) (ask : query.Ask) (f : Flag) (name : List ℕ) (there : Option Slot) → Sound M.world → serving M.world.slots name ≡ there
    → Has (flags_in (Do (Ask ask)) (answer_from_index M.world ask name there)) f → FlagIsExact M f
index_flag M ask f name None o h at = absurd at
index_flag M ask f name (Some s) o h at = found_flag M ask f s (bind ask (offered_of s.version.definition)) o (served M.world.slots name s h).0 at

-- a whole collection shows none
collection_flag : (M : Machine) (ask : query.Ask) (f : Flag) (collection : List ℕ) → is_whole ask.query ≡ true → Has (flags_in (Do (Ask ask)) (answer_from_collection M.world ask collection)) f → FlagIsExact M f
collection_flag M ask f collection whole at = absurd (subst (λ b. Has (cond b [] (flag (codes "collection/" ++ collection) ask.cutoff false ∷ [])) f) whole at)

-- a reply that is ready shows exact flags
abbrev IsExactIfReady : Machine → query.Ask → Flag → Answered → Type 0
IsExactIfReady M ask f (Ready reply) = Has (flags_in (Do (Ask ask)) reply) f → FlagIsExact M f
IsExactIfReady M ask f (MustMake shape) = Unit {0}

picked_flag : (M : Machine) (ask : query.Ask) (f : Flag) (shape : Shape) (c : Choice) → Sound M.world → pick shape M.world.store M.world.slots ≡ c → IsExactIfReady M ask f (answer_picked M.world ask c)
picked_flag M ask f shape (Use s) o e = λ at. found_flag M ask f s (bind ask (offered_of s.version.definition)) o (picked-has M.world.store M.world.slots shape s e) at
picked_flag M ask f shape (Make made) o e = tt

origin_flag : (M : Machine) (ask : query.Ask) (f : Flag) (origin : Origin) → Sound M.world → IsExactIfReady M ask f (answer_by_origin M.world ask origin)
origin_flag M ask f (OfIndex name) o = λ at. index_flag M ask f name (serving M.world.slots name) o refl at
origin_flag M ask f (OfCollection collection) o = elim (is_whole ask.query) as (λ b. is_whole ask.query ≡ b
    → IsExactIfReady M ask f (cond b (Ready (answer_from_collection M.world ask collection)) (answer_picked M.world ask (pick (shape_asked collection ask.query) M.world.store M.world.slots)))) [
      | true ↦ λ e. λ at. collection_flag M ask f collection e at
      | false ↦ λ e. picked_flag M ask f (shape_asked collection ask.query) (pick (shape_asked collection ask.query) M.world.store M.world.slots) o refl
    ] refl

refused_flag : (M : Machine) (ask : query.Ask) (f : Flag) (a : Answered) (refusal : Option PlanRefusal) → IsExactIfReady M ask f a → IsExactIfReady M ask f (unless_refused a refusal)
refused_flag M ask f a None h = h
refused_flag M ask f a (Some refusal) h = λ at. absurd at

-- a refusal shows none
write_none : (ask : query.Ask) (f : Flag) (refused : Refused) → Has (flags_in (Do (Ask ask)) (write_refused refused)) f → ⊥
write_none ask f refused = by refused.kind
  where
    by : (kind : Refusal) → Has (flags_in (Do (Ask ask)) (refused_at refused.at kind)) f → ⊥
    by Refusal.ReservedId at = at
    by (Refusal.TooLarge len) at = at
    by (Refusal.CollectionChanged from) at = at
    by (Refusal.Conflict expected found) at = at
    by (Refusal.StoreFull rows) at = at
    by (Refusal.EtagsSpent last) at = at

slot_none : (ask : query.Ask) (f : Flag) (name : List ℕ) (refusal : SlotRefusal) → Has (flags_in (Do (Ask ask)) (slot_refused name refusal)) f → ⊥
slot_none ask f name SlotRefusal.NameServes at = at
slot_none ask f name SlotRefusal.NoIndex at = at
slot_none ask f name SlotRefusal.NoReplacement at = at
slot_none ask f name SlotRefusal.NotesFull at = at
slot_none ask f name SlotRefusal.TooManyIndexes at = at
slot_none ask f name SlotRefusal.ReservedName at = at
slot_none ask f name (SlotRefusal.NotFresh e n) at = at
slot_none ask f name (SlotRefusal.NameTooLong len) at = at

-- the index that a query makes is in the state after it
made_flag : (M : Machine) (k : Keeping) (now : ℕ) (ask : query.Ask) (f : Flag) (name : List ℕ) (r : Result SlotChange SlotRefusal)
    → ((c : SlotChange) (w : Written) → r ≡ Ok c → commit M.world.setting Server now c.commands M.world.store ≡ Ok w → Moves M.world (changed M.world w.store c))
    → let replied = settled M k (answer_making M.world now ask name r) in Has (flags_in (Do (Ask ask)) replied.reply) f → FlagIsExact replied.machine f
made_flag M k now ask f name (Err refusal) moves at = absurd (slot_none ask f name refusal at)
made_flag M k now ask f name (Ok c) moves at = by (commit M.world.setting Server now c.commands M.world.store) refl at
  where
    by : (o : Result Written Refused) → commit M.world.setting Server now c.commands M.world.store ≡ o
        → let replied = settled M k (answer_made M.world ask c o) in Has (flags_in (Do (Ask ask)) replied.reply) f → FlagIsExact replied.machine f
    by (Err refused) e h = absurd (write_none ask f refused h)
    by (Ok w) e h =
        let V = changed M.world w.store c in
        let N = with_world M V in
        let yes : Replied = record { reply = answer_from_index V ask c.name (serving V.slots c.name); machine = N } in
        elim (is_taken k.takes w.rows) as (λ b. let replied : Replied = cond b yes (same_machine M (Reply.KeeperFault k.before k.after)) in Has (flags_in (Do (Ask ask)) replied.reply) f → FlagIsExact replied.machine f) [
          | true ↦ λ g. index_flag N ask f c.name (serving V.slots c.name) (moves c w refl e).sound refl g
          | false ↦ λ g. absurd g
        ] h

ask_flag : (M : Machine) (k : Keeping) (now : ℕ) (ask : query.Ask) (f : Flag) (a : Answered) → Sound M.world → IsExactIfReady M ask f a
    → let replied = settled M k (ask_course M.world now ask a) in Has (flags_in (Do (Ask ask)) replied.reply) f → FlagIsExact replied.machine f
ask_flag M k now ask f (Ready reply) o exact at = exact at
ask_flag M k now ask f (MustMake shape) o exact at = made_flag M k now ask f (made_name M.world shape) (make M.world shape) (λ c w e g. made-Moves now M.world shape c w o e g) at

-- a query on an index shows the flag under the index's own name
asked_flag : (M : Machine) (ask : query.Ask) (s : Slot) → AsksIndex M.world ask s → FitsIndex ask s → ShowsFlag M (Do (Ask ask)) s.name ask.cutoff
asked_flag M ask s asks fits =
    let is = stale M.world.store (reads s.version) s.version.etag ask.cutoff in (
      is,
      subst (λ reply. Has (flags_in (Do (Ask ask)) reply) (flag s.name ask.cutoff is)) (sym (plan-answer M ask s asks fits))
          (subst (λ b. Has (cond b [] (flag s.name ask.cutoff is ∷ [])) (flag s.name ask.cutoff is)) (sym (not-whole M.world ask s asks)) (inl refl)),
    )

-- ALL REPLIES

shown_flag : (M : Machine) (k : Keeping) (now : ℕ) (line : Line) (f : Flag) → Sound M.world → Has (flags_in line (step M k now line).reply) f → FlagIsExact (step M k now line).machine f
shown_flag M k now (Do (Find index field ws)) f o at = find_flag M index field ws f (serving M.world.slots index) o refl at
shown_flag M k now (Do (Ask ask)) f o at = ask_flag M k now ask f (answer_ask M.world ask) o (refused_flag M ask f (answer_from M.world ask) (check ask) (origin_flag M ask f ask.query.origin o)) at
shown_flag M k now (Do (Stale name cutoff)) f o at = stale_flag M name cutoff f (serving M.world.slots name) o refl at
shown_flag M k now (Do Indexes) f o at = listing_flag M f o at
shown_flag M k now other f o at = absurd at

pub Sound-flags : (M : Machine) → Sound M.world → FlagsAreExact M
Sound-flags M o = record {
  exact = λ k now line f at. shown_flag M k now line f o at;
  several = λ k now ask answer e. told-several M.world ask o.store answer e;
  find = λ index field ws s h. (
    is_stale M.world.store s,
    subst (λ there. Has (flags_in (Do (Find index field ws)) (answer_find M.world index field ws there)) (flag index None (is_stale M.world.store s))) (sym h) (inl refl),
  );
  asked = asked_flag M;
  cutoff = λ name cutoff s h. (
    stale M.world.store (reads s.version) s.version.etag cutoff,
    subst (λ there. Has (flags_in (Do (Stale name cutoff)) (answer_stale M.world name cutoff there)) (flag name cutoff (stale M.world.store (reads s.version) s.version.etag cutoff))) (sym h) (inl refl),
  );
  listed = λ s h. (is_stale M.world.store s, Has-mapped listed_flag (map (listing M.world.store) M.world.slots) (listing M.world.store s) (Has-mapped (listing M.world.store) M.world.slots s h));
}
