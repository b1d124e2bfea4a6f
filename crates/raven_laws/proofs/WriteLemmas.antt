-- What writes leave, and that no row is invented.
use Rattle.std.proofs.Common.{◌≡◌, ℕ, ◌+◌, List, [], ◌∷◌, ◌++◌, Bool, true, false, not, ◌&&◌, cond, length, map, nat_le, nat_eq, codes, is_some, Option, Some, None, Result, Ok, Err, refl, sym, ap, ◌∙◌, subst, ◌⊎◌, inl, inr}
use Rattle.std.specs.List.{starts_with}
use Rattle.std.specs.Option.{option_map}
use Rattle.spec_data.specs.Data.{Data}
use Rattle.spec_data.specs.Faults.{replacement_of}
use Rattle.spec_data.specs.Folding.{folded, same_key}
use Rattle.spec_data.specs.Rows.{Row, key}
use Rattle.spec_store.specs.Store.{Store, AreApart, row_at, last, put, with_row, with_rows}
use Rattle.spec_store.specs.Cleaning.{clean, is_old_tombstone}
use Rattle.spec_index.specs.Cleaning.{clean_upto, cleaned_world}
use Rattle.index_tree.specs.Definitions.{Definition, same_definition}
use Rattle.spec_store.specs.Commit.{Command, AnyVector, Expect, Client, Server, Setting, Refused, Written, after_command, after_commands, commit, document_at, id_of, is_index_id, row_spelling, refusal_of, row_of, tombstone, or_refused, vector_of, with_option, with_written, etags_taken}
use Rattle.spec_server.specs.Replies.{Reply, Result as Done}
use Rattle.spec_index.specs.World.{Slot, World, SlotChange, SlotRefusal, added, added_if_room, added_to, define, define_at, define_beside, define_named, dropped, index_id, name_refusal, remove, removed, serving, switch, taken_out, unchanged, unless_refused, without}
use Rattle.spec_index.specs.Optimiser.{definition_of, pick, retired, retirement}
use Rattle.spec_query.specs.Binding.{PlanRefusal, check}
use Rattle.spec_query.specs.Query as query
use Rattle.spec_query.specs.Query.{Origin, OfIndex, OfCollection, is_dynamic, is_of_index, is_whole}
use Rattle.spec_server.specs.Asking.{Answered, Ready, answer_ask, answer_from, answer_from_collection, answer_from_index, answer_picked, unless_refused as unless_refused_ask}
use Rattle.spec_server.specs.Shapes.{shape_asked}
use Rattle.raven_laws.proofs.QueryLemmas.{answer_by_origin, of_collection}
use Rattle.spec_server.specs.Requests.{Event, Keeping, Line, Do, Get, Find, Ask, Pump, Stale, Indexes, Mask, Stats, Read, Publish, commands_in, Request}
use Rattle.spec_server.specs.Courses.{Machine, Course, Replied, changed, in_world, is_first_taken, is_taken, one_change, same_machine, settled, with_world, Change}
use Rattle.spec_server.specs.Writes.{single_reply, wrote, results_of}
use Rattle.spec_server.specs.Indexing.{ask_course, made_name}
use Rattle.spec_server.specs.Batches.{pump_at}
use Rattle.spec_server.specs.Workers.{held_by}
use Rattle.spec_server.specs.Machine.{after, course_of, run, start, step}
use Rattle.raven_laws.specs.Writes.{row_given, AreWritten, BulkIsAnswered, DeleteIsAnswered, IsCommanded, IsDeleted, IsNotThere, IsPut, IsRefused, IsKeeperFault, IsWritten, OnlyReads, PutIsAnswered}
use Rattle.spec_store.proofs.StoreLemmas.{AreApart-filter, AreApart-put, found_key, found_passing, row_at-put, same_itself, same_row}
use Rattle.spec_store.proofs.CleanLemmas.{clean-rows}
use Rattle.raven_laws.specs.Keeping.{AreTheirRows, IsDone}
use Rattle.raven_laws.proofs.KeepLemmas.{changes-rows}
use Rattle.spec_store.proofs.CommitLemmas.{document_found, put_key}
use Rattle.raven_laws.proofs.ListedLemmas.{commit_from-applied}
use Rattle.raven_laws.proofs.Acts.{AllLeave, AreActs, IsAct, IsReslot, Reslots, advanced_by, all-weaker, chain, course-acts, leave-weaker}
use Rattle.raven_laws.proofs.MachineLemmas.{publish-store, read-world, settled-leaves}
use Rattle.raven_laws.proofs.WorldLemmas.{same_change, past_test, switch-Switches}

-- A FURTHER ROW

pub found_again : (q : List ℕ) (r : Row) (rows : List Row) → key r ≡ q → row_at q (put r rows) ≡ Some r
found_again q r rows under =
    row_at-put q r rows
    ∙ ap (λ k. cond (same_key q k) (Some r) (row_at q rows)) under
    ∙ ap (λ b. cond b (Some r) (row_at q rows)) (same_itself q)

pub others_stay : (M : Machine) (id : List ℕ) (r : Row) → key r ≡ folded id
    → (q : List ℕ) → same_key q (folded id) ≡ false → row_at q (put r M.world.store.rows) ≡ row_at q M.world.store.rows
others_stay M id r under q apart =
    let rows = M.world.store.rows in
    row_at-put q r rows
    ∙ ap (λ k. cond (same_key q k) (Some r) (row_at q rows)) under
    ∙ ap (λ b. cond b (Some r) (row_at q rows)) apart

-- WHAT THE KEEPER DOES

pub first_or_not : (takes : List Bool) → (is_first_taken takes ≡ true) ⊎ ((later : List Bool) × (takes ≡ false ∷ later))
first_or_not [] = inl refl
first_or_not (true ∷ more) = inl refl
first_or_not (false ∷ more) = inr (more, refl)

pub unkept : (M : Machine) (k : Keeping) (kept : Replied) (later : List Bool) → k.takes ≡ false ∷ later
    → IsKeeperFault M k (cond (is_first_taken k.takes) kept (same_machine M (Reply.KeeperFault k.before k.after)))
unkept M k kept later e = subst (λ b. IsKeeperFault M k (cond b kept (same_machine M (Reply.KeeperFault k.before k.after)))) (sym (ap is_first_taken e)) (record {
  later = later;
  failed = e;
  reply = refl;
})

-- PUTS

abbrev pub new_row : Machine → ℕ → List ℕ → Data → Row
new_row M now id body = row_given M.world.store now (row_spelling id (row_at (folded id) M.world.store.rows)) body

pub put-answered : (M : Machine) (k : Keeping) (now : ℕ) (id : List ℕ) (expected : Expect) (body : Data) → PutIsAnswered M k now id expected body
put-answered M k now id expected body =
    let c = Command.Put id expected body in
    let r = new_row M now id body in
    let rows = M.world.store.rows in
    let N : Store = record { rows = put r rows; cleaned = M.world.store.cleaned } in
    let done : Written = record { store = N; rows = r ∷ [] } in
    let under = put_key id rows in
    let kept : Replied = record {
      reply = Reply.Put (vector_of M.world.setting.base (last M.world.store + 1)) (row_spelling id (row_at (folded id) N.rows));
      machine = with_world M (in_world M.world N M.world.slots);
    } in
    elim (refusal_of M.world.setting Client M.world.store c) as (λ o.
    refusal_of M.world.setting Client M.world.store c ≡ o
    → let replied = settled M k (wrote M.world single_reply now (c ∷ []) (or_refused o 0 (Ok done))) in
    IsRefused M now (c ∷ []) replied ⊎ (IsKeeperFault M k replied ⊎ IsPut M k now id expected body replied)) [
      | None ↦ λ e. inr (elim (first_or_not k.takes) as (λ _. let replied = settled M k (wrote M.world single_reply now (c ∷ []) (Ok done)) in IsKeeperFault M k replied ⊎ IsPut M k now id expected body replied) [
        | inl taken ↦ inr (subst (λ b. IsPut M k now id expected body (cond b kept (same_machine M (Reply.KeeperFault k.before k.after)))) (sym taken) (record {
          allowed = record { unrefused = e; taken = taken };
          reply = ap (λ o. Reply.Put (vector_of M.world.setting.base (last M.world.store + 1)) (row_spelling id o)) (found_again (folded id) r rows under);
          kept = found_again (folded id) r rows under;
          others = record { rows = others_stay M id r under; indexes = refl };
        }))
        | inr failed ↦ inl (unkept M k kept failed.0 failed.1)
      ])
      | Some kind ↦ λ e. inl (record { refused = record { at = 0; kind = kind }; cause = ap (λ o. or_refused o 0 (Ok done)) e; reply = refl })
    ] refl

-- DELETIONS

-- the deletion of the document at the id
abbrev deletion : Machine → ℕ → List ℕ → Expect → Option Row → Course
deletion M now id expected d =
    let row = option_map (tombstone (last M.world.store + 1) now) d in
    let w = with_written row (record { store = M.world.store; rows = [] }) in
    one_change (single_reply (results_of M.world.setting.base w.store (Command.Delete id expected ∷ []) (option_map (λ r. r.etag) row ∷ []))) w.rows (in_world M.world w.store M.world.slots)

taken-deletion : (M : Machine) (k : Keeping) (now : ℕ) (id : List ℕ) (expected : Expect) (d : Option Row)
    → refusal_of M.world.setting Client M.world.store (Command.Delete id expected) ≡ None → document_at M.world.store (folded id) ≡ d
    → let replied = settled M k (deletion M now id expected d) in IsKeeperFault M k replied ⊎ (IsNotThere M id expected replied ⊎ IsDeleted M k now id expected replied)
taken-deletion M k now id expected None allowed e = inr (inl (record { unrefused = allowed; none = e; reply = refl }))
taken-deletion M k now id expected (Some d) allowed e =
    let r = tombstone (last M.world.store + 1) now d in
    let rows = M.world.store.rows in
    let under : key r ≡ folded id = sym (found_key (folded id) rows d (document_found M.world.store (folded id) d e)) in
    let kept : Replied = record {
      reply = Reply.Deleted true (row_spelling id (row_at (folded id) (put r rows)));
      machine = with_world M (in_world M.world (record { rows = put r rows; cleaned = M.world.store.cleaned }) M.world.slots);
    } in
    elim (first_or_not k.takes) as (λ _. let replied = settled M k (deletion M now id expected (Some d)) in IsKeeperFault M k replied ⊎ (IsNotThere M id expected replied ⊎ IsDeleted M k now id expected replied)) [
      | inl taken ↦ inr (inr (subst (λ b. IsDeleted M k now id expected (cond b kept (same_machine M (Reply.KeeperFault k.before k.after)))) (sym taken) (record {
        allowed = record { unrefused = allowed; taken = taken };
        row = d;
        there = e;
        reply = ap (λ o. Reply.Deleted true (row_spelling id o)) (found_again (folded id) r rows under);
        kept = found_again (folded id) r rows under;
        others = record { rows = others_stay M id r under; indexes = refl };
      })))
      | inr failed ↦ inl (unkept M k kept failed.0 failed.1)
    ]

pub delete-answered : (M : Machine) (k : Keeping) (now : ℕ) (id : List ℕ) (expected : Expect) → DeleteIsAnswered M k now id expected
delete-answered M k now id expected =
    let c = Command.Delete id expected in
    let done = with_written (row_of now M.world.store c) (record { store = M.world.store; rows = [] }) in
    elim (refusal_of M.world.setting Client M.world.store c) as (λ o.
    refusal_of M.world.setting Client M.world.store c ≡ o
    → let replied = settled M k (wrote M.world single_reply now (c ∷ []) (or_refused o 0 (Ok done))) in
    IsRefused M now (c ∷ []) replied ⊎ (IsKeeperFault M k replied ⊎ (IsNotThere M id expected replied ⊎ IsDeleted M k now id expected replied))) [
      | None ↦ λ e. inr (taken-deletion M k now id expected (document_at M.world.store (folded id)) e refl)
      | Some kind ↦ λ e. inl (record { refused = record { at = 0; kind = kind }; cause = ap (λ o. or_refused o 0 (Ok done)) e; reply = refl })
    ] refl

-- TRANSACTIONS

abbrev written : Machine → (List Done → Reply) → ℕ → List Command → Written → Replied
written M reply now commands w = record {
  reply = reply (results_of M.world.setting.base w.store commands (etags_taken now commands M.world.store));
  machine = with_world M (in_world M.world w.store M.world.slots);
}

bulk-kept : (M : Machine) (k : Keeping) (now : ℕ) (commands : List Command) (w : Written) → commit M.world.setting Client now commands M.world.store ≡ Ok w
    → is_taken k.takes w.rows ≡ true → AreWritten M k now commands (written M Reply.Bulk now commands w)
bulk-kept M k now commands w e taken = record {
  wrote = w;
  unrefused = e;
  taken = taken;
  reply = refl;
  written = commit_from-applied 0 M.world.setting Client now commands (record { store = M.world.store; rows = [] }) w e;
  indexes = refl;
}

bulk-answered-of : (M : Machine) (k : Keeping) (now : ℕ) (commands : List Command) (o : Result Written Refused) → commit M.world.setting Client now commands M.world.store ≡ o
    → let replied = settled M k (wrote M.world Reply.Bulk now commands o) in IsRefused M now commands replied ⊎ (IsKeeperFault M k replied ⊎ AreWritten M k now commands replied)
bulk-answered-of M k now commands (Err refused) e = inl (record { refused = refused; cause = e; reply = refl })
bulk-answered-of M k now commands (Ok w) e =
    inr (elim w.rows as (λ rows. w.rows ≡ rows
    → let replied = settled M k (one_change (written M Reply.Bulk now commands w).reply rows (in_world M.world w.store M.world.slots)) in
    IsKeeperFault M k replied ⊎ AreWritten M k now commands replied) [
      | [] ↦ λ g. inr (bulk-kept M k now commands w e (ap (is_taken k.takes) g))
      | r ∷ rows ↦ λ g. elim (first_or_not k.takes) as (λ _. let replied = cond (is_first_taken k.takes) (written M Reply.Bulk now commands w) (same_machine M (Reply.KeeperFault k.before k.after)) in
          IsKeeperFault M k replied ⊎ AreWritten M k now commands replied) [
            | inl taken ↦ inr (subst (λ b. AreWritten M k now commands (cond b (written M Reply.Bulk now commands w) (same_machine M (Reply.KeeperFault k.before k.after)))) (sym taken) (bulk-kept M k now commands w e (ap (is_taken k.takes) g ∙ taken)))
            | inr failed ↦ inl (unkept M k (written M Reply.Bulk now commands w) failed.0 failed.1)
          ]
    ] refl)

pub bulk-answered : (M : Machine) (k : Keeping) (now : ℕ) (commands : List Command) → BulkIsAnswered M k now commands
bulk-answered M k now commands = bulk-answered-of M k now commands (commit M.world.setting Client now commands M.world.store) refl

-- QUESTIONS AND BATCHES

-- a query that is not dynamic is answered without an index being made
still-ready : (W : World) (ask : query.Ask) → is_dynamic ask.query ≡ false → (reply : Reply) × (answer_ask W ask ≡ Ready reply)
still-ready W ask h = refused-ready (answer_from W ask) (check ask) (by ask.query.origin refl)
  where
    refused-ready : (a : Answered) (o : Option PlanRefusal) → (reply : Reply) × (a ≡ Ready reply) → (reply : Reply) × (unless_refused_ask a o ≡ Ready reply)
    refused-ready a None r = r
    refused-ready a (Some refusal) r = (Reply.BadPlan refusal, refl)

    not-whole : (q : query.Query) (name : List ℕ) → is_dynamic q ≡ false → q.origin ≡ OfCollection name → is_whole q ≡ true
    not-whole q name d e = elim (is_whole q) as (λ b. not (is_of_index q) && not b ≡ false → b ≡ true) [
      | true ↦ λ f. refl
      | false ↦ λ f. absurd (let g = of_collection q name e in cc)
    ] d

    by : (origin : Origin) → ask.query.origin ≡ origin → (reply : Reply) × (answer_by_origin W ask origin ≡ Ready reply)
    by (OfIndex name) e = (answer_from_index W ask name (serving W.slots name), refl)
    by (OfCollection name) e = (
      answer_from_collection W ask name,
      ap (λ b. cond b (Ready (answer_from_collection W ask name)) (answer_picked W ask (pick (shape_asked name ask.query) W.store W.slots))) (not-whole ask.query name h e),
    )

ask-changes-nothing : (M : Machine) (k : Keeping) (now : ℕ) (ask : query.Ask) → is_dynamic ask.query ≡ false → (step M k now (Do (Ask ask))).machine ≡ M
ask-changes-nothing M k now ask h = let r = still-ready M.world ask h in ap (λ a. (settled M k (ask_course M.world now ask a)).machine) r.1

pub reads-change-nothing : (M : Machine) (k : Keeping) (now : ℕ) (line : Line) → OnlyReads line → (step M k now line).machine ≡ M
reads-change-nothing M k now (Do (Get id)) h = refl
reads-change-nothing M k now (Do (Find index field ws)) h = refl
reads-change-nothing M k now (Do (Ask ask)) h = ask-changes-nothing M k now ask h
reads-change-nothing M k now (Do (Mask ask)) h = refl
reads-change-nothing M k now (Do (Stale name cutoff)) h = refl
reads-change-nothing M k now (Do Indexes) h = refl
reads-change-nothing M k now (Do Stats) h = refl
reads-change-nothing M k now other h = absurd h

pub batches-change-no-row : (M : Machine) (k : Keeping) (now max : ℕ) (index : Option (List ℕ)) → (step M k now (Do (Pump max index))).machine.world.store ≡ M.world.store
batches-change-no-row M k now max None = refl
batches-change-no-row M k now max (Some name) = by (serving M.world.slots name)
  where
    by : (there : Option Slot) → (settled M k (pump_at M.world max name there)).machine.world.store ≡ M.world.store
    by None = refl
    by (Some s) = refl

-- NOTHING IS INVENTED

-- a row has the id of the command that wrote it
written_key : (now : ℕ) (S : Store) (c : Command) (x : Row) → row_of now S c ≡ Some x → key x ≡ folded (id_of c)
written_key now S (Command.Put id expected body) x h = ap key (sym (same_row _ x h)) ∙ put_key id S.rows
written_key now S (Command.Delete id expected) x h =
    elim (document_at S (folded id)) as (λ o. document_at S (folded id) ≡ o → option_map (tombstone (last S + 1) now) o ≡ Some x → key x ≡ folded id) [
      | None ↦ λ e g. absurd cc
      | Some d ↦ λ e g. ap key (sym (same_row _ x g)) ∙ sym (found_key (folded id) S.rows d (document_found S (folded id) d e))
    ] refl h

-- after a further row, the row of an id is this one or was there before
either_row : (q : List ℕ) (r x : Row) (rows : List Row) → row_at q (put r rows) ≡ Some x → (x ≡ r) ⊎ (row_at q rows ≡ Some x)
either_row q r x rows h =
    elim (same_key q (key r)) as (λ b. cond b (Some r) (row_at q rows) ≡ Some x → (x ≡ r) ⊎ (row_at q rows ≡ Some x)) [
      | true ↦ λ e. inl (sym (same_row r x e))
      | false ↦ λ e. inr e
    ] (sym (row_at-put q r rows) ∙ h)

-- a request that writes nothing of its own leaves the rows of documents as they were
abbrev Stays : World → World → Type 0
Stays W V = (q : List ℕ) (x : Row) → row_at q V.store.rows ≡ Some x → is_index_id x.id ≡ false → row_at q W.store.rows ≡ Some x

-- what the store has after one command was there, or is what it wrote
after-one : (now : ℕ) (c : Command) (S : Store) (q : List ℕ) (x : Row) → row_at q (after_command now S c).rows ≡ Some x
    → (row_at q S.rows ≡ Some x) ⊎ (row_of now S c ≡ Some x)
after-one now c S q x = elim (row_of now S c) as (λ o. row_at q (with_option S o).rows ≡ Some x → (row_at q S.rows ≡ Some x) ⊎ (o ≡ Some x)) [
  | None ↦ λ h. inl h
  | Some r ↦ λ h. elim (either_row q r x S.rows h) as (λ e. (row_at q S.rows ≡ Some x) ⊎ (Some r ≡ Some x)) [ inl same ↦ inr (ap Some (sym same)) | inr there ↦ inl there ]
]

after-commanded : (now : ℕ) (cs : List Command) (S : Store) (q : List ℕ) (x : Row) → row_at q (after_commands now cs S).rows ≡ Some x
    → (row_at q S.rows ≡ Some x) ⊎ IsCommanded now cs S x
after-commanded now [] S q x h = inl h
after-commanded now (c ∷ cs) S q x h =
    elim (after-commanded now cs (after_command now S c) q x h) as (λ e. (row_at q S.rows ≡ Some x) ⊎ IsCommanded now (c ∷ cs) S x) [
      | inl there ↦ elim (after-one now c S q x there) as (λ e. (row_at q S.rows ≡ Some x) ⊎ IsCommanded now (c ∷ cs) S x) [
        | inl before ↦ inl before
        | inr given ↦ inr (record { earlier = []; command = c; later = cs; among = refl; given = given })
      ]
      | inr g ↦ inr (record { earlier = c ∷ g.earlier; command = g.command; later = g.later; among = ap (λ l. c ∷ l) g.among; given = g.given })
    ]

-- the ids of the commands are those of rows of definitions
abbrev pub AreIndexed : List Command → Type 0
AreIndexed [] = Unit {0}
AreIndexed (c ∷ cs) = (is_index_id (id_of c) ≡ true) × AreIndexed cs

among-indexed : (earlier : List Command) (c : Command) (later : List Command) → AreIndexed (earlier ++ c ∷ later) → is_index_id (id_of c) ≡ true
among-indexed [] c later h = h.0
among-indexed (e ∷ earlier) c later h = among-indexed earlier c later h.1

commanded-indexed : (now : ℕ) (cs : List Command) (S : Store) (x : Row) → AreIndexed cs → IsCommanded now cs S x → is_index_id x.id ≡ true
commanded-indexed now cs S x h g =
    ap (λ q. starts_with nat_eq q (codes "@index/")) (written_key now (after_commands now g.earlier S) g.command x g.given)
    ∙ among-indexed g.earlier g.command g.later (subst AreIndexed g.among h)

indexed-Stays : (now : ℕ) (W : World) (c : SlotChange) (w : Written) → AreIndexed c.commands → commit W.setting Server now c.commands W.store ≡ Ok w → Stays W (changed W w.store c)
indexed-Stays now W c w h e q x at not_index =
    let all = commit_from-applied 0 W.setting Server now c.commands (record { store = W.store; rows = [] }) w e in
    elim (after-commanded now c.commands W.store q x (subst (λ (S : Store). row_at q S.rows ≡ Some x) all at)) as (λ _. row_at q W.store.rows ≡ Some x) [
      | inl there ↦ there
      | inr given ↦ absurd (let t = commanded-indexed now c.commands W.store x h given in cc)
    ]

-- the commands of each change of the indexes are of that kind
added-indexed : (W : World) (name : List ℕ) (d : Definition) (c : SlotChange) → added_if_room W name d ≡ Ok c → AreIndexed c.commands
added-indexed W name d c h =
    let room = past_test (nat_le W.setting.max_slots (length W.slots)) SlotRefusal.TooManyIndexes (Ok (added W name d)) c h in
    subst (λ (x : SlotChange). AreIndexed x.commands) (same_change (added W name d) c room.1) (refl, tt)

define-indexed : (W : World) (name : List ℕ) (d : Definition) (c : SlotChange) → define W name d ≡ Ok c → AreIndexed c.commands
define-indexed W name d c h =
    let room = past_test (nat_le W.setting.max_slots (length W.slots)) SlotRefusal.TooManyIndexes (cond (is_some (serving W.slots name)) (Err SlotRefusal.NameServes) (Ok (added W name d))) c h in
    let free = past_test (is_some (serving W.slots name)) SlotRefusal.NameServes (Ok (added W name d)) c room.1 in
    subst (λ (x : SlotChange). AreIndexed x.commands) (same_change (added W name d) c free.1) (refl, tt)

define_beside-indexed : (W : World) (d : Definition) (s : Slot) (other : Option Slot) (c : SlotChange) → define_beside W d s other ≡ Ok c → AreIndexed c.commands
define_beside-indexed W d s None c = elim (same_definition d s.version.definition) as (λ b. cond b (Ok (unchanged W s.name)) (added_if_room W (replacement_of s.name) d) ≡ Ok c → AreIndexed c.commands) [
  | true ↦ λ h. subst (λ (x : SlotChange). AreIndexed x.commands) (same_change (unchanged W s.name) c h) tt
  | false ↦ λ h. added-indexed W (replacement_of s.name) d c h
]
define_beside-indexed W d s (Some r) c = elim (same_definition d s.version.definition) as (λ b.
    cond {A = Result SlotChange SlotRefusal} b (Ok (dropped W r s.name))
    (cond (same_definition d r.version.definition) (Ok (unchanged W r.name)) (Ok (added_to W (without r.number W.slots) (replacement_of s.name) d))) ≡ Ok c → AreIndexed c.commands) [
      | true ↦ λ h. subst (λ (x : SlotChange). AreIndexed x.commands) (same_change (dropped W r s.name) c h) (refl, tt)
      | false ↦ elim (same_definition d r.version.definition) as (λ b.
          cond {A = Result SlotChange SlotRefusal} b (Ok (unchanged W r.name)) (Ok (added_to W (without r.number W.slots) (replacement_of s.name) d)) ≡ Ok c → AreIndexed c.commands) [
            | true ↦ λ h. subst (λ (x : SlotChange). AreIndexed x.commands) (same_change (unchanged W r.name) c h) tt
            | false ↦ λ h. subst (λ (x : SlotChange). AreIndexed x.commands) (same_change (added_to W (without r.number W.slots) (replacement_of s.name) d) c h) (refl, tt)
          ]
    ]

define_at-indexed : (W : World) (name : List ℕ) (d : Definition) (there : Option Slot) (c : SlotChange) → define_at W name d there ≡ Ok c → AreIndexed c.commands
define_at-indexed W name d None c = added-indexed W name d c
define_at-indexed W name d (Some s) c = define_beside-indexed W d s (serving W.slots (replacement_of s.name)) c

define_named-indexed : (W : World) (name : List ℕ) (d : Definition) (c : SlotChange) → define_named W name d ≡ Ok c → AreIndexed c.commands
define_named-indexed W name d c = elim (name_refusal name) as (λ r. unless_refused r (define_at W name d (serving W.slots name)) ≡ Ok c → AreIndexed c.commands) [
  | None ↦ define_at-indexed W name d (serving W.slots name) c
  | Some refusal ↦ λ h. absurd cc
]

taken_out-indexed : (W : World) (s : Slot) (other : Option Slot) → AreIndexed (taken_out W s other).commands
taken_out-indexed W s None = (refl, tt)
taken_out-indexed W s (Some r) = (refl, (refl, tt))

remove-indexed : (W : World) (name : List ℕ) (c : SlotChange) → remove W name ≡ Ok c → AreIndexed c.commands
remove-indexed W name c = elim (serving W.slots name) as (λ o. removed W o ≡ Ok c → AreIndexed c.commands) [
  | None ↦ λ h. absurd cc
  | Some s ↦ λ h.
      let other = serving W.slots (replacement_of s.name) in
      subst (λ (x : SlotChange). AreIndexed x.commands) (same_change (taken_out W s other) c h) (taken_out-indexed W s other)
]

switch-indexed : (W : World) (name : List ℕ) (c : SlotChange) → switch W name ≡ Ok c → AreIndexed c.commands
switch-indexed W name c h = let w = switch-Switches W name c h in subst (λ (x : SlotChange). AreIndexed x.commands) w.change (refl, (refl, tt))

retirement-indexed : (W : World) → AreIndexed (retirement W).commands
retirement-indexed W = by (retired W.slots)
  where
    by : (slots : List Slot) → AreIndexed (map (λ s. Command.Delete (index_id s.name) AnyVector) slots)
    by [] = tt
    by (s ∷ slots) = (refl, by slots)

reslot-indexed : (r : Request) (W : World) (c : SlotChange) → IsReslot r W c → AreIndexed c.commands
reslot-indexed r W c (IsReslot.defined name d is e) = define_named-indexed W name d c e
reslot-indexed r W c (IsReslot.made shape by e) = define-indexed W (made_name W shape) (definition_of shape) c e
reslot-indexed r W c (IsReslot.removed name is e) = remove-indexed W name c e
reslot-indexed r W c (IsReslot.switched name is e) = switch-indexed W name c e
reslot-indexed r W c (IsReslot.retires is e) = subst (λ (x : SlotChange). AreIndexed x.commands) (sym e) (retirement-indexed W)

reslots-Stays : (now : ℕ) (r : Request) (W : World) (c : Change) → Reslots now r W c → Stays W c.world
reslots-Stays now r W c a =
    subst (λ (x : Change). Stays W x.world) (sym a.is) (indexed-Stays now W a.slots a.written (reslot-indexed r W a.slots a.by) a.commits)

-- a document's row of the store that a request leaves was there, or the request wrote it
abbrev Comes : World → ℕ → List Command → World → Type 0
Comes W now commands V = (q : List ℕ) (x : Row) → row_at q V.store.rows ≡ Some x → is_index_id x.id ≡ false
    → (row_at q W.store.rows ≡ Some x) ⊎ (IsCommanded now commands W.store x × (V.store ≡ after_commands now commands W.store))

stays-Comes : (W : World) (now : ℕ) (commands : List Command) (V : World) → Stays W V → Comes W now commands V
stays-Comes W now commands V stays q x at not_index = inl (stays q x at not_index)

written-Comes : (W : World) (now : ℕ) (commands : List Command) (w : Written) → commit W.setting Client now commands W.store ≡ Ok w
    → Comes W now commands (in_world W w.store W.slots)
written-Comes W now commands w e q x h not_index =
    let all = commit_from-applied 0 W.setting Client now commands (record { store = W.store; rows = [] }) w e in
    elim (after-commanded now commands W.store q x (subst (λ (S : Store). row_at q S.rows ≡ Some x) all h)) as (λ _.
    (row_at q W.store.rows ≡ Some x) ⊎ (IsCommanded now commands W.store x × (w.store ≡ after_commands now commands W.store))) [
      | inl there ↦ inl there
      | inr given ↦ inr (given, all)
    ]

-- what is left by a cleaning was there
left-found : (q : List ℕ) (S : Store) (upto : ℕ) (x : Row) → AreApart S.rows → row_at q (clean upto S).rows ≡ Some x → row_at q S.rows ≡ Some x
left-found q S upto x apart h = (found_passing (λ r. not (is_old_tombstone upto r)) q S.rows x apart (subst (λ rows. row_at q rows ≡ Some x) (clean-rows upto S) h)).0

act-Comes : (now : ℕ) (r : Request) (W : World) (c : Change) → AreApart W.store.rows → IsAct now r W c → Comes W now (commands_in r) c.world
act-Comes now r W c apart (IsAct.writes w is e) = subst (λ (x : Change). Comes W now (commands_in r) x.world) (sym e) (written-Comes W now (commands_in r) w is)
act-Comes now r W c apart (IsAct.reslots a) = stays-Comes W now (commands_in r) c.world (reslots-Stays now r W c a)
act-Comes now r W c apart (IsAct.advances max chosen e) =
    subst (λ (x : Change). Comes W now (commands_in r) x.world) (sym e) (stays-Comes W now (commands_in r) (advanced_by W max chosen) (λ q x at not_index. at))
act-Comes now r W c apart (IsAct.cleans is e) =
    subst (λ (x : Change). Comes W now (commands_in r) x.world) (sym e) (stays-Comes W now (commands_in r) (cleaned_world W) (λ q x at not_index. left-found q W.store (clean_upto W) x apart at))

course-Comes : (now : ℕ) (r : Request) (W : World) (changes : List Change) → AreApart W.store.rows → AreActs now r W changes → AllLeave (Comes W now (commands_in r)) changes
course-Comes now r W changes apart (AreActs.none e) = subst (AllLeave (Comes W now (commands_in r))) (sym e) tt
course-Comes now r W changes apart (AreActs.one c act e) = subst (AllLeave (Comes W now (commands_in r))) (sym e) (act-Comes now r W c apart act, tt)
course-Comes now r W changes apart (AreActs.several is all) =
    leave-weaker (Stays W) (Comes W now (commands_in r)) (stays-Comes W now (commands_in r)) changes
    (chain Stays (λ A B C f g q x at not_index. f q x (g q x at not_index) not_index) W W (λ q x at not_index. at) changes
    (all-weaker (Reslots now r) (λ V c. Stays V c.world) (reslots-Stays now r) W changes all))

-- no change gives two rows the same id
apart-with_rows : (S : Store) (rows : List Row) → AreApart S.rows → AreApart (with_rows S rows).rows
apart-with_rows S [] h = h
apart-with_rows S (r ∷ rows) h = apart-with_rows (with_row S r) rows (AreApart-put r S.rows h)

apart-done : (S : Store) (c : Change) (o : Option ℕ) → AreApart S.rows → IsDone S c o → AreApart c.world.store.rows
apart-done S c None h d = subst (λ (T : Store). AreApart T.rows) (sym d.store) (apart-with_rows S c.rows h)
apart-done S c (Some upto) h d = subst (λ (T : Store). AreApart T.rows) (sym d.store) (subst AreApart (sym (clean-rows upto S)) (AreApart-filter (λ r. not (is_old_tombstone upto r)) S.rows h))

changes-apart : (S : Store) (changes : List Change) → AreApart S.rows → AreTheirRows S changes → AllLeave (λ V. AreApart V.store.rows) changes
changes-apart S [] h a = tt
changes-apart S (c ∷ more) h a = let here = apart-done S c c.cleans h a.0 in (here, changes-apart c.world.store more here a.1)

step-apart : (M : Machine) (k : Keeping) (now : ℕ) (line : Line) → AreApart M.world.store.rows → AreApart (step M k now line).machine.world.store.rows
step-apart M k now (Do request) h =
    settled-leaves (λ V. AreApart V.store.rows) M k (course_of M.world now request) h (changes-apart M.world.store (course_of M.world now request).changes h (changes-rows M.world now (Do request)))
step-apart M k now (Read worker max index) h = subst (λ (V : World). AreApart V.store.rows) (sym (read-world M worker max index (serving M.world.slots index))) h
step-apart M k now (Publish worker) h = subst (λ (T : Store). AreApart T.rows) (sym (publish-store M worker (held_by M.held worker))) h

step-given : (M : Machine) (k : Keeping) (now : ℕ) (line : Line) (more : List Event) (q : List ℕ) (x : Row)
    → AreApart M.world.store.rows → row_at q (step M k now line).machine.world.store.rows ≡ Some x → is_index_id x.id ≡ false
    → (row_at q M.world.store.rows ≡ Some x) ⊎ IsWritten M (record { line = line; now = now; keeping = k } ∷ more) x
step-given M k now (Do request) more q x apart h not_index =
    let course = course_of M.world now request in
    let comes = course-Comes now request M.world course.changes apart (course-acts M.world now request) in
    elim (settled-leaves (Comes M.world now (commands_in request)) M k course (λ p y at plain. inl at) comes q x h not_index) [
      | inl there ↦ inl there
      | inr given ↦ inr (record { before = []; event = record { line = Do request; now = now; keeping = k }; more = more; asked = refl; given = given.0; taken = given.1 })
    ]
step-given M k now (Read worker max index) more q x apart h not_index = inl (subst (λ (W : World). row_at q W.store.rows ≡ Some x) (read-world M worker max index (serving M.world.slots index)) h)
step-given M k now (Publish worker) more q x apart h not_index = inl (subst (λ (S : Store). row_at q S.rows ≡ Some x) (publish-store M worker (held_by M.held worker)) h)

given-later : (M : Machine) (e : Event) (es : List Event) (x : Row) → IsWritten (after M e) es x → IsWritten M (e ∷ es) x
given-later M e es x g = record {
  before = e ∷ g.before;
  event = g.event;
  more = g.more;
  asked = ap (λ l. e ∷ l) g.asked;
  given = g.given;
  taken = g.taken;
}

pub run-given : (es : List Event) (M : Machine) (q : List ℕ) (x : Row) → AreApart M.world.store.rows → row_at q (run es M).world.store.rows ≡ Some x → is_index_id x.id ≡ false
    → (row_at q M.world.store.rows ≡ Some x) ⊎ IsWritten M es x
run-given [] M q x apart h not_index = inl h
run-given (e ∷ es) M q x apart h not_index =
    elim (run-given es (after M e) q x (step-apart M e.keeping e.now e.line apart) h not_index) as (λ o. (row_at q M.world.store.rows ≡ Some x) ⊎ IsWritten M (e ∷ es) x) [
      | inl there ↦ step-given M e.keeping e.now e.line es q x apart there not_index
      | inr given ↦ inr (given-later M e es x given)
    ]

pub start-given : (setting : Setting) (events : List Event) (q : List ℕ) (x : Row)
    → row_at q (run events (start setting)).world.store.rows ≡ Some x → is_index_id x.id ≡ false → IsWritten (start setting) events x
start-given setting events q x h not_index =
    elim (run-given events (start setting) q x tt h not_index) as (λ o. IsWritten (start setting) events x) [ inl there ↦ absurd cc | inr given ↦ given ]
