-- Definitions that say the same, and the answers to a Define, a Remove and a batch for one index.
use Rattle.std.proofs.Common.{◌≡◌, ℕ, ◌+◌, List, [], ◌∷◌, ◌++◌, Bool, true, false, cond, ◌&&◌, nat_lt, nat_le, length, map, Option, Some, None, Ok, Err, refl, sym, ap, ◌∙◌, subst, arith, ◌⊎◌, inl, inr, ◌↔◌}
use Rattle.std.proofs.lemmas.Bool.{eqb-true, eq-eqb, leb-true, leb-false, ltb-true, ltb-false}
use Rattle.std.specs.Cmp.Lexicographic.{nat_list_eq_equiv}
use Rattle.std.specs.Coded.{Coded, coded_list, coded_option}
use base.Stored.{Gv, gnil, gnum, gcons}
use Rattle.spec_data.specs.Codes.{text_code}
use Rattle.spec_data.specs.Data.{Data}
use Rattle.spec_data.specs.Faults.{replacement_of}
use Rattle.spec_data.specs.Folding.{folded, same_key}
use Rattle.spec_data.specs.Rows.{Row, doc}
use Rattle.spec_store.specs.Store.{Store, last, row_at}
use Rattle.index_tree.specs.Definitions.{Definition, Static, Auto, AutoReduce, map_code, path_code, reduce_code, is_same, same_codes, same_definition}
use Rattle.spec_store.specs.Commit.{Command, AnyVector, Server, after_command, commit, document_at, stored_body, tombstone}
use Rattle.spec_index.specs.World.{Slot, SlotRefusal, World, added, added_if_room, added_to, define_at, define_beside, define_named, dropped, index_id, is_named, is_reserved_name, max_index_name, removed, row_body, serving, taken_out, unchanged, unless_refused, without}
use Rattle.spec_server.specs.Sound.{Has, IsListed, Sound}
use Rattle.spec_server.specs.Sound as sound
use Rattle.spec_server.specs.Replies.{Reply}
use Rattle.spec_server.specs.Requests.{Keeping, Pump, Do}
use Rattle.spec_server.specs.Courses.{Machine, Replied, changed, settled, with_world}
use Rattle.spec_server.specs.Indexing.{change_of_slots, rewrote}
use Rattle.spec_server.specs.Batches.{after_batch, after_batch_if_named, pump_at}
use Rattle.spec_server.specs.Machine.{step}
use Rattle.raven_laws.specs.Definitions.{BatchIsAnswered, DefineIsAnswered, IsAdvanced, IsBuiltFor, IsDefineAnswer, IsDeletedRow, IsNewIndex, IsNewReplacement, IsNoIndex, IsRemoveAnswer, IsRemoved, IsReplacementDropped, IsRowRefused, MayBeGiven, OtherNamesStay, OtherSlotsStay, RemoveIsAnswered, SaysTheSame, ServesAnother, ServesIt, new_slot}
use Rattle.raven_laws.specs.Writes.{IsKeeperFault}
use Rattle.spec_store.proofs.StoreLemmas.{both_true, same_itself}
use Rattle.raven_laws.proofs.ChangeLemmas.{IsMade, after-delete, after-put, change-answered, last-delete, put_row, same-document}
use Rattle.raven_laws.proofs.ListedLemmas.{differ, in_indexes_collection, index_apart, index_joined, listed-document}
use Rattle.raven_laws.proofs.ServedLemmas.{serving-append, without-has}
use Rattle.raven_laws.proofs.SlotLemmas.{Has-append, Has-left, Has-map, Has-mapped, Has-without, left, left_or, longer, served, unserved}
use Rattle.raven_laws.proofs.WorldLemmas.{Replaces, found-Replaces, no_replacement, one_number}

-- WHEN TWO DEFINITIONS SAY THE SAME

same_codes-itself : (a : Gv) → same_codes a a ≡ true
same_codes-itself gnil = refl
same_codes-itself (gnum n) = eq-eqb n n refl
same_codes-itself (gcons a b) = λ i. same_codes-itself a i && same_codes-itself b i

same_codes-means : (a b : Gv) → same_codes a b ≡ true → a ≡ b
same_codes-means gnil gnil h = refl
same_codes-means gnil (gnum n) h = absurd cc
same_codes-means gnil (gcons c d) h = absurd cc
same_codes-means (gnum m) gnil h = absurd cc
same_codes-means (gnum m) (gnum n) h = ap gnum (eqb-true m n h)
same_codes-means (gnum m) (gcons c d) h = absurd cc
same_codes-means (gcons a b) gnil h = absurd cc
same_codes-means (gcons a b) (gnum n) h = absurd cc
same_codes-means (gcons a b) (gcons c d) h =
    let both = both_true (same_codes a c) (same_codes b d) h in λ i. gcons (same_codes-means a c both.0 i) (same_codes-means b d both.1 i)

-- two values are equal exactly if their codes are found to be the same
told-apart : {A : Type 0} (code : Coded A) (a b : A) → (is_same code a b ≡ true) ↔ (a ≡ b)
told-apart code a b = (
  λ h. code.inj a b (same_codes-means (code.code a) (code.code b) h),
  λ e. subst (λ x. same_codes (code.code a) (code.code x) ≡ true) e (same_codes-itself (code.code a)),
)

both_are : (a b : Bool) → a ≡ true → b ≡ true → a && b ≡ true
both_are a b h g = λ i. h i && g i

pub definitions-told : (d e : Definition) → (same_definition d e ≡ true) ↔ SaysTheSame d e
definitions-told (Static m r t u) (Static n s v w) = (
  λ h. let both = both_true (is_same map_code m n) (is_same (coded_option reduce_code) r s) h in
      record { map = (told-apart map_code m n).0 both.0; reduce = (told-apart (coded_option reduce_code) r s).0 both.1 },
  λ h. both_are (is_same map_code m n) (is_same (coded_option reduce_code) r s) ((told-apart map_code m n).1 h.map) ((told-apart (coded_option reduce_code) r s).1 h.reduce),
)
definitions-told (Static m r t u) (Auto d others) = (λ h. absurd cc, λ h. absurd h)
definitions-told (Static m r t u) (AutoReduce d others more) = (λ h. absurd cc, λ h. absurd h)
definitions-told (Auto c fields) (Static n s v w) = (λ h. absurd cc, λ h. absurd h)
definitions-told (Auto c fields) (AutoReduce d others more) = (λ h. absurd cc, λ h. absurd h)
definitions-told (AutoReduce c groups sums) (Static n s v w) = (λ h. absurd cc, λ h. absurd h)
definitions-told (AutoReduce c groups sums) (Auto d others) = (λ h. absurd cc, λ h. absurd h)
definitions-told (AutoReduce c groups sums) (AutoReduce d others more) = (
  λ h.
      let first = both_true (is_same text_code c d) (is_same (coded_list path_code) groups others && is_same (coded_list path_code) sums more) h in
      let rest = both_true (is_same (coded_list path_code) groups others) (is_same (coded_list path_code) sums more) first.1 in
      record {
        collection = (told-apart text_code c d).0 first.0;
        groups = (told-apart (coded_list path_code) groups others).0 rest.0;
        sums = (told-apart (coded_list path_code) sums more).0 rest.1;
      },
  λ h. both_are (is_same text_code c d) (is_same (coded_list path_code) groups others && is_same (coded_list path_code) sums more) ((told-apart text_code c d).1 h.collection)
      (both_are (is_same (coded_list path_code) groups others) (is_same (coded_list path_code) sums more) ((told-apart (coded_list path_code) groups others).1 h.groups) ((told-apart (coded_list path_code) sums more).1 h.sums)),
)
definitions-told (Auto c fields) (Auto d others) = (
  λ h. let both = both_true (is_same text_code c d) (is_same (coded_list path_code) fields others) h in
      record { collection = (told-apart text_code c d).0 both.0; fields = (told-apart (coded_list path_code) fields others).0 both.1 },
  λ h. both_are (is_same text_code c d) (is_same (coded_list path_code) fields others) ((told-apart text_code c d).1 h.collection) ((told-apart (coded_list path_code) fields others).1 h.fields),
)

-- DEFINING AN INDEX

-- a new slot at the end serves its name, if no other does
served-pushed : (slots : List Slot) (new : Slot) (name : List ℕ) → serving slots name ≡ None → is_named name new ≡ true → serving (slots ++ new ∷ []) name ≡ Some new
served-pushed [] new name none is = ap (λ b. cond b (Some new) None) is
served-pushed (s ∷ slots) new name none is =
    elim (is_named name s) as (λ b. cond b (Some s) (serving slots name) ≡ None → cond b (Some s) (serving (slots ++ new ∷ []) name) ≡ Some new) [
      | true ↦ λ h. absurd cc
      | false ↦ λ h. served-pushed slots new name h is
    ] none

-- after the Put of a definition its slot has its row, and the rows of all other ids stay as they were
pub put-listed : (now : ℕ) (S : Store) (name : List ℕ) (d : Definition) (new : Slot) → new.name ≡ name → new.row ≡ last S + 1 → new.version.definition ≡ d
    → IsListed (after_command now S (Command.Put (index_id name) AnyVector (row_body d))) new
put-listed now S name d new called under means =
    let r = put_row S now (index_id name) (row_body d) in
    record {
      row = r;
      found = after-put now S (index_id name) (row_body d) (folded (index_id new.name))
          ∙ ap (λ b. cond b (Some r) (row_at (folded (index_id new.name)) S.rows)) (ap (λ n. same_key (folded (index_id n)) (folded (index_id name))) called ∙ same_itself (folded (index_id name)));
      etag = sym under;
      collection = in_indexes_collection d;
      body = sound.second (ap (λ x. doc (stored_body (row_body x))) (sym means));
    }

pub put-others : (now : ℕ) (S : Store) (id : List ℕ) (body : Data) (q : List ℕ) → same_key q (folded id) ≡ false → row_at q (after_command now S (Command.Put id AnyVector body)).rows ≡ row_at q S.rows
put-others now S id body q other = after-put now S id body q ∙ ap (λ b. cond b (Some (put_row S now id body)) (row_at q S.rows)) other

pub delete-others : (now : ℕ) (S : Store) (id : List ℕ) (row : Row) (q : List ℕ) → document_at S (folded id) ≡ Some row → same_key q (folded id) ≡ false
    → row_at q (after_command now S (Command.Delete id AnyVector)).rows ≡ row_at q S.rows
delete-others now S id row q there other = after-delete now S id row q there ∙ ap (λ b. cond b (Some (tombstone (last S + 1) now row)) (row_at q S.rows)) other

pub delete-itself : (now : ℕ) (S : Store) (id : List ℕ) (row : Row) → document_at S (folded id) ≡ Some row
    → row_at (folded id) (after_command now S (Command.Delete id AnyVector)).rows ≡ Some (tombstone (last S + 1) now row)
delete-itself now S id row there =
    after-delete now S id row (folded id) there ∙ ap (λ b. cond b (Some (tombstone (last S + 1) now row)) (row_at (folded id) S.rows)) (same_itself (folded id))

-- the slots without the one that serves a name
none-left : (W : World) (r : Slot) (name : List ℕ) → Sound W → serving W.slots name ≡ Some r → serving (without r.number W.slots) name ≡ None
none-left W r name o is = elim (serving (without r.number W.slots) name) as (λ x. serving (without r.number W.slots) name ≡ x → x ≡ None) [
  | None ↦ λ e. refl
  | Some t ↦ λ e.
      let at = served (without r.number W.slots) name t e in
      let it = served W.slots name r is in
      absurd (left r.number W.slots t at.0 (ap (λ (z : Slot). z.number) (o.apart t r (Has-without r.number W.slots t at.0) it.0 (sym at.1 ∙ it.1))))
] refl

-- a slot of another name is not the one that serves the name
other-left : (W : World) (r : Slot) (name : List ℕ) (x : Slot) → Sound W → serving W.slots name ≡ Some r → Has W.slots x → is_named name x ≡ false → Has (without r.number W.slots) x
other-left W r name x o is h other = elim (left_or r.number W.slots x h) [
  | inl a ↦ a
  | inr e ↦
      let it = served W.slots name r is in
      let same = one_number W x r o h it.0 e in
      absurd (let f = subst (λ q. same_key (folded name) q ≡ true) (it.1 ∙ ap (λ (z : Slot). folded z.name) (sym same)) (same_itself (folded name)) in cc)
]

module _ (M : Machine) (k : Keeping) (now : ℕ) (name : List ℕ) (d : Definition) where
  -- the new index that such a change leaves
  pub new-made : serving M.world.slots name ≡ None → nat_le M.world.setting.max_slots (length M.world.slots) ≡ false
      → (replied : Replied) → IsMade M k now (added M.world name d) (Reply.Index name) replied → IsNewIndex M k now name d replied
  new-made free room replied m = subst (IsNewIndex M k now name d) (sym m.made) (record {
    allowed = record { wrote = m.wrote; unrefused = m.unrefused; taken = m.taken };
    free = free;
    room = leb-false M.world.setting.max_slots (length M.world.slots) room;
    reply = refl;
    slots = refl;
    serves = served-pushed M.world.slots (new_slot M name d) name free (same_itself (folded name));
    listed = subst (λ S. IsListed S (new_slot M name d)) (sym m.store) (put-listed now M.world.store name d (new_slot M name d) refl refl refl);
    rows = λ q other. ap (λ (S : Store). row_at q S.rows) m.store ∙ put-others now M.world.store (index_id name) (row_body d) q other;
  })

  pub new-answered : serving M.world.slots name ≡ None → nat_le M.world.setting.max_slots (length M.world.slots) ≡ false
      → let replied = settled M k (change_of_slots M.world now Reply.Index name (Ok (added M.world name d))) in
      IsRowRefused M now (Command.Put (index_id name) AnyVector (row_body d) ∷ []) replied ⊎ (IsKeeperFault M k replied ⊎ IsNewIndex M k now name d replied)
  new-answered free room = elim (change-answered M k now (added M.world name d) (Reply.Index name)) [
    | inl refused ↦ inl refused
    | inr (inl failed) ↦ inr (inl failed)
    | inr (inr m) ↦ inr (inr (new-made free room (settled M k (change_of_slots M.world now Reply.Index name (Ok (added M.world name d)))) m))
  ]

  define-kept : MayBeGiven name → define_named M.world name d ≡ Ok (added M.world name d) → serving M.world.slots name ≡ None → nat_le M.world.setting.max_slots (length M.world.slots) ≡ false
      → IsDefineAnswer M k now name d (settled M k (change_of_slots M.world now Reply.Index name (Ok (added M.world name d))))
  define-kept given wanted free room = elim (new-answered free room) [
    | inl refused ↦ IsDefineAnswer.refused (record { given = given; change = added M.world name d; wanted = wanted; row = refused })
    | inr (inl failed) ↦ IsDefineAnswer.failed failed
    | inr (inr new) ↦ IsDefineAnswer.defined (record { given = given; new = new })
  ]

  -- a new replacement at the end of these slots
  replacing-answered : (given : MayBeGiven name) (s : Slot) (another : ServesAnother M name d s) (slots : List Slot)
      → define_named M.world name d ≡ Ok (added_to M.world slots (replacement_of s.name) d) → serving slots (replacement_of s.name) ≡ None → serving slots name ≡ Some s
      → ((x : Slot) → Has M.world.slots x → is_named (replacement_of s.name) x ≡ false → Has slots x) → ((x : Slot) → Has slots x → Has M.world.slots x)
      → IsDefineAnswer M k now name d (settled M k (change_of_slots M.world now Reply.Index name (Ok (added_to M.world slots (replacement_of s.name) d))))
  replacing-answered given s another slots wanted free still kept back =
      let called = replacement_of s.name in
      let new = new_slot M called d in
      elim (change-answered M k now (added_to M.world slots called d) (Reply.Index called)) [
        | inl refused ↦ IsDefineAnswer.refused (record { given = given; change = added_to M.world slots called d; wanted = wanted; row = refused })
        | inr (inl failed) ↦ IsDefineAnswer.failed failed
        | inr (inr m) ↦ IsDefineAnswer.replacing (subst (IsNewReplacement M k now name d) (sym m.made) (record {
          given = given;
          slot = s;
          another = another;
          allowed = record { wrote = m.wrote; unrefused = m.unrefused; taken = m.taken };
          reply = refl;
          builds = served-pushed slots new called free (same_itself (folded called));
          still = serving-append slots (new ∷ []) name s still;
          others = record {
            kept = λ x h other. Has-left slots (new ∷ []) x (kept x h other);
            no_more = λ x h other. elim (Has-append slots (new ∷ []) x h) [
              | inl old ↦ back x old
              | inr (inl e) ↦ absurd (let f = ap (is_named called) e in let g = same_itself (folded called) in cc)
              | inr (inr no_more) ↦ absurd no_more
            ];
          };
          listed = subst (λ S. IsListed S new) (sym m.store) (put-listed now M.world.store called d new refl refl refl);
          rows = λ q other. ap (λ (S : Store). row_at q S.rows) m.store ∙ put-others now M.world.store (index_id called) (row_body d) q other;
        }))
      ]

  -- the replacement that is built goes
  dropping-answered : (given : MayBeGiven name) (s r : Slot) → ServesIt M name d s → IsBuiltFor M s (Some r) → Sound M.world → define_named M.world name d ≡ Ok (dropped M.world r s.name)
      → IsDefineAnswer M k now name d (settled M k (change_of_slots M.world now Reply.Index name (Ok (dropped M.world r s.name))))
  dropping-answered given s r it built o wanted =
      let at = served M.world.slots (replacement_of s.name) r built in
      let i = o.listed.each r at.0 in
      let there = listed-document M.world.store r i in
      elim (change-answered M k now (dropped M.world r s.name) (Reply.Index s.name)) [
        | inl refused ↦ IsDefineAnswer.refused (record { given = given; change = dropped M.world r s.name; wanted = wanted; row = refused })
        | inr (inl failed) ↦ IsDefineAnswer.failed failed
        | inr (inr m) ↦ IsDefineAnswer.dropped (subst (IsReplacementDropped M k now name d) (sym m.made) (record {
          given = given;
          slot = s;
          it = it;
          new = r;
          built = built;
          allowed = record { wrote = m.wrote; unrefused = m.unrefused; taken = m.taken };
          reply = refl;
          gone = none-left M.world r (replacement_of s.name) o built;
          others = record { kept = λ x h other. other-left M.world r (replacement_of s.name) x o built h other; no_more = λ x h other. Has-without r.number M.world.slots x h };
          row = record {
            row = i.row;
            there = there;
            deleted = ap (λ (S : Store). row_at (folded (index_id r.name)) S.rows) m.store ∙ delete-itself now M.world.store (index_id r.name) i.row there;
          };
          rows = λ q other. ap (λ (S : Store). row_at q S.rows) m.store ∙ delete-others now M.world.store (index_id r.name) i.row q there other;
        }))
      ]

  define-beside : (given : MayBeGiven name) (s : Slot) (other : Option Slot) → Sound M.world → serving M.world.slots name ≡ Some s → IsBuiltFor M s other → define_named M.world name d ≡ define_beside M.world d s other
      → IsDefineAnswer M k now name d (settled M k (change_of_slots M.world now Reply.Index name (define_beside M.world d s other)))
  define-beside given s None o serves alone wanted =
      let called = replacement_of s.name in
      elim (same_definition d s.version.definition) as (λ b. same_definition d s.version.definition ≡ b
      → define_named M.world name d ≡ cond b (Ok (unchanged M.world s.name)) (added_if_room M.world called d)
      → IsDefineAnswer M k now name d (settled M k (change_of_slots M.world now Reply.Index name (cond b (Ok (unchanged M.world s.name)) (added_if_room M.world called d))))) [
        | true ↦ λ e w. IsDefineAnswer.served (record { given = given; slot = s; it = record { serves = serves; same = (definitions-told d s.version.definition).0 e }; alone = alone; reply = refl })
        | false ↦ λ e w. elim (nat_le M.world.setting.max_slots (length M.world.slots)) as (λ b. nat_le M.world.setting.max_slots (length M.world.slots) ≡ b
            → define_named M.world name d ≡ cond b (Err SlotRefusal.TooManyIndexes) (Ok (added M.world called d))
            → IsDefineAnswer M k now name d (settled M k (change_of_slots M.world now Reply.Index name (cond b (Err SlotRefusal.TooManyIndexes) (Ok (added M.world called d)))))) [
              | true ↦ λ f v. IsDefineAnswer.too_many (record {
                given = given;
                needs = inr (s, record { serves = serves; other = not-same s e }, alone);
                full = leb-true M.world.setting.max_slots (length M.world.slots) f;
                reply = refl;
              })
              | false ↦ λ f v. replacing-answered given s (record { serves = serves; other = not-same s e }) M.world.slots v alone serves (λ x h other. h) (λ x h. h)
            ] refl w
      ] refl wanted
    where
      not-same : (x : Slot) → same_definition d x.version.definition ≡ false → SaysTheSame d x.version.definition → ⊥
      not-same x e h = let f = (definitions-told d x.version.definition).1 h in cc
  define-beside given s (Some r) o serves built wanted =
      let called = replacement_of s.name in
      let p = found-Replaces M.world s r o (served M.world.slots name s serves).0 built in
      elim (same_definition d s.version.definition) as (λ b. same_definition d s.version.definition ≡ b
      → define_named M.world name d ≡ cond b (Ok (dropped M.world r s.name)) (cond (same_definition d r.version.definition) (Ok (unchanged M.world r.name)) (Ok (added_to M.world (without r.number M.world.slots) called d)))
      → IsDefineAnswer M k now name d (settled M k (change_of_slots M.world now Reply.Index name
      (cond b (Ok (dropped M.world r s.name)) (cond (same_definition d r.version.definition) (Ok (unchanged M.world r.name)) (Ok (added_to M.world (without r.number M.world.slots) called d))))))) [
        | true ↦ λ e w. dropping-answered given s r (record { serves = serves; same = (definitions-told d s.version.definition).0 e }) built o w
        | false ↦ λ e w. elim (same_definition d r.version.definition) as (λ b. same_definition d r.version.definition ≡ b
            → define_named M.world name d ≡ cond b (Ok (unchanged M.world r.name)) (Ok (added_to M.world (without r.number M.world.slots) called d))
            → IsDefineAnswer M k now name d (settled M k (change_of_slots M.world now Reply.Index name (cond b (Ok (unchanged M.world r.name)) (Ok (added_to M.world (without r.number M.world.slots) called d)))))) [
              | true ↦ λ f v. IsDefineAnswer.built (record {
                given = given;
                slot = s;
                another = record { serves = serves; other = not-same s e };
                new = r;
                built = built;
                same = (definitions-told d r.version.definition).0 f;
                reply = refl;
              })
              | false ↦ λ f v. replacing-answered given s (record { serves = serves; other = not-same s e }) (without r.number M.world.slots) v (none-left M.world r called o built)
                  (without-has M.world s r name s o.rising p.new p.named (no_replacement name given.unreserved) serves) (λ x h other. other-left M.world r called x o built h other) (λ x h. Has-without r.number M.world.slots x h)
            ] refl w
      ] refl wanted
    where
      not-same : (x : Slot) → same_definition d x.version.definition ≡ false → SaysTheSame d x.version.definition → ⊥
      not-same x e h = let f = (definitions-told d x.version.definition).1 h in cc

  define-at : (there : Option Slot) → Sound M.world → serving M.world.slots name ≡ there → (given : MayBeGiven name) → define_named M.world name d ≡ define_at M.world name d there
      → IsDefineAnswer M k now name d (settled M k (change_of_slots M.world now Reply.Index name (define_at M.world name d there)))
  define-at None o free given wanted =
      elim (nat_le M.world.setting.max_slots (length M.world.slots)) as (λ b. nat_le M.world.setting.max_slots (length M.world.slots) ≡ b
      → define_named M.world name d ≡ cond b (Err SlotRefusal.TooManyIndexes) (Ok (added M.world name d))
      → IsDefineAnswer M k now name d (settled M k (change_of_slots M.world now Reply.Index name (cond b (Err SlotRefusal.TooManyIndexes) (Ok (added M.world name d)))))) [
        | true ↦ λ e w. IsDefineAnswer.too_many (record { given = given; needs = inl free; full = leb-true M.world.setting.max_slots (length M.world.slots) e; reply = refl })
        | false ↦ λ e w. define-kept given w free e
      ] refl wanted
  define-at (Some s) o serves given wanted = define-beside given s (serving M.world.slots (replacement_of s.name)) o serves refl wanted

  pub define-answered : Sound M.world → DefineIsAnswered M k now name d
  define-answered o =
      let rest = define_at M.world name d (serving M.world.slots name) in
      elim (is_reserved_name name) as (λ b. is_reserved_name name ≡ b
      → define_named M.world name d ≡ unless_refused (cond b (Some SlotRefusal.ReservedName) (cond (nat_lt max_index_name (length name)) (Some (SlotRefusal.NameTooLong (length name))) None)) rest
      → IsDefineAnswer M k now name d (settled M k (change_of_slots M.world now Reply.Index name (unless_refused (cond b (Some SlotRefusal.ReservedName)
      (cond (nat_lt max_index_name (length name)) (Some (SlotRefusal.NameTooLong (length name))) None)) rest)))) [
        | true ↦ λ e w. IsDefineAnswer.reserved (record { reserved = e; reply = refl })
        | false ↦ λ e w. elim (nat_lt max_index_name (length name)) as (λ b. nat_lt max_index_name (length name) ≡ b
            → define_named M.world name d ≡ unless_refused (cond b (Some (SlotRefusal.NameTooLong (length name))) None) rest
            → IsDefineAnswer M k now name d (settled M k (change_of_slots M.world now Reply.Index name (unless_refused (cond b (Some (SlotRefusal.NameTooLong (length name))) None) rest)))) [
              | true ↦ λ f v. IsDefineAnswer.too_long (record { unreserved = e; long = ltb-true max_index_name (length name) f; reply = refl })
              | false ↦ λ f v. define-at (serving M.world.slots name) o refl (record { unreserved = e; short = ltb-false max_index_name (length name) f }) v
            ] refl w
      ] refl refl

-- REMOVING AN INDEX

-- two deletions, one after the other
module _ (M : Machine) (s r : Slot) (now : ℕ) (o : Sound M.world) (p : Replaces M.world s r) where
  abbrev first : Store
  first = after_command now M.world.store (Command.Delete (index_id s.name) AnyVector)

  pub rows_apart : same_key (folded (index_id r.name)) (folded (index_id s.name)) ≡ false
  rows_apart = differ (folded (index_id r.name)) (folded (index_id s.name)) (λ e. longer s.name (sym p.named ∙ index_apart r.name s.name e))

  pub old_row : IsListed M.world.store s
  old_row = o.listed.each s p.old

  pub new_row : IsListed M.world.store r
  new_row = o.listed.each r p.new

  second_there : document_at first (folded (index_id r.name)) ≡ Some new_row.row
  second_there =
      same-document M.world.store first (folded (index_id r.name))
      (delete-others now M.world.store (index_id s.name) old_row.row (folded (index_id r.name)) (listed-document M.world.store s old_row) rows_apart)
      ∙ listed-document M.world.store r new_row

  both-others : (q : List ℕ) → same_key q (folded (index_id s.name)) ≡ false → same_key q (folded (index_id r.name)) ≡ false
      → row_at q (after_command now first (Command.Delete (index_id r.name) AnyVector)).rows ≡ row_at q M.world.store.rows
  both-others q a b = delete-others now first (index_id r.name) new_row.row q second_there b ∙ delete-others now M.world.store (index_id s.name) old_row.row q (listed-document M.world.store s old_row) a

  both-old : row_at (folded (index_id s.name)) (after_command now first (Command.Delete (index_id r.name) AnyVector)).rows ≡ Some (tombstone (last M.world.store + 1) now old_row.row)
  both-old =
      delete-others now first (index_id r.name) new_row.row (folded (index_id s.name)) second_there (nat_list_eq_equiv.symm (folded (index_id s.name)) (folded (index_id r.name)) ∙ rows_apart)
      ∙ delete-itself now M.world.store (index_id s.name) old_row.row (listed-document M.world.store s old_row)

  both-new : row_at (folded (index_id r.name)) (after_command now first (Command.Delete (index_id r.name) AnyVector)).rows ≡ Some (tombstone (last M.world.store + 2) now new_row.row)
  both-new =
      delete-itself now first (index_id r.name) new_row.row second_there
      ∙ ap (λ n. Some (tombstone n now new_row.row)) (let e = last-delete now M.world.store (index_id s.name) old_row.row (listed-document M.world.store s old_row) in let f : last first + 1 ≡ last M.world.store + 2 = omega arith in f)

named-itself : (s : Slot) → is_named s.name s ≡ true
named-itself s = same_itself (folded s.name)

-- a slot that has neither name is none of the two
pub apart-of : (name : List ℕ) (x s : Slot) → is_named name x ≡ false → folded name ≡ folded s.name → x ≡ s → ⊥
apart-of name x s other e same = let f = subst (λ q. same_key (folded name) q ≡ true) (e ∙ ap (λ (z : Slot). folded z.name) (sym same)) (same_itself (folded name)) in cc

removed-none : (M : Machine) (s : Slot) (other : Option Slot) (name : List ℕ) → Sound M.world → serving M.world.slots name ≡ Some s → IsBuiltFor M s other → serving (taken_out M.world s other).slots name ≡ None
removed-none M s other name o serves built = elim (serving (taken_out M.world s other).slots name) as (λ x. serving (taken_out M.world s other).slots name ≡ x → x ≡ None) [
  | None ↦ λ e. refl
  | Some t ↦ λ e.
      let at = served (taken_out M.world s other).slots name t e in
      let it = served M.world.slots name s serves in
      absurd (left s.number M.world.slots t (within other t at.0) (ap (λ (z : Slot). z.number) (o.apart t s (Has-without s.number M.world.slots t (within other t at.0)) it.0 (sym at.1 ∙ it.1))))
] refl
  where
    within : (x : Option Slot) (t : Slot) → Has (taken_out M.world s x).slots t → Has (without s.number M.world.slots) t
    within None t h = h
    within (Some r) t h = Has-without r.number (without s.number M.world.slots) t h

removed-alone : (M : Machine) (s : Slot) (other : Option Slot) → Sound M.world → Has M.world.slots s → IsBuiltFor M s other → serving (taken_out M.world s other).slots (replacement_of s.name) ≡ None
removed-alone M s None o at built = elim (serving (without s.number M.world.slots) (replacement_of s.name)) as (λ x. serving (without s.number M.world.slots) (replacement_of s.name) ≡ x → x ≡ None) [
  | None ↦ λ e. refl
  | Some t ↦ λ e. let f = served (without s.number M.world.slots) (replacement_of s.name) t e in
      absurd (unserved M.world.slots (replacement_of s.name) built t (Has-without s.number M.world.slots t f.0) (sym f.1))
] refl
removed-alone M s (Some r) o at built =
    let less = without s.number M.world.slots in
    let p = found-Replaces M.world s r o at built in
    elim (serving (without r.number less) (replacement_of s.name)) as (λ x. serving (without r.number less) (replacement_of s.name) ≡ x → x ≡ None) [
      | None ↦ λ e. refl
      | Some t ↦ λ e.
          let f = served (without r.number less) (replacement_of s.name) t e in
          let there = Has-without s.number M.world.slots t (Has-without r.number less t f.0) in
          absurd (left r.number less t f.0 (ap (λ (z : Slot). z.number) (o.apart t r there p.new (sym f.1 ∙ sym p.named))))
    ] refl

removed-others : (M : Machine) (s : Slot) (other : Option Slot) (S : Store) → Sound M.world → Has M.world.slots s → IsBuiltFor M s other
    → OtherNamesStay M s.name (with_world M (changed M.world S (taken_out M.world s other)))
removed-others M s None S o at built = record {
  kept = λ x h a b. elim (left_or s.number M.world.slots x h) [ inl k ↦ k | inr e ↦ absurd (apart-of s.name x s a refl (one_number M.world x s o h at e)) ];
  no_more = λ x h a b. Has-without s.number M.world.slots x h;
}
removed-others M s (Some r) S o at built =
    let less = without s.number M.world.slots in
    let p = found-Replaces M.world s r o at built in
    record {
      kept = λ x h a b. elim (left_or s.number M.world.slots x h) [
        | inr e ↦ absurd (apart-of s.name x s a refl (one_number M.world x s o h at e))
        | inl k ↦ elim (left_or r.number less x k) [
          | inl j ↦ j
          | inr e ↦ absurd (apart-of (replacement_of s.name) x r b (sym p.named) (one_number M.world x r o h p.new e))
        ]
      ];
      no_more = λ x h a b. Has-without s.number M.world.slots x (Has-without r.number less x h);
    }

removal-made : (M : Machine) (k : Keeping) (now : ℕ) (name : List ℕ) (s : Slot) (other : Option Slot) → Sound M.world → serving M.world.slots name ≡ Some s → IsBuiltFor M s other
    → (replied : Replied) → IsMade M k now (taken_out M.world s other) (Reply.Removed s.name) replied → IsRemoved M k now name replied
removal-made M k now name s None o serves built replied m =
    let at = (served M.world.slots name s serves).0 in
    let i = o.listed.each s at in
    let there = listed-document M.world.store s i in
    subst (IsRemoved M k now name) (sym m.made) (record {
      slot = s;
      serves = serves;
      other = None;
      built = built;
      allowed = record { wrote = m.wrote; unrefused = m.unrefused; taken = m.taken };
      reply = refl;
      gone = removed-none M s None name o serves built;
      alone = removed-alone M s None o at built;
      others = removed-others M s None m.wrote.store o at built;
      row = record { row = i.row; there = there; deleted = ap (λ (S : Store). row_at (folded (index_id s.name)) S.rows) m.store ∙ delete-itself now M.world.store (index_id s.name) i.row there };
      other_row = λ r e. absurd cc;
      rows = λ q a b. ap (λ (S : Store). row_at q S.rows) m.store ∙ delete-others now M.world.store (index_id s.name) i.row q there a;
    })
removal-made M k now name s (Some r) o serves built replied m =
    let at = (served M.world.slots name s serves).0 in
    let p = found-Replaces M.world s r o at built in
    let i = old_row M s r now o p in
    let j = new_row M s r now o p in
    subst (IsRemoved M k now name) (sym m.made) (record {
      slot = s;
      serves = serves;
      other = Some r;
      built = built;
      allowed = record { wrote = m.wrote; unrefused = m.unrefused; taken = m.taken };
      reply = refl;
      gone = removed-none M s (Some r) name o serves built;
      alone = removed-alone M s (Some r) o at built;
      others = removed-others M s (Some r) m.wrote.store o at built;
      row = record {
        row = i.row;
        there = listed-document M.world.store s i;
        deleted = ap (λ (S : Store). row_at (folded (index_id s.name)) S.rows) m.store ∙ both-old M s r now o p;
      };
      other_row = λ x e. let same : r ≡ x = cc in subst (λ (y : Slot). IsDeletedRow M now (index_id y.name) (last M.world.store + 2) (with_world M (changed M.world m.wrote.store (taken_out M.world s (Some r))))) same (record {
        row = j.row;
        there = listed-document M.world.store r j;
        deleted = ap (λ (S : Store). row_at (folded (index_id r.name)) S.rows) m.store ∙ both-new M s r now o p;
      });
      rows = λ q a b. ap (λ (S : Store). row_at q S.rows) m.store ∙ both-others M s r now o p q a (ap (λ n. same_key q n) (index_joined r.name (replacement_of s.name) p.named) ∙ b);
    })

named-taken : (W : World) (s : Slot) (other : Option Slot) → (taken_out W s other).name ≡ s.name
named-taken W s None = refl
named-taken W s (Some r) = refl

removed-answered : (M : Machine) (k : Keeping) (now : ℕ) (name : List ℕ) (there : Option Slot) → serving M.world.slots name ≡ there → Sound M.world
    → IsRemoveAnswer M k now name (settled M k (change_of_slots M.world now Reply.Removed name (removed M.world there)))
removed-answered M k now name None e o = inl (record { none = e; reply = refl })
removed-answered M k now name (Some s) serves o =
    let other = serving M.world.slots (replacement_of s.name) in
    let c = taken_out M.world s other in
    subst (λ n. IsRemoveAnswer M k now name (settled M k (rewrote M.world (Reply.Removed n) c (commit M.world.setting Server now c.commands M.world.store)))) (sym (named-taken M.world s other))
    (elim (change-answered M k now c (Reply.Removed s.name)) [
      | inl refused ↦ inr (inl (record { slot = s; serves = serves; other = other; built = refl; row = refused }))
      | inr (inl failed) ↦ inr (inr (inl failed))
      | inr (inr m) ↦ inr (inr (inr (removal-made M k now name s other o serves refl _ m)))
    ])

pub remove-answered : (M : Machine) (k : Keeping) (now : ℕ) (name : List ℕ) → Sound M.world → RemoveIsAnswered M k now name
remove-answered M k now name o = removed-answered M k now name (serving M.world.slots name) refl o

-- A BATCH FOR ONE INDEX

abbrev brought : Machine → ℕ → List ℕ → Slot → Slot
brought M max name = after_batch_if_named M.world.store max name

brought-named : (M : Machine) (max : ℕ) (name : List ℕ) (s : Slot) → is_named name s ≡ true → brought M max name s ≡ after_batch M.world.store max s
brought-named M max name s is = ap (λ b. cond b (after_batch M.world.store max s) s) is

brought-other : (M : Machine) (max : ℕ) (name : List ℕ) (s : Slot) → is_named name s ≡ false → brought M max name s ≡ s
brought-other M max name s is = ap (λ b. cond b (after_batch M.world.store max s) s) is

map-others : (M N : Machine) (max : ℕ) (name : List ℕ) → N.world.slots ≡ map (brought M max name) M.world.slots → OtherSlotsStay M name N
map-others M N max name e = record {
  kept = λ s h other. subst (λ slots. Has slots s) (sym e) (subst (Has (map (brought M max name) M.world.slots)) (brought-other M max name s other) (Has-mapped (brought M max name) M.world.slots s h));
  no_more = λ s h other. let x = Has-map (brought M max name) M.world.slots s (subst (λ slots. Has slots s) e h) in from s other x.0 x.1 x.2;
}
  where
    from : (s : Slot) → is_named name s ≡ false → (x : Slot) → Has M.world.slots x → brought M max name x ≡ s → Has M.world.slots s
    from s other x h is = elim (is_named name x) as (λ b. is_named name x ≡ b → Has M.world.slots s) [
      | true ↦ λ f. absurd (let g : is_named name x ≡ is_named name s = ap (is_named name) (sym (brought-named M max name x f) ∙ is) in cc)
      | false ↦ λ f. subst (Has M.world.slots) (sym (brought-other M max name x f) ∙ is) h
    ] refl

pub batch-answered : (M : Machine) (k : Keeping) (now max : ℕ) (name : List ℕ) → BatchIsAnswered M k now max name
batch-answered M k now max name = by (serving M.world.slots name) refl
  where
    by : (there : Option Slot) → serving M.world.slots name ≡ there → let replied = settled M k (pump_at M.world max name there) in IsNoIndex M name replied ⊎ IsAdvanced M max name replied
    by None e = inl (record { none = e; reply = refl })
    by (Some s) e =
        let at = served M.world.slots name s e in
        let named : is_named name s ≡ true = subst (λ q. same_key (folded name) q ≡ true) at.1 (same_itself (folded name)) in
        inr (record {
          slot = s;
          serves = e;
          reply = refl;
          brought = subst (Has (map (brought M max name) M.world.slots)) (brought-named M max name s named) (Has-mapped (brought M max name) M.world.slots s at.0);
          others = map-others M (settled M k (pump_at M.world max name (Some s))).machine max name refl;
          store = refl;
        })

pub batch-others : (M : Machine) (k : Keeping) (now max : ℕ) (name : List ℕ) → OtherSlotsStay M name (step M k now (Do (Pump max (Some name)))).machine
batch-others M k now max name = by (serving M.world.slots name)
  where
    by : (there : Option Slot) → OtherSlotsStay M name (settled M k (pump_at M.world max name there)).machine
    by None = record { kept = λ s h other. h; no_more = λ s h other. h }
    by (Some s) = map-others M (settled M k (pump_at M.world max name (Some s))).machine max name refl
