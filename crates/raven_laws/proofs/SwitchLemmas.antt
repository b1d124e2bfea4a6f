-- The answer to a Switch.
use Rattle.std.proofs.Common.{◌≡◌, ℕ, ◌+◌, ◌<◌, List, true, false, cond, codes, length, map, nat_eq, nat_le, Option, Some, None, Result, Ok, Err, refl, sym, ap, ◌∙◌, subst, arith, ◌⊎◌, inl, inr}
use Rattle.std.proofs.lemmas.Bool.{leb-true, leb-false, ltb-true}
use Rattle.std.specs.List.{starts_with}
use Rattle.std.specs.Cmp.Lexicographic.{nat_list_eq_equiv}
use Rattle.spec_data.specs.Faults.{replacement_of}
use Rattle.spec_data.specs.Folding.{folded, same_key}
use Rattle.spec_store.specs.Store.{Store, last, row_at}
use Rattle.spec_store.specs.Commit.{Command, AnyVector, after_command, document_at, tombstone}
use Rattle.spec_index.specs.World.{Slot, SlotChange, SlotRefusal, begins_with_replacement, index_id, is_named, is_stale, named_anew, newest_read, reads, renamed, row_body, serving, switched, switched_to, takes_over, without}
use Rattle.spec_server.specs.Replies.{Reply}
use Rattle.spec_server.specs.Requests.{Keeping}
use Rattle.spec_server.specs.Courses.{Machine, Replied, changed, settled, with_world}
use Rattle.spec_server.specs.Indexing.{change_of_slots}
use Rattle.spec_server.specs.Sound.{Has, IsListed, Sound}
use Rattle.raven_laws.specs.Definitions.{AreRowsAllowed, IsBuiltFor, IsDeletedRow, IsSwitchAnswer, IsSwitched, OtherNamesStay, SwitchIsAnswered}
use Rattle.raven_laws.specs.Served.{IsSwitch}
use Rattle.spec_store.proofs.StaleLemmas.{stale-newest}
use Rattle.spec_store.proofs.StoreLemmas.{same_itself}
use Rattle.raven_laws.proofs.ChangeLemmas.{IsMade, change-answered, last-put, same-document}
use Rattle.raven_laws.proofs.DefinitionLemmas.{apart-of, delete-itself, delete-others, new_row, put-listed, put-others, rows_apart}
use Rattle.raven_laws.proofs.ListedLemmas.{index_joined, listed-document}
use Rattle.raven_laws.proofs.ServedLemmas.{takes_over-one}
use Rattle.raven_laws.proofs.SlotLemmas.{Has-map, Has-mapped, Has-without, left, left_or, longer, served}
use Rattle.raven_laws.proofs.WorldLemmas.{Replaces, found-Replaces, no_replacement, one_number, taken}

module _ (M : Machine) (s r : Slot) (now : ℕ) (o : Sound M.world) (p : Replaces M.world s r) where
  abbrev less : List Slot
  less = without s.number M.world.slots

  abbrev take : Slot → Slot
  take = renamed r.number s.name (last M.world.store + 1)

  abbrev taker : Slot
  taker = named_anew s.name (last M.world.store + 1) r

  -- the slots after the switch: the taker, and those that were there but the two
  after-is : (y : Slot) → Has (map take less) y → (taker ≡ y) ⊎ (Has M.world.slots y × (y.number ≡ s.number → ⊥) × (y.number ≡ r.number → ⊥))
  after-is y h =
      let x = Has-map take less y h in
      let there = Has-without s.number M.world.slots x.0 x.1 in
      elim (taken M.world s r o p x.0 there) [
        | inl a ↦ inl (sym a.1 ∙ x.2)
        | inr a ↦
            let same : x.0 ≡ y = sym a.1 ∙ x.2 in
            inr (subst (λ (z : Slot). Has M.world.slots z × (z.number ≡ s.number → ⊥) × (z.number ≡ r.number → ⊥)) same (there, λ e. left s.number M.world.slots x.0 x.1 e, a.0))
      ]

  after-none : serving (map take less) (replacement_of s.name) ≡ None
  after-none = elim (serving (map take less) (replacement_of s.name)) as (λ x. serving (map take less) (replacement_of s.name) ≡ x → x ≡ None) [
    | None ↦ λ e. refl
    | Some t ↦ λ e.
        let at = served (map take less) (replacement_of s.name) t e in
        elim (after-is t at.0) [
          | inl same ↦ absurd (longer s.name (at.1 ∙ ap (λ (z : Slot). folded z.name) (sym same)))
          | inr k ↦ absurd (k.2 (ap (λ (z : Slot). z.number) (o.apart t r k.0 p.new (sym at.1 ∙ sym p.named))))
        ]
  ] refl

  after-others : (S : Store) → OtherNamesStay M s.name (with_world M (changed M.world S (takes_over M.world s r)))
  after-others S = record {
    kept = λ x h a b. elim (left_or s.number M.world.slots x h) [
      | inr e ↦ absurd (apart-of s.name x s a refl (one_number M.world x s o h p.old e))
      | inl k ↦ elim (taken M.world s r o p x h) [
        | inl same ↦ absurd (apart-of (replacement_of s.name) x r b (sym p.named) same.0)
        | inr same ↦ subst (Has (map take less)) same.1 (Has-mapped take less x k)
      ]
    ];
    no_more = λ x h a b. elim (after-is x h) [
      | inl same ↦ absurd (let f = ap (is_named s.name) same in let g = same_itself (folded s.name) in cc)
      | inr k ↦ k.0
    ];
  }

  -- the Put and then the Delete
  abbrev first : Store
  first = after_command now M.world.store (Command.Put (index_id s.name) AnyVector (row_body r.version.definition))

  abbrev both : Store
  both = after_command now first (Command.Delete (index_id r.name) AnyVector)

  its_row : IsListed M.world.store r
  its_row = new_row M s r now o p

  its_there : document_at first (folded (index_id r.name)) ≡ Some its_row.row
  its_there =
      same-document M.world.store first (folded (index_id r.name))
      (put-others now M.world.store (index_id s.name) (row_body r.version.definition) (folded (index_id r.name)) (rows_apart M s r now o p))
      ∙ listed-document M.world.store r its_row

  both-listed : IsListed both taker
  both-listed =
      let i = put-listed now M.world.store s.name r.version.definition taker refl refl refl in
      record {
        row = i.row;
        found = delete-others now first (index_id r.name) its_row.row (folded (index_id s.name)) its_there (nat_list_eq_equiv.symm (folded (index_id s.name)) (folded (index_id r.name)) ∙ rows_apart M s r now o p) ∙ i.found;
        etag = i.etag;
        collection = i.collection;
        body = i.body;
      }

  both-deleted : row_at (folded (index_id r.name)) both.rows ≡ Some (tombstone (last M.world.store + 2) now its_row.row)
  both-deleted =
      delete-itself now first (index_id r.name) its_row.row its_there
      ∙ ap (λ n. Some (tombstone n now its_row.row)) (let e = last-put now M.world.store (index_id s.name) (row_body r.version.definition) in let f : last first + 1 ≡ last M.world.store + 2 = omega arith in f)

  both-others : (q : List ℕ) → same_key q (folded (index_id s.name)) ≡ false → same_key q (folded (index_id (replacement_of s.name))) ≡ false → row_at q both.rows ≡ row_at q M.world.store.rows
  both-others q a b =
      delete-others now first (index_id r.name) its_row.row q its_there (ap (λ n. same_key q n) (index_joined r.name (replacement_of s.name) p.named) ∙ b)
      ∙ put-others now M.world.store (index_id s.name) (row_body r.version.definition) q a

  -- the name is that of s, which a client gave
  plain : (name : List ℕ) → folded name ≡ folded s.name → begins_with_replacement name ≡ false
  plain name e = ap (λ q. starts_with nat_eq q (codes "replacementof/")) e ∙ no_replacement s.name p.given

  pub switched-it : (name : List ℕ) (S : Store) → serving M.world.slots name ≡ Some s → IsBuiltFor M s (Some r) → is_stale M.world.store r ≡ false → IsSwitch M.world (changed M.world S (takes_over M.world s r)) name s
  switched-it name S serves built fresh =
      let at = served M.world.slots name s serves in
      elim ((takes_over-one M.world s r S o p built fresh).step name s (plain name at.1) serves) [
        | inr was ↦ was
        | inl kept ↦ elim (after-is s (served (map take less) name s kept).0) [
          | inl same ↦ absurd (let e = ap (λ (z : Slot). z.number) same in let f = one_number M.world r s o p.new p.old e in longer s.name (sym p.named ∙ ap (λ (z : Slot). folded z.name) f))
          | inr k ↦ absurd (k.1 refl)
        ]
      ]

  pub switch-made : (k : Keeping) (name : List ℕ) → serving M.world.slots name ≡ Some s → IsBuiltFor M s (Some r) → length M.world.notes < M.world.setting.max_notes → is_stale M.world.store r ≡ false
      → (replied : Replied) → IsMade M k now (takes_over M.world s r) (Reply.Switched (last M.world.store + 1) s.name) replied → IsSwitched M k now name replied
  switch-made k name serves built room fresh replied m =
      let was = switched-it name m.wrote.store serves built fresh in
      let same : r ≡ was.new = (let f : (let x : Option Slot = Some r in x) ≡ Some was.new = sym built ∙ was.built in cc) in
      subst (IsSwitched M k now name) (sym m.made) (record {
        slot = s;
        serves = serves;
        switch = was;
        allowed = subst (λ (x : Slot). AreRowsAllowed M k now (takes_over M.world s x).commands) same (record { wrote = m.wrote; unrefused = m.unrefused; taken = m.taken });
        room = room;
        reply = refl;
        gone = after-none;
        others = after-others m.wrote.store;
        listed = subst (λ (x : Slot). IsListed m.wrote.store (named_anew s.name (last M.world.store + 1) x)) same (subst (λ S. IsListed S taker) (sym m.store) both-listed);
        row = subst (λ (x : Slot). IsDeletedRow M now (index_id x.name) (last M.world.store + 2) (with_world M (changed M.world m.wrote.store (takes_over M.world s r)))) same (record {
          row = its_row.row;
          there = listed-document M.world.store r its_row;
          deleted = ap (λ (S : Store). row_at (folded (index_id r.name)) S.rows) m.store ∙ both-deleted;
        });
        rows = λ q a b. ap (λ (S : Store). row_at q S.rows) m.store ∙ both-others q a b;
      })

to-answered : (M : Machine) (k : Keeping) (now : ℕ) (name : List ℕ) (s : Slot) (other : Option Slot) → Sound M.world → serving M.world.slots name ≡ Some s → IsBuiltFor M s other
    → IsSwitchAnswer M k now name (settled M k (change_of_slots M.world now (Reply.Switched (last M.world.store + 1)) name (switched_to M.world s other)))
to-answered M k now name s None o serves none = IsSwitchAnswer.no_replacement (record { slot = s; serves = serves; none = none; reply = refl })
to-answered M k now name s (Some r) o serves built =
    let W = M.world in
    let reply = Reply.Switched (last W.store + 1) in
    let late : Result SlotChange SlotRefusal = Err (SlotRefusal.NotFresh r.version.etag (newest_read W.store r)) in
    elim (nat_le W.setting.max_notes (length W.notes)) as (λ b. nat_le W.setting.max_notes (length W.notes) ≡ b
    → IsSwitchAnswer M k now name (settled M k (change_of_slots W now reply name (cond b (Err SlotRefusal.NotesFull) (cond (is_stale W.store r) late (Ok (takes_over W s r))))))) [
      | true ↦ λ e. IsSwitchAnswer.full (record { slot = s; serves = serves; new = r; built = built; full = leb-true W.setting.max_notes (length W.notes) e; reply = refl })
      | false ↦ λ e. elim (is_stale W.store r) as (λ b. is_stale W.store r ≡ b → IsSwitchAnswer M k now name (settled M k (change_of_slots W now reply name (cond b late (Ok (takes_over W s r)))))) [
        | true ↦ λ f. IsSwitchAnswer.stale (record {
          slot = s;
          serves = serves;
          new = r;
          built = built;
          room = leb-false W.setting.max_notes (length W.notes) e;
          stale = f;
          behind = ltb-true r.version.etag (newest_read W.store r) (sym (stale-newest W.store (reads r.version) r.version.etag None o.store) ∙ f);
          reply = refl;
        })
        | false ↦ λ f. elim (change-answered M k now (takes_over W s r) (reply s.name)) [
          | inl refused ↦ IsSwitchAnswer.refused (record { slot = s; serves = serves; new = r; built = built; row = refused })
          | inr (inl failed) ↦ IsSwitchAnswer.failed failed
          | inr (inr m) ↦ IsSwitchAnswer.switched (switch-made M s r now o (found-Replaces W s r o (served W.slots name s serves).0 built) k name serves built (leb-false W.setting.max_notes (length W.notes) e) f _ m)
        ]
      ] refl
    ] refl

pub switch-answered : (M : Machine) (k : Keeping) (now : ℕ) (name : List ℕ) → Sound M.world → SwitchIsAnswered M k now name
switch-answered M k now name o = by (serving M.world.slots name) refl
  where
    by : (there : Option Slot) → serving M.world.slots name ≡ there
        → IsSwitchAnswer M k now name (settled M k (change_of_slots M.world now (Reply.Switched (last M.world.store + 1)) name (switched M.world there)))
    by None e = IsSwitchAnswer.no_index (record { none = e; reply = refl })
    by (Some s) e = to-answered M k now name s (serving M.world.slots (replacement_of s.name)) o e refl
