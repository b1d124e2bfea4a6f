-- A change of the slots: it is refused, or the keeper fails, or it is made; and what its commands leave.
use Rattle.std.proofs.Common.{◌≡◌, ℕ, ◌+◌, List, [], ◌∷◌, Bool, true, false, cond, option_map, Some, None, Result, Ok, Err, refl, sym, ap, ◌∙◌, ◌⊎◌, inl, inr}
use Rattle.std.specs.Option.{option_and_then}
use Rattle.spec_data.specs.Data.{Data}
use Rattle.spec_data.specs.Folding.{folded, same_key}
use Rattle.spec_data.specs.Rows.{Row, key, is_document}
use Rattle.spec_store.specs.Store.{Store, row_at, last}
use Rattle.spec_store.specs.Commit.{AnyVector, Put, Delete, Refused, Server, Written, after_command, after_commands, commit, document_at, row_spelling, tombstone, with_option}
use Rattle.spec_index.specs.World.{SlotChange}
use Rattle.spec_server.specs.Replies.{Reply}
use Rattle.spec_server.specs.Requests.{Keeping}
use Rattle.spec_server.specs.Courses.{Machine, Replied, changed, is_taken, same_machine, settled, with_world}
use Rattle.spec_server.specs.Indexing.{rewrote}
use Rattle.raven_laws.specs.Definitions.{IsRowRefused}
use Rattle.raven_laws.specs.Writes.{IsKeeperFault, row_given}
use Rattle.spec_store.proofs.StoreLemmas.{found_key, row_at-put}
use Rattle.spec_store.proofs.CommitLemmas.{document_found, put_key}
use Rattle.spec_store.proofs.LaterLemmas.{last-with}
use Rattle.raven_laws.proofs.ListedLemmas.{commit_from-applied}

-- the rows are taken, and the world is that of the change
pub record IsMade (M : Machine) (k : Keeping) (now : ℕ) (c : SlotChange) (reply : Reply) (replied : Replied) : Type 0 where
  pub wrote : Written
  pub unrefused : commit M.world.setting Server now c.commands M.world.store ≡ Ok wrote
  pub taken : is_taken k.takes wrote.rows ≡ true
  pub made : replied ≡ record { reply = reply; machine = with_world M (changed M.world wrote.store c) }
  pub store : wrote.store ≡ after_commands now c.commands M.world.store

pub not-taken : (takes : List Bool) (rows : List Row) → is_taken takes rows ≡ false → (later : List Bool) × (takes ≡ false ∷ later)
not-taken takes [] h = absurd cc
not-taken [] (r ∷ rows) h = absurd cc
not-taken (true ∷ more) (r ∷ rows) h = absurd cc
not-taken (false ∷ more) (r ∷ rows) h = (more, refl)

abbrev pub ChangeIsAnswered : Machine → Keeping → ℕ → SlotChange → Reply → Replied → Type 0
ChangeIsAnswered M k now c reply replied = IsRowRefused M now c.commands replied ⊎ (IsKeeperFault M k replied ⊎ IsMade M k now c reply replied)

pub change-answered : (M : Machine) (k : Keeping) (now : ℕ) (c : SlotChange) (reply : Reply)
    → ChangeIsAnswered M k now c reply (settled M k (rewrote M.world reply c (commit M.world.setting Server now c.commands M.world.store)))
change-answered M k now c reply = by (commit M.world.setting Server now c.commands M.world.store) refl
  where
    by : (o : Result Written Refused) → commit M.world.setting Server now c.commands M.world.store ≡ o → ChangeIsAnswered M k now c reply (settled M k (rewrote M.world reply c o))
    by (Err refused) e = inl (record { refused = refused; cause = e; reply = refl })
    by (Ok w) e = elim (is_taken k.takes w.rows) as (λ b. is_taken k.takes w.rows ≡ b
        → ChangeIsAnswered M k now c reply (cond b (record { reply = reply; machine = with_world M (changed M.world w.store c) }) (same_machine M (Reply.KeeperFault k.before k.after)))) [
          | true ↦ λ t. inr (inr (record {
            wrote = w;
            unrefused = e;
            taken = t;
            made = refl;
            store = commit_from-applied 0 M.world.setting Server now c.commands (record { store = M.world.store; rows = [] }) w e;
          }))
          | false ↦ λ t. let n = not-taken k.takes w.rows t in inr (inl (record { later = n.0; failed = n.1; reply = refl }))
        ] refl

-- WHAT COMMANDS LEAVE

abbrev pub put_row : Store → ℕ → List ℕ → Data → Row
put_row S now id body = row_given S now (row_spelling id (row_at (folded id) S.rows)) body

pub after-put : (now : ℕ) (S : Store) (id : List ℕ) (body : Data) (q : List ℕ)
    → row_at q (after_command now S (Put id AnyVector body)).rows ≡ cond (same_key q (folded id)) (Some (put_row S now id body)) (row_at q S.rows)
after-put now S id body q =
    row_at-put q (put_row S now id body) S.rows ∙ ap (λ k. cond (same_key q k) (Some (put_row S now id body)) (row_at q S.rows)) (put_key id S.rows)

pub after-delete : (now : ℕ) (S : Store) (id : List ℕ) (row : Row) (q : List ℕ) → document_at S (folded id) ≡ Some row
    → row_at q (after_command now S (Delete id AnyVector)).rows ≡ cond (same_key q (folded id)) (Some (tombstone (last S + 1) now row)) (row_at q S.rows)
after-delete now S id row q there =
    let t = tombstone (last S + 1) now row in
    let under : key t ≡ folded id = sym (found_key (folded id) S.rows row (document_found S (folded id) row there)) in
    ap (λ o. row_at q (with_option S (option_map (tombstone (last S + 1) now) o)).rows) there
    ∙ row_at-put q t S.rows
    ∙ ap (λ k. cond (same_key q k) (Some t) (row_at q S.rows)) under

pub last-put : (now : ℕ) (S : Store) (id : List ℕ) (body : Data) → last (after_command now S (Put id AnyVector body)) ≡ last S + 1
last-put now S id body = last-with S (put_row S now id body)

pub last-delete : (now : ℕ) (S : Store) (id : List ℕ) (row : Row) → document_at S (folded id) ≡ Some row → last (after_command now S (Delete id AnyVector)) ≡ last S + 1
last-delete now S id row there =
    ap (λ o. last (with_option S (option_map (tombstone (last S + 1) now) o))) there ∙ last-with S (tombstone (last S + 1) now row)

-- a document is found in another store that has the same row
pub same-document : (S N : Store) (q : List ℕ) → row_at q N.rows ≡ row_at q S.rows → document_at N q ≡ document_at S q
same-document S N q e = ap (λ o. option_and_then (λ r. cond (is_document r) (Some r) None) o) e
