-- A further command is taken, or refused.
use Rattle.std.proofs.Common.{◌≡◌, ℕ, ◌+◌, List, [], ◌∷◌, ◌++◌, length, Option, Some, None, Result, Ok, Err, IfOk, IfErr, refl, sym, ap, subst, ◌∙◌, append_assoc}
use Rattle.std.specs.Option.{option_map}
use Rattle.std.proofs.lemmas.List.{length-append}
use Rattle.doc_txn.specs.FaultView.{Refuses, RefusesAt, kind_view}
use Rattle.doc_txn.specs.TransactionView.{written_of}
use Rattle.doc_txn.specs.declared.fault.TxnFault.{TxnFault}
use Rattle.doc_txn.specs.declared.fault.TxnFault.TheVariants as f
use Rattle.doc_txn.specs.declared.transaction.Transaction.{Transaction}
use Rattle.spec_data.specs.Rows.{Row}
use Rattle.spec_store.specs.Store.{Store, IsStore}
use Rattle.spec_store.specs.Commit.{Command, Commits, Writer, Setting, Refused, Written, after_command, commit, commit_from, etags_taken, refusal_of, row_of, or_refused, with_option, with_written}
use Rattle.spec_store.proofs.CommitLemmas.{commit-Commits}

abbrev begun : Store → Written
begun S = record { store = S; rows = [] }

-- before the first command, where its place is the number of etags so far
pub begins : (s : Setting) (w : Writer) (now : ℕ) (cs left : List Command) (S : Store) (start : Written) (etags : List (Option ℕ)) → start ≡ begun S → etags ≡ [] → left ≡ cs
    → commit_from (length etags) s w now left start ≡ commit s w now cs S
begins s w now cs left S start etags starts none is = λ i. commit_from (length (none i)) s w now (is i) (starts i)

pub begins_etags : (now : ℕ) (cs left : List Command) (S : Store) (start : Written) (etags : List (Option ℕ)) → start ≡ begun S → etags ≡ [] → left ≡ cs
    → etags ++ etags_taken now left start.store ≡ etags_taken now cs S
begins_etags now cs left S start etags starts none is = λ i. none i ++ etags_taken now (is i) (starts i).store

-- A COMMAND THAT IS TAKEN

pub takes_on : (at next : ℕ) (s : Setting) (w : Writer) (now : ℕ) (cs more : List Command) (c : Command) (done new : Written) (all : Result Written Refused)
    → next ≡ at + 1 → cs ≡ c ∷ more → commit_from at s w now cs done ≡ all → refusal_of s w done.store c ≡ None → new ≡ with_written (row_of now done.store c) done → commit_from next s w now more new ≡ all
takes_on at next s w now cs more c done new all one split h none is =
    (λ i. commit_from (one i) s w now more (is i))
    ∙ ap (λ o. or_refused o at (commit_from (at + 1) s w now more (with_written (row_of now done.store c) done))) (sym none)
    ∙ ap (λ xs. commit_from at s w now xs done) (sym split) ∙ h

pub one_etag_more : (taken etags : List (Option ℕ)) (etag : Option ℕ) → etags ≡ taken ++ etag ∷ [] → length etags ≡ length taken + 1
one_etag_more taken etags etag is = ap length is ∙ length-append taken (etag ∷ [])

store_of : (row : Option Row) (done : Written) → (with_written row done).store ≡ with_option done.store row
store_of None done = refl
store_of (Some r) done = refl

pub etags_on : (now : ℕ) (cs more : List Command) (c : Command) (done new : Written) (taken etags all : List (Option ℕ))
    → cs ≡ c ∷ more → taken ++ etags_taken now cs done.store ≡ all → new ≡ with_written (row_of now done.store c) done → etags ≡ taken ++ option_map (λ r. r.etag) (row_of now done.store c) ∷ []
    → etags ++ etags_taken now more new.store ≡ all
etags_on now cs more c done new taken etags all split h is more_etags =
    let after : new.store ≡ after_command now done.store c = ap (λ (w : Written). w.store) is ∙ store_of (row_of now done.store c) done in
    (λ i. more_etags i ++ etags_taken now more (after i))
    ∙ append_assoc taken (option_map (λ r. r.etag) (row_of now done.store c) ∷ []) (etags_taken now more (after_command now done.store c))
    ∙ ap (λ xs. taken ++ etags_taken now xs done.store) (sym split) ∙ h

-- A COMMAND THAT IS REFUSED

refused_here : (at : ℕ) (s : Setting) (w : Writer) (now : ℕ) (more : List Command) (c : Command) (done : Written) (fault : TxnFault)
    → RefusesAt at fault (refusal_of s w done.store c) → Refuses fault (commit_from at s w now (c ∷ more) done)
refused_here at s w now more c done (f.Refused place kind) h =
    ap (λ o. or_refused o at (commit_from (at + 1) s w now more (with_written (row_of now done.store c) done))) h.1
    ∙ ap (λ n. or_refused (Some (kind_view kind)) n (commit_from (at + 1) s w now more (with_written (row_of now done.store c) done))) (sym h.0)
refused_here at s w now more c done f.NoMemory h = tt

pub refuses : (at : ℕ) (s : Setting) (w : Writer) (now : ℕ) (cs more : List Command) (c : Command) (done : Written) (all : Result Written Refused) (fault : TxnFault)
    → cs ≡ c ∷ more → commit_from at s w now cs done ≡ all → RefusesAt at fault (refusal_of s w done.store c) → Refuses fault all
refuses at s w now cs more c done all fault split h refused =
    subst (Refuses fault) (ap (λ xs. commit_from at s w now xs done) (sym split) ∙ h) (refused_here at s w now more c done fault refused)

-- ONE COMMAND ALONE, on the store from which it starts

module _ (S : Store) (start : Transaction) (starts : written_of start ≡ begun S) (none : start.etags ≡ []) (s : Setting) (w : Writer) (now : ℕ) (c : Command) where
  pub one_ok : (r : Result Transaction TxnFault) → IfOk r (λ _. refusal_of s w start.store c ≡ None) → IfOk r (λ done. written_of done ≡ with_written (row_of now start.store c) (written_of start))
      → IfOk r (λ done. commit s w now (c ∷ []) S ≡ Ok (written_of done))
  one_ok (Ok done) allowed is =
      sym (takes_on 0 1 s w now (c ∷ []) [] c (written_of start) (written_of done) (commit s w now (c ∷ []) S) refl refl (ap (commit_from 0 s w now (c ∷ [])) starts) allowed is)
  one_ok (Err fault) allowed is = tt

  pub one_grows : (r : Result Transaction TxnFault) → IfOk r (λ done. commit s w now (c ∷ []) S ≡ Ok (written_of done)) → IfOk r (λ done. IsStore S → Commits S (written_of done))
  one_grows (Ok done) h = λ sound. commit-Commits s w now (c ∷ []) S (written_of done) sound h
  one_grows (Err fault) h = tt

  pub one_etags : (r : Result Transaction TxnFault) → IfOk r (λ done. done.etags ≡ start.etags ++ option_map (λ r. r.etag) (row_of now start.store c) ∷ []) → IfOk r (λ done. done.etags ≡ etags_taken now (c ∷ []) S)
  one_etags (Ok done) is = is ∙ λ i. none i ++ option_map (λ r. r.etag) (row_of now (starts i).store c) ∷ []
  one_etags (Err fault) is = tt

  pub one_refused : (r : Result Transaction TxnFault) → IfErr r (λ fault. RefusesAt (length start.etags) fault (refusal_of s w start.store c)) → IfErr r (λ fault. Refuses fault (commit s w now (c ∷ []) S))
  one_refused (Ok done) h = tt
  one_refused (Err fault) h =
      refuses (length start.etags) s w now (c ∷ []) [] c (written_of start) (commit s w now (c ∷ []) S) fault refl (begins s w now (c ∷ []) (c ∷ []) S (written_of start) start.etags starts none refl) h
