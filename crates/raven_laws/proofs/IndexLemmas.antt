-- What an index has recorded stays right, also after a batch.
use Rattle.std.proofs.Common.{◌≡◌, ℕ, ◌≤◌, List, [], ◌∷◌, ◌++◌, Bool, true, false, cond, ◌&&◌, nat_lt, Option, Some, None, filter, refl, sym, ap, ◌∙◌, subst, arith, ◌⊎◌, inl, inr}
use Rattle.std.specs.Bool.{IsTrue}
use Rattle.std.proofs.lemmas.Bool.{ltb-true, ltb-false}
use Rattle.std.proofs.lemmas.List.{take-append-drop}
use Rattle.std.specs.List.{list_any}
use Rattle.std.specs.Str.{bytes_eq}
use Rattle.std.specs.Option.{option_or, option_and_then}
use Rattle.std.specs.Cmp.Lexicographic.{nat_list_cmp_total}
use Rattle.std.specs.FinMap.{get, empty, get-empty, same_map, nat_cmp-IsAntisymmetric, slice_cmp-IsAntisymmetric}
use Rattle.spec_data.specs.Folding.{key_cmp, same_key}
use Rattle.spec_data.specs.Rows.{Row, key, is_document}
use Rattle.spec_store.specs.Store.{row_at, last_of, AreRising, AreApart, Store, last, IsStore}
use Rattle.spec_store.specs.Later.{StillHas, MayBeCleaned, Later}
use Rattle.spec_data.specs.Tables.{Table, Scope, in_scope, note_row, note_rows}
use Rattle.spec_index.specs.Index.{record_of, Agrees, etag_after, etag_of_batch, documents}
use Rattle.spec_store.specs.Stale.{past, batch_rows, left_over, up_to, stale}
use Rattle.spec_store.proofs.StoreLemmas.{same_row, both_true, found_etag, found_key, same_means, row_at-append, found_passing, passing_found, AreApart-filter, AreApart-front, AreRising-filter, AreRising-front, AreRising-back, last_of-rising, last_of-append, last_of-filter, row_at-filter, only_if, any_false}
use Rattle.spec_store.proofs.LaterLemmas.{StillHas-then}
use Rattle.spec_store.proofs.TableLemmas.{get-note_row}

-- An id that lost its row was a tombstone up to the etag, of which the table has nothing. So the table agrees with every later store of which no more
-- was cleaned, or no more than up to the etag.
pub Agrees-later : (scope : Scope) (T : Table) (S N : Store) (e : ℕ) → Agrees scope T S e → Later S N → e ≤ last S → (N.cleaned ≤ S.cleaned) ⊎ (N.cleaned ≤ e) → Agrees scope T N e
Agrees-later scope T S N e a l le up = record {
  known = λ q t h. let s = a.known q t h in StillHas-then N.rows q t s.row s.same s.spelled s.no_older (there q t s.row h s.found (l.kept q s.row s.found) up);
  exact = λ q r h before. a.exact q r (l.settled q r h (omega arith)) before;
  filed = a.filed;
  scoped = a.scoped;
  dated = a.dated;
}
  where
    no_record : (r t : Row) → is_document r ≡ false → record_of scope r ≡ Some t → ⊥
    no_record r t gone h = elim (in_scope scope r) as (λ b. cond (b && is_document r) (Some r) None ≡ Some t → ⊥) [
      | true ↦ λ g. let f = sym (ap (λ b. cond b (Some r) None) gone) ∙ g in absurd cc
      | false ↦ λ g. absurd cc
    ] h

    there : (q : List ℕ) (t r : Row) → get T q ≡ Some t → row_at q S.rows ≡ Some r → StillHas N.rows q r ⊎ MayBeCleaned S N r → (N.cleaned ≤ S.cleaned) ⊎ (N.cleaned ≤ e) → StillHas N.rows q r
    there q t r h is (inl k) way = k
    there q t r h is (inr c) (inl same) = absurd (let m = c.more in omega arith)
    there q t r h is (inr c) (inr under) = elim c.deleted [
      | inl gone ↦ absurd (no_record r t gone (sym (a.exact q r is (let x = c.reached in omega arith)) ∙ h))
      | inr far ↦ absurd (omega arith)
    ]

-- what a table has under an id once the last row of that id is noted, if there is one
unfoldable pub noted : Option Row → Option Row → Option Row
noted None t = t
noted (Some r) t = cond (is_document r) (Some r) None

pub get-note_rows : (T : Table) (rows : List Row) (q : List ℕ) → AreApart rows → get (note_rows T rows) q ≡ noted (row_at q rows) (get T q)
unfolding noted
get-note_rows T [] q h = refl
get-note_rows T (r ∷ rows) q h =
    get-note_rows (note_row T r) rows q h.1 ∙ ap (noted (row_at q rows)) (get-note_row T r q)
    ∙ elim (same_key q (key r)) as (λ b. same_key q (key r) ≡ b → noted (row_at q rows) (cond b (cond (is_document r) (Some r) None) (get T q)) ≡ noted (cond b (Some r) (row_at q rows)) (get T q)) [
      | true ↦ λ e. ap (λ o. noted o (cond (is_document r) (Some r) None)) (subst (λ k. row_at k rows ≡ None) (sym (same_means q (key r) e)) h.0)
      | false ↦ λ e. refl
    ] refl

-- the etags of the rows past an etag rise from it
past_rising : (scope : Scope) (e low : ℕ) (rows : List Row) → AreRising low rows → AreRising e (filter (λ r. in_scope scope r && nat_lt e r.etag) rows)
past_rising scope e low [] up = tt
past_rising scope e low (x ∷ rows) up =
    elim (in_scope scope x && nat_lt e x.etag) as (λ b. in_scope scope x && nat_lt e x.etag ≡ b → AreRising e (cond b (x ∷ filter (λ r. in_scope scope r && nat_lt e r.etag) rows) (filter (λ r. in_scope scope r && nat_lt e r.etag) rows))) [
      | true ↦ λ is. (ltb-true e x.etag (both_true (in_scope scope x) (nat_lt e x.etag) is).1, AreRising-filter x.etag (λ r. in_scope scope r && nat_lt e r.etag) rows up.1)
      | false ↦ λ is. past_rising scope e x.etag rows up.1
    ] refl

-- nothing is recorded under the id of a row that is not in scope
pub unread : (scope : Scope) (T : Table) (S : Store) (e : ℕ) (q : List ℕ) (r : Row) → Agrees scope T S e → row_at q S.rows ≡ Some r → in_scope scope r ≡ false → get T q ≡ None
unread scope T S e q r a h out =
    elim (get T q) as (λ o. get T q ≡ o → o ≡ None) [
      | None ↦ λ is. refl
      | Some t ↦ λ is.
          let s = a.known q t is in
          let same : s.row ≡ r = same_row s.row r (sym s.found ∙ h) in
          let c : t.collection ≡ r.collection = sym s.same ∙ ap (λ (x : Row). x.collection) same in
          let inside = subst (λ d. list_any (bytes_eq d) scope ≡ true) c (a.scoped q t is) in absurd cc
    ] refl

same_found : (q : List ℕ) (rows : List Row) (a b : Row) → row_at q rows ≡ Some a → row_at q rows ≡ Some b → a ≡ b
same_found q rows a b h g = same_row a b (sym h ∙ g)

no_wait : (e low : ℕ) → low ≤ e → nat_lt e low ≡ true → ⊥
no_wait e low h t = let lt = ltb-true e low t in omega arith

-- the rows are what a batch takes: exactly the store's rows in scope past `e`, up to the etag `new`
pub record Taken (scope : Scope) (S : Store) (e : ℕ) (rows : List Row) (new : ℕ) : Type 0 where
  pub apart : AreApart rows
  pub from : (q : List ℕ) (r : Row) → row_at q rows ≡ Some r → (row_at q S.rows ≡ Some r) × (in_scope scope r ≡ true) × (nat_lt e r.etag ≡ true) × (r.etag ≤ new)
  pub whole : (q : List ℕ) (r : Row) → row_at q S.rows ≡ Some r → in_scope scope r ≡ true → nat_lt e r.etag ≡ true → r.etag ≤ new → row_at q rows ≡ Some r
  pub onward : e ≤ new
  pub within : new ≤ last S

pub Agrees-taken : (scope : Scope) (T : Table) (S : Store) (e : ℕ) (rows : List Row) (new : ℕ) → IsStore S → Agrees scope T S e → Taken scope S e rows new → Agrees scope (note_rows T rows) S new
unfolding noted
Agrees-taken scope T S e rows new s a t = record {
  known = λ q x h. elim (row_at q rows) as (λ o. row_at q rows ≡ o → noted o (get T q) ≡ Some x → StillHas S.rows q x) [
    | None ↦ λ is g. a.known q x g
    | Some r ↦ λ is g. let same : r ≡ x = kept_row r x g in
        record { row = x; found = (t.from q r is).0 ∙ ap Some same; same = refl; spelled = refl; no_older = omega arith }
  ] refl (sym (get-note_rows T rows q t.apart) ∙ h);
  exact = λ q r h le. get-note_rows T rows q t.apart ∙ elim (in_scope scope r) as (λ b. in_scope scope r ≡ b → noted (row_at q rows) (get T q) ≡ cond (b && is_document r) (Some r) None) [
    | true ↦ λ inside. elim (nat_lt e r.etag) as (λ b. nat_lt e r.etag ≡ b → noted (row_at q rows) (get T q) ≡ cond (is_document r) (Some r) None) [
      | true ↦ λ later. ap (λ o. noted o (get T q)) (t.whole q r h inside later le)
      | false ↦ λ early. untaken q r h (λ g. let u = t.from q r g in let v = u.2 in cc)
          ∙ a.exact q r h (ltb-false e r.etag early) ∙ ap (λ b. cond (b && is_document r) (Some r) None) inside
    ] refl
    | false ↦ λ outside. untaken q r h (λ g. let u = t.from q r g in let v = u.1 in cc) ∙ unread scope T S e q r a h outside
  ] refl;
  filed = λ q x h. elim (row_at q rows) as (λ o. row_at q rows ≡ o → noted o (get T q) ≡ Some x → (q ≡ key x) × (is_document x ≡ true)) [
    | None ↦ λ is g. a.filed q x g
    | Some r ↦ λ is g. (found_key q rows x (is ∙ ap Some (kept_row r x g)), kept_document r x g)
  ] refl (sym (get-note_rows T rows q t.apart) ∙ h);
  scoped = λ q x h. elim (row_at q rows) as (λ o. row_at q rows ≡ o → noted o (get T q) ≡ Some x → IsTrue (in_scope scope x)) [
    | None ↦ λ is g. a.scoped q x g
    | Some r ↦ λ is g. subst (λ (y : Row). IsTrue (in_scope scope y)) (kept_row r x g) (t.from q r is).1
  ] refl (sym (get-note_rows T rows q t.apart) ∙ h);
  dated = λ q x h. elim (row_at q rows) as (λ o. row_at q rows ≡ o → noted o (get T q) ≡ Some x → (1 ≤ x.etag) × (x.etag ≤ new)) [
    | None ↦ λ is g. let d = a.dated q x g in (d.0, let b = d.1 in let c = t.onward in omega arith)
    | Some r ↦ λ is g. let f = t.from q r is in subst (λ (y : Row). (1 ≤ y.etag) × (y.etag ≤ new)) (kept_row r x g) (let b = (found_etag 0 q S.rows r s.rising f.0).0 in omega arith, f.3)
  ] refl (sym (get-note_rows T rows q t.apart) ∙ h);
}
  where
    kept_row : (r x : Row) → cond (is_document r) (Some r) None ≡ Some x → r ≡ x
    kept_row r x g = elim (is_document r) as (λ b. cond b (Some r) None ≡ Some x → r ≡ x) [ true ↦ λ h. same_row r x h | false ↦ λ h. absurd cc ] g

    kept_document : (r x : Row) → cond (is_document r) (Some r) None ≡ Some x → is_document x ≡ true
    kept_document r x g = elim (is_document r) as (λ b. is_document r ≡ b → cond b (Some r) None ≡ Some x → is_document x ≡ true) [ true ↦ λ e h. subst (λ y. is_document y ≡ true) (same_row r x h) e | false ↦ λ e h. absurd cc ] refl g

    untaken : (q : List ℕ) (r : Row) → row_at q S.rows ≡ Some r → (row_at q rows ≡ Some r → ⊥) → noted (row_at q rows) (get T q) ≡ get T q
    untaken q r h never = elim (row_at q rows) as (λ o. row_at q rows ≡ o → noted o (get T q) ≡ get T q) [
      | None ↦ λ is. refl
      | Some x ↦ λ is. absurd (never (is ∙ ap Some (same_found q S.rows x r (t.from q x is).0 h)))
    ] refl

-- a batch takes such rows
pub Taken-batch : (scope : Scope) (S : Store) (e max : ℕ) → IsStore S → e ≤ last S → Taken scope S e (batch_rows scope e S max) (etag_of_batch scope e S max)
Taken-batch scope S e max s le = record {
  apart = AreApart-front tk lo (subst AreApart (sym both) apart);
  from = λ q r h.
      let f = found_passing p q S.rows r s.apart (subst (λ rows. row_at q rows ≡ Some r) both (row_at-append q tk lo ∙ ap (λ o. option_or o (row_at q lo)) h)) in
      let g = both_true (in_scope scope r) (nat_lt e r.etag) f.1 in
      (f.0, g.0, g.1, reached lo q r h f.0);
  whole = λ q r h inside later before.
      let f = passing_found p q S.rows r s.apart h (ap (λ b. b && nat_lt e r.etag) inside ∙ later) in
      from_front lo q r (sym (row_at-append q tk lo) ∙ subst (λ rows. row_at q rows ≡ Some r) (sym both) f) (AreRising-back e tk lo (subst (AreRising e) (sym both) rising)) before;
  onward = forward lo;
  within = inside lo both;
}
  where
    p : Row → Bool
    p r = in_scope scope r && nat_lt e r.etag

    tk : List Row
    tk = batch_rows scope e S max

    lo : List Row
    lo = left_over scope e S max

    both : tk ++ lo ≡ past scope e S
    both = take-append-drop max (past scope e S)

    apart : AreApart (past scope e S)
    apart = AreApart-filter p S.rows s.apart

    rising : AreRising e (past scope e S)
    rising = past_rising scope e 0 S.rows s.rising

    front : AreRising e tk
    front = AreRising-front e tk lo (subst (AreRising e) (sym both) rising)

    reached : (left : List Row) (q : List ℕ) (r : Row) → row_at q tk ≡ Some r → row_at q S.rows ≡ Some r → r.etag ≤ etag_after e tk left (last S)
    reached [] q r h g = (found_etag 0 q S.rows r s.rising g).1
    reached (x ∷ left) q r h g = (found_etag e q tk r front h).1

    from_front : (left : List Row) (q : List ℕ) (r : Row) → option_or (row_at q tk) (row_at q left) ≡ Some r → AreRising (last_of e tk) left → r.etag ≤ etag_after e tk left (last S) → row_at q tk ≡ Some r
    from_front [] q r h up before = elim (row_at q tk) as (λ o. option_or o None ≡ Some r → o ≡ Some r) [ None ↦ λ g. g | Some y ↦ λ g. g ] h
    from_front (x ∷ left) q r h up before =
        elim (row_at q tk) as (λ o. option_or o (row_at q (x ∷ left)) ≡ Some r → o ≡ Some r) [
          | None ↦ λ g. let f = (found_etag (last_of e tk) q (x ∷ left) r up g).0 in absurd (omega arith)
          | Some y ↦ λ g. g
        ] h

    forward : (left : List Row) → e ≤ etag_after e tk left (last S)
    forward [] = le
    forward (x ∷ left) = last_of-rising e tk front

    inside : (left : List Row) → tk ++ left ≡ past scope e S → etag_after e tk left (last S) ≤ last S
    inside [] h = omega arith
    inside (x ∷ left) h =
        let up = last_of-rising (last_of e tk) (x ∷ left) (AreRising-back e tk (x ∷ left) (subst (AreRising e) (sym h) rising)) in
        let end = sym (last_of-append e tk (x ∷ left)) ∙ ap (last_of e) h in
        let most = last_of-filter e 0 p S.rows s.rising le in omega arith

pub Agrees-batch : (scope : Scope) (T : Table) (S : Store) (e max : ℕ) → IsStore S → Agrees scope T S e → e ≤ last S
    → Agrees scope (note_rows T (batch_rows scope e S max)) S (etag_of_batch scope e S max)
Agrees-batch scope T S e max s a le = Agrees-taken scope T S e (batch_rows scope e S max) (etag_of_batch scope e S max) s a (Taken-batch scope S e max s le)

-- an index that is not stale for a cutoff has recorded all up to it
pub fresh_exact : (scope : Scope) (T : Table) (S : Store) (e : ℕ) (cutoff : Option ℕ) → Agrees scope T S e → stale S scope e cutoff ≡ false
    → (q : List ℕ) (r : Row) → row_at q S.rows ≡ Some r → up_to cutoff r.etag ≡ true → get T q ≡ record_of scope r
fresh_exact scope T S e cutoff a h q r is before =
    elim (in_scope scope r) as (λ b. in_scope scope r ≡ b → get T q ≡ cond (b && is_document r) (Some r) None) [
      | true ↦ λ inside. elim (nat_lt e r.etag) as (λ b. nat_lt e r.etag ≡ b → get T q ≡ cond (is_document r) (Some r) None) [
        | true ↦ λ later. let f = any_false (λ x. in_scope scope x && nat_lt e x.etag && up_to cutoff x.etag) q S.rows r h is in
            let g = ap (λ b. b && nat_lt e r.etag && up_to cutoff r.etag) inside ∙ ap (λ b. b && up_to cutoff r.etag) later ∙ before in absurd cc
        | false ↦ λ early. a.exact q r is (ltb-false e r.etag early) ∙ ap (λ b. cond (b && is_document r) (Some r) None) inside
      ] refl
      | false ↦ λ outside. unread scope T S e q r a is outside
    ] refl

-- the documents of a store in scope: under each id the store's row, if it is a document in scope
pub get-documents : (scope : Scope) (S : Store) (q : List ℕ) → IsStore S → get (documents scope S) q ≡ option_and_then (record_of scope) (row_at q S.rows)
unfolding noted
get-documents scope S q s =
    get-note_rows empty (filter (in_scope scope) S.rows) q (AreApart-filter (in_scope scope) S.rows s.apart)
    ∙ ap (noted (row_at q (filter (in_scope scope) S.rows))) (get-empty key_cmp q)
    ∙ ap (λ o. noted o None) (row_at-filter (in_scope scope) q S.rows s.apart)
    ∙ each (row_at q S.rows)
  where
    each : (o : Option Row) → noted (option_and_then (only_if (in_scope scope)) o) None ≡ option_and_then (record_of scope) o
    each None = refl
    each (Some r) = elim (in_scope scope r) as (λ b. noted (cond b (Some r) None) None ≡ cond (b && is_document r) (Some r) None) [ true ↦ refl | false ↦ refl ]

-- without a cutoff it has exactly the documents of the store in scope
pub fresh_whole : (scope : Scope) (T : Table) (S : Store) (e : ℕ) → IsStore S → Agrees scope T S e → stale S scope e None ≡ false → T ≡ documents scope S
fresh_whole scope T S e s a h =
    same_map nat_list_cmp_total (slice_cmp-IsAntisymmetric nat_cmp-IsAntisymmetric) T (documents scope S) (λ q. as_kept q ∙ sym (get-documents scope S q s))
  where
    nothing : (q : List ℕ) → row_at q S.rows ≡ None → get T q ≡ None
    nothing q none = elim (get T q) as (λ o. get T q ≡ o → o ≡ None) [ None ↦ λ is. refl | Some t ↦ λ is. let f = (a.known q t is).found in absurd cc ] refl

    as_kept : (q : List ℕ) → get T q ≡ option_and_then (record_of scope) (row_at q S.rows)
    as_kept q = elim (row_at q S.rows) as (λ o. row_at q S.rows ≡ o → get T q ≡ option_and_then (record_of scope) o) [
      | None ↦ λ is. nothing q is
      | Some r ↦ λ is. fresh_exact scope T S e None a h q r is refl
    ] refl
