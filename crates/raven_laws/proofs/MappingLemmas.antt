-- Mapping again what a batch touches gives what mapping all from scratch gives.
use Rattle.std.proofs.Common.{◌≡◌, ℕ, ◌≤◌, List, [], ◌∷◌, ◌++◌, Bool, true, false, not, cond, ◌&&◌, ◌||◌, Option, Some, None, is_some, filter, map, refl, sym, ap, ◌∙◌, subst}
use Rattle.std.specs.List.{list_any}
use Rattle.std.specs.Str.{bytes_eq}
use Rattle.std.specs.Option.{option_and_then}
use Rattle.std.specs.Ordering.{eq_by_cmp}
use Rattle.std.specs.Cmp.Lexicographic.{nat_list_cmp_total}
use Rattle.std.specs.FinMap.{get, values, entries, find as entry_at, get-entries, get-insert, get-remove}
use Rattle.spec_data.specs.Folding.{key_cmp, same_key}
use Rattle.spec_data.specs.Rows.{Row, key, is_document}
use Rattle.spec_store.specs.Store.{row_at, AreApart, Store, last, IsStore}
use Rattle.spec_data.specs.Tables.{Table, note_rows}
use Rattle.spec_index.specs.Index.{Agrees, etag_of_batch}
use Rattle.spec_store.specs.Stale.{batch_rows}
use Rattle.index_tree.specs.Meaning.{Mapped}
use Rattle.index_tree.specs.Mapper.{Mapper, AlikeAt, scope_of, is_mapped}
use Rattle.spec_index.specs.Mapping.{result_of, is_in_batch, loads_taken, touched, Results, set_result, remapped, AreResults}
use Rattle.spec_store.proofs.StoreLemmas.{same_row, either_false, same_itself, same_means}
use Rattle.raven_laws.proofs.IndexLemmas.{noted, get-note_rows, Taken, Taken-batch}
use Rattle.spec_store.proofs.TableLemmas.{tied}

any-append : {X : Type 0} (p : X → Bool) (xs ys : List X) → list_any p (xs ++ ys) ≡ false → (list_any p xs ≡ false) × (list_any p ys ≡ false)
any-append p [] ys h = (refl, h)
any-append p (x ∷ xs) ys h = elim (p x) as (λ b. b || list_any p (xs ++ ys) ≡ false → (b || list_any p xs ≡ false) × (list_any p ys ≡ false)) [
  | true ↦ λ g. absurd cc
  | false ↦ λ g. any-append p xs ys g
] h

-- if q is none of the ids of the rows that pass, its row does not pass
lacks : (p : Row → Bool) (q : List ℕ) (rows : List Row) (r : Row) → list_any (same_key q) (map key (filter p rows)) ≡ false → row_at q rows ≡ Some r → p r ≡ false
lacks p q [] r h is = absurd cc
lacks p q (x ∷ rows) r h is =
    elim (same_key q (key x)) as (λ b. same_key q (key x) ≡ b → cond b (Some x) (row_at q rows) ≡ Some r → p r ≡ false) [
      | true ↦ λ e f. subst (λ y. p y ≡ false) (same_row x r f) (here (key x) e)
      | false ↦ λ e f. lacks p q rows r later f
    ] refl is
  where
    here : (k : List ℕ) → same_key q (key x) ≡ true → p x ≡ false
    here k e = elim (p x) as (λ b. list_any (same_key q) (map key (cond b (x ∷ filter p rows) (filter p rows))) ≡ false → b ≡ false) [
      | true ↦ λ g. let f = (either_false (same_key q (key x)) (list_any (same_key q) (map key (filter p rows))) g).0 in cc
      | false ↦ λ g. refl
    ] h

    later : list_any (same_key q) (map key (filter p rows)) ≡ false
    later = elim (p x) as (λ b. list_any (same_key q) (map key (cond b (x ∷ filter p rows) (filter p rows))) ≡ false → list_any (same_key q) (map key (filter p rows)) ≡ false) [
      | true ↦ λ g. (either_false (same_key q (key x)) (list_any (same_key q) (map key (filter p rows))) g).1
      | false ↦ λ g. g
    ] h

-- the same for the documents of a table
lacks_entry : (p : Row → Bool) (q : List ℕ) (es : List (List ℕ × Row)) (r : Row) → list_any (same_key q) (map key (filter p (map (λ e. e.1) es))) ≡ false → entry_at key_cmp q es ≡ Some r → q ≡ key r → p r ≡ false
lacks_entry p q [] r h is own = absurd cc
lacks_entry p q (x ∷ es) r h is own =
    elim (eq_by_cmp key_cmp q x.0) as (λ b. cond b (Some x.1) (entry_at key_cmp q es) ≡ Some r → p r ≡ false) [
      | true ↦ λ f. let same = same_row x.1 r f in subst (λ y. p y ≡ false) same (here (subst (λ k. same_key q k ≡ true) (own ∙ ap key (sym same)) (same_itself q)))
      | false ↦ λ f. lacks_entry p q es r later f own
    ] is
  where
    rest : List (List ℕ)
    rest = map key (filter p (map (λ e. e.1) es))

    here : same_key q (key x.1) ≡ true → p x.1 ≡ false
    here e = elim (p x.1) as (λ b. list_any (same_key q) (map key (cond b (x.1 ∷ filter p (map (λ e. e.1) es)) (filter p (map (λ e. e.1) es)))) ≡ false → b ≡ false) [
      | true ↦ λ g. let f = (either_false (same_key q (key x.1)) (list_any (same_key q) rest) g).0 in cc
      | false ↦ λ g. refl
    ] h

    later : list_any (same_key q) rest ≡ false
    later = elim (p x.1) as (λ b. list_any (same_key q) (map key (cond b (x.1 ∷ filter p (map (λ e. e.1) es)) (filter p (map (λ e. e.1) es)))) ≡ false → list_any (same_key q) rest ≡ false) [
      | true ↦ λ g. (either_false (same_key q (key x.1)) (list_any (same_key q) rest) g).1
      | false ↦ λ g. g
    ] h

-- an id that is looked up and was not taken has what it had
alike : (T : Table) (rows : List Row) (loads : List (List ℕ)) → AreApart rows → list_any (is_in_batch rows) loads ≡ false → AlikeAt loads T (note_rows T rows)
unfolding noted
alike T rows [] apart h = tt
alike T rows (q ∷ qs) apart h =
    let f = either_false (is_in_batch rows q) (list_any (is_in_batch rows) qs) h in
    (sym (get-note_rows T rows q apart ∙ ap (λ o. noted o (get T q)) (not_there (row_at q rows) f.0)), alike T rows qs apart f.1)
  where
    not_there : (o : Option Row) → is_some o ≡ false → o ≡ None
    not_there None e = refl
    not_there (Some r) e = absurd cc

abbrev result : Mapper → Table → Option Row → Option Mapped
result m T o = option_and_then (λ d. cond (is_mapped m d) (Some (m.meaning d T)) None) o

and_true : (b : Bool) → b && true ≡ false → b ≡ false
and_true true h = h
and_true false h = refl

-- AN ID THAT IS NOT TOUCHED KEEPS ITS RESULT
pub untouched : (m : Mapper) (T : Table) (S : Store) (e new : ℕ) (rows : List Row) → Agrees (scope_of m) T S e → Taken (scope_of m) S e rows new
    → (q : List ℕ) → list_any (same_key q) (touched m T rows) ≡ false → result_of m (note_rows T rows) q ≡ result_of m T q
unfolding noted
untouched m T S e new rows a t q h =
    ap (result m (note_rows T rows)) (get-note_rows T rows q t.apart)
    ∙ elim (row_at q rows) as (λ o. row_at q rows ≡ o → result m (note_rows T rows) (noted o (get T q)) ≡ result m T (get T q)) [
      | Some r ↦ λ is.
          let out = lacks (is_mapped m) q rows r lists.0 is in
          gone r out ∙ sym (was_none r out (t.from q r is).0)
      | None ↦ λ is. elim (get T q) as (λ o. get T q ≡ o → result m (note_rows T rows) o ≡ result m T o) [
        | None ↦ λ at. refl
        | Some d ↦ λ at. elim (is_mapped m d) as (λ b. is_mapped m d ≡ b → cond b (Some (m.meaning d (note_rows T rows))) None ≡ cond b (Some (m.meaning d T)) None) [
          | true ↦ λ inside. ap Some (m.local d T (note_rows T rows) (alike T rows (m.meaning d T).loads t.apart (unloaded d at inside is)))
          | false ↦ λ outside. refl
        ] refl
      ] refl
    ] refl
  where
    test : Row → Bool
    test d = is_mapped m d && loads_taken m T rows d && not (is_in_batch rows (key d))

    lists : (list_any (same_key q) (map key (filter (is_mapped m) rows)) ≡ false) × (list_any (same_key q) (map key (filter test (values T))) ≡ false)
    lists = any-append (same_key q) (map key (filter (is_mapped m) rows)) (map key (filter test (values T))) h

    gone : (r : Row) → is_mapped m r ≡ false → result m (note_rows T rows) (cond (is_document r) (Some r) None) ≡ None
    gone r out = elim (is_document r) as (λ b. result m (note_rows T rows) (cond b (Some r) None) ≡ None) [
      | true ↦ ap (λ b. cond b (Some (m.meaning r (note_rows T rows))) None) out
      | false ↦ refl
    ]

    was_none : (r : Row) → is_mapped m r ≡ false → row_at q S.rows ≡ Some r → result m T (get T q) ≡ None
    was_none r out there = elim (get T q) as (λ o. get T q ≡ o → result m T o ≡ None) [
      | None ↦ λ at. refl
      | Some d ↦ λ at.
          let k = a.known q d at in
          let same : k.row ≡ r = same_row k.row r (sym k.found ∙ there) in
          let c : d.collection ≡ r.collection = sym k.same ∙ ap (λ (x : Row). x.collection) same in
          ap (λ b. cond b (Some (m.meaning d T)) None) (ap (λ c. bytes_eq c m.collection) c ∙ out)
    ] refl

    unloaded : (d : Row) → get T q ≡ Some d → is_mapped m d ≡ true → row_at q rows ≡ None → list_any (is_in_batch rows) (m.meaning d T).loads ≡ false
    unloaded d at inside none =
        let own = (a.filed q d at).0 in
        let f = lacks_entry test q (entries T) d lists.1 (sym (get-entries T q) ∙ at) own in
        let free : is_in_batch rows (key d) ≡ false = ap is_some (subst (λ k. row_at k rows ≡ None) own none) in
        let g = ap (λ b. b && loads_taken m T rows d && not (is_in_batch rows (key d))) (sym inside) ∙ f in
        and_true (loads_taken m T rows d) (ap (λ b. loads_taken m T rows d && not b) (sym free) ∙ g)

-- THE RESULTS AFTER A BATCH
same_mapped_get : (K : Results) (o : Option Mapped) (k q : List ℕ) → get (set_result o K k) q ≡ cond (same_key q k) o (get K q)
same_mapped_get K None k q = get-remove nat_list_cmp_total K k q ∙ ap (λ b. cond b None (get K q)) (tied q k)
same_mapped_get K (Some r) k q = get-insert nat_list_cmp_total K k r q ∙ ap (λ b. cond b (Some r) (get K q)) (tied q k)

get-remapped : (m : Mapper) (T : Table) (qs : List (List ℕ)) (K : Results) (q : List ℕ) → get (remapped m T qs K) q ≡ cond (list_any (same_key q) qs) (result_of m T q) (get K q)
get-remapped m T [] K q = refl
get-remapped m T (k ∷ qs) K q =
    get-remapped m T qs (set_result (result_of m T k) K k) q
    ∙ ap (cond (list_any (same_key q) qs) (result_of m T q)) (same_mapped_get K (result_of m T k) k q)
    ∙ elim (same_key q k) as (λ b. same_key q k ≡ b → cond (list_any (same_key q) qs) (result_of m T q) (cond b (result_of m T k) (get K q)) ≡ cond (b || list_any (same_key q) qs) (result_of m T q) (get K q)) [
      | true ↦ λ e. ap (λ x. cond (list_any (same_key q) qs) (result_of m T q) (result_of m T x)) (sym (same_means q k e)) ∙ either_way (list_any (same_key q) qs) (result_of m T q)
      | false ↦ λ e. refl
    ] refl
  where
    either_way : (b : Bool) (x : Option Mapped) → cond b x x ≡ x
    either_way true x = refl
    either_way false x = refl

-- mapping again what a batch touches gives what mapping all from scratch gives
pub remapped-AreResults : (m : Mapper) (T : Table) (S : Store) (e max : ℕ) (K : Results) → IsStore S → Agrees (scope_of m) T S e → e ≤ last S → AreResults m T K
    → let rows = batch_rows (scope_of m) e S max in AreResults m (note_rows T rows) (remapped m (note_rows T rows) (touched m T rows) K)
remapped-AreResults m T S e max K s a le k = λ q.
    get-remapped m (note_rows T rows) (touched m T rows) K q
    ∙ elim (list_any (same_key q) (touched m T rows)) as (λ b. list_any (same_key q) (touched m T rows) ≡ b → cond b (result_of m (note_rows T rows) q) (get K q) ≡ result_of m (note_rows T rows) q) [
      | true ↦ λ e. refl
      | false ↦ λ is. k q ∙ sym (untouched m T S e (etag_of_batch (scope_of m) e S max) rows a (Taken-batch (scope_of m) S e max s le) q is)
    ] refl
  where
    rows : List Row
    rows = batch_rows (scope_of m) e S max
