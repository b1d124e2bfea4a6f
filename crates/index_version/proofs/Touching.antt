-- Which ids are touched, and how many of them are documents.
use Rattle.std.proofs.Common.{◌≡◌, ℕ, ◌≤◌, ◌+◌, List, [], ◌∷◌, Bool, true, false, cond, not, ◌||◌, ◌&&◌, Option, Some, None, is_some, filter, map, length, refl, sym, ap, ◌∙◌, subst, arith}
use Rattle.std.specs.declared.cmp.Ordering.TheVariants.{Less, Equal, Greater}
use Rattle.std.specs.Ordering.{is_eq}
use Rattle.std.specs.Char.{to_ascii_lowercase}
use Rattle.std.proofs.lemmas.Bool.Decides.{nat_tests}
use Rattle.std.specs.FinMap.{FinMap, get, entries, values, find as entry_at, get-entries}
use Rattle.std.specs.List.{list_any}
use Rattle.std.specs.Option.{option_and_then}
use Rattle.std.specs.Map.{values_of}
use Rattle.std.proofs.lemmas.List.Folds.{list_any-append}
use Rattle.spec_data.specs.Folding.{folded, key_cmp, same_key}
use Rattle.spec_data.specs.Rows.{Row, key}
use Rattle.spec_data.specs.Tables.{Table, note_rows}
use Rattle.spec_store.specs.Store.{row_at}
use Rattle.index_tree.specs.Mapper.{Mapper, is_mapped}
use Rattle.spec_index.specs.Mapping.{is_in_batch, loads_taken, touched}
use Rattle.spec_store.proofs.TableLemmas.{tied}
use Rattle.spec_store.proofs.KeyedLemmas.{differ_less}
use Rattle.spec_store.proofs.StoreLemmas.{either_false, same_itself, same_means}
use Rattle.paged_map.specs.Pairs.{IsRising}
use Rattle.reference_track.specs.Sets.{AreInOrder, IsBelowAll, is_one_of}
use Rattle.reference_track.specs.Tracks.{Track, is_pair}
use Rattle.index_version.specs.Kept.{AreKept, Given, IsFiled, given_at, given_of, is_loaded}
use Rattle.index_version.specs.Reduced.{KeepCollections}
use Rattle.index_version.specs.Renewed.{documents_among, mapped_among}
use Rattle.index_version.proofs.Keeping.{filed_rows}
use Rattle.index_version.proofs.Ordered.{entries_rise, none_past}
use Rattle.index_version.proofs.Untouched.{gives_none, gives_same, swapped, taken_unmapped}

-- FOLDED IDS

same_letter : (c : ℕ) → to_ascii_lowercase (to_ascii_lowercase c) ≡ to_ascii_lowercase c
same_letter c = grind (arith, nat_tests)

folded_once : (text : List ℕ) → folded (folded text) ≡ folded text
folded_once [] = refl
folded_once (c ∷ text) = λ i. same_letter c i ∷ folded_once text i

pub one_of_folded : (x : List ℕ) (ids : List (List ℕ)) → is_one_of x ids ≡ list_any (same_key (folded x)) (map folded ids)
one_of_folded x [] = refl
one_of_folded x (y ∷ ids) = ap (λ b. same_key (folded x) (folded y) || b) (one_of_folded x ids)

-- what is no folded form is none of folded ids
none_unfolded : (q : List ℕ) (ids : List (List ℕ)) → same_key q (folded q) ≡ false → list_any (same_key q) (map folded ids) ≡ false
none_unfolded q [] h = refl
none_unfolded q (y ∷ ids) h = elim (same_key q (folded y)) as (λ b. same_key q (folded y) ≡ b → (b || list_any (same_key q) (map folded ids)) ≡ false) [
  | true ↦ λ e. let is = same_means q (folded y) e in
      let own : q ≡ folded q = is ∙ sym (folded_once y) ∙ ap folded (sym is) in
      absurd (let t = subst (λ k. same_key q k ≡ true) own (same_itself q) in cc)
  | false ↦ λ e. none_unfolded q ids h
] refl

-- DOCUMENTS THAT LOAD A TAKEN ID

is_equal : (r : _) → is_eq r ≡ true → r ≡ Equal
is_equal Less h = absurd cc
is_equal Equal h = refl
is_equal Greater h = absurd cc

abbrev holds_at : (Row → Bool) → Option Row → Bool
holds_at test None = false
holds_at test (Some d) = test d

-- a test of the values is a test of the value under the key
any_entry : (test : Row → Bool) (q : List ℕ) (es : List (List ℕ × Row)) → IsRising key_cmp es → ((k : List ℕ) (t : Row) → entry_at key_cmp k es ≡ Some t → k ≡ key t)
    → list_any (same_key q) (map key (filter test (values_of es))) ≡ holds_at test (entry_at key_cmp q es)
any_entry test q [] up filed = refl
any_entry test q (e ∷ es) up filed =
    let own : e.0 ≡ key e.1 = filed e.0 e.1 (ap (λ b. cond b (Some e.1) (entry_at key_cmp e.0 es)) (tied e.0 e.0 ∙ same_itself e.0)) in
    let rest : list_any (same_key q) (map key (filter test (values_of es))) ≡ holds_at test (entry_at key_cmp q es) = any_entry test q es up.1 later in
    elim (same_key q e.0) as (λ b. same_key q e.0 ≡ b → list_any (same_key q) (map key (cond (test e.1) (e.1 ∷ filter test (values_of es)) (filter test (values_of es)))) ≡ holds_at test (cond b (Some e.1) (entry_at key_cmp q es))) [
      | true ↦ λ is. let none : list_any (same_key q) (map key (filter test (values_of es))) ≡ false = rest ∙ ap (holds_at test) (none_past q e.0 es (equal is) up.0) in
          elim (test e.1) as (λ b. list_any (same_key q) (map key (cond b (e.1 ∷ filter test (values_of es)) (filter test (values_of es)))) ≡ b) [
            | true ↦ ap (λ b. b || list_any (same_key q) (map key (filter test (values_of es)))) (ap (same_key q) (sym own) ∙ is)
            | false ↦ none
          ]
      | false ↦ λ is. elim (test e.1) as (λ b. list_any (same_key q) (map key (cond b (e.1 ∷ filter test (values_of es)) (filter test (values_of es)))) ≡ holds_at test (entry_at key_cmp q es)) [
        | true ↦ ap (λ b. b || list_any (same_key q) (map key (filter test (values_of es)))) (ap (same_key q) (sym own) ∙ is) ∙ rest
        | false ↦ rest
      ]
    ] refl ∙ ap (λ b. holds_at test (cond b (Some e.1) (entry_at key_cmp q es))) (sym (tied q e.0))
  where
    equal : same_key q e.0 ≡ true → key_cmp q e.0 ≡ Equal
    equal is = is_equal (key_cmp q e.0) (tied q e.0 ∙ is)

    later : (k : List ℕ) (t : Row) → entry_at key_cmp k es ≡ Some t → k ≡ key t
    later k t h = elim (key_cmp k e.0) as (λ r. key_cmp k e.0 ≡ r → k ≡ key t) [
      | Less ↦ λ c. filed k t (ap (λ r. cond (is_eq r) (Some e.1) (entry_at key_cmp k es)) c ∙ h)
      | Equal ↦ λ c. absurd (let n = none_past k e.0 es c up.0 in let s = sym n ∙ h in cc)
      | Greater ↦ λ c. filed k t (ap (λ r. cond (is_eq r) (Some e.1) (entry_at key_cmp k es)) c ∙ h)
    ] refl

any_value : (test : Row → Bool) (q : List ℕ) (T : Table) → IsFiled T → list_any (same_key q) (map key (filter test (values T))) ≡ holds_at test (get T q)
any_value test q T filed =
    any_entry test q (entries T) (entries_rise T) (λ k t h. filed k t (get-entries T k ∙ h)) ∙ ap (holds_at test) (sym (get-entries T q))

loads_false : (rows : List Row) → list_any (λ (r : Row). is_loaded (key r) None) rows ≡ false
loads_false [] = refl
loads_false (r ∷ rows) = loads_false rows

-- a document that is mapped and not taken loads a taken row where its loads are found to
loading : (m : Mapper) (T : Table) (rows : List Row) (q : List ℕ) → IsFiled T
    → holds_at (λ d. is_mapped m d && loads_taken m T rows d && not (is_in_batch rows (key d))) (get T q) ≡ (not (is_in_batch rows q) && list_any (λ r. is_loaded (key r) (given_at m T q)) rows)
loading m T rows q filed =
    elim (get T q) as (λ o. get T q ≡ o → holds_at (λ d. is_mapped m d && loads_taken m T rows d && not (is_in_batch rows (key d))) o ≡ (not (is_in_batch rows q) && list_any (λ r. is_loaded (key r) (found o)) rows)) [
      | None ↦ λ e. sym (ap (λ b. not (is_in_batch rows q) && b) (loads_false rows) ∙ and_false (not (is_in_batch rows q)))
      | Some d ↦ λ e. ap (λ k. is_mapped m d && loads_taken m T rows d && not (is_in_batch rows k)) (sym (filed q d e))
          ∙ elim (is_mapped m d) as (λ b. (b && loads_taken m T rows d && not (is_in_batch rows q)) ≡ (not (is_in_batch rows q) && list_any (λ r. is_loaded (key r) (cond b (Some (record { id = d.id; mapped = m.meaning d T })) None)) rows)) [
            | true ↦ and_turned (loads_taken m T rows d) (not (is_in_batch rows q)) ∙ ap (λ b. not (is_in_batch rows q) && b) (swapped (m.meaning d T).loads rows)
            | false ↦ sym (ap (λ b. not (is_in_batch rows q) && b) (loads_false rows) ∙ and_false (not (is_in_batch rows q)))
          ]
    ] refl
  where
    found : Option Row → Option Given
    found None = None
    found (Some d) = given_of m T d

    and_false : (b : Bool) → (b && false) ≡ false
    and_false true = refl
    and_false false = refl

    and_turned : (a b : Bool) → (a && b) ≡ (b && a)
    and_turned true true = refl
    and_turned true false = refl
    and_turned false true = refl
    and_turned false false = refl

any_pair : (m : Mapper) (T : Table) (G : FinMap key_cmp Given) (L : Track) (x : List ℕ) (rows : List Row) → AreKept m T G L → list_any (λ r. is_pair x r.id L) rows ≡ list_any (λ r. is_loaded (key r) (given_at m T (folded x))) rows
any_pair m T G L x [] kept = refl
any_pair m T G L x (r ∷ rows) kept = λ i. (kept.pairs x r.id ∙ ap (is_loaded (key r)) (kept.results (folded x))) i || any_pair m T G L x rows kept i

-- WHICH IDS ARE TOUCHED

-- the ids are those that were taken, and those that load one of them
abbrev pub AreTouched : Track → List Row → List (List ℕ) → Type 0
AreTouched L rows ids = (x : List ℕ) → is_one_of x ids ≡ (is_in_batch rows (folded x) || list_any (λ r. is_pair x r.id L) rows)

reached : (m : Mapper) (T : Table) (G : FinMap key_cmp Given) (L : Track) (rows : List Row) (ids : List (List ℕ)) → AreKept m T G L → AreTouched L rows ids
    → (q : List ℕ) → q ≡ folded q → list_any (same_key q) (map folded ids) ≡ (is_in_batch rows q || list_any (λ r. is_loaded (key r) (given_at m T q)) rows)
reached m T G L rows ids kept are q own =
    subst (λ k. list_any (same_key k) (map folded ids) ≡ (is_in_batch rows k || list_any (λ r. is_loaded (key r) (given_at m T k)) rows)) (sym own)
    (sym (one_of_folded q ids) ∙ are q ∙ ap (λ b. is_in_batch rows (folded q) || b) (any_pair m T G L q rows kept))

-- what is no folded form has no row
unfiled : (m : Mapper) (T : Table) (q : List ℕ) → same_key q (folded q) ≡ false → IsFiled T → given_at m T q ≡ None
unfiled m T q h filed = elim (get T q) as (λ o. get T q ≡ o → option_and_then (given_of m T) o ≡ None) [
  | None ↦ λ e. refl
  | Some t ↦ λ e. let own : q ≡ folded q = filed q t e ∙ sym (folded_once t.id) ∙ ap folded (sym (filed q t e)) in
      absurd (let same = subst (λ k. same_key q k ≡ true) own (same_itself q) in cc)
] refl

-- all other ids are given as before
pub others_same : (m : Mapper) (T : Table) (G : FinMap key_cmp Given) (L : Track) (rows : List Row) (ids : List (List ℕ)) → AreKept m T G L → AreTouched L rows ids
    → (q : List ℕ) → list_any (same_key q) (map folded ids) ≡ false → given_at m (note_rows T rows) q ≡ given_at m T q
others_same m T G L rows ids kept are q out = elim (same_key q (folded q)) as (λ b. same_key q (folded q) ≡ b → given_at m (note_rows T rows) q ≡ given_at m T q) [
  | true ↦ λ e.
      let none = either_false (is_in_batch rows q) (list_any (λ r. is_loaded (key r) (given_at m T q)) rows) (sym (reached m T G L rows ids kept are q (same_means q (folded q) e)) ∙ out) in
      gives_same m T rows q none.0 none.1
  | false ↦ λ e. unfiled m (note_rows T rows) q e (filed_rows T rows kept.filed) ∙ sym (unfiled m T q e kept.filed)
] refl

covered : (mapped taken loads : Bool) → (taken ≡ true → mapped ≡ false → ⊥) → (taken || loads) ≡ true → (mapped || not taken && loads) ≡ true
covered true taken loads f h = refl
covered false true loads f h = absurd (f refl refl)
covered false false loads f h = h

-- the row of an id is among the rows that are mapped, if it is mapped
among_mapped : (m : Mapper) (rows : List Row) (q : List ℕ) (r : Row) → row_at q rows ≡ Some r → is_mapped m r ≡ true → list_any (same_key q) (map key (filter (is_mapped m) rows)) ≡ true
among_mapped m [] q r is mapped = absurd (cc is)
among_mapped m (x ∷ rows) q r is mapped =
    elim (same_key q (key x)) as (λ b. same_key q (key x) ≡ b → cond b (Some x) (row_at q rows) ≡ Some r → list_any (same_key q) (map key (cond (is_mapped m x) (x ∷ filter (is_mapped m) rows) (filter (is_mapped m) rows))) ≡ true) [
      | true ↦ λ e g. let same : x ≡ r = cc g in
          ap (λ b. list_any (same_key q) (map key (cond b (x ∷ filter (is_mapped m) rows) (filter (is_mapped m) rows)))) (ap (is_mapped m) same ∙ mapped) ∙ ap (λ b. b || list_any (same_key q) (map key (filter (is_mapped m) rows))) e
      | false ↦ λ e g. passed (is_mapped m x) (among_mapped m rows q r g mapped)
    ] refl is
  where
    passed : (b : Bool) → list_any (same_key q) (map key (filter (is_mapped m) rows)) ≡ true → list_any (same_key q) (map key (cond b (x ∷ filter (is_mapped m) rows) (filter (is_mapped m) rows))) ≡ true
    passed true h = elim (same_key q (key x)) as (λ b. (b || list_any (same_key q) (map key (filter (is_mapped m) rows))) ≡ true) [ true ↦ refl | false ↦ h ]
    passed false h = h

-- those of them that are mapped afterwards are touched
pub mapped_touched : (m : Mapper) (T : Table) (G : FinMap key_cmp Given) (L : Track) (rows : List Row) (ids : List (List ℕ)) → AreKept m T G L → AreTouched L rows ids
    → (q : List ℕ) → is_some (given_at m (note_rows T rows) q) ≡ true → list_any (same_key q) (map folded ids) ≡ true → list_any (same_key q) (touched m T rows) ≡ true
mapped_touched m T G L rows ids kept are q some h = elim (same_key q (folded q)) as (λ b. same_key q (folded q) ≡ b → list_any (same_key q) (touched m T rows) ≡ true) [
  | true ↦ λ e.
      list_any-append (same_key q) (map key (filter (is_mapped m) rows)) (map key (filter test (values T)))
      ∙ ap (λ b. list_any (same_key q) (map key (filter (is_mapped m) rows)) || b) (any_value test q T kept.filed ∙ loading m T rows q kept.filed)
      ∙ covered (list_any (same_key q) (map key (filter (is_mapped m) rows))) (is_in_batch rows q) (list_any (λ r. is_loaded (key r) (given_at m T q)) rows)
      (λ taken none. let nothing : given_at m (note_rows T rows) q ≡ None = gives_none m (note_rows T rows) (get (note_rows T rows) q) (taken_unmapped m T rows q taken none) in cc)
      (sym (reached m T G L rows ids kept are q (same_means q (folded q) e)) ∙ h)
  | false ↦ λ e. absurd (let none = none_unfolded q ids e in cc)
] refl
  where
    test : Row → Bool
    test d = is_mapped m d && loads_taken m T rows d && not (is_in_batch rows (key d))

-- those of them that were mapped before are touched too, if no row is of another collection than the document of its id
pub touched_before : (m : Mapper) (T : Table) (G : FinMap key_cmp Given) (L : Track) (rows : List Row) (ids : List (List ℕ)) → AreKept m T G L → AreTouched L rows ids → KeepCollections m T rows
    → (q : List ℕ) → is_some (given_at m T q) ≡ true → list_any (same_key q) (map folded ids) ≡ true → list_any (same_key q) (touched m T rows) ≡ true
touched_before m T G L rows ids kept are keeps q some h = elim (same_key q (folded q)) as (λ b. same_key q (folded q) ≡ b → list_any (same_key q) (touched m T rows) ≡ true) [
  | true ↦ λ e.
      list_any-append (same_key q) (map key (filter (is_mapped m) rows)) (map key (filter test (values T)))
      ∙ ap (λ b. list_any (same_key q) (map key (filter (is_mapped m) rows)) || b) (any_value test q T kept.filed ∙ loading m T rows q kept.filed)
      ∙ covered (list_any (same_key q) (map key (filter (is_mapped m) rows))) (is_in_batch rows q) (list_any (λ r. is_loaded (key r) (given_at m T q)) rows)
      (λ taken none. let one = mapped_row (row_at q rows) refl taken in let f = sym none ∙ among_mapped m rows q one.0 one.1.0 one.1.1 in cc)
      (sym (reached m T G L rows ids kept are q (same_means q (folded q) e)) ∙ h)
  | false ↦ λ e. absurd (let none = none_unfolded q ids e in cc)
] refl
  where
    test : Row → Bool
    test d = is_mapped m d && loads_taken m T rows d && not (is_in_batch rows (key d))

    if_given : (t : Row) (b : Bool) → is_some (let given : Option Given = cond b (Some (record { id = t.id; mapped = m.meaning t T })) None in given) ≡ true → b ≡ true
    if_given t true g = refl
    if_given t false g = g

    mapped_here : (t : Option Row) → get T q ≡ t → is_some (option_and_then (given_of m T) t) ≡ true → (r : Row) → row_at q rows ≡ Some r → is_mapped m r ≡ true
    mapped_here None e g r is = absurd (cc g)
    mapped_here (Some t) e g r is = sym (keeps q r t is e) ∙ if_given t (is_mapped m t) g

    mapped_row : (o : Option Row) → row_at q rows ≡ o → is_some o ≡ true → (r : Row) × ((row_at q rows ≡ Some r) × (is_mapped m r ≡ true))
    mapped_row None e g = absurd (cc g)
    mapped_row (Some r) e g = (r, (e, mapped_here (get T q) refl some r e))

-- HOW MANY

abbrev AreOnce : List (List ℕ) → Type 0
AreOnce [] = Unit {0}
AreOnce (x ∷ xs) = (list_any (same_key x) xs ≡ false) × AreOnce xs

pub below_none : (x : List ℕ) (ids : List (List ℕ)) → IsBelowAll x ids → list_any (same_key (folded x)) (map folded ids) ≡ false
below_none x [] h = refl
below_none x (y ∷ ids) h = ap (λ b. b || list_any (same_key (folded x)) (map folded ids)) (differ_less (folded x) (folded y) h.0) ∙ below_none x ids h.1

pub once : (ids : List (List ℕ)) → AreInOrder ids → AreOnce (map folded ids)
once [] h = tt
once (x ∷ ids) h = (below_none x ids h.0, once ids h.1)

abbrev beside : List ℕ → List (List ℕ) → List (List ℕ)
beside x ys = filter (λ y. not (same_key x y)) ys

-- to take all that spell one id out makes fewer
fewer : (p : List ℕ → Bool) (x : List ℕ) (ys : List (List ℕ)) → length (filter p (beside x ys)) + cond (p x && list_any (same_key x) ys) 1 0 ≤ length (filter p ys)
fewer p x [] = elim (p x) as (λ b. 0 + cond (b && false) 1 0 ≤ 0) [ true ↦ omega arith | false ↦ omega arith ]
fewer p x (y ∷ ys) =
    let rest = fewer p x ys in
    elim (same_key x y) as (λ b. same_key x y ≡ b → length (filter p (cond (not b) (y ∷ beside x ys) (beside x ys))) + cond (p x && (b || list_any (same_key x) ys)) 1 0 ≤ length (cond (p y) (y ∷ filter p ys) (filter p ys))) [
      | true ↦ λ e. let same : p y ≡ p x = ap p (sym (same_means x y e)) in subst (λ b. length (filter p (beside x ys)) + cond (p x && true) 1 0 ≤ length (cond b (y ∷ filter p ys) (filter p ys))) (sym same)
          (one (p x) (list_any (same_key x) ys) (length (filter p (beside x ys))) (filter p ys) rest)
      | false ↦ λ e. elim (p y) as (λ b. length (cond b (y ∷ filter p (beside x ys)) (filter p (beside x ys))) + cond (p x && list_any (same_key x) ys) 1 0 ≤ length (cond b (y ∷ filter p ys) (filter p ys))) [
        | true ↦ omega (arith, rest)
        | false ↦ rest
      ]
    ] refl
  where
    one : (a b : Bool) (n : ℕ) (zs : List (List ℕ)) → n + cond (a && b) 1 0 ≤ length zs → n + cond (a && true) 1 0 ≤ length (cond a (y ∷ zs) zs)
    one true true n zs h = omega (arith, h)
    one true false n zs h = omega (arith, h)
    one false b n zs h = h

still_there : (q x : List ℕ) (ys : List (List ℕ)) → same_key q x ≡ false → list_any (same_key q) ys ≡ true → list_any (same_key q) (beside x ys) ≡ true
still_there q x [] n h = absurd cc
still_there q x (y ∷ ys) n h = elim (same_key x y) as (λ b. same_key x y ≡ b → list_any (same_key q) (cond (not b) (y ∷ beside x ys) (beside x ys)) ≡ true) [
  | true ↦ λ e. still_there q x ys n (sym (ap (λ b. b || list_any (same_key q) ys) (ap (same_key q) (sym (same_means x y e)) ∙ n)) ∙ h)
  | false ↦ λ e. elim (same_key q y) as (λ b. (b || list_any (same_key q) ys) ≡ true → (b || list_any (same_key q) (beside x ys)) ≡ true) [ true ↦ λ g. refl | false ↦ λ g. still_there q x ys n g ] h
] refl

pub few : (p : List ℕ → Bool) (xs ys : List (List ℕ)) → AreOnce xs → ((q : List ℕ) → p q ≡ true → list_any (same_key q) xs ≡ true → list_any (same_key q) ys ≡ true) → length (filter p xs) ≤ length (filter p ys)
few p [] ys o all = omega arith
few p (x ∷ xs) ys o all =
    let rest : length (filter p xs) ≤ length (filter p (beside x ys)) = few p xs (beside x ys) o.1 (λ q is h. still_there q x ys (other q h) (all q is (there q h))) in
    elim (p x) as (λ b. p x ≡ b → length (filter p (beside x ys)) + cond (b && list_any (same_key x) ys) 1 0 ≤ length (filter p ys) → length (cond b (x ∷ filter p xs) (filter p xs)) ≤ length (filter p ys)) [
      | true ↦ λ is g.
          let here : list_any (same_key x) ys ≡ true = all x is (ap (λ b. b || list_any (same_key x) xs) (same_itself x)) in
          let less : length (filter p (beside x ys)) + 1 ≤ length (filter p ys) = subst (λ b. length (filter p (beside x ys)) + cond b 1 0 ≤ length (filter p ys)) here g in
          omega (arith, rest, less)
      | false ↦ λ is g. omega (arith, rest, g)
    ] refl (fewer p x ys)
  where
    other : (q : List ℕ) → list_any (same_key q) xs ≡ true → same_key q x ≡ false
    other q h = elim (same_key q x) as (λ b. same_key q x ≡ b → b ≡ false) [
      | true ↦ λ e. absurd (let t = subst (λ k. list_any (same_key k) xs ≡ true) (same_means q x e) h in let f = o.0 in cc)
      | false ↦ λ e. refl
    ] refl

    there : (q : List ℕ) → list_any (same_key q) xs ≡ true → (same_key q x || list_any (same_key q) xs) ≡ true
    there q h = elim (same_key q x) as (λ b. (b || list_any (same_key q) xs) ≡ true) [ true ↦ refl | false ↦ h ]

-- what is mapped is a document
mapped_few : (m : Mapper) (N : Table) (ids : List (List ℕ)) → length (mapped_among m N ids) ≤ length (documents_among N ids)
mapped_few m N [] = omega arith
mapped_few m N (q ∷ ids) =
    let rest = mapped_few m N ids in
    elim (get N q) as (λ o. length (cond (is_some (option_and_then (given_of m N) o)) (q ∷ mapped_among m N ids) (mapped_among m N ids)) ≤ length (cond (is_some o) (q ∷ documents_among N ids) (documents_among N ids))) [
      | None ↦ rest
      | Some d ↦ elim (is_mapped m d) as (λ b. length (cond (is_some (let given : Option Given = cond b (Some (record { id = d.id; mapped = m.meaning d N })) None in given)) (q ∷ mapped_among m N ids) (mapped_among m N ids)) ≤ length (q ∷ documents_among N ids)) [
        | true ↦ omega (arith, rest)
        | false ↦ omega (arith, rest)
      ]
    ]

-- no more of them are mapped than there are documents among those that are touched
pub few_mapped : (m : Mapper) (T : Table) (G : FinMap key_cmp Given) (L : Track) (rows : List Row) (ids : List (List ℕ)) → AreKept m T G L → AreTouched L rows ids → AreInOrder ids
    → length (mapped_among m (note_rows T rows) (map folded ids)) ≤ length (documents_among (note_rows T rows) (touched m T rows))
few_mapped m T G L rows ids kept are order =
    let few_ids : length (mapped_among m (note_rows T rows) (map folded ids)) ≤ length (mapped_among m (note_rows T rows) (touched m T rows)) =
    few (λ q. is_some (given_at m (note_rows T rows) q)) (map folded ids) (touched m T rows) (once ids order) (mapped_touched m T G L rows ids kept are) in
    let few_documents = mapped_few m (note_rows T rows) (touched m T rows) in
    omega (arith, few_ids, few_documents)
