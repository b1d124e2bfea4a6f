-- What a batch changes in the groups of an index.
use Rattle.std.proofs.Common.{◌≡◌, ℕ, ◌<◌, ◌≤◌, ◌+◌, ◌||◌, List, [], ◌∷◌, ◌++◌, drop, get_or, Bool, true, false, cond, Option, Some, None, is_some, map, length, option_map, refl, sym, ap, ◌∙◌, subst, arith}
use Rattle.std.specs.BTreeMap.{is_at}
use Rattle.std.specs.FinMap.{FinMap, get, insert, remove, get-insert, get-remove}
use Rattle.std.specs.List.{cons_option, list_any}
use Rattle.std.specs.Map.{lookup}
use Rattle.std.proofs.lemmas.List.{drop_more}
use Rattle.spec_data.specs.Folding.{folded, key_cmp, same_key}
use Rattle.spec_data.specs.Tables.{Table}
use Rattle.index_tree.specs.Mapper.{Mapper}
use Rattle.index_tree.specs.Meaning.{Fields, Outcome, Entry, NoEntry, Failed}
use Rattle.map_stage.specs.Words.{HasWords, OutcomeHasWords}
use Rattle.spec_store.proofs.TableLemmas.{tied}
use Rattle.spec_store.proofs.StoreLemmas.{same_itself, same_means}
use Rattle.reference_track.specs.Sets.{AreInOrder, IsBelowAll, id_cmp}
use Rattle.index_groups.specs.Groups.{AreNew, AreThere, Entries, Grouped, HaveWords, fields_of, with_all, without_all}
use Rattle.reference_track.specs.Folded.{by_folded}
use Rattle.index_version.specs.Kept.{Given, given_at, has_entry, outcome_fields}
use Rattle.index_version.specs.Reduced.{HasEntries, entries_at, fields_given, with_entry}
use Rattle.index_version.specs.Renewed.{mapped_among}
use Rattle.reference_track.proofs.FoldedMaps.{get-by_folded, total}
use Rattle.index_version.proofs.Touching.{below_none}

-- the id is one of these
abbrev pub any_of : List ℕ → List (List ℕ) → Bool
any_of q ids = list_any (same_key q) (map folded ids)

-- the fields of what is given for a folded id, if it has an entry
abbrev fields_at : FinMap key_cmp Given → List ℕ → Option Fields
fields_at K q = option_map fields_given (with_entry (get K q))

abbrev onto : List ℕ → Option Fields → List (List ℕ × Fields) → List (List ℕ × Fields)
onto x None more = more
onto x (Some fields) more = (x, fields) ∷ more

abbrev among : FinMap key_cmp Given → List (List ℕ) → List (List ℕ × Fields)
among K [] = []
among K (x ∷ ids) = onto x (fields_at K (folded x)) (among K ids)

seen_among : (es : List (List ℕ × Given)) (ids : List (List ℕ)) → fields_of fields_given (entries_at es ids) ≡ among (by_folded es) ids
seen_among es [] = refl
seen_among es (x ∷ ids) =
    by (with_entry (lookup (is_at (id_cmp x)) es)) (seen_among es ids) ∙ ap (λ o. onto x (option_map fields_given (with_entry o)) (among (by_folded es) ids)) (sym (get-by_folded x es))
  where
    by : (o : Option Given) → fields_of fields_given (entries_at es ids) ≡ among (by_folded es) ids → fields_of fields_given (cons_option (option_map (λ (g : Given). (x, g)) o) (entries_at es ids)) ≡ onto x (option_map fields_given o) (among (by_folded es) ids)
    by None h = h
    by (Some g) h = ap (λ l. (x, fields_given g) ∷ l) h

-- WHAT IS FOUND FOR EACH ID

pub single_more : (es : List (List ℕ × Given)) (x : List ℕ) (ids : List (List ℕ)) → entries_at es (x ∷ ids) ≡ entries_at es (x ∷ []) ++ entries_at es ids
single_more es x ids = by (with_entry (lookup (is_at (id_cmp x)) es))
  where
    by : (o : Option Given) → cons_option (option_map (λ (g : Given). (x, g)) o) (entries_at es ids) ≡ cons_option (option_map (λ (g : Given). (x, g)) o) [] ++ entries_at es ids
    by None = refl
    by (Some g) = refl

pub next_is : {X : Type 0} (xs : List X) (i : ℕ) (x : X) → i < length xs → x ≡ get_or xs i x → drop i xs ≡ x ∷ drop (i + 1) xs
next_is xs i x more is = drop_more xs i x more ∙ ap (λ y. y ∷ drop (i + 1) xs) (sym is)

pub found_at : (es : List (List ℕ × Given)) (x : List ℕ) (g : Given) → Some g ≡ with_entry (lookup (is_at (id_cmp x)) es) → (x, g) ∷ [] ≡ entries_at es (x ∷ [])
found_at es x g e = ap (λ (o : Option Given). cons_option (option_map (λ (g : Given). (x, g)) o) []) e

pub none_at : (es : List (List ℕ × Given)) (x : List ℕ) → None ≡ with_entry (lookup (is_at (id_cmp x)) es) → [] ≡ entries_at es (x ∷ [])
none_at es x e = ap (λ (o : Option Given). cons_option (option_map (λ (g : Given). (x, g)) o) []) e

outcome_words : (o : Outcome) → OutcomeHasWords o → HasWords (outcome_fields o)
outcome_words (Entry fields) w = w
outcome_words NoEntry w = tt
outcome_words Failed w = tt

pub words_more : (es : List (List ℕ × Given)) (x : List ℕ) (g : Given) → OutcomeHasWords g.mapped.outcome → HaveWords (fields_of fields_given es) → HaveWords (fields_of fields_given (es ++ (x, g) ∷ []))
words_more [] x g w h = (outcome_words g.mapped.outcome w, tt)
words_more (e ∷ es) x g w h = (h.0, words_more es x g w h.1)

-- ONE ID AFTER ANOTHER

-- an id among these is none that is below all of them
differs : (x : List ℕ) (ids : List (List ℕ)) (q : List ℕ) → IsBelowAll x ids → any_of q ids ≡ true → same_key q (folded x) ≡ false
differs x ids q below i = elim (same_key q (folded x)) as (λ b. same_key q (folded x) ≡ b → b ≡ false) [
  | true ↦ λ e. absurd (let t = subst (λ k. any_of k ids ≡ true) (same_means q (folded x) e) i in let f = below_none x ids below in cc)
  | false ↦ λ e. refl
] refl

first_of_all : (x : List ℕ) (ids : List (List ℕ)) → any_of (folded x) (x ∷ ids) ≡ true
first_of_all x ids = ap (λ b. b || any_of (folded x) ids) (same_itself (folded x))

later_too : (a b : Bool) → b ≡ true → (a || b) ≡ true
later_too true b h = refl
later_too false b h = h

removed_at : (E : Entries) (k q : List ℕ) → get (remove E k) q ≡ cond (same_key q k) None (get E q)
removed_at E k q = get-remove total E k q ∙ ap (λ b. cond b None (get E q)) (tied q k)

inserted_at : (E : Entries) (k : List ℕ) (v : Fields) (q : List ℕ) → get (insert E k v) q ≡ cond (same_key q k) (Some v) (get E q)
inserted_at E k v q = get-insert total E k v q ∙ ap (λ b. cond b (Some v) (get E q)) (tied q k)

-- these ids have in the entries what is given for them
abbrev HasGiven : FinMap key_cmp Given → List (List ℕ) → Entries → Type 0
HasGiven K ids E = (q : List ℕ) → any_of q ids ≡ true → get E q ≡ fields_at K q

-- these ids have no entries
abbrev HasNone : List (List ℕ) → Entries → Type 0
HasNone ids E = (q : List ℕ) → any_of q ids ≡ true → get E q ≡ None

module _ (K : FinMap key_cmp Given) (x : List ℕ) (ids : List (List ℕ)) (below : IsBelowAll x ids) (E : Entries) where
  given_later : HasGiven K (x ∷ ids) E → HasGiven K ids E
  given_later h = λ q i. h q (later_too (same_key q (folded x)) (any_of q ids) i)

  given_less : HasGiven K (x ∷ ids) E → HasGiven K ids (remove E (folded x))
  given_less h = λ q i. removed_at E (folded x) q ∙ ap (λ b. cond b None (get E q)) (differs x ids q below i) ∙ given_later h q i

  none_later : HasNone (x ∷ ids) E → HasNone ids E
  none_later h = λ q i. h q (later_too (same_key q (folded x)) (any_of q ids) i)

  none_more : (v : Fields) → HasNone (x ∷ ids) E → HasNone ids (insert E (folded x) v)
  none_more v h = λ q i. inserted_at E (folded x) v q ∙ ap (λ b. cond b (Some v) (get E q)) (differs x ids q below i) ∙ none_later h q i

are_there : (K : FinMap key_cmp Given) (ids : List (List ℕ)) (E : Entries) → AreInOrder ids → HasGiven K ids E → AreThere E (among K ids)
are_there K [] E order h = tt
are_there K (x ∷ ids) E order h = by (fields_at K (folded x)) refl (λ F. are_there K ids F order.1)
  where
    by : (o : Option Fields) → fields_at K (folded x) ≡ o → ((F : Entries) → HasGiven K ids F → AreThere F (among K ids)) → AreThere E (onto x o (among K ids))
    by None e rest = rest E (given_later K x ids order.0 E h)
    by (Some v) e rest = (h (folded x) (first_of_all x ids) ∙ e, rest (remove E (folded x)) (given_less K x ids order.0 E h))

nothing_left : (b : Bool) (o : Option Fields) → o ≡ None → cond b None o ≡ None
nothing_left true o e = refl
nothing_left false o e = e

out_twice : (s a : Bool) (o : Option Fields) → cond a None (cond s None o) ≡ cond (s || a) None o
out_twice true true o = refl
out_twice true false o = refl
out_twice false a o = refl

-- without them these ids have nothing, and all others what they had
left_at : (K : FinMap key_cmp Given) (q : List ℕ) (ids : List (List ℕ)) (E : Entries) → AreInOrder ids → HasGiven K ids E → get (without_all E (among K ids)) q ≡ cond (any_of q ids) None (get E q)
left_at K q [] E order h = refl
left_at K q (x ∷ ids) E order h = by (fields_at K (folded x)) refl (λ F. left_at K q ids F order.1)
  where
    by : (o : Option Fields) → fields_at K (folded x) ≡ o → ((F : Entries) → HasGiven K ids F → get (without_all F (among K ids)) q ≡ cond (any_of q ids) None (get F q)) →
        get (without_all E (onto x o (among K ids))) q ≡ cond (same_key q (folded x) || any_of q ids) None (get E q)
    by None e rest =
        rest E (given_later K x ids order.0 E h) ∙ elim (same_key q (folded x)) as (λ b. same_key q (folded x) ≡ b → cond (any_of q ids) None (get E q) ≡ cond (b || any_of q ids) None (get E q)) [
          | true ↦ λ t. nothing_left (any_of q ids) (get E q) (h q (ap (λ b. b || any_of q ids) t) ∙ ap (fields_at K) (same_means q (folded x) t) ∙ e)
          | false ↦ λ t. refl
        ] refl
    by (Some v) e rest =
        rest (remove E (folded x)) (given_less K x ids order.0 E h) ∙ ap (cond (any_of q ids) None) (removed_at E (folded x) q) ∙ out_twice (same_key q (folded x)) (any_of q ids) (get E q)

are_new : (K : FinMap key_cmp Given) (ids : List (List ℕ)) (E : Entries) → AreInOrder ids → HasNone ids E → AreNew E (among K ids)
are_new K [] E order h = tt
are_new K (x ∷ ids) E order h = by (fields_at K (folded x)) (λ F. are_new K ids F order.1)
  where
    by : (o : Option Fields) → ((F : Entries) → HasNone ids F → AreNew F (among K ids)) → AreNew E (onto x o (among K ids))
    by None rest = rest E (none_later K x ids order.0 E h)
    by (Some v) rest = (h (folded x) (first_of_all x ids), rest (insert E (folded x) v) (none_more K x ids order.0 E v h))

either_way : (b : Bool) (o p : Option Fields) → p ≡ o → cond b o p ≡ o
either_way true o p e = refl
either_way false o p e = e

-- with them these ids have what is given for them, and all others what they had
grown_at : (K : FinMap key_cmp Given) (q : List ℕ) (ids : List (List ℕ)) (E : Entries) → AreInOrder ids → HasNone ids E → get (with_all E (among K ids)) q ≡ cond (any_of q ids) (fields_at K q) (get E q)
grown_at K q [] E order h = refl
grown_at K q (x ∷ ids) E order h = by (fields_at K (folded x)) refl (λ F. grown_at K q ids F order.1)
  where
    by : (o : Option Fields) → fields_at K (folded x) ≡ o → ((F : Entries) → HasNone ids F → get (with_all F (among K ids)) q ≡ cond (any_of q ids) (fields_at K q) (get F q)) →
        get (with_all E (onto x o (among K ids))) q ≡ cond (same_key q (folded x) || any_of q ids) (fields_at K q) (get E q)
    by None e rest =
        rest E (none_later K x ids order.0 E h) ∙ elim (same_key q (folded x)) as (λ b. same_key q (folded x) ≡ b → cond (any_of q ids) (fields_at K q) (get E q) ≡ cond (b || any_of q ids) (fields_at K q) (get E q)) [
          | true ↦ λ t. either_way (any_of q ids) (fields_at K q) (get E q) (h q (ap (λ b. b || any_of q ids) t) ∙ sym (ap (fields_at K) (same_means q (folded x) t) ∙ e))
          | false ↦ λ t. refl
        ] refl
    by (Some v) e rest =
        rest (insert E (folded x) v) (none_more K x ids order.0 E v h) ∙ ap (cond (any_of q ids) (fields_at K q)) (inserted_at E (folded x) v q)
        ∙ elim (same_key q (folded x)) as (λ b. same_key q (folded x) ≡ b → cond (any_of q ids) (fields_at K q) (cond b (Some v) (get E q)) ≡ cond (b || any_of q ids) (fields_at K q) (get E q)) [
          | true ↦ λ t. either_way (any_of q ids) (fields_at K q) (Some v) (sym (ap (fields_at K) (same_means q (folded x) t) ∙ e))
          | false ↦ λ t. refl
        ] refl

-- ALL OF THEM

module _ (before after : List (List ℕ × Given)) (ids : List (List ℕ)) (gone come : List (List ℕ × Given)) (g : Grouped) (order : AreInOrder ids) (has : HasEntries (by_folded before) g) (out : gone ≡ entries_at before ids) (inn : come ≡ entries_at after ids) where
  gone_seen : fields_of fields_given gone ≡ among (by_folded before) ids
  gone_seen = ap (fields_of fields_given) out ∙ seen_among before ids

  come_seen : fields_of fields_given come ≡ among (by_folded after) ids
  come_seen = ap (fields_of fields_given) inn ∙ seen_among after ids

  pub gone_there : AreThere g.entries (fields_of fields_given gone)
  gone_there = subst (AreThere g.entries) (sym gone_seen) (are_there (by_folded before) ids g.entries order (λ q i. has q))

  left_is : (q : List ℕ) → get (without_all g.entries (fields_of fields_given gone)) q ≡ cond (any_of q ids) None (get g.entries q)
  left_is q = ap (λ cs. get (without_all g.entries cs) q) gone_seen ∙ left_at (by_folded before) q ids g.entries order (λ p i. has p)

  none_left : HasNone ids (without_all g.entries (fields_of fields_given gone))
  none_left = λ q i. left_is q ∙ ap (λ b. cond b None (get g.entries q)) i

  pub come_new : AreNew (without_all g.entries (fields_of fields_given gone)) (fields_of fields_given come)
  come_new = subst (AreNew (without_all g.entries (fields_of fields_given gone))) (sym come_seen) (are_new (by_folded after) ids (without_all g.entries (fields_of fields_given gone)) order none_left)

  pub entries_new : (new : Grouped) → new.entries ≡ with_all (without_all g.entries (fields_of fields_given gone)) (fields_of fields_given come)
      → ((q : List ℕ) → any_of q ids ≡ false → get (by_folded after) q ≡ get (by_folded before) q) → HasEntries (by_folded after) new
  entries_new new is others = λ q.
      ap (λ (E : Entries). get E q) is ∙ ap (λ cs. get (with_all (without_all g.entries (fields_of fields_given gone)) cs) q) come_seen
      ∙ grown_at (by_folded after) q ids (without_all g.entries (fields_of fields_given gone)) order none_left
      ∙ ap (cond (any_of q ids) (fields_at (by_folded after) q)) (left_is q)
      ∙ elim (any_of q ids) as (λ b. any_of q ids ≡ b → cond b (fields_at (by_folded after) q) (cond b None (get g.entries q)) ≡ fields_at (by_folded after) q) [
        | true ↦ λ e. refl
        | false ↦ λ e. has q ∙ ap (λ o. option_map fields_given (with_entry o)) (sym (others q e))
      ] refl

-- HOW MANY

pub few_entries : (m : Mapper) (T : Table) (es : List (List ℕ × Given)) → ((q : List ℕ) → get (by_folded es) q ≡ given_at m T q) → (ids : List (List ℕ)) → length (entries_at es ids) ≤ length (mapped_among m T (map folded ids))
few_entries m T es are [] = omega arith
few_entries m T es are (x ∷ ids) =
    subst (λ (o : Option Given). length (cons_option (option_map (λ (g : Given). (x, g)) (with_entry o)) (entries_at es ids)) ≤ length (cond (is_some (given_at m T (folded x))) (folded x ∷ mapped_among m T (map folded ids)) (mapped_among m T (map folded ids))))
    (sym (are (folded x)) ∙ get-by_folded x es) (by (given_at m T (folded x)) (few_entries m T es are ids))
  where
    by : (o : Option Given) → length (entries_at es ids) ≤ length (mapped_among m T (map folded ids)) →
        length (cons_option (option_map (λ (g : Given). (x, g)) (with_entry o)) (entries_at es ids)) ≤ length (cond (is_some o) (folded x ∷ mapped_among m T (map folded ids)) (mapped_among m T (map folded ids)))
    by None h = h
    by (Some g) h = elim (has_entry g.mapped.outcome) as (λ b. length (cons_option (option_map (λ (g : Given). (x, g)) (cond b (Some g) None)) (entries_at es ids)) ≤ length (folded x ∷ mapped_among m T (map folded ids))) [
      | true ↦ omega (arith, h)
      | false ↦ omega (arith, h)
    ]
