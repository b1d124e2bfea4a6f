-- What is given as before when rows are taken, whatever rows these are, and what then is not mapped any more.
use Rattle.std.proofs.Common.{◌≡◌, ℕ, List, [], ◌∷◌, Bool, true, false, cond, ◌||◌, Option, Some, None, is_some, filter, map, refl, sym, ap, ◌∙◌, subst}
use Rattle.std.specs.FinMap.{get}
use Rattle.std.specs.List.{list_any}
use Rattle.std.specs.Option.{option_and_then}
use Rattle.spec_data.specs.Folding.{same_key}
use Rattle.spec_data.specs.Rows.{Row, key, is_document}
use Rattle.spec_store.specs.Store.{row_at}
use Rattle.spec_data.specs.Tables.{Table, note_row, note_rows}
use Rattle.index_tree.specs.Mapper.{AlikeAt, Mapper, is_mapped}
use Rattle.spec_index.specs.Mapping.{is_in_batch}
use Rattle.spec_store.proofs.TableLemmas.{get-note_row}
use Rattle.spec_store.proofs.StoreLemmas.{same_itself, same_means}
use Rattle.index_version.specs.Kept.{Given, given_at, given_of, is_loaded}

-- A TAKEN ID AMONG THE LOADS

same_turned : (a b : List ℕ) → same_key a b ≡ same_key b a
same_turned a b = elim (same_key a b) as (λ x. same_key a b ≡ x → x ≡ same_key b a) [
  | true ↦ λ e. sym (subst (λ k. same_key k a ≡ true) (same_means a b e) (same_itself a))
  | false ↦ λ e. elim (same_key b a) as (λ x. same_key b a ≡ x → false ≡ x) [
    | true ↦ λ f. absurd (let t = subst (λ k. same_key k b ≡ true) (same_means b a f) (same_itself b) in cc)
    | false ↦ λ f. refl
  ] refl
] refl

-- an id is taken where it is that of a row
taken_is : (q : List ℕ) (rows : List Row) → is_some (row_at q rows) ≡ list_any (λ r. same_key q (key r)) rows
taken_is q [] = refl
taken_is q (r ∷ rows) = elim (same_key q (key r)) as (λ b. is_some (cond b (Some r) (row_at q rows)) ≡ (b || list_any (λ x. same_key q (key x)) rows)) [ true ↦ refl | false ↦ taken_is q rows ]

none_there : {X : Type 0} (xs : List X) → list_any (λ (x : X). false) xs ≡ false
none_there [] = refl
none_there (x ∷ xs) = none_there xs

either : {X : Type 0} (p q : X → Bool) (xs : List X) → list_any (λ x. p x || q x) xs ≡ (list_any p xs || list_any q xs)
either p q [] = refl
either p q (x ∷ xs) = ap (λ b. (p x || q x) || b) (either p q xs) ∙ arranged (p x) (q x) (list_any p xs) (list_any q xs)
  where
    arranged : (a b c d : Bool) → ((a || b) || (c || d)) ≡ ((a || c) || (b || d))
    arranged true b c d = refl
    arranged false true true d = refl
    arranged false true false d = refl
    arranged false false c d = refl

-- one of the loads is taken where one of the taken rows is loaded
pub swapped : (loads : List (List ℕ)) (rows : List Row) → list_any (is_in_batch rows) loads ≡ list_any (λ r. list_any (same_key (key r)) loads) rows
swapped [] rows = sym (none_there rows)
swapped (l ∷ loads) rows =
    (λ i. taken_is l rows i || swapped loads rows i)
    ∙ ap (λ b. b || list_any (λ r. list_any (same_key (key r)) loads) rows) (turned rows)
    ∙ sym (either (λ r. same_key (key r) l) (λ r. list_any (same_key (key r)) loads) rows)
  where
    turned : (rs : List Row) → list_any (λ r. same_key l (key r)) rs ≡ list_any (λ r. same_key (key r) l) rs
    turned [] = refl
    turned (r ∷ rs) = λ i. same_turned l (key r) i || turned rs i

-- WHAT IS NOT TAKEN

-- an id that was not taken has the row that it had
left_alone : (T : Table) (rows : List Row) (q : List ℕ) → is_in_batch rows q ≡ false → get (note_rows T rows) q ≡ get T q
left_alone T [] q h = refl
left_alone T (r ∷ rows) q h =
    elim (same_key q (key r)) as (λ b. same_key q (key r) ≡ b → is_some (cond b (Some r) (row_at q rows)) ≡ false → get (note_rows (note_row T r) rows) q ≡ get T q) [
      | true ↦ λ e g. absurd cc
      | false ↦ λ e g. left_alone (note_row T r) rows q g ∙ get-note_row T r q ∙ ap (λ b. cond b (cond (is_document r) (Some r) None) (get T q)) e
    ] refl h

all_left_alone : (T : Table) (rows : List Row) (ids : List (List ℕ)) → list_any (is_in_batch rows) ids ≡ false → AlikeAt ids T (note_rows T rows)
all_left_alone T rows [] h = tt
all_left_alone T rows (q ∷ ids) h =
    elim (is_in_batch rows q) as (λ b. is_in_batch rows q ≡ b → (b || list_any (is_in_batch rows) ids) ≡ false → AlikeAt (q ∷ ids) T (note_rows T rows)) [
      | true ↦ λ e g. absurd cc
      | false ↦ λ e g. (sym (left_alone T rows q e), all_left_alone T rows ids g)
    ] refl h

-- where neither an id was taken nor what it loads, the map gives the same
pub gives_same : (m : Mapper) (T : Table) (rows : List Row) (q : List ℕ) → is_in_batch rows q ≡ false → list_any (λ r. is_loaded (key r) (given_at m T q)) rows ≡ false
    → given_at m (note_rows T rows) q ≡ given_at m T q
gives_same m T rows q out none = ap (option_and_then (given_of m (note_rows T rows))) (left_alone T rows q out) ∙ of_row (get T q) none
  where
    of_row : (o : Option Row) → list_any (λ r. is_loaded (key r) (option_and_then (given_of m T) o)) rows ≡ false → option_and_then (given_of m (note_rows T rows)) o ≡ option_and_then (given_of m T) o
    of_row None h = refl
    of_row (Some d) h =
        elim (is_mapped m d) as (λ b. list_any (λ r. is_loaded (key r) (cond b (Some (record { id = d.id; mapped = m.meaning d T })) None)) rows ≡ false → let given : Option Given = cond b (Some (record { id = d.id; mapped = m.meaning d (note_rows T rows) })) None in given ≡ cond b (Some (record { id = d.id; mapped = m.meaning d T })) None) [
          | true ↦ λ g. ap (λ mapped. Some (record { id = d.id; mapped = mapped })) (m.local d T (note_rows T rows) (all_left_alone T rows (m.meaning d T).loads (swapped (m.meaning d T).loads rows ∙ g)))
          | false ↦ λ g. refl
        ] h

-- WHAT IS TAKEN AND NOT MAPPED

-- what a table has of an id is of no collection that is mapped
abbrev unmapped : Mapper → Option Row → Bool
unmapped m None = true
unmapped m (Some d) = cond (is_mapped m d) false true

pub gives_none : (m : Mapper) (T : Table) (o : Option Row) → unmapped m o ≡ true → option_and_then (given_of m T) o ≡ None
gives_none m T None h = refl
gives_none m T (Some d) h = elim (is_mapped m d) as (λ b. cond b false true ≡ true → (let given : Option Given = cond b (Some (record { id = d.id; mapped = m.meaning d T })) None in given) ≡ None) [
  | true ↦ λ g. absurd cc
  | false ↦ λ g. refl
] h

row_unmapped : (m : Mapper) (r : Row) → is_mapped m r ≡ false → unmapped m (cond (is_document r) (Some r) None) ≡ true
row_unmapped m r out = elim (is_document r) as (λ b. unmapped m (cond b (Some r) None) ≡ true) [ true ↦ ap (λ b. cond b false true) out | false ↦ refl ]

none_here : (m : Mapper) (r : Row) (rows : List Row) (q : List ℕ) → list_any (same_key q) (map key (filter (is_mapped m) (r ∷ rows))) ≡ false → same_key q (key r) ≡ true → is_mapped m r ≡ false
none_here m r rows q none e = elim (is_mapped m r) as (λ b. list_any (same_key q) (map key (cond b (r ∷ filter (is_mapped m) rows) (filter (is_mapped m) rows))) ≡ false → b ≡ false) [
  | true ↦ λ g. absurd (let f = ap (λ b. b || list_any (same_key q) (map key (filter (is_mapped m) rows))) (sym e) ∙ g in cc)
  | false ↦ λ g. refl
] none

none_later : (m : Mapper) (r : Row) (rows : List Row) (q : List ℕ) → list_any (same_key q) (map key (filter (is_mapped m) (r ∷ rows))) ≡ false → list_any (same_key q) (map key (filter (is_mapped m) rows)) ≡ false
none_later m r rows q none = elim (is_mapped m r) as (λ b. list_any (same_key q) (map key (cond b (r ∷ filter (is_mapped m) rows) (filter (is_mapped m) rows))) ≡ false → list_any (same_key q) (map key (filter (is_mapped m) rows)) ≡ false) [
  | true ↦ λ g. elim (same_key q (key r)) as (λ b. (b || list_any (same_key q) (map key (filter (is_mapped m) rows))) ≡ false → list_any (same_key q) (map key (filter (is_mapped m) rows)) ≡ false) [ true ↦ λ f. absurd cc | false ↦ λ f. f ] g
  | false ↦ λ g. g
] none

noted_unmapped : (m : Mapper) (T : Table) (r : Row) (q : List ℕ) → (same_key q (key r) ≡ false → unmapped m (get T q) ≡ true) → (same_key q (key r) ≡ true → is_mapped m r ≡ false) → unmapped m (get (note_row T r) q) ≡ true
noted_unmapped m T r q before out =
    ap (unmapped m) (get-note_row T r q)
    ∙ elim (same_key q (key r)) as (λ b. same_key q (key r) ≡ b → unmapped m (cond b (cond (is_document r) (Some r) None) (get T q)) ≡ true) [
      | true ↦ λ e. row_unmapped m r (out e)
      | false ↦ λ e. before e
    ] refl

all_unmapped : (m : Mapper) (T : Table) (rows : List Row) (q : List ℕ) → unmapped m (get T q) ≡ true → list_any (same_key q) (map key (filter (is_mapped m) rows)) ≡ false → unmapped m (get (note_rows T rows) q) ≡ true
all_unmapped m T [] q h none = h
all_unmapped m T (r ∷ rows) q h none = all_unmapped m (note_row T r) rows q (noted_unmapped m T r q (λ e. h) (none_here m r rows q none)) (none_later m r rows q none)

-- where an id was taken, but no row of it that is mapped, it is not mapped afterwards
pub taken_unmapped : (m : Mapper) (T : Table) (rows : List Row) (q : List ℕ) → is_in_batch rows q ≡ true → list_any (same_key q) (map key (filter (is_mapped m) rows)) ≡ false → unmapped m (get (note_rows T rows) q) ≡ true
taken_unmapped m T [] q taken none = absurd cc
taken_unmapped m T (r ∷ rows) q taken none =
    elim (same_key q (key r)) as (λ b. same_key q (key r) ≡ b → is_some (cond b (Some r) (row_at q rows)) ≡ true → unmapped m (get (note_rows (note_row T r) rows) q) ≡ true) [
      | true ↦ λ e g. all_unmapped m (note_row T r) rows q (noted_unmapped m T r q (λ f. absurd cc) (none_here m r rows q none)) (none_later m r rows q none)
      | false ↦ λ e g. taken_unmapped m (note_row T r) rows q g (none_later m r rows q none)
    ] refl taken
