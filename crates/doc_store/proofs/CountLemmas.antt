-- How many rows pass a test.
use Rattle.std.proofs.Common.{◌≡◌, ℕ, ◌<◌, ◌≤◌, ◌+◌, ◌-◌, ◌^◌, List, [], ◌∷◌, Bool, true, false, not, cond, ◌&&◌, Option, Some, None, filter, length, unwrap_or, refl, sym, ap, ◌∙◌, subst, arith}
use Rattle.std.specs.Int.{from_bool}
use Rattle.std.specs.Str.{bytes_eq}
use Rattle.std.specs.declared.cmp.Ordering.TheVariants.{Less}
use Rattle.std.specs.Ordering.{is_eq}
use Rattle.std.specs.Cmp.Lexicographic.{nat_list_eq_equiv}
use Rattle.std.specs.Map.{lookup}
use Rattle.std.specs.BTreeMap.{is_at}
use Rattle.std.proofs.lemmas.List.{length-append}
use Rattle.std.proofs.lemmas.List.Elements.{filter-append}
use Rattle.std.proofs.lemmas.Map.Text.{is_eq-slice_cmp}
use Rattle.std.proofs.lemmas.Slice.Eq.{bytes_eq-Decides}
use Rattle.paged_map.specs.Pairs.{AllAnswer, IsRising}
use Rattle.paged_map.proofs.Rising.{lookup_none}
use Rattle.spec_data.specs.Folding.{key_cmp, same_key}
use Rattle.spec_data.specs.Rows.{Row, is_document, key}
use Rattle.spec_store.specs.Store.{row_at, put, last_of, AreApart, AreRising}
use Rattle.spec_store.proofs.StoreLemmas.{same_means}
use Rattle.doc_store.specs.Maps.{is_document_in, is_of, passing_beside, rows_of}
use Rattle.doc_store.proofs.MapLemmas.{none_out}

pub no_longer : (p : Row → Bool) (rows : List Row) → length (filter p rows) ≤ length rows
no_longer p [] = omega arith
no_longer p (x ∷ rows) =
    let rest = no_longer p rows in
    elim (p x) as (λ b. length (cond b (x ∷ filter p rows) (filter p rows)) ≤ length (x ∷ rows)) [
      | true ↦ omega arith
      | false ↦ omega arith
    ]

-- those that pass and those that do not are all
both : (p : Row → Bool) (rows : List Row) → length (filter p rows) + length (filter (λ r. not (p r)) rows) ≡ length rows
both p [] = refl
both p (x ∷ rows) =
    let rest = both p rows in
    elim (p x) as (λ b. length (cond b (x ∷ filter p rows) (filter p rows)) + length (cond (not b) (x ∷ filter (λ r. not (p r)) rows) (filter (λ r. not (p r)) rows)) ≡ length (x ∷ rows)) [
      | true ↦ omega arith
      | false ↦ omega arith
    ]

-- the rows that are no documents
pub gone_are : (rows : List Row) (documents all : ℕ) → documents ≡ length (filter is_document rows) → all ≡ length rows → all - documents ≡ length (filter (λ r. not (is_document r)) rows)
gone_are rows documents all d a = let b = both is_document rows in omega arith

-- PUT IN

-- the documents beside the row of an id
one_out : (q : List ℕ) (rows : List Row) → AreApart rows
    → length (filter is_document (filter (λ x. not (same_key q (key x))) rows)) + from_bool (is_document_in (row_at q rows)) ≡ length (filter is_document rows)
one_out q [] apart = refl
one_out q (x ∷ rows) apart =
    elim (same_key q (key x)) as (λ b. same_key q (key x) ≡ b → length (filter is_document (cond (not b) (x ∷ others) others)) + from_bool (is_document_in (cond b (Some x) (row_at q rows))) ≡ length (filter is_document (x ∷ rows))) [
      | true ↦ λ e.
          let same : others ≡ rows = none_out q rows (subst (λ k. row_at k rows ≡ None) (sym (same_means q (key x) e)) apart.0) in
          let alike = ap (λ l. length (filter is_document l)) same in
          elim (is_document x) as (λ d. length (filter is_document others) + from_bool d ≡ length (cond d (x ∷ filter is_document rows) (filter is_document rows))) [
            | true ↦ omega arith
            | false ↦ omega arith
          ]
      | false ↦ λ e.
          let rest = one_out q rows apart.1 in
          elim (is_document x) as (λ d. length (cond d (x ∷ filter is_document others) (filter is_document others)) + from_bool (is_document_in (row_at q rows)) ≡ length (cond d (x ∷ filter is_document rows) (filter is_document rows))) [
            | true ↦ omega arith
            | false ↦ omega arith
          ]
    ] refl
  where
    others : List Row
    others = filter (λ y. not (same_key q (key y))) rows

-- there is one to take out
pub some_document : (rows : List Row) (r : Row) (documents : ℕ) (replaced : Option Row) → AreApart rows → replaced ≡ row_at (key r) rows → documents ≡ length (filter is_document rows)
    → from_bool (is_document_in replaced) ≤ documents
some_document rows r documents replaced apart is d =
    let out = one_out (key r) rows apart in
    let same = ap (λ o. from_bool (is_document_in o)) is in
    omega arith

-- there is room for one more, since no two rows have one etag
few_rows : (low : ℕ) (rows : List Row) → AreRising low rows → low + length rows ≤ last_of low rows
few_rows low [] up = omega arith
few_rows low (r ∷ rows) up = let rest = few_rows r.etag rows up.1 in let first = up.0 in omega arith

pub room_for_one : (rows : List Row) (documents etag : ℕ) → AreRising 0 rows → documents ≡ length (filter is_document rows) → last_of 0 rows < etag → documents + 1 ≤ etag
room_for_one rows documents etag up d newer =
    let most = no_longer is_document rows in
    let few = few_rows 0 rows up in
    omega arith

one_more : (r : Row) → length (filter is_document (r ∷ [])) ≡ from_bool (is_document r)
one_more r =
    elim (is_document r) as (λ d. length (cond d (r ∷ []) []) ≡ from_bool d) [
      | true ↦ refl
      | false ↦ refl
    ]

pub documents_put : (rows : List Row) (r : Row) (documents now : ℕ) (replaced : Option Row) → AreApart rows → replaced ≡ row_at (key r) rows → documents ≡ length (filter is_document rows)
    → now ≡ documents - from_bool (is_document_in replaced) + from_bool (is_document r) → now ≡ length (filter is_document (put r rows))
documents_put rows r documents now replaced apart is d n =
    let out = one_out (key r) rows apart in
    let same = ap (λ o. from_bool (is_document_in o)) is in
    let more = one_more r in
    let others : List Row = filter (λ x. not (same_key (key r) (key x))) rows in
    let whole = ap length (filter-append is_document others (r ∷ [])) ∙ length-append (filter is_document others) (filter is_document (r ∷ [])) in
    omega arith

-- IN ALL COLLECTIONS

abbrev rest_of : List ℕ → List Row → List Row
rest_of n rows = filter (λ r. not (is_of n r)) rows

-- those of one collection and those of the others are all
split : (t : Row → Bool) (n : List ℕ) (rows : List Row) → length (filter t rows) ≡ length (filter t (filter (is_of n) rows)) + length (filter t (rest_of n rows))
split t n [] = refl
split t n (x ∷ rows) =
    let rest = split t n rows in
    elim (is_of n x) as (λ b. length (cond (t x) (x ∷ filter t rows) (filter t rows)) ≡ length (filter t (cond b (x ∷ filter (is_of n) rows) (filter (is_of n) rows))) + length (filter t (cond (not b) (x ∷ rest_of n rows) (rest_of n rows)))) [
      | true ↦ elim (t x) as (λ d. length (cond d (x ∷ filter t rows) (filter t rows)) ≡ length (cond d (x ∷ filter t (filter (is_of n) rows)) (filter t (filter (is_of n) rows))) + length (filter t (rest_of n rows))) [
        | true ↦ omega arith
        | false ↦ rest
      ]
      | false ↦ elim (t x) as (λ d. length (cond d (x ∷ filter t rows) (filter t rows)) ≡ length (filter t (filter (is_of n) rows)) + length (cond d (x ∷ filter t (rest_of n rows)) (filter t (rest_of n rows)))) [
        | true ↦ omega arith
        | false ↦ rest
      ]
    ]

none_either : (b : Bool) → let none : ℕ = 0 in none ≡ cond b none none
none_either true = refl
none_either false = refl

-- of the collection itself none, and of another one those that pass
group : (p : Row → Bool) (c n : List ℕ) (rows : List Row) → length (filter (λ r. not (bytes_eq r.collection c) && p r) (filter (is_of n) rows)) ≡ cond (bytes_eq n c) 0 (length (filter p (filter (is_of n) rows)))
group p c n [] = none_either (bytes_eq n c)
group p c n (x ∷ rows) =
    elim (is_of n x) as (λ b. is_of n x ≡ b → length (filter t (cond b (x ∷ own) own)) ≡ cond (bytes_eq n c) 0 (length (filter p (cond b (x ∷ own) own)))) [
      | true ↦ λ e.
          ap (λ k. length (cond (not (bytes_eq k c) && p x) (x ∷ filter t own) (filter t own))) ((bytes_eq-Decides x.collection n).0 e)
          ∙ elim (bytes_eq n c) as (λ d. length (filter t own) ≡ cond d 0 (length (filter p own)) → length (cond (not d && p x) (x ∷ filter t own) (filter t own)) ≡ cond d 0 (length (cond (p x) (x ∷ filter p own) (filter p own)))) [
            | true ↦ λ same. same
            | false ↦ λ same. elim (p x) as (λ f. length (cond f (x ∷ filter t own) (filter t own)) ≡ length (cond f (x ∷ filter p own) (filter p own))) [
              | true ↦ omega arith
              | false ↦ same
            ]
          ] (group p c n rows)
      | false ↦ λ e. group p c n rows
    ] refl
  where
    own : List Row
    own = filter (is_of n) rows

    t : Row → Bool
    t r = not (bytes_eq r.collection c) && p r

-- the first pair of a map has the rows of its collection, and says nothing of others
name_is : (c name : List ℕ) → is_eq (key_cmp c name) ≡ bytes_eq name c
name_is c name = is_eq-slice_cmp c name ∙ nat_list_eq_equiv.symm c name

same_name : (c : List ℕ) → bytes_eq c c ≡ true
same_name c = (bytes_eq-Decides c c).1 refl

found_here : (name : List ℕ) (rows : List Row) (more : List (List ℕ × List Row)) → rows_of ((name, rows) ∷ more) name ≡ rows
found_here name rows more = ap (λ b. unwrap_or (cond b (Some rows) (lookup (is_at (key_cmp name)) more)) []) (name_is name name ∙ same_name name)

passed_by : (c name : List ℕ) (rows : List Row) (more : List (List ℕ × List Row)) → bytes_eq name c ≡ false → rows_of ((name, rows) ∷ more) c ≡ rows_of more c
passed_by c name rows more h = ap (λ b. unwrap_or (cond b (Some rows) (lookup (is_at (key_cmp c)) more)) []) (name_is c name ∙ h)

none_left : (n : List ℕ) (rows : List Row) → filter (is_of n) (rest_of n rows) ≡ []
none_left n [] = refl
none_left n (x ∷ rows) =
    elim (is_of n x) as (λ b. is_of n x ≡ b → filter (is_of n) (cond (not b) (x ∷ rest_of n rows) (rest_of n rows)) ≡ []) [
      | true ↦ λ e. none_left n rows
      | false ↦ λ e. ap (λ b. cond b (x ∷ filter (is_of n) (rest_of n rows)) (filter (is_of n) (rest_of n rows))) e ∙ none_left n rows
    ] refl

all_left : (n d : List ℕ) (rows : List Row) → bytes_eq n d ≡ false → filter (is_of d) (rest_of n rows) ≡ filter (is_of d) rows
all_left n d [] other = refl
all_left n d (x ∷ rows) other =
    let rest = all_left n d rows other in
    elim (is_of n x) as (λ b. is_of n x ≡ b → filter (is_of d) (cond (not b) (x ∷ rest_of n rows) (rest_of n rows)) ≡ cond (is_of d x) (x ∷ filter (is_of d) rows) (filter (is_of d) rows)) [
      | true ↦ λ e. rest ∙ sym (ap (λ b. cond b (x ∷ filter (is_of d) rows) (filter (is_of d) rows)) (ap (λ k. bytes_eq k d) ((bytes_eq-Decides x.collection n).0 e) ∙ other))
      | false ↦ λ e. ap (λ xs. cond (is_of d x) (x ∷ xs) xs) rest
    ] refl

-- the other pairs have the rows of the other collections
others_have : (e : List ℕ × List Row) (es : List (List ℕ × List Row)) (rows : List Row) → AllAnswer key_cmp e.0 Less es → ((d : List ℕ) → rows_of (e ∷ es) d ≡ filter (is_of d) rows)
    → (d : List ℕ) → rows_of es d ≡ filter (is_of d) (rest_of e.0 rows)
others_have e es rows first has d =
    elim (bytes_eq e.0 d) as (λ b. bytes_eq e.0 d ≡ b → rows_of es d ≡ filter (is_of d) (rest_of e.0 rows)) [
      | true ↦ λ s.
          subst (λ k. rows_of es k ≡ filter (is_of k) (rest_of e.0 rows)) ((bytes_eq-Decides e.0 d).0 s)
          (ap (λ o. unwrap_or o []) (lookup_none key_cmp e.0 es first) ∙ sym (none_left e.0 rows))
      | false ↦ λ s. sym (passed_by d e.0 e.1 es s) ∙ has d ∙ sym (all_left e.0 d rows s)
    ] refl

no_rows : (rows : List Row) → ((d : List ℕ) → [] ≡ filter (is_of d) rows) → rows ≡ []
no_rows [] has = refl
no_rows (x ∷ rows) has =
    absurd (let own : [] ≡ x ∷ filter (is_of x.collection) rows = has x.collection ∙ ap (λ b. cond b (x ∷ filter (is_of x.collection) rows) (filter (is_of x.collection) rows)) (same_name x.collection) in cc)

-- what the other collections have together is what the other rows are
pub sum_is : (p : Row → Bool) (c : List ℕ) (es : List (List ℕ × List Row)) (rows : List Row) → IsRising key_cmp es → ((d : List ℕ) → rows_of es d ≡ filter (is_of d) rows)
    → passing_beside p c es ≡ length (filter (λ r. not (bytes_eq r.collection c) && p r) rows)
sum_is p c [] rows up has = ap (λ xs. length (filter (λ r. not (bytes_eq r.collection c) && p r) xs)) (sym (no_rows rows has))
sum_is p c (e ∷ es) rows up has =
    let later = sum_is p c es (rest_of e.0 rows) up.1 (others_have e es rows up.0 has) in
    let own : e.1 ≡ filter (is_of e.0) rows = sym (found_here e.0 e.1 es) ∙ has e.0 in
    let first = ap (λ xs. cond (bytes_eq e.0 c) 0 (length (filter p xs))) own ∙ sym (group p c e.0 rows) in
    let all = split (λ r. not (bytes_eq r.collection c) && p r) e.0 rows in
    omega arith

pub sum_few : (p : Row → Bool) (c : List ℕ) (es : List (List ℕ × List Row)) (rows : List Row) → IsRising key_cmp es → ((d : List ℕ) → rows_of es d ≡ filter (is_of d) rows)
    → length rows < 2 ^ 32 → passing_beside p c es < 2 ^ 32
sum_few p c es rows up has few =
    let is = sum_is p c es rows up has in
    let most = no_longer (λ r. not (bytes_eq r.collection c) && p r) rows in
    omega arith
