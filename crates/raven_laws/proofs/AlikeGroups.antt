-- All indexes with groups that cover what a query asks have the same rows for it.
use Rattle.std.proofs.Common.{◌≡◌, ℕ, pos, List, [], ◌∷◌, ◌++◌, Bool, true, false, cond, filter, map, unwrap_or, option_map, Some, IsTrue, ◌==◌, refl, sym, ap, ◌∙◌, subst, ◌⊎◌, inl, inr, ◌↔◌}
use Rattle.std.proofs.lemmas.Slice.Eq.{bytes_eq-Decides}
use Rattle.std.specs.List.{filter_map, zip}
use Rattle.std.specs.Ordering.{is_eq}
use Rattle.std.specs.Str.{bytes_eq}
use Rattle.spec_data.specs.Data.{Data, null, object, entries_of}
use Rattle.spec_data.specs.Members.{Path}
use Rattle.spec_data.specs.Rising.{Pairs, put}
use Rattle.spec_data.specs.Rows.{Body, Row}
use Rattle.spec_data.specs.Scalars.{Scalar, number}
use Rattle.index_tree.specs.Definitions.{AutoReduce}
use Rattle.index_tree.specs.Mapper.{count_name, field_of, fields_at, joined, mapper_of, scope_of, sum_name, sums_at}
use Rattle.index_tree.specs.Meaning.{Entry, Fields, field_named}
use Rattle.index_tree.specs.declared.reduce_query.FoldKind.TheVariants as kind
use Rattle.index_tree.specs.declared.reduce_query.FoldMember.{FoldMember}
use Rattle.spec_query.specs.Binding.{columns_of, plain_column, selected_column}
use Rattle.spec_query.specs.Condition.{meets}
use Rattle.spec_query.specs.Fields.{asked_fields, cond_fields, selected_fields}
use Rattle.spec_query.specs.Parameters.{bound_where}
use Rattle.spec_query.specs.Plan.{Selected}
use Rattle.spec_query.specs.Query.{Ask, At, Column, Count, Field, Sort, Sum}
use Rattle.spec_query.specs.Results.{field_name, in_row, members_of, row_data, scalar_data, selected}
use Rattle.spec_index.specs.Folds.{as_one}
use Rattle.spec_index.specs.Index.{documents}
use Rattle.spec_index.specs.Mapping.{mapped_documents}
use Rattle.spec_index.specs.Optimiser.{Shape}
use Rattle.spec_index.specs.Reduces.{auto_reduce, key_member, sum_member}
use Rattle.spec_index.specs.Rows.{Key, column, group, key_of, key_order, row_of, row_with, value_at}
use Rattle.spec_index.specs.World.{World}
use Rattle.spec_server.specs.Shapes.{shape_asked}
use Rattle.spec_server.specs.Sound.{Has}
use Rattle.raven_laws.specs.Asked.{AreTold, SuitsGroups}
use Rattle.raven_laws.specs.Queries.{IsRowOfKey}
use Rattle.raven_laws.proofs.AlikeLemmas.{field-put, where-alike}
use Rattle.raven_laws.proofs.AskLemmas.{asked-shape}
use Rattle.raven_laws.proofs.CoverLemmas.{covers-told}
use Rattle.raven_laws.proofs.SlotLemmas.{Has-append, Has-left, Has-map, Has-mapped, Has-right}

-- FIELDS THAT GO IN AT THEIR NAMES

abbrev pub Named : Type 0
Named = List ℕ × Scalar

abbrev pub puts : Fields → List Named → Fields
puts found [] = found
puts found (e ∷ more) = puts (put e.0 e.1 found) more

puts-append : (found : Fields) (xs ys : List Named) → puts found (xs ++ ys) ≡ puts (puts found xs) ys
puts-append found [] ys = refl
puts-append found (e ∷ xs) ys = puts-append (put e.0 e.1 found) xs ys

-- the value that each field of this name has
pub puts-named : (n : List ℕ) (x : Scalar) (xs : List Named) (found : Fields) → ((e : Named) → Has xs e → e.0 ≡ n → e.1 ≡ x) → Has xs (n, x) ⊎ (field_named n found ≡ Some x)
    → field_named n (puts found xs) ≡ Some x
puts-named n x [] found one (inl at) = absurd at
puts-named n x [] found one (inr e) = e
puts-named n x (e ∷ more) found one h = puts-named n x more (put e.0 e.1 found) (λ y at. one y (inr at)) (next h)
  where
    put_here : field_named n (put e.0 e.1 found) ≡ cond (bytes_eq n e.0) (Some e.1) (field_named n found)
    put_here = field-put n e.0 e.1 found

    next : Has (e ∷ more) (n, x) ⊎ (field_named n found ≡ Some x) → Has more (n, x) ⊎ (field_named n (put e.0 e.1 found) ≡ Some x)
    next g = elim (bytes_eq n e.0) as (λ b. bytes_eq n e.0 ≡ b → Has more (n, x) ⊎ (field_named n (put e.0 e.1 found) ≡ Some x)) [
      | true ↦ λ t. inr (put_here ∙ ap (λ b. cond b (Some e.1) (field_named n found)) t ∙ ap Some (one e (inl refl) (sym ((bytes_eq-Decides n e.0).0 t))))
      | false ↦ λ t. elim g as (λ _. Has more (n, x) ⊎ (field_named n (put e.0 e.1 found) ≡ Some x)) [
        | inl (inl same) ↦ absurd (let f = (bytes_eq-Decides n e.0).1 (ap (λ (y : Named). y.0) (sym same)) in cc)
        | inl (inr at) ↦ inl at
        | inr is ↦ inr (put_here ∙ ap (λ b. cond b (Some e.1) (field_named n found)) t ∙ is)
      ]
    ] refl

-- GROUPS, A COUNT, SUMS: an entry and a row have the same names

abbrev group_pairs : List Path → (Path → Scalar) → List Named
group_pairs groups v = map (λ g. (let y : Named = (joined g, v g) in y)) groups

abbrev sum_pairs : List Path → (Path → Scalar) → List Named
sum_pairs sums w = map (λ p. (let y : Named = (sum_name p, w p) in y)) sums

abbrev all_pairs : List Path → List Path → (Path → Scalar) → Scalar → (Path → Scalar) → List Named
all_pairs groups sums v c w = group_pairs groups v ++ (count_name, c) ∷ sum_pairs sums w

abbrev begins_as_sum : List ℕ → Bool
begins_as_sum [] = false
begins_as_sum (b ∷ bs) = b == 115

sum-no-count : (p : Path) → sum_name p ≡ count_name → ⊥
sum-no-count p h = let e : true ≡ false = ap begins_as_sum h in cc

module _ (groups sums : List Path) (v : Path → Scalar) (c : Scalar) (w : Path → Scalar) (told : AreTold groups sums) where
  -- each pair is one of these
  pairs-by : (P : Named → Type 0) → ((g : Path) → Has groups g → P (joined g, v g)) → P (count_name, c) → ((p : Path) → Has sums p → P (sum_name p, w p))
      → (e : Named) → Has (all_pairs groups sums v c w) e → P e
  pairs-by P f x h e at = elim (Has-append (group_pairs groups v) ((count_name, c) ∷ sum_pairs sums w) e at) as (λ _. P e) [
    | inl one ↦ let g = Has-map (λ (y : Path). (let z : Named = (joined y, v y) in z)) groups e one in subst P g.2 (f g.0 g.1)
    | inr (inl same) ↦ subst P same x
    | inr (inr one) ↦ let p = Has-map (λ (y : Path). (let z : Named = (sum_name y, w y) in z)) sums e one in subst P p.2 (h p.0 p.1)
  ]

  group-named : (g : Path) → Has groups g → field_named (joined g) (puts [] (all_pairs groups sums v c w)) ≡ Some (v g)
  group-named g at = puts-named (joined g) (v g) (all_pairs groups sums v c w) []
      (pairs-by (λ (e : Named). e.0 ≡ joined g → e.1 ≡ v g) (λ q there e. ap v (told.groups_told q g there at e)) (λ e. absurd (told.no_count g at (sym e)))
      (λ p there e. absurd (told.no_sum g p at there (sym e))))
      (inl (Has-left (group_pairs groups v) ((count_name, c) ∷ sum_pairs sums w) (joined g, v g) (Has-mapped (λ (y : Path). (let z : Named = (joined y, v y) in z)) groups g at)))

  count-named : field_named count_name (puts [] (all_pairs groups sums v c w)) ≡ Some c
  count-named = puts-named count_name c (all_pairs groups sums v c w) []
      (pairs-by (λ (e : Named). e.0 ≡ count_name → e.1 ≡ c) (λ q there e. absurd (told.no_count q there e)) (λ e. refl) (λ p there e. absurd (sum-no-count p e)))
      (inl (Has-right (group_pairs groups v) ((count_name, c) ∷ sum_pairs sums w) (count_name, c) (inl refl)))

  sum-named : (p : Path) → Has sums p → field_named (sum_name p) (puts [] (all_pairs groups sums v c w)) ≡ Some (w p)
  sum-named p at = puts-named (sum_name p) (w p) (all_pairs groups sums v c w) []
      (pairs-by (λ (e : Named). e.0 ≡ sum_name p → e.1 ≡ w p) (λ q there e. absurd (told.no_sum q p there at e)) (λ e. absurd (sum-no-count p (sym e)))
      (λ q there e. ap w (told.sums_told q p there at e)))
      (inl (Has-right (group_pairs groups v) ((count_name, c) ∷ sum_pairs sums w) (sum_name p, w p) (inr (Has-mapped (λ (y : Path). (let z : Named = (sum_name y, w y) in z)) sums p at))))

-- ENTRIES

abbrev one : Scalar
one = number (pos 1)

abbrev entry_at : List Path → List Path → Body → Fields
entry_at groups sums body = sums_at body (put count_name one (fields_at body [] groups)) sums

fields-puts : (body : Body) (found : Fields) (ps : List Path) → fields_at body found ps ≡ puts found (group_pairs ps (field_of body))
fields-puts body found [] = refl
fields-puts body found (p ∷ more) = fields-puts body (put (joined p) (field_of body p) found) more

sums-puts : (body : Body) (found : Fields) (ps : List Path) → sums_at body found ps ≡ puts found (sum_pairs ps (field_of body))
sums-puts body found [] = refl
sums-puts body found (p ∷ more) = sums-puts body (put (sum_name p) (field_of body p) found) more

entry-puts : (groups sums : List Path) (body : Body) → entry_at groups sums body ≡ puts [] (all_pairs groups sums (field_of body) one (field_of body))
entry-puts groups sums body =
    sums-puts body (put count_name one (fields_at body [] groups)) sums
    ∙ ap (λ fs. puts (put count_name one fs) (sum_pairs sums (field_of body))) (fields-puts body [] groups)
    ∙ sym (puts-append [] (group_pairs groups (field_of body)) ((count_name, one) ∷ sum_pairs sums (field_of body)))

-- ROWS

row-groups : (names : List (List ℕ)) (key : Key) (es : List Fields) (row : Fields) (gs : List Path) (rest : List FoldMember)
    → row_with names key es row (map key_member gs ++ rest) ≡ row_with names key es (puts row (group_pairs gs (λ g. value_at (joined g) (zip names key)))) rest
row-groups names key es row [] rest = refl
row-groups names key es row (g ∷ gs) rest = row-groups names key es (put (joined g) (value_at (joined g) (zip names key)) row) gs rest

row-sums : (names : List (List ℕ)) (key : Key) (es : List Fields) (row : Fields) (ps : List Path)
    → row_with names key es row (map (λ path. sum_member (sum_name path)) ps) ≡ puts row (sum_pairs ps (λ p. as_one kind.Sum (column (sum_name p) es)))
row-sums names key es row [] = refl
row-sums names key es row (p ∷ ps) = row-sums names key es (put (sum_name p) (as_one kind.Sum (column (sum_name p) es)) row) ps

abbrev group_in : List Path → List Path → List Fields → Key → List Fields
group_in groups sums es key = group (map joined groups) key es

row-puts : (groups sums : List Path) (es : List Fields) (key : Key) → row_of (auto_reduce groups sums) es key
    ≡ puts [] (all_pairs groups sums (λ g. value_at (joined g) (zip (map joined groups) key)) (as_one kind.Sum (column count_name (group_in groups sums es key)))
    (λ p. as_one kind.Sum (column (sum_name p) (group_in groups sums es key))))
row-puts groups sums es key =
    let names = map joined groups in
    let of_key = group_in groups sums es key in
    let v = λ (g : Path). value_at (joined g) (zip names key) in
    let w = λ (p : Path). as_one kind.Sum (column (sum_name p) of_key) in
    let c = as_one kind.Sum (column count_name of_key) in
    row-groups names key of_key [] groups (sum_member count_name ∷ map (λ path. sum_member (sum_name path)) sums)
    ∙ row-sums names key of_key (put count_name c (puts [] (group_pairs groups v))) sums
    ∙ sym (puts-append [] (group_pairs groups v) ((count_name, c) ∷ sum_pairs sums w))

-- TWO INDEXES

-- the field is a group, the count, or a sum that both have
abbrev IsCommon : List Path → List Path → List Path → Field → Type 0
IsCommon groups ps qs (At p) = Has groups p
IsCommon groups ps qs Count = Unit {0}
IsCommon groups ps qs (Sum p) = Has ps p × Has qs p

-- the entries that the map gives for these documents
abbrev given : List Path → List Path → List Row → List Fields
given groups sums rows = map (λ r. entry_at groups sums r.body) rows

given-is : (groups sums : List Path) (rows : List Row)
    → map (λ e. e.1) (filter_map (λ r. (let y = Some (let z : List ℕ × Fields = (r.id, entry_at groups sums r.body) in z) in y)) rows) ≡ given groups sums rows
given-is groups sums [] = refl
given-is groups sums (r ∷ rows) = ap (λ es. entry_at groups sums r.body ∷ es) (given-is groups sums rows)

-- the documents of a group
abbrev rows_with_key : List Path → List Path → Key → List Row → List Row
rows_with_key groups sums key rows = filter (λ r. is_eq (key_order key (key_of (map joined groups) (entry_at groups sums r.body)))) rows

group-given : (groups sums : List Path) (key : Key) (rows : List Row) → group_in groups sums (given groups sums rows) key ≡ given groups sums (rows_with_key groups sums key rows)
group-given groups sums key [] = refl
group-given groups sums key (r ∷ rows) =
    elim (is_eq (key_order key (key_of (map joined groups) (entry_at groups sums r.body)))) as (λ b.
    cond b (entry_at groups sums r.body ∷ group_in groups sums (given groups sums rows) key) (group_in groups sums (given groups sums rows) key)
    ≡ given groups sums (cond b (r ∷ rows_with_key groups sums key rows) (rows_with_key groups sums key rows))) [
      | true ↦ ap (λ es. entry_at groups sums r.body ∷ es) (group-given groups sums key rows)
      | false ↦ group-given groups sums key rows
    ]

module _ (groups ps qs : List Path) (s : AreTold groups ps) (t : AreTold groups qs) where
  entry-alike : (body : Body) (f : Field) → IsCommon groups ps qs f → field_named (field_name f) (entry_at groups ps body) ≡ field_named (field_name f) (entry_at groups qs body)
  entry-alike body f common = ap (field_named (field_name f)) (entry-puts groups ps body) ∙ by f common ∙ sym (ap (field_named (field_name f)) (entry-puts groups qs body))
    where
      v : Path → Scalar
      v p = field_of body p

      by : (f : Field) → IsCommon groups ps qs f → field_named (field_name f) (puts [] (all_pairs groups ps v one v)) ≡ field_named (field_name f) (puts [] (all_pairs groups qs v one v))
      by (At p) at = group-named groups ps v one v s p at ∙ sym (group-named groups qs v one v t p at)
      by Count at = count-named groups ps v one v s ∙ sym (count-named groups qs v one v t)
      by (Sum p) at = sum-named groups ps v one v s p at.0 ∙ sym (sum-named groups qs v one v t p at.1)

  value-alike : (body : Body) (f : Field) → IsCommon groups ps qs f → value_at (field_name f) (entry_at groups ps body) ≡ value_at (field_name f) (entry_at groups qs body)
  value-alike body f common = ap (λ o. unwrap_or o Scalar.nothing) (entry-alike body f common)

  keys-alike : (body : Body) → key_of (map joined groups) (entry_at groups ps body) ≡ key_of (map joined groups) (entry_at groups qs body)
  keys-alike body = along groups (λ g at. at)
    where
      along : (gs : List Path) → ((g : Path) → Has gs g → Has groups g) → key_of (map joined gs) (entry_at groups ps body) ≡ key_of (map joined gs) (entry_at groups qs body)
      along [] f = refl
      along (g ∷ gs) f = λ i. value-alike body (At g) (f g (inl refl)) i ∷ along gs (λ x at. f x (inr at)) i

  columns-alike : (f : Field) → IsCommon groups ps qs f → (rows : List Row) → column (field_name f) (given groups ps rows) ≡ column (field_name f) (given groups qs rows)
  columns-alike f common [] = refl
  columns-alike f common (r ∷ rows) = λ i. value-alike r.body f common i ∷ columns-alike f common rows i

  grouped-alike : (f : Field) → IsCommon groups ps qs f → (rows : List Row) (key : Key)
      → column (field_name f) (group_in groups ps (given groups ps rows) key) ≡ column (field_name f) (group_in groups qs (given groups qs rows) key)
  grouped-alike f common rows key =
      ap (column (field_name f)) (group-given groups ps key rows)
      ∙ columns-alike f common (rows_with_key groups ps key rows)
      ∙ (λ i. column (field_name f) (given groups qs (filter (λ r. is_eq (key_order key (keys-alike r.body i))) rows)))
      ∙ sym (ap (column (field_name f)) (group-given groups qs key rows))

  rows-alike : (rows : List Row) (key : Key) (f : Field) → IsCommon groups ps qs f
      → field_named (field_name f) (row_of (auto_reduce groups ps) (given groups ps rows) key) ≡ field_named (field_name f) (row_of (auto_reduce groups qs) (given groups qs rows) key)
  rows-alike rows key f common =
      ap (field_named (field_name f)) (row-puts groups ps (given groups ps rows) key) ∙ by f common ∙ sym (ap (field_named (field_name f)) (row-puts groups qs (given groups qs rows) key))
    where
      v : Path → Scalar
      v g = value_at (joined g) (zip (map joined groups) key)

      wp : Path → Scalar
      wp p = as_one kind.Sum (column (sum_name p) (group_in groups ps (given groups ps rows) key))

      wq : Path → Scalar
      wq p = as_one kind.Sum (column (sum_name p) (group_in groups qs (given groups qs rows) key))

      cp : Scalar
      cp = as_one kind.Sum (column count_name (group_in groups ps (given groups ps rows) key))

      cq : Scalar
      cq = as_one kind.Sum (column count_name (group_in groups qs (given groups qs rows) key))

      by : (f : Field) → IsCommon groups ps qs f → field_named (field_name f) (puts [] (all_pairs groups ps v cp wp)) ≡ field_named (field_name f) (puts [] (all_pairs groups qs v cq wq))
      by (At p) at = group-named groups ps v cp wp s p at ∙ sym (group-named groups qs v cq wq t p at)
      by Count at = count-named groups ps v cp wp s ∙ ap (λ vs. Some (as_one kind.Sum vs)) (grouped-alike Count tt rows key) ∙ sym (count-named groups qs v cq wq t)
      by (Sum p) at = sum-named groups ps v cp wp s p at.0 ∙ ap (λ vs. Some (as_one kind.Sum vs)) (grouped-alike (Sum p) at rows key) ∙ sym (sum-named groups qs v cq wq t p at.1)

-- WHAT IS SHOWN

members-alike : (a b : Field → Data) (columns : List Selected) (found : Pairs) → ((c : Selected) → Has columns c → a c.field ≡ b c.field) → members_of a columns found ≡ members_of b columns found
members-alike a b [] found h = refl
members-alike a b (c ∷ columns) found h =
    ap (λ d. members_of a columns (put c.name d found)) (h c (inl refl)) ∙ members-alike a b columns (put c.name (b c.field) found) (λ x at. h x (inr at))

selected-alike : (F G : Fields) (columns : List Selected) → (columns ≡ [] → ⊥) → ((c : Selected) → Has columns c → field_named (field_name c.field) F ≡ field_named (field_name c.field) G)
    → selected (row_data F) (in_row F) columns ≡ selected (row_data G) (in_row G) columns
selected-alike F G [] some h = absurd (some refl)
selected-alike F G (c ∷ columns) some h =
    ap (λ ms. object (entries_of ms)) (members-alike (in_row F) (in_row G) (c ∷ columns) [] (λ x at. ap (λ o. unwrap_or (option_map scalar_data o) null) (h x at)))

-- WHAT A QUERY NAMES

abbrev own_shape : List ℕ → List Path → List Path → Shape
own_shape collection groups sums = record { collection = collection; grouped = true; groups = groups; fields = sums }

-- an index that suits has the groups of the query
suits-group : (collection : List ℕ) (ask : Ask) (groups sums : List Path) → SuitsGroups collection ask groups sums → (p : Path) → Has ask.query.groups p → Has groups p
suits-group collection ask groups sums s p at =
    let covered = (covers-told (own_shape collection groups sums) (shape_asked collection ask.query)).0 s.covers_it in
    elim (asked-shape collection ask.query) [
      | inl plain ↦ absurd (s.grouped plain.0)
      | inr grouped ↦ subst (λ gs. Has gs p) (sym covered.groups) ((grouped.1.groups p).1 at)
    ]

suits-sum : (collection : List ℕ) (ask : Ask) (groups sums : List Path) → SuitsGroups collection ask groups sums → (p : Path) → Has (asked_fields ask.query ++ selected_fields ask.query) (Sum p)
    → Has sums p
suits-sum collection ask groups sums s p at =
    let covered = (covers-told (own_shape collection groups sums) (shape_asked collection ask.query)).0 s.covers_it in
    elim (asked-shape collection ask.query) [
      | inl plain ↦ absurd (s.grouped plain.0)
      | inr grouped ↦ covered.fields p ((grouped.1.sums p).1 at)
    ]

suits-common : (collection : List ℕ) (ask : Ask) (groups ps qs : List Path) → SuitsGroups collection ask groups ps → SuitsGroups collection ask groups qs
    → (f : Field) → Has (asked_fields ask.query ++ selected_fields ask.query) f → IsCommon groups ps qs f
suits-common collection ask groups ps qs s t (At p) at = suits-group collection ask groups ps s p (s.paths p at)
suits-common collection ask groups ps qs s t Count at = tt
suits-common collection ask groups ps qs s t (Sum p) at = (suits-sum collection ask groups ps s p at, suits-sum collection ask groups qs t p at)

-- each column has such a field
columns-common : (collection : List ℕ) (ask : Ask) (groups ps qs : List Path) → SuitsGroups collection ask groups ps → SuitsGroups collection ask groups qs
    → (c : Selected) → Has (columns_of ask.query.groups ask.query.columns) c → IsCommon groups ps qs c.field
columns-common collection ask groups ps qs s t c at = by ask.query.groups ask.query.columns refl refl at
  where
    chosen : (columns : List Column) → ask.query.columns ≡ columns → Has (map selected_column columns) c → IsCommon groups ps qs c.field
    chosen columns e h =
        let x = Has-map selected_column columns c h in
        let there : Has (selected_fields ask.query) x.0.field = Has-mapped (λ (y : Column). y.field) ask.query.columns x.0 (subst (λ l. Has l x.0) (sym e) x.1) in
        subst (λ (y : Selected). IsCommon groups ps qs y.field) x.2
        (suits-common collection ask groups ps qs s t x.0.field (Has-right (asked_fields ask.query) (selected_fields ask.query) x.0.field there))

    plain : (gs : List Path) → ask.query.groups ≡ gs → Has (map (λ path. plain_column (At path)) gs ++ plain_column Count ∷ []) c → IsCommon groups ps qs c.field
    plain gs e h = elim (Has-append (map (λ path. plain_column (At path)) gs) (plain_column Count ∷ []) c h) as (λ _. IsCommon groups ps qs c.field) [
      | inl among ↦
          let x = Has-map (λ path. plain_column (At path)) gs c among in
          subst (λ (y : Selected). IsCommon groups ps qs y.field) x.2 (suits-group collection ask groups ps s x.0 (subst (λ l. Has l x.0) (sym e) x.1))
      | inr (inl same) ↦ subst (λ (y : Selected). IsCommon groups ps qs y.field) same tt
      | inr (inr no_more) ↦ absurd no_more
    ]

    by : (gs : List Path) (columns : List Column) → ask.query.groups ≡ gs → ask.query.columns ≡ columns → Has (columns_of gs columns) c → IsCommon groups ps qs c.field
    by [] columns e f h = chosen columns f h
    by (g ∷ gs) [] e f h = plain (g ∷ gs) e h
    by (g ∷ gs) (x ∷ columns) e f h = chosen (x ∷ columns) f h

some-columns : (gs : List Path) (columns : List Column) → (gs ≡ [] → ⊥) → columns_of gs columns ≡ [] → ⊥
some-columns [] columns some e = some refl
some-columns (g ∷ gs) [] some e = cc
some-columns (g ∷ gs) (x ∷ columns) some e = cc

-- THE ROWS OF A QUERY

same_fields : (F G : Fields) → Entry F ≡ Entry G → F ≡ G
same_fields F G h = cc

row-by : (W : World) (collection : List ℕ) (ask : Ask) (groups ps qs : List Path) (d : Data) → SuitsGroups collection ask groups ps → SuitsGroups collection ask groups qs
    → IsRowOfKey W (AutoReduce collection groups ps) (auto_reduce groups ps) ask d → IsRowOfKey W (AutoReduce collection groups qs) (auto_reduce groups qs) ask d
row-by W collection ask groups ps qs d s t k =
    let names = map joined groups in
    let m = mapper_of (AutoReduce collection groups ps) in
    let rows = mapped_documents m (documents (scope_of m) W.store) in
    let e = k.given in
    let body = e.row.body in
    let a = s.told in
    let b = t.told in
    let key = key_of names (entry_at groups qs body) in
    let of_p : k.row ≡ row_of (auto_reduce groups ps) (given groups ps rows) key =
    sym k.of_key ∙ ap (λ es. row_of (auto_reduce groups ps) es (key_of names k.entry)) (given-is groups ps rows)
    ∙ ap (λ (q : Key). row_of (auto_reduce groups ps) (given groups ps rows) q) (ap (key_of names) (sym (same_fields (entry_at groups ps body) k.entry e.gives)) ∙ keys-alike groups ps qs a b body) in
    let F = row_of (auto_reduce groups ps) (given groups ps rows) key in
    let G = row_of (auto_reduce groups qs) (given groups qs rows) key in
    let alike = rows-alike groups ps qs a b rows key in
    let asked = unwrap_or (option_map cond_fields ask.query.cond) [] in
    let passing = where-alike ask.parameters ask.query.cond F G (λ f at. alike f (suits-common collection ask groups ps qs s t f
    (Has-left (asked_fields ask.query) (selected_fields ask.query) f (Has-left asked (map (λ (x : Sort). x.field) ask.query.sorts) f at)))) in
    let columns = columns_of ask.query.groups ask.query.columns in
    let shown = selected-alike F G columns (some-columns ask.query.groups ask.query.columns s.grouped) (λ c at. alike c.field (columns-common collection ask groups ps qs s t c at)) in
    record {
      entry = entry_at groups qs body;
      given = record { row = e.row; found = e.found; document = e.document; mapped = e.mapped; gives = refl };
      row = G;
      of_key = ap (λ es. row_of (auto_reduce groups qs) es key) (given-is groups qs rows);
      passes = subst (λ x. IsTrue x) (ap (meets (bound_where ask.parameters ask.query.cond) false) of_p ∙ passing) k.passes;
      shows = sym shown ∙ ap (λ (x : Fields). selected (row_data x) (in_row x) columns) (sym of_p) ∙ k.shows;
    }

pub rows-of-all : (W : World) (collection : List ℕ) (ask : Ask) (groups ps qs : List Path) (d : Data) → SuitsGroups collection ask groups ps → SuitsGroups collection ask groups qs
    → IsRowOfKey W (AutoReduce collection groups ps) (auto_reduce groups ps) ask d ↔ IsRowOfKey W (AutoReduce collection groups qs) (auto_reduce groups qs) ask d
rows-of-all W collection ask groups ps qs d s t = (row-by W collection ask groups ps qs d s t, row-by W collection ask groups qs ps d t s)
