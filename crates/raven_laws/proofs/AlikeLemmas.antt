-- All indexes that cover what a query asks find the same documents.
use Rattle.std.proofs.Common.{◌≡◌, ℕ, List, [], ◌∷◌, Bool, true, false, not, ◌&&◌, ◌||◌, cond, map, unwrap_or, option_map, Option, Some, None, Less, Equal, Greater, IsTrue, refl, sym, ap, ◌∙◌, subst, ◌⊎◌, inl, inr, ◌↔◌}
use Rattle.std.proofs.lemmas.Cmp.{nat_list_cmp_total}
use Rattle.std.proofs.lemmas.Map.Text.{is_eq-slice_cmp}
use Rattle.std.proofs.lemmas.Slice.Eq.{bytes_eq-Decides}
use Rattle.std.specs.FinMap.{IsAntisymmetric}
use Rattle.std.specs.Ordering.{is_eq, match_ordering, ordering_reverse}
use Rattle.std.specs.Str.{bytes_eq}
use Rattle.spec_data.specs.Data.{Data}
use Rattle.spec_data.specs.Folding.{key_cmp}
use Rattle.spec_data.specs.Members.{Path}
use Rattle.spec_data.specs.Rising.{Pairs, put}
use Rattle.spec_data.specs.Rows.{Body}
use Rattle.spec_data.specs.Scalars as scalar
use Rattle.spec_data.specs.Scalars.{Scalar, Test, words_in}
use Rattle.index_tree.specs.Definitions.{Auto}
use Rattle.index_tree.specs.Mapper.{field_of, fields_at, joined}
use Rattle.index_tree.specs.Meaning.{Entry, Fields, field_named}
use Rattle.spec_query.specs.Condition.{Condition, meets, passes}
use Rattle.spec_query.specs.Fields.{asked_fields, cond_fields}
use Rattle.spec_query.specs.Parameters.{bound, bound_where, scalar_in, scalars_in, test_of}
use Rattle.spec_query.specs.Query.{Ask, At, Cond, Field, Sort}
use Rattle.spec_query.specs.Results.{field_name}
use Rattle.spec_index.specs.World.{World}
use Rattle.spec_server.specs.Shapes.{shape_asked}
use Rattle.spec_server.specs.Sound.{Has}
use Rattle.raven_laws.specs.Asked.{Suits}
use Rattle.raven_laws.specs.Queries.{IsFound}
use Rattle.raven_laws.proofs.AskLemmas.{asked-shape}
use Rattle.raven_laws.proofs.CoverLemmas.{covers-told}
use Rattle.raven_laws.proofs.SlotLemmas.{Has-left, Has-right}

-- FIELDS OF AN ENTRY

text_equal : IsAntisymmetric key_cmp
text_equal a b h = (bytes_eq-Decides a b).0 (sym (is_eq-slice_cmp a b) ∙ ap is_eq h)

not_greater : (k : List ℕ) → key_cmp k k ≡ Greater → ⊥
not_greater k h = let e = nat_list_cmp_total.antisymm k k ∙ ap ordering_reverse h in let f = sym h ∙ e in cc

pub field-put : (name k : List ℕ) (v : Scalar) (fs : Fields) → field_named name (put k v fs) ≡ cond (bytes_eq name k) (Some v) (field_named name fs)
field-put name k v [] = refl
field-put name k v (m ∷ fs) =
    elim (key_cmp k m.0) as (λ o. key_cmp k m.0 ≡ o
    → field_named name (match_ordering o ((k, v) ∷ m ∷ fs) ((k, v) ∷ fs) (m ∷ put k v fs)) ≡ cond (bytes_eq name k) (Some v) (cond (bytes_eq name m.0) (Some m.1) (field_named name fs))) [
      | Less ↦ λ e. refl
      | Equal ↦ λ e. elim (bytes_eq name k) as (λ b. bytes_eq name k ≡ b → cond b (Some v) (field_named name fs) ≡ cond b (Some v) (cond (bytes_eq name m.0) (Some m.1) (field_named name fs))) [
        | true ↦ λ f. refl
        | false ↦ λ f. sym (ap (λ b. cond b (Some m.1) (field_named name fs)) (ap (bytes_eq name) (sym (text_equal k m.0 e)) ∙ f))
      ] refl
      | Greater ↦ λ e. ap (λ x. cond (bytes_eq name m.0) (Some m.1) x) (field-put name k v fs) ∙ (elim (bytes_eq name m.0) as (λ b. bytes_eq name m.0 ≡ b
          → cond b (Some m.1) (cond (bytes_eq name k) (Some v) (field_named name fs)) ≡ cond (bytes_eq name k) (Some v) (cond b (Some m.1) (field_named name fs))) [
            | false ↦ λ f. refl
            | true ↦ λ f. elim (bytes_eq name k) as (λ b. bytes_eq name k ≡ b → Some m.1 ≡ cond b (Some v) (Some m.1)) [
              | false ↦ λ g. refl
              | true ↦ λ g.
                  let same : k ≡ m.0 = sym ((bytes_eq-Decides name k).0 g) ∙ (bytes_eq-Decides name m.0).0 f in
                  absurd (not_greater m.0 (ap (λ x. key_cmp x m.0) (sym same) ∙ e))
            ] refl
          ] refl)
    ] refl

-- an entry has the value at a path that the index has, if no other path of it has the same joined form
named-at : (body : Body) (q : Path) (fs : List Path) (found : Fields) → ((p : Path) → Has fs p → joined p ≡ joined q → p ≡ q) → Has fs q ⊎ (field_named (joined q) found ≡ Some (field_of body q))
    → field_named (joined q) (fields_at body found fs) ≡ Some (field_of body q)
named-at body q [] found told (inl at) = absurd at
named-at body q [] found told (inr e) = e
named-at body q (p ∷ more) found told h =
    named-at body q more (put (joined p) (field_of body p) found) (λ x at. told x (inr at)) (next h)
  where
    put_here : field_named (joined q) (put (joined p) (field_of body p) found) ≡ cond (bytes_eq (joined q) (joined p)) (Some (field_of body p)) (field_named (joined q) found)
    put_here = field-put (joined q) (joined p) (field_of body p) found

    next : Has (p ∷ more) q ⊎ (field_named (joined q) found ≡ Some (field_of body q)) → Has more q ⊎ (field_named (joined q) (put (joined p) (field_of body p) found) ≡ Some (field_of body q))
    next g = elim (bytes_eq (joined q) (joined p)) as (λ b. bytes_eq (joined q) (joined p) ≡ b → Has more q ⊎ (field_named (joined q) (put (joined p) (field_of body p) found) ≡ Some (field_of body q))) [
      | true ↦ λ e.
          let same : p ≡ q = told p (inl refl) (sym ((bytes_eq-Decides (joined q) (joined p)).0 e)) in
          inr (put_here ∙ ap (λ b. cond b (Some (field_of body p)) (field_named (joined q) found)) e ∙ ap (λ x. Some (field_of body x)) same)
      | false ↦ λ e. elim g as (λ _. Has more q ⊎ (field_named (joined q) (put (joined p) (field_of body p) found) ≡ Some (field_of body q))) [
        | inl (inl same) ↦ absurd (let f = (bytes_eq-Decides (joined q) (joined p)).1 (ap joined (sym same)) in cc)
        | inl (inr at) ↦ inl at
        | inr is ↦ inr (put_here ∙ ap (λ b. cond b (Some (field_of body p)) (field_named (joined q) found)) e ∙ is)
      ]
    ] refl

-- CONDITIONS

has-alike : (name : List ℕ) (test : Test) (exact : Bool) (F G : Fields) → field_named name F ≡ field_named name G → meets (Condition.Has name test) exact F ≡ meets (Condition.Has name test) exact G
has-alike name test exact F G e = ap (passes test exact) e

-- a condition reads nothing of an entry but its own fields
meets-alike : (ps : Pairs) (c : Cond) (exact : Bool) (F G : Fields) → ((f : Field) → Has (cond_fields c) f → field_named (field_name f) F ≡ field_named (field_name f) G)
    → meets (bound ps c) exact F ≡ meets (bound ps c) exact G
meets-alike ps (Cond.Or a b) exact F G h =
    let x = meets-alike ps a exact F G (λ f at. h f (Has-left (cond_fields a) (cond_fields b) f at)) in
    let y = meets-alike ps b exact F G (λ f at. h f (Has-right (cond_fields a) (cond_fields b) f at)) in
    λ i. x i || y i
meets-alike ps (Cond.And a b) exact F G h =
    let x = meets-alike ps a exact F G (λ f at. h f (Has-left (cond_fields a) (cond_fields b) f at)) in
    let y = meets-alike ps b exact F G (λ f at. h f (Has-right (cond_fields a) (cond_fields b) f at)) in
    λ i. x i && y i
meets-alike ps (Cond.Not a) exact F G h = ap not (meets-alike ps a exact F G h)
meets-alike ps (Cond.Exact a) exact F G h = meets-alike ps a true F G h
meets-alike ps Cond.True exact F G h = refl
meets-alike ps (Cond.Starts f v) exact F G h = has-alike (field_name f) (scalar.Starts (words_in (scalar_in ps v))) exact F G (h f (inl refl))
meets-alike ps (Cond.Exists f) exact F G h = has-alike (field_name f) scalar.There exact F G (h f (inl refl))
meets-alike ps (Cond.Compare f op v) exact F G h = has-alike (field_name f) (test_of op (scalar_in ps v)) exact F G (h f (inl refl))
meets-alike ps (Cond.Between f v w) exact F G h = has-alike (field_name f) (scalar.Between (scalar_in ps v) (scalar_in ps w)) exact F G (h f (inl refl))
meets-alike ps (Cond.In f vs) exact F G h = has-alike (field_name f) (scalar.In (scalars_in ps vs)) exact F G (h f (inl refl))

pub where-alike : (ps : Pairs) (o : Option Cond) (F G : Fields) → ((f : Field) → Has (unwrap_or (option_map cond_fields o) []) f → field_named (field_name f) F ≡ field_named (field_name f) G)
    → meets (bound_where ps o) false F ≡ meets (bound_where ps o) false G
where-alike ps None F G h = refl
where-alike ps (Some c) F G h = meets-alike ps c false F G h

-- WHAT IS FOUND

-- an index that suits has what the query asks for
suits-named : (collection : List ℕ) (ask : Ask) (fields : List Path) → Suits collection ask fields → (body : Body) (p : Path) → Has (asked_fields ask.query) (At p)
    → field_named (joined p) (fields_at body [] fields) ≡ Some (field_of body p)
suits-named collection ask fields s body p at =
    let has : Has fields p = elim (asked-shape collection ask.query) [
      | inl plain ↦ ((covers-told (record { collection = collection; grouped = false; groups = []; fields = fields }) (shape_asked collection ask.query)).0 s.covers_it).fields p ((plain.1.fields p).1 at)
      | inr grouped ↦ absurd (grouped.0 s.plain)
    ] in
    named-at body p fields [] (λ q h e. s.told q p h has e) (inl has)

suits-alike : (collection : List ℕ) (ask : Ask) (ps qs : List Path) → Suits collection ask ps → Suits collection ask qs → (body : Body) (f : Field) → Has (asked_fields ask.query) f
    → field_named (field_name f) (fields_at body [] ps) ≡ field_named (field_name f) (fields_at body [] qs)
suits-alike collection ask ps qs s t body f at =
    let path = s.paths f at in
    let there : Has (asked_fields ask.query) (At path.0) = subst (Has (asked_fields ask.query)) path.1 at in
    subst (λ x. field_named (field_name x) (fields_at body [] ps) ≡ field_named (field_name x) (fields_at body [] qs)) (sym path.1)
    (suits-named collection ask ps s body path.0 there ∙ sym (suits-named collection ask qs t body path.0 there))

same_fields : (F G : Fields) → Entry F ≡ Entry G → F ≡ G
same_fields F G h = cc

found-by : (W : World) (collection : List ℕ) (ask : Ask) (ps qs : List Path) (d : Data) → Suits collection ask ps → Suits collection ask qs → IsFound W (Auto collection ps) ask d → IsFound W (Auto collection qs) ask d
found-by W collection ask ps qs d s t f =
    let body = f.row.body in
    let first = unwrap_or (option_map cond_fields ask.query.cond) [] in
    let same = where-alike ask.parameters ask.query.cond (fields_at body [] ps) (fields_at body [] qs)
    (λ x at. suits-alike collection ask ps qs s t body x (Has-left first (map (λ (k : Sort). k.field) ask.query.sorts) x at)) in
    let is : meets (bound_where ask.parameters ask.query.cond) false f.fields ≡ meets (bound_where ask.parameters ask.query.cond) false (fields_at body [] qs) =
    ap (meets (bound_where ask.parameters ask.query.cond) false) (sym (same_fields (fields_at body [] ps) f.fields f.gives)) ∙ same in
    record {
      row = f.row;
      document = f.document;
      mapped = f.mapped;
      fields = fields_at body [] qs;
      gives = refl;
      passes = subst (λ b. IsTrue b) is f.passes;
    }

pub found-alike : (W : World) (collection : List ℕ) (ask : Ask) (ps qs : List Path) (d : Data) → Suits collection ask ps → Suits collection ask qs → IsFound W (Auto collection ps) ask d ↔ IsFound W (Auto collection qs) ask d
found-alike W collection ask ps qs d s t = (found-by W collection ask ps qs d s t, found-by W collection ask qs ps d t s)
