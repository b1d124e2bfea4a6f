-- The terms of an index are of what its map gives, and a batch changes those of few ids.
use Rattle.std.proofs.Common.{◌≡◌, ℕ, zero, suc, ◌||◌, List, [], ◌∷◌, drop, Bool, true, false, cond, Option, Some, None, is_some, option_map, refl, sym, ap, ◌∙◌, subst}
use Rattle.std.specs.FinMap.{FinMap, empty, get, get-empty, get-insert, get-remove}
use Rattle.spec_data.specs.Folding.{folded, key_cmp, same_key}
use Rattle.spec_data.specs.Scalars.{Scalar}
use Rattle.index_tree.specs.Meaning.{Fields}
use Rattle.index_definition.specs.DefinitionView.{definition_view}
use Rattle.index_definition.specs.Reading.{fields}
use Rattle.index_definition.specs.declared.definition.DefBody.{DefBody}
use Rattle.index_tree.specs.declared.reduce_query.ReduceQuery.{ReduceQuery}
use Rattle.index_groups.specs.Groups.{Grouped}
use Rattle.spec_store.proofs.TableLemmas.{tied}
use Rattle.spec_store.proofs.StoreLemmas.{same_itself, same_means}
use Rattle.reference_track.specs.Sets.{AreInOrder, IsBelowAll}
use Rattle.reference_track.proofs.FoldedMaps.{total}
use Rattle.term_index.specs.Columns.{Columns, HasFields, no_values, value_of, with_fields}
use Rattle.term_index.specs.Held.{Values, set_value}
use Rattle.index_version.specs.Kept.{Given}
use Rattle.index_version.specs.Reduced.{AreReduced, no_entries, reduce_of}
use Rattle.index_version.specs.Termed.{AreTermed, HaveTerms, given_fields, names_of, term_names}
use Rattle.index_version.proofs.GroupChanges.{any_of}
use Rattle.index_version.proofs.Touching.{below_none}

-- ONE ID

get-set : (q x : List ℕ) (new : Option Scalar) (m : Values) → get (set_value x new m) q ≡ cond (same_key q x) new (get m q)
get-set q x None m = get-remove total m x q ∙ ap (λ b. cond b None (get m q)) (tied q x)
get-set q x (Some v) m = get-insert total m x v q ∙ ap (λ b. cond b (Some v) (get m q)) (tied q x)

has_set : (q x : List ℕ) (F G : Fields) (cs : Columns) → HasFields q G cs → HasFields q (cond (same_key q x) F G) (with_fields x F cs)
has_set q x F G [] h = tt
has_set q x F G (c ∷ cs) h = (get-set q x (value_of c.0 F) c.1 ∙ ap (cond (same_key q x) (value_of c.0 F)) h.0 ∙ either (same_key q x), has_set q x F G cs h.1)
  where
    either : (b : Bool) → cond b (value_of c.0 F) (value_of c.0 G) ≡ value_of c.0 (cond b F G)
    either true = refl
    either false = refl

pub names_kept : (x : List ℕ) (F : Fields) (cs : Columns) → names_of (with_fields x F cs) ≡ names_of cs
names_kept x F [] = refl
names_kept x F (c ∷ cs) = ap (λ ns. c.0 ∷ ns) (names_kept x F cs)

-- ONE ID AFTER ANOTHER

-- of the ids that are left what was given before, and of all others what is given now
abbrev pub mixed : FinMap key_cmp Given → FinMap key_cmp Given → List (List ℕ) → List ℕ → Fields
mixed B A ids q = cond (any_of q ids) (given_fields (get B q)) (given_fields (get A q))

pub in_order_left : (i : ℕ) (ids : List (List ℕ)) → AreInOrder ids → AreInOrder (drop i ids)
in_order_left zero ids h = h
in_order_left (suc i) [] h = tt
in_order_left (suc i) (x ∷ ids) h = in_order_left i ids h.1

pub terms_before : (B A : FinMap key_cmp Given) (ids : List (List ℕ)) (cs : Columns) → ((q : List ℕ) → any_of q ids ≡ false → get A q ≡ get B q) → HaveTerms B cs → (q : List ℕ) → HasFields q (mixed B A ids q) cs
terms_before B A ids cs others has q =
    subst (λ F. HasFields q F cs) (sym (by (any_of q ids) (others q))) (has q)
  where
    by : (b : Bool) → (b ≡ false → get A q ≡ get B q) → cond b (given_fields (get B q)) (given_fields (get A q)) ≡ given_fields (get B q)
    by true h = refl
    by false h = ap given_fields (h refl)

pub old_fields : (B A : FinMap key_cmp Given) (x : List ℕ) (ids : List (List ℕ)) → mixed B A (x ∷ ids) (folded x) ≡ given_fields (get B (folded x))
old_fields B A x ids = ap (λ b. cond (b || any_of (folded x) ids) (given_fields (get B (folded x))) (given_fields (get A (folded x)))) (same_itself (folded x))

pub terms_more : (B A : FinMap key_cmp Given) (x : List ℕ) (ids : List (List ℕ)) (F : Fields) (cs new : Columns) → IsBelowAll x ids → F ≡ given_fields (get A (folded x)) → new ≡ with_fields (folded x) F cs
    → ((q : List ℕ) → HasFields q (mixed B A (x ∷ ids) q) cs) → (q : List ℕ) → HasFields q (mixed B A ids q) new
terms_more B A x ids F cs new below given is has q =
    subst (HasFields q (mixed B A ids q)) (sym is)
    (subst (λ G. HasFields q G (with_fields (folded x) F cs)) (elim (same_key q (folded x)) as (λ b. same_key q (folded x) ≡ b → cond b F (cond (b || any_of q ids) (given_fields (get B q)) (given_fields (get A q))) ≡ mixed B A ids q) [
      | true ↦ λ e.
          let here = same_means q (folded x) e in
          let none : any_of q ids ≡ false = ap (λ k. any_of k ids) here ∙ below_none x ids below in
          given ∙ ap (λ k. given_fields (get A k)) (sym here) ∙ sym (ap (λ b. cond b (given_fields (get B q)) (given_fields (get A q))) none)
      | false ↦ λ e. refl
    ] refl) (has_set q (folded x) F (mixed B A (x ∷ ids) q) cs (has q)))

-- OF A DEFINITION

no_fields : (names : List (List ℕ)) (q : List ℕ) → HasFields q [] (no_values names)
no_fields [] q = tt
no_fields (n ∷ names) q = (get-empty key_cmp q, no_fields names q)

no_names : (names : List (List ℕ)) → names_of (no_values names) ≡ names
no_names [] = refl
no_names (n ∷ names) = ap (λ ns. n ∷ ns) (no_names names)

-- there are groups if there is a reduce
grouped : (query : Option ReduceQuery) → is_some (option_map no_entries query) ≡ is_some query
grouped None = refl
grouped (Some query) = refl

pub nothing_termed : (body : DefBody) (given : FinMap key_cmp Given) (groups : Option Grouped) (b : Bool) (terms : Columns) → given ≡ empty → groups ≡ option_map no_entries (reduce_of (definition_view body)) → b ≡ is_some groups
    → terms ≡ no_values (cond b [] (fields body)) → AreTermed body given terms
nothing_termed body given groups b terms none are has is = record {
  names = ap names_of is ∙ no_names (cond b [] (fields body)) ∙ ap (λ x. cond x [] (fields body)) (has ∙ ap is_some are ∙ grouped (reduce_of (definition_view body)));
  values = λ q. subst (HasFields q (given_fields (get given q))) (sym is)
      (subst (λ o. HasFields q (given_fields o) (no_values (cond b [] (fields body)))) (sym (ap (λ (G : FinMap key_cmp Given). get G q) none ∙ get-empty key_cmp q)) (no_fields (cond b [] (fields body)) q));
}

pub still_termed : (body shared : DefBody) (before after : FinMap key_cmp Given) (terms new : Columns) → AreTermed body before terms → shared ≡ body → names_of new ≡ names_of terms → HaveTerms after new → AreTermed shared after new
still_termed body shared before after terms new are same names values = record { names = names ∙ are.names ∙ ap term_names (sym same); values = values }

-- WITH A REDUCE

pub no_columns : (given : FinMap key_cmp Given) (terms : Columns) → names_of terms ≡ [] → HaveTerms given terms
no_columns given [] none = λ q. tt
no_columns given (c ∷ cs) none = absurd cc

queried : (groups : Option Grouped) (query : Option ReduceQuery) → option_map (λ g. g.query) groups ≡ query → is_some groups ≡ is_some query
queried None query is = ap is_some is
queried (Some groups) query is = ap is_some is

pub reduce_terms : (body : DefBody) (given : FinMap key_cmp Given) (groups : Option Grouped) (terms : Columns) (b : Bool) → AreReduced (reduce_of (definition_view body)) given groups → AreTermed body given terms → b ≡ is_some groups
    → b ≡ true → names_of terms ≡ []
reduce_terms body given groups terms b reduced are has holds =
    are.names ∙ ap (λ x. cond x [] (fields body)) (sym (queried groups (reduce_of (definition_view body)) reduced.queries) ∙ sym has ∙ holds)
