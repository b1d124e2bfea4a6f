-- Names that are added if they are not there yet are those that are not there, each once.
use Rattle.std.proofs.Common.{◌≡◌, ℕ, Bool, true, false, cond, not, ◌||◌, List, [], ◌∷◌, ◌++◌, filter, map, refl, sym, ◌∙◌, ap}
use Rattle.std.proofs.lemmas.List.{append_assoc, append-nil}
use Rattle.std.proofs.lemmas.Bool.Decides.{same_from_decides}
use Rattle.std.specs.Bool.{Decides}
use Rattle.std.proofs.lemmas.Slice.Eq.{bytes_eq-Decides}
use Rattle.std.specs.Str.{bytes_eq}
use Rattle.index_tree.specs.declared.map_query.MapQuery.{MapQuery}
use Rattle.index_tree.specs.Scope.{others, each_once, all_named, scope_of}
use Rattle.raven_value.specs.View.{pair_of}
use Rattle.raven_value.specs.declared.text.Text.{Text}
use Rattle.raven_value.specs.declared.value.Value.{Value}
use Rattle.index_definition.specs.Adding.{is_among, with_new}

-- those that are not there
abbrev missing : List (List ℕ) → List (List ℕ) → List (List ℕ)
missing seen names = filter (λ name. not (is_among seen name)) names

among_last : (seen : List (List ℕ)) (x e : List ℕ) → is_among (seen ++ x ∷ []) e ≡ is_among seen e || bytes_eq e x
among_last [] x e = or_false (bytes_eq e x)
  where
    or_false : (b : Bool) → b || false ≡ b
    or_false true = refl
    or_false false = refl
among_last (y ∷ seen) x e = ap (λ (b : Bool). bytes_eq e y || b) (among_last seen x e) ∙ or_assoc (bytes_eq e y) (is_among seen e) (bytes_eq e x)
  where
    or_assoc : (a b c : Bool) → a || (b || c) ≡ (a || b) || c
    or_assoc true b c = refl
    or_assoc false b c = refl

flipped : (r : Bool) (x y : List ℕ) → Decides r (y ≡ x) → Decides r (x ≡ y)
flipped r x y d = (λ e. sym (d.0 e), λ e. d.1 (sym e))

same_both_ways : (x y : List ℕ) → bytes_eq x y ≡ bytes_eq y x
same_both_ways x y = same_from_decides (bytes_eq x y) (bytes_eq y x) (bytes_eq-Decides x y) (flipped (bytes_eq y x) x y (bytes_eq-Decides y x))

same_means : (x y : List ℕ) → bytes_eq x y ≡ true → x ≡ y
same_means x y e = (bytes_eq-Decides x y).0 e

missing_next : (seen : List (List ℕ)) (x e : List ℕ) (rest : List (List ℕ)) (c : Bool) →
    missing seen (cond (not c) (e ∷ rest) rest) ≡ cond (not (is_among seen e || c)) (e ∷ missing seen rest) (missing seen rest)
missing_next seen x e rest true = by (is_among seen e)
  where
    by : (a : Bool) → missing seen rest ≡ cond (not (a || true)) (e ∷ missing seen rest) (missing seen rest)
    by true = refl
    by false = refl
missing_next seen x e rest false = by (is_among seen e)
  where
    by : (a : Bool) → cond (not a) (e ∷ missing seen rest) (missing seen rest) ≡ cond (not (a || false)) (e ∷ missing seen rest) (missing seen rest)
    by true = refl
    by false = refl

-- a name that is added is left out of those that are not there
drop_new : (seen : List (List ℕ)) (x : List ℕ) (names : List (List ℕ)) → missing (seen ++ x ∷ []) names ≡ missing seen (others x names)
drop_new seen x [] = refl
drop_new seen x (e ∷ names) =
    ap (λ (b : Bool). cond (not b) (e ∷ missing (seen ++ x ∷ []) names) (missing (seen ++ x ∷ []) names)) (among_last seen x e ∙ ap (λ (b : Bool). is_among seen e || b) (same_both_ways e x))
    ∙ ap (λ (rest : List (List ℕ)). cond (not (is_among seen e || bytes_eq x e)) (e ∷ rest) rest) (drop_new seen x names)
    ∙ sym (missing_next seen x e (others x names) (bytes_eq x e))

-- and so is one that was there, once more
drop_known : (seen : List (List ℕ)) (x : List ℕ) (names : List (List ℕ)) → is_among seen x ≡ true → missing seen (others x names) ≡ missing seen names
drop_known seen x [] known = refl
drop_known seen x (e ∷ names) known =
    missing_next seen x e (others x names) (bytes_eq x e)
    ∙ ap (λ (b : Bool). cond (not b) (e ∷ missing seen (others x names)) (missing seen (others x names))) (either (bytes_eq x e) refl)
    ∙ ap (λ (rest : List (List ℕ)). cond (not (is_among seen e)) (e ∷ rest) rest) (drop_known seen x names known)
  where
    either : (c : Bool) → bytes_eq x e ≡ c → is_among seen e || c ≡ is_among seen e
    either true same = ap (λ (b : Bool). b || true) (there same) ∙ sym (there same)
      where
        there : bytes_eq x e ≡ true → is_among seen e ≡ true
        there same = ap (is_among seen) (sym (same_means x e same)) ∙ known
    either false same = by (is_among seen e)
      where
        by : (b : Bool) → b || false ≡ b
        by true = refl
        by false = refl

added_to : (seen : List (List ℕ)) (x : List ℕ) (names : List (List ℕ)) (b : Bool) → is_among seen x ≡ b →
    with_new seen names ≡ seen ++ missing seen (each_once names) → with_new (seen ++ x ∷ []) names ≡ (seen ++ x ∷ []) ++ missing (seen ++ x ∷ []) (each_once names) →
    cond b (with_new seen names) (with_new (seen ++ x ∷ []) names) ≡ seen ++ cond (not b) (x ∷ missing seen (others x (each_once names))) (missing seen (others x (each_once names)))
added_to seen x names true known h k = h ∙ ap (λ (rest : List (List ℕ)). seen ++ rest) (sym (drop_known seen x (each_once names) known))
added_to seen x names false new h k =
    k ∙ append_assoc seen (x ∷ []) (missing (seen ++ x ∷ []) (each_once names)) ∙ ap (λ (rest : List (List ℕ)). seen ++ (x ∷ rest)) (drop_new seen x (each_once names))

added : (seen names : List (List ℕ)) → with_new seen names ≡ seen ++ missing seen (each_once names)
added seen [] = sym (append-nil seen)
added seen (x ∷ names) = added_to seen x names (is_among seen x) refl (added seen names) (added (seen ++ x ∷ []) names)

alone : (x : List ℕ) (names : List (List ℕ)) → missing (x ∷ []) names ≡ others x names
alone x [] = refl
alone x (e ∷ names) =
    ap (λ (b : Bool). cond (not b) (e ∷ missing (x ∷ []) names) (missing (x ∷ []) names)) (or_false (bytes_eq e x) ∙ same_both_ways e x)
    ∙ ap (λ (rest : List (List ℕ)). cond (not (bytes_eq x e)) (e ∷ rest) rest) (alone x names)
  where
    or_false : (b : Bool) → b || false ≡ b
    or_false true = refl
    or_false false = refl

reads : (query : MapQuery) → with_new (query.collection ∷ []) (all_named query) ≡ scope_of query
reads query = added (query.collection ∷ []) (all_named query) ∙ ap (λ rest. query.collection ∷ rest) (alone query.collection (each_once (all_named query)))

pub reads_by : (query : MapQuery) (first names all : List (List ℕ)) → all ≡ with_new first names → first ≡ query.collection ∷ [] → names ≡ all_named query → all ≡ scope_of query
reads_by query first names all is one named = is ∙ ap (λ (first : List (List ℕ)). with_new first names) one ∙ ap (with_new (query.collection ∷ [])) named ∙ reads query

pub first_names : (ms : List (Text × Value)) → map (λ m. m.0) (map pair_of ms) ≡ map (λ m. m.0) ms
first_names [] = refl
first_names (m ∷ ms) = ap (λ (names : List (List ℕ)). m.0 ∷ names) (first_names ms)
