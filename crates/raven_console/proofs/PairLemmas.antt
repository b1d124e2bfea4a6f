-- The arguments as pairs.
use Rattle.std.proofs.Common.{◌≡◌, ℕ, List, [], ◌∷◌, ◌++◌, Option, Some, None, true, false, String, Global, string_bytes, refl, ap, sym, ◌∙◌, map, append_assoc}
use Rattle.std.specs.Prelude.{if◌then◌else◌}
use Rattle.std.specs.Option.{option_map}
use Rattle.std.proofs.lemmas.List.{append-nil}
use Rattle.spec_server.specs.Options.{Pairs, is_value, pairs_in}

-- these pairs with others behind them, if there are others
abbrev pub onto : Pairs → Option Pairs → Option Pairs
onto ps None = None
onto ps (Some qs) = Some (ps ++ qs)

pub onto-nothing : (o : Option Pairs) → onto [] o ≡ o
onto-nothing None = refl
onto-nothing (Some qs) = refl

pub onto-end : (ps : Pairs) → onto ps (Some []) ≡ Some ps
onto-end ps = ap Some (append-nil ps)

onto-pair : (ps : Pairs) (n v : List ℕ) (o : Option Pairs) → onto ps (option_map (λ qs. (n, v) ∷ qs) o) ≡ onto (ps ++ (n, v) ∷ []) o
onto-pair ps n v None = refl
onto-pair ps n v (Some qs) = ap Some (sym (append_assoc ps ((n, v) ∷ []) qs))

two_arguments : (ws after_name more : List (String Global)) (n v : String Global) → ws ≡ n ∷ after_name → after_name ≡ v ∷ more → map string_bytes ws ≡ string_bytes n ∷ string_bytes v ∷ map string_bytes more
two_arguments ws after_name more n v e f = ap (map string_bytes) (e ∙ ap (λ z. n ∷ z) f)

-- one pair more
pub pair_read : (ps : Pairs) (ws after_name more : List (String Global)) (n v : String Global) → ws ≡ n ∷ after_name → after_name ≡ v ∷ more → is_value (string_bytes v) ≡ true
    → onto ps (pairs_in (map string_bytes ws)) ≡ onto (ps ++ (string_bytes n, string_bytes v) ∷ []) (pairs_in (map string_bytes more))
pair_read ps ws after_name more n v e f h =
    ap (λ z. onto ps (pairs_in z)) (two_arguments ws after_name more n v e f)
    ∙ ap (λ t. onto ps (if t then option_map (λ qs. (string_bytes n, string_bytes v) ∷ qs) (pairs_in (map string_bytes more)) else None)) h
    ∙ onto-pair ps (string_bytes n) (string_bytes v) (pairs_in (map string_bytes more))

-- a name without a value
pub alone_refused : (ps : Pairs) (ws after_name : List (String Global)) (n : String Global) → ws ≡ n ∷ after_name → after_name ≡ [] → onto ps (pairs_in (map string_bytes ws)) ≡ None
alone_refused ps ws after_name n e f = ap (λ z. onto ps (pairs_in (map string_bytes z))) (e ∙ ap (λ z. n ∷ z) f)

-- a value that is none
pub value_refused : (ps : Pairs) (ws after_name more : List (String Global)) (n v : String Global) → ws ≡ n ∷ after_name → after_name ≡ v ∷ more → is_value (string_bytes v) ≡ false
    → onto ps (pairs_in (map string_bytes ws)) ≡ None
value_refused ps ws after_name more n v e f h =
    ap (λ z. onto ps (pairs_in z)) (two_arguments ws after_name more n v e f)
    ∙ ap (λ t. onto ps (if t then option_map (λ qs. (string_bytes n, string_bytes v) ∷ qs) (pairs_in (map string_bytes more)) else None)) h

pub ruleset pairs = (onto-nothing, onto-end)
