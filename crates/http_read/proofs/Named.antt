-- The fields of a name, one after another.
use Rattle.std.proofs.Common.{◌≡◌, ℕ, ◌+◌, ◌<◌, List, ◌∷◌, Bool, true, false, cond, map, length, drop, get_or, refl, ap, ◌∙◌}
use Rattle.std.proofs.lemmas.List.{drop_more}
use Rattle.std.specs.Str.{IsUtf8, is_utf8}
use Rattle.std.proofs.lemmas.Str.{IsUtf8-from_is_utf8, is_utf8-from_IsUtf8}
use Rattle.httparse.specs.declared.spans.HeaderSpan.{HeaderSpan}
use Rattle.httparse.specs.Spans.{header_bytes}
use Rattle.http_read.specs.Heads.{values, is_named, first, is_text}
use Rattle.http_read.specs.Reading.{pairs_in}

-- one field more
pub values_step : (name bytes : List ℕ) (headers : List HeaderSpan) (i : ℕ) (h : HeaderSpan) → i < length headers → get_or headers i h ≡ h
    → values name (pairs_in bytes (drop i headers)) ≡ values name (pairs_in bytes (h ∷ drop (i + 1) headers))
values_step name bytes headers i h lt is = ap (λ hs. values name (pairs_in bytes hs)) (drop_more headers i h lt ∙ ap (λ x. x ∷ drop (i + 1) headers) is)

one_of : (b : Bool) (v : List ℕ × List ℕ) (vs : List (List ℕ × List ℕ)) → b ≡ true → map (λ field. field.1) (cond b (v ∷ vs) vs) ≡ v.1 ∷ map (λ (field : List ℕ × List ℕ). field.1) vs
one_of true v vs e = refl
one_of false v vs e = absurd cc

none_of : (b : Bool) (v : List ℕ × List ℕ) (vs : List (List ℕ × List ℕ)) → b ≡ false → map (λ field. field.1) (cond b (v ∷ vs) vs) ≡ map (λ (field : List ℕ × List ℕ). field.1) vs
none_of true v vs e = absurd cc
none_of false v vs e = refl

-- the name is the one that is asked for
pub values_named : (name bytes : List ℕ) (h : HeaderSpan) (hs : List HeaderSpan) → is_named name (header_bytes bytes h) ≡ true
    → values name (pairs_in bytes (h ∷ hs)) ≡ (header_bytes bytes h).1 ∷ values name (pairs_in bytes hs)
values_named name bytes h hs is = one_of (is_named name (header_bytes bytes h)) (header_bytes bytes h) _ is

pub values_other : (name bytes : List ℕ) (h : HeaderSpan) (hs : List HeaderSpan) → is_named name (header_bytes bytes h) ≡ false
    → values name (pairs_in bytes (h ∷ hs)) ≡ values name (pairs_in bytes hs)
values_other name bytes h hs is = none_of (is_named name (header_bytes bytes h)) (header_bytes bytes h) _ is

-- TEXT

pub is_no_text : (vs rest : List (List ℕ)) (v : List ℕ) → vs ≡ v ∷ rest → ¬ (IsUtf8 v) → is_text (first vs) ≡ false
is_no_text vs rest v is not = ap (λ x. is_text (first x)) is ∙ by (is_utf8 v) refl
  where
    by : (t : Bool) → is_utf8 v ≡ t → is_utf8 v ≡ false
    by true e = absurd (not (IsUtf8-from_is_utf8 v e))
    by false e = e

pub is_its_text : (vs rest : List (List ℕ)) (v : List ℕ) → vs ≡ v ∷ rest → IsUtf8 v → is_text (first vs) ≡ true
is_its_text vs rest v is text = ap (λ x. is_text (first x)) is ∙ is_utf8-from_IsUtf8 v text

pub ruleset named = (values_step)
