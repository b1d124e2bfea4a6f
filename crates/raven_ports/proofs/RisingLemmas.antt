-- Rows whose etags rise, one after another.
use Rattle.std.proofs.Common.{◌≡◌, ℕ, ◌<◌, List, [], ◌∷◌, ◌++◌, true, Option, Some, None, IfSome, refl, sym, ap, ◌∙◌, subst, arith}
use Rattle.std.proofs.lemmas.Bool.{ltb-true}
use Rattle.spec_data.specs.Kept.{KeptRow, EtagsRise, is_past, last_kept}

-- past the etag, if there is one
abbrev pub IsPast : Option ℕ → ℕ → Type 0
IsPast low etag = IfSome low (λ e. e < etag)

pub past_on : (low : Option ℕ) (mid high : ℕ) → IsPast low mid → mid < high → IsPast low high
past_on None mid high a b = tt
past_on (Some e) mid high a b = omega arith

past-is : (low : Option ℕ) (k : KeptRow) → is_past low k ≡ true → IsPast low k.etag
past-is None k h = tt
past-is (Some e) k h = ltb-true e k.etag h

pub rises_on : (low : Option ℕ) (given page : List KeptRow) → EtagsRise low given → EtagsRise (last_kept low given) page → EtagsRise low (given ++ page)
rises_on low [] page up next = next
rises_on low (k ∷ given) page up next = (up.0, rises_on (Some k.etag) given page up.1 next)

pub last_on : (low : Option ℕ) (given page : List KeptRow) → last_kept low (given ++ page) ≡ last_kept (last_kept low given) page
last_on low [] page = refl
last_on low (k ∷ given) page = last_on (Some k.etag) given page

-- one row more
pub rises_more : (after last : Option ℕ) (found more : List KeptRow) (k : KeptRow) → EtagsRise after found → last_kept after found ≡ last → is_past last k ≡ true → more ≡ found ++ k ∷ [] → EtagsRise after more
rises_more after last found more k up at past is = subst (EtagsRise after) (sym is) (rises_on after found (k ∷ []) up (subst (λ e. EtagsRise e (k ∷ [])) (sym at) (past-is last k past, tt)))

pub last_more : (after : Option ℕ) (found more : List KeptRow) (k : KeptRow) → more ≡ found ++ k ∷ [] → last_kept after more ≡ Some k.etag
last_more after found more k is = ap (last_kept after) is ∙ last_on after found (k ∷ [])
