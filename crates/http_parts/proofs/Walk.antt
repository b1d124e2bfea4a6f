-- The walk over the rows of a router, behind a parameter that takes a segment, is a search for an exact text.
use Rattle.std.proofs.Common.{◌≡◌, ℕ, suc, ◌+◌, ◌-◌, ◌<◌, ◌≤◌, List, [], ◌∷◌, length, drop, get_or, Option, Some, None, Bool, true, false, cond, ◌&&◌, ltb, refl, ap, ◌∙◌, sym, arith, nat_eq, ◌==◌, not}
use Rattle.std.specs.List.{ends_with, position_or_len, list_all}
use Rattle.std.specs.Cmp.Lexicographic.{pointwise}
use Rattle.std.proofs.lemmas.Bool.{ltb-true}
use Rattle.std.proofs.lemmas.Bool.Decides.{nat_tests}
use Rattle.matchit.specs.Rows.{Rows, prepend}
use Rattle.matchit.specs.Seek.{own, step, seek, param_step, has_slash, segment, same_text, cuts, with_suffix}
use Rattle.matchit.specs.Level.{IsText, AllSegment}
use Rattle.matchit.proofs.SeekLemmas.{own-prepend, step-hit, step-miss, or_else-none, param_step-empty, seek-empty, prepend-nil}
use Rattle.matchit.proofs.LongestLemmas.{longest-kid}
use Rattle.matchit.proofs.ParamLemmas.{with_suffix-all, seek-after, drop-length}
use Rattle.http_parts.specs.Routes.{is_slash}

abbrev slash_text : List ℕ
slash_text = 47 ∷ []

small_first : (b : ℕ) (t : List ℕ) (v : Bool) → ltb b 256 ≡ v → (list_all (λ b. ltb b 256) t ≡ true → IsText t) → (v && list_all (λ b. ltb b 256) t) ≡ true → IsText (b ∷ t)
small_first b t true e more h = (ltb-true b 256 e, more h)
small_first b t false e more h = absurd cc

pub bytes_are_small : (t : List ℕ) → list_all (λ b. ltb b 256) t ≡ true → IsText t
bytes_are_small [] h = tt
bytes_are_small (b ∷ t) h = small_first b t (ltb b 256) refl (bytes_are_small t) h

pub is_text : (t : List ℕ) → ((i : ℕ) → get_or t i 0 < 256) → IsText t
is_text [] h = tt
is_text (b ∷ t) h = (h 0, is_text t (λ i. h (suc i)))

-- EXACT TEXTS

-- all tokens of the rows are bytes
abbrev pub AreTexts : Rows → Type 0
AreTexts [] = Unit {0}
AreTexts ((t, key) ∷ rest) = IsText t × AreTexts rest

-- the key of the row with this very text
abbrev pub exact : List ℕ → Rows → Option ℕ
exact q [] = None
exact q ((t, key) ∷ rest) = cond (same_text t q) (Some key) (exact q rest)

no_step : (w : ℕ) (rs : Rows) → 256 ≤ w → AreTexts rs → step w rs ≡ []
no_step w [] h all = refl
no_step w (([], key) ∷ rest) h all = no_step w rest h all.1
no_step w ((x ∷ t, key) ∷ rest) h all =
    let small : x < 256 = all.0.0 in
    elim (x == w) as (λ v. (x == w) ≡ v → cond v ((t, key) ∷ step w rest) (step w rest) ≡ []) [
      | true ↦ λ e. absurd (grind (arith, nat_tests))
      | false ↦ λ e. no_step w rest h all.1
    ] refl

texts_step : (b : ℕ) (rs : Rows) → AreTexts rs → AreTexts (step b rs)
texts_step b [] all = tt
texts_step b (([], key) ∷ rest) all = texts_step b rest all.1
texts_step b ((x ∷ t, key) ∷ rest) all =
    elim (x == b) as (λ v. AreTexts (cond v ((t, key) ∷ step b rest) (step b rest))) [
      | true ↦ (all.0.1, texts_step b rest all.1)
      | false ↦ texts_step b rest all.1
    ]

exact_none : (rs : Rows) → own rs ≡ exact [] rs
exact_none [] = refl
exact_none (([], key) ∷ rest) = refl
exact_none ((x ∷ t, key) ∷ rest) = exact_none rest

exact_step : (b : ℕ) (q : List ℕ) (rs : Rows) → exact q (step b rs) ≡ exact (b ∷ q) rs
exact_step b q [] = refl
exact_step b q (([], key) ∷ rest) = exact_step b q rest
exact_step b q ((x ∷ t, key) ∷ rest) =
    elim (x == b) as (λ v. exact q (cond v ((t, key) ∷ step b rest) (step b rest)) ≡ cond (v && same_text t q) (Some key) (exact (b ∷ q) rest)) [
      | true ↦ ap (cond (same_text t q) (Some key)) (exact_step b q rest)
      | false ↦ exact_step b q rest
    ]

pub seek_exact : (rs : Rows) (q : List ℕ) → AreTexts rs → seek 0 rs q ≡ exact q rs
unfolding seek
seek_exact rs [] all = exact_none rs
seek_exact rs (b ∷ q) all =
    let n256 : step 256 rs ≡ [] = no_step 256 rs (omega arith) all in
    let n257 : step 257 rs ≡ [] = no_step 257 rs (omega arith) all in
    let here : seek 0 (step b rs) q ≡ exact (b ∷ q) rs = seek_exact (step b rs) q (texts_step b rs all) ∙ exact_step b q rs in
    simp (n256, n257, param_step-empty (b ∷ q), seek-empty ((param_step {K = ℕ} [] (b ∷ q)).0 - 1) q, or_else-none, here)

-- THE NAME OF THE DATABASE

segment_some : (b : ℕ) (p : List ℕ) → 0 < length (segment (b ∷ p))
segment_some b p =
    elim (b == 47) as (λ v. 0 < length (cond v (b ∷ []) (b ∷ segment p))) [
      | true ↦ omega arith
      | false ↦ omega arith
    ]

is_slash_byte : (b : ℕ) → (nat_eq 47 b && true) ≡ cond (b == 47) true false
is_slash_byte b =
    elim (b == 47) as (λ v. (b == 47) ≡ v → (nat_eq 47 b && true) ≡ cond v true false) [
      | true ↦ λ e. let is : b ≡ 47 = grind (arith, nat_tests) in ap (λ n. nat_eq 47 n && true) is
      | false ↦ λ e. let f : nat_eq 47 b ≡ false = grind (arith, nat_tests) in ap (λ v. v && true) f
    ] refl

ends_in_slash : (p : List ℕ) → ends_with nat_eq (segment p) (47 ∷ []) ≡ has_slash p
ends_in_slash [] = refl
ends_in_slash (b ∷ []) =
    elim (b == 47) as (λ v. ends_with nat_eq (cond v (b ∷ []) (b ∷ [])) (47 ∷ []) ≡ cond (b == 47) true false) [
      | true ↦ is_slash_byte b
      | false ↦ is_slash_byte b
    ]
ends_in_slash (b ∷ c ∷ p) =
    elim (b == 47) as (λ v. (b == 47) ≡ v → ends_with nat_eq (cond v (b ∷ []) (b ∷ segment (c ∷ p))) (47 ∷ []) ≡ cond v true (has_slash (c ∷ p))) [
      | true ↦ λ e. is_slash_byte b ∙ ap (λ v. cond v true false) e
      | false ↦ λ e.
          let some = segment_some c p in
          let k : length (b ∷ segment (c ∷ p)) - 1 ≡ suc (length (segment (c ∷ p)) - 1) = omega (arith, some) in
          ap (λ n. pointwise nat_eq (47 ∷ []) (drop n (b ∷ segment (c ∷ p)))) k ∙ ends_in_slash (c ∷ p)
    ] refl

-- the name ends before the first slash
segment_length : (p : List ℕ) → length (segment p) ≡ position_or_len is_slash p + cond (has_slash p) 1 0
segment_length [] = refl
segment_length (b ∷ p) =
    elim (b == 47) as (λ v. length (cond v (b ∷ []) (b ∷ segment p)) ≡ cond (not v) (1 + position_or_len is_slash p) 0 + cond (cond v true (has_slash p)) 1 0) [
      | true ↦ refl
      | false ↦ let e = segment_length p in omega (arith, e)
    ]

without_slash : (p : List ℕ) → has_slash p ≡ false → position_or_len is_slash p ≡ length p
without_slash [] h = refl
without_slash (b ∷ p) h =
    elim (b == 47) as (λ v. cond v true (has_slash p) ≡ false → cond (not v) (1 + position_or_len is_slash p) 0 ≡ length (b ∷ p)) [
      | true ↦ λ e. absurd cc
      | false ↦ λ e. let i = without_slash p e in omega (arith, i)
    ] h

param_is : (rs : Rows) (p : List ℕ) → AllSegment (47 ∷ []) rs → 0 < length rs
    → param_step rs p ≡ cond {A = ℕ × Rows} (cuts (segment p) (47 ∷ [])) (length (segment p) - 1, rs) (cond {A = ℕ × Rows} (has_slash p) (0, []) (length p, rs))
unfolding param_step
param_is rs p all some =
    ap (λ l. cond {A = ℕ × Rows} (ltb 0 (length l)) (length (segment p) - length l, with_suffix l rs) (cond {A = ℕ × Rows} (has_slash p) (0, []) (length p, rs))) (longest-kid (segment p) [] slash_text rs all some)
    ∙ by (cuts (segment p) slash_text)
  where
    by : (v : Bool) → cond {A = ℕ × Rows} (ltb 0 (length (cond v slash_text []))) (length (segment p) - length (cond v slash_text []), with_suffix (cond v slash_text []) rs) (cond {A = ℕ × Rows} (has_slash p) (0, []) (length p, rs))
        ≡ cond {A = ℕ × Rows} v (length (segment p) - 1, rs) (cond {A = ℕ × Rows} (has_slash p) (0, []) (length p, rs))
    by true = ap (λ w. (length (segment p) - 1, w)) (with_suffix-all slash_text rs all)
    by false = refl

one_more : (n : ℕ) → ltb 1 (n + 1) ≡ ltb 0 n
one_more n = grind (arith, nat_tests)

and_false : (v : Bool) → (v && false) ≡ false
and_false true = refl
and_false false = refl

and_true : (v : Bool) → (v && true) ≡ v
and_true true = refl
and_true false = refl

-- what is taken for the name, and the rows behind it
taken : (n k : ℕ) (rs : Rows) (b : ℕ) (q : List ℕ) (v : Bool) → ltb 0 n ≡ v → k ≡ n → seek ((cond {A = ℕ × Rows} v (k, rs) (0, [])).0 - 1) (cond {A = ℕ × Rows} v (k, rs) (0, [])).1 q ≡ cond v (seek 0 rs (drop n (b ∷ q))) None
taken n k rs b q true e is = ap (λ j. seek (j - 1) rs q) is ∙ seek-after n rs b q (let h = ltb-true 0 n e in omega (arith, h))
taken n k rs b q false e is = seek-empty (0 - 1) q

both : (v : Bool) → cond {A = Option ℕ} v None None ≡ None
both true = refl
both false = refl

at_end : (rs : Rows) → own rs ≡ None → seek 0 rs [] ≡ None
unfolding seek
at_end rs none = none

walk : (rs : Rows) (b : ℕ) (q : List ℕ) → AllSegment (47 ∷ []) rs → 0 < length rs → own rs ≡ None
    → seek ((param_step rs (b ∷ q)).0 - 1) (param_step rs (b ∷ q)).1 q ≡ cond (ltb 0 (position_or_len is_slash (b ∷ q))) (seek 0 rs (drop (position_or_len is_slash (b ∷ q)) (b ∷ q))) None
walk rs b q all some none = ap (λ r. seek (r.0 - 1) r.1 q) (param_is rs (b ∷ q) all some) ∙ by (has_slash (b ∷ q)) refl
  where
    goes : Bool → Bool → ℕ × Rows
    goes cut slash = cond {A = ℕ × Rows} cut (length (segment (b ∷ q)) - 1, rs) (cond {A = ℕ × Rows} slash (0, []) (length (b ∷ q), rs))

    by : (v : Bool) → has_slash (b ∷ q) ≡ v
        → seek ((goes (cuts (segment (b ∷ q)) (47 ∷ [])) (has_slash (b ∷ q))).0 - 1) (goes (cuts (segment (b ∷ q)) (47 ∷ [])) (has_slash (b ∷ q))).1 q
        ≡ cond (ltb 0 (position_or_len is_slash (b ∷ q))) (seek 0 rs (drop (position_or_len is_slash (b ∷ q)) (b ∷ q))) None
    by true e =
        let n = position_or_len is_slash (b ∷ q) in
        let long : length (segment (b ∷ q)) ≡ n + 1 = segment_length (b ∷ q) ∙ ap (λ v. n + cond v 1 0) e in
        let cut : cuts (segment (b ∷ q)) (47 ∷ []) ≡ ltb 0 n = ap (λ v. ltb 1 (length (segment (b ∷ q))) && v) (ends_in_slash (b ∷ q) ∙ e) ∙ and_true _ ∙ ap (ltb 1) long ∙ one_more n in
        ap (λ v. seek ((goes v (has_slash (b ∷ q))).0 - 1) (goes v (has_slash (b ∷ q))).1 q) cut
        ∙ ap (λ v. seek ((goes (ltb 0 n) v).0 - 1) (goes (ltb 0 n) v).1 q) e
        ∙ taken n (length (segment (b ∷ q)) - 1) rs b q (ltb 0 n) refl (omega (arith, long))
    by false e =
        let n = position_or_len is_slash (b ∷ q) in
        let whole : n ≡ length (b ∷ q) = without_slash (b ∷ q) e in
        let cut : cuts (segment (b ∷ q)) (47 ∷ []) ≡ false = ap (λ v. ltb 1 (length (segment (b ∷ q))) && v) (ends_in_slash (b ∷ q) ∙ e) ∙ and_false _ in
        let past : seek 0 rs (drop n (b ∷ q)) ≡ None = ap (λ k. seek 0 rs (drop k (b ∷ q))) whole ∙ ap (seek 0 rs) (drop-length (b ∷ q)) ∙ at_end rs none in
        ap (λ v. seek ((goes v (has_slash (b ∷ q))).0 - 1) (goes v (has_slash (b ∷ q))).1 q) cut
        ∙ ap (λ v. seek ((goes false v).0 - 1) (goes false v).1 q) e
        ∙ seek-after (length (b ∷ q)) rs b q (omega arith)
        ∙ ap (λ k. seek 0 rs (drop k (b ∷ q))) (sym whole)
        ∙ past
        ∙ sym (ap (λ x. cond (ltb 0 n) x None) past ∙ both (ltb 0 n))

-- a walk behind a parameter
pub seek_param : (rs : Rows) (p : List ℕ) → AllSegment (47 ∷ []) rs → 0 < length rs → own rs ≡ None → IsText p
    → seek 0 (prepend (256 ∷ []) rs) p ≡ cond (ltb 0 (position_or_len is_slash p)) (seek 0 rs (drop (position_or_len is_slash p) p)) None
unfolding seek
seek_param rs [] all some none text = own-prepend 256 [] rs
seek_param rs (b ∷ q) all some none text =
    let small : b < 256 = text.0 in
    let miss : step b (prepend (256 ∷ []) rs) ≡ [] = step-miss b 256 [] rs (λ e. omega (arith, e, small)) in
    let past : step 257 (prepend (256 ∷ []) rs) ≡ [] = step-miss 257 256 [] rs (λ e. omega (arith, e)) in
    let hit : step 256 (prepend (256 ∷ []) rs) ≡ rs = step-hit 256 [] rs ∙ prepend-nil rs in
    simp (miss, past, hit, seek-empty 0 q, or_else-none) (walk rs b q all some none)
