-- The names of automatic indexes, and the ids of their rows, are valid.
use Rattle.std.proofs.Common.{◌≡◌, ℕ, zero, suc, ◌+◌, ◌^◌, ◌<◌, ◌≤◌, List, [], ◌∷◌, ◌++◌, Bool, true, false, not, cond, ◌&&◌, ◌||◌, ◌==◌, nat_lt, nat_eq, is_none, is_some, length, codes, drop, Option, Some, None, option_map, refl, sym, ap, ◌∙◌, subst, arith, ◌⊎◌, inl, inr}
use Rattle.std.proofs.lemmas.Bool.{ltb-false, eq-eqb, cases_eq, ne_eqb}
use Rattle.std.proofs.lemmas.Bool.Decides.{nat_tests}
use Rattle.std.proofs.lemmas.Fmt.{decimal_is_IsNumeral, length-decimal-le}
use Rattle.std.proofs.lemmas.List.{length-append}
use Rattle.std.specs.Char.{to_ascii_lowercase, digit_value}
use Rattle.std.specs.Fmt.{decimal}
use Rattle.std.specs.List.{position_from, starts_with}
use Rattle.std.specs.Str.Parse.{AllDigits}
use Rattle.spec_data.specs.Faults.{empty, too_long, control, is_control, is_fit, replacement_of}
use Rattle.spec_data.specs.Folding.{folded}
use Rattle.index_tree.specs.Definitions.{Definition, Static, Auto, AutoReduce}
use Rattle.spec_server.specs.Opening.{is_auto_name, is_static_name, may_be_named, replaced_name}
use Rattle.spec_index.specs.Optimiser.{Shape, plain_name, free_name, first_free, name_of}
use Rattle.spec_server.specs.Sound.{Has, NumbersRise}
use Rattle.spec_index.specs.World.{Slot, begins_with_auto, begins_with_replacement, index_id, is_automatic, is_reserved_name, serving}
use Rattle.spec_store.proofs.StoreLemmas.{both_true, either_false}
use Rattle.raven_laws.proofs.OpenLemmas.{behind, folded-drop}
use Rattle.raven_laws.proofs.KindLemmas.{name_of-begins}

-- TEXTS THAT CAN BE IDS AND NAMES

-- no byte is a control character
abbrev IsPlain : List ℕ → Type 0
IsPlain [] = Unit {0}
IsPlain (b ∷ bs) = (is_control b ≡ false) × IsPlain bs

-- a text that can be an id or a name
record IsText (limit : ℕ) (words : List ℕ) : Type 0 where
  pub some : 0 < length words
  pub few : length words ≤ limit
  pub plain : IsPlain words

plain-none : (i : ℕ) (words : List ℕ) → IsPlain words → position_from is_control i words ≡ None
plain-none i [] h = refl
plain-none i (b ∷ bs) h = ap (λ t. cond t (Some i) (position_from is_control (i + 1) bs)) h.0 ∙ plain-none (i + 1) bs h.1

none-plain : (i : ℕ) (words : List ℕ) → position_from is_control i words ≡ None → IsPlain words
none-plain i [] h = tt
none-plain i (b ∷ bs) h = elim (is_control b) as (λ t. cond t (Some i) (position_from is_control (i + 1) bs) ≡ None → (t ≡ false) × IsPlain bs) [
  | true ↦ λ g. absurd cc
  | false ↦ λ g. (refl, none-plain (i + 1) bs g)
] h

text-fit : (limit : ℕ) (words : List ℕ) → IsText limit words → is_fit limit words ≡ true
text-fit limit words t =
    let found = option_map control (position_from is_control 0 words) in
    let some : (length words == 0) ≡ false = ne_eqb (length words) 0 (λ e. let s = t.some in omega arith) in
    let few : nat_lt limit (length words) ≡ false = grind (arith, nat_tests, t.few) in
    ap (λ b. is_none (cond b (Some empty) (cond (nat_lt limit (length words)) (Some (too_long (length words))) found))) some
    ∙ ap (λ b. is_none (cond b (Some (too_long (length words))) found)) few
    ∙ ap (λ o. is_none (option_map control o)) (plain-none 0 words t.plain)

fit-text : (limit : ℕ) (words : List ℕ) → is_fit limit words ≡ true → IsText limit words
fit-text limit words h =
    elim (length words == 0) as (λ b. length words == 0 ≡ b
    → is_none (cond b (Some empty) (cond (nat_lt limit (length words)) (Some (too_long (length words))) (option_map control (position_from is_control 0 words)))) ≡ true → IsText limit words) [
      | true ↦ λ e g. absurd cc
      | false ↦ λ e g. elim (nat_lt limit (length words)) as (λ b. nat_lt limit (length words) ≡ b
          → is_none (cond b (Some (too_long (length words))) (option_map control (position_from is_control 0 words))) ≡ true → IsText limit words) [
            | true ↦ λ f k. absurd cc
            | false ↦ λ f k. record {
              some = some e;
              few = ltb-false limit (length words) f;
              plain = none-plain 0 words (none (position_from is_control 0 words) k);
            }
          ] refl g
    ] refl h
  where
    none : (o : Option ℕ) → is_none (option_map control o) ≡ true → o ≡ None
    none None k = refl
    none (Some i) k = absurd cc

    some : length words == 0 ≡ false → 0 < length words
    some e = elim (cases_eq (length words) 0) [ inl is ↦ absurd (let t = eq-eqb (length words) 0 is in cc) | inr not_none ↦ omega arith ]

-- WITHOUT REGARD TO CASE

same_control : (b : ℕ) → is_control (to_ascii_lowercase b) ≡ is_control b
same_control b = grind (arith, nat_tests)

plain-folded : (words : List ℕ) → IsPlain words → IsPlain (folded words)
plain-folded [] h = tt
plain-folded (b ∷ bs) h = (same_control b ∙ h.0, plain-folded bs h.1)

folded-plain : (words : List ℕ) → IsPlain (folded words) → IsPlain words
folded-plain [] h = tt
folded-plain (b ∷ bs) h = (sym (same_control b) ∙ h.0, folded-plain bs h.1)

length-folded : (words : List ℕ) → length (folded words) ≡ length words
length-folded [] = refl
length-folded (b ∷ bs) = ap suc (length-folded bs)

text-other : (limit : ℕ) (a b : List ℕ) → folded a ≡ folded b → IsText limit b → IsText limit a
text-other limit a b same t =
    let long : length a ≡ length b = sym (length-folded a) ∙ ap length same ∙ length-folded b in
    record {
      some = let s = t.some in omega arith;
      few = let f = t.few in omega arith;
      plain = folded-plain a (subst IsPlain (sym same) (plain-folded b t.plain));
    }

-- another spelling of the name of an automatic index is one too
pub auto_name-other : (a b : List ℕ) → folded a ≡ folded b → is_auto_name b ≡ true → is_auto_name a ≡ true
auto_name-other a b same h = elim (is_fit 200 b) as (λ t. is_fit 200 b ≡ t → t && begins_with_auto b ≡ true → is_auto_name a ≡ true) [
  | true ↦ λ e g.
      ap (λ t. t && begins_with_auto a) (text-fit 200 a (text-other 200 a b same (fit-text 200 b e)))
      ∙ ap (λ words. starts_with nat_eq words (codes "auto/")) same ∙ g
  | false ↦ λ e g. absurd cc
] refl h

static_name-other : (a b : List ℕ) → folded a ≡ folded b → is_static_name b ≡ true → is_static_name a ≡ true
static_name-other a b same h = elim (is_fit 200 b) as (λ t. is_fit 200 b ≡ t → t && not (is_reserved_name b) ≡ true → is_static_name a ≡ true) [
  | true ↦ λ e g.
      ap (λ t. t && not (is_reserved_name a)) (text-fit 200 a (text-other 200 a b same (fit-text 200 b e)))
      ∙ ap (λ words. not (starts_with nat_eq words (codes "auto/") || starts_with nat_eq words (codes "replacementof/"))) same ∙ g
  | false ↦ λ e g. absurd cc
] refl h

-- the rest of another spelling of a replacement's name is another spelling of its rest
rest-other : (a b : List ℕ) → folded a ≡ folded b → folded (drop 14 a) ≡ folded (drop 14 b)
rest-other a b same = folded-drop 14 a ∙ ap (drop 14) same ∙ sym (folded-drop 14 b)

replaced-other : (a b : List ℕ) → folded a ≡ folded b → folded (replaced_name a) ≡ folded (replaced_name b)
replaced-other a b same =
    ap (λ t. folded (cond t (drop 14 a) a)) (ap (λ q. starts_with nat_eq q (codes "replacementof/")) same)
    ∙ elim (begins_with_replacement b) as (λ t. folded (cond t (drop 14 a) a) ≡ folded (cond t (drop 14 b) b)) [ true ↦ rest-other a b same | false ↦ same ]

-- the same for each name that the index of a definition may have
pub named-other : (d : Definition) (a b : List ℕ) → folded a ≡ folded b → may_be_named d b ≡ true → may_be_named d a ≡ true
named-other (Static map reduce map_text reduce_text) a b same h = static_name-other (replaced_name a) (replaced_name b) (replaced-other a b same) h
named-other (Auto collection fields) a b same h = auto_name-other a b same h
named-other (AutoReduce collection groups sums) a b same h = auto_name-other a b same h

-- a name that a client may give
pub static_name-fit : (limit : ℕ) (name : List ℕ) → is_fit limit name ≡ true → is_reserved_name name ≡ false → length name ≤ 200 → is_static_name name ≡ true
static_name-fit limit name fit free few =
    let t = fit-text limit name fit in
    let short : is_fit 200 name ≡ true = text-fit 200 name (record { some = t.some; few = few; plain = t.plain }) in
    λ i. short i && not (free i)

plain-append : (a b : List ℕ) → IsPlain a → IsPlain b → IsPlain (a ++ b)
plain-append [] b h g = g
plain-append (x ∷ a) b h g = (h.0, plain-append a b h.1 g)

-- the id of an index's row is a valid id
pub index_id-fit : (name : List ℕ) → is_fit 214 name ≡ true → is_fit 512 (index_id name) ≡ true
index_id-fit name h =
    let t = fit-text 214 name h in
    text-fit 512 (index_id name) (record {
      some = omega arith;
      few = let f = t.few in omega arith;
      plain = (refl, (refl, (refl, (refl, (refl, (refl, (refl, t.plain)))))));
    })

-- THE NAME OF A NEW INDEX

digit_plain : (c : ℕ) → digit_value c < 10 → is_control c ≡ false
digit_plain c h = grind (arith, nat_tests)

digits_plain : (cs : List ℕ) → AllDigits 10 cs → IsPlain cs
digits_plain [] h = tt
digits_plain (c ∷ cs) h = (digit_plain c h.0, digits_plain cs h.1)

decimal-plain : (n : ℕ) → n < 2 ^ 64 → IsPlain (decimal n)
decimal-plain n h = digits_plain (decimal n) (decimal_is_IsNumeral n h).0.1

decimal-few : (n : ℕ) → n < 2 ^ 64 → length (decimal n) ≤ 20
decimal-few n h = length-decimal-le 20 n (omega arith) (omega arith) h

-- the name itself, or with a number after it
abbrev IsNumbered : List ℕ → ℕ → List ℕ → Type 0
IsNumbered name most new = (new ≡ name) ⊎ ((m : ℕ) × (m ≤ most) × (new ≡ name ++ (codes "/" ++ decimal m)))

free_name-numbered : (k n : ℕ) (name : List ℕ) (slots : List Slot) → (m : ℕ) × (m ≤ n + k) × (free_name k n name slots ≡ name ++ (codes "/" ++ decimal m))
free_name-numbered zero n name slots = (n, omega arith, refl)
free_name-numbered (suc k) n name slots =
    elim (is_some (serving slots (name ++ (codes "/" ++ decimal n)))) as (λ b. (m : ℕ) × (m ≤ n + suc k) × (cond b (free_name k (n + 1) name slots) (name ++ (codes "/" ++ decimal n)) ≡ name ++ (codes "/" ++ decimal m))) [
      | true ↦ let f = free_name-numbered k (n + 1) name slots in (f.0, let a = f.1 in omega arith, f.2)
      | false ↦ (n, omega arith, refl)
    ]

first_free-numbered : (name : List ℕ) (slots : List Slot) → IsNumbered name (length slots + 2) (first_free name slots)
first_free-numbered name slots = elim (is_some (serving slots name)) as (λ b. IsNumbered name (length slots + 2) (cond b (free_name (length slots) 2 name slots) name)) [
  | true ↦ let f = free_name-numbered (length slots) 2 name slots in inr (f.0, let a = f.1 in omega arith, f.2)
  | false ↦ inl refl
]

-- a number makes a name that is short enough
number-text : (number : ℕ) → number < 2 ^ 64 → IsText 26 (codes "Auto/" ++ decimal number)
number-text number small = record {
  some = omega arith;
  few = let d = decimal-few number small in omega arith;
  plain = (refl, (refl, (refl, (refl, (refl, decimal-plain number small)))));
}

numbered-text : (name : List ℕ) (most : ℕ) (new : List ℕ) → most < 2 ^ 64 → IsText 26 name → IsNumbered name most new → IsText 200 new
numbered-text name most new small t (inl e) = subst (IsText 200) (sym e) (record { some = t.some; few = let f = t.few in omega arith; plain = t.plain })
numbered-text name most new small t (inr m) =
    let low : m.0 < 2 ^ 64 = let a = m.1 in omega arith in
    let long = length-append name (codes "/" ++ decimal m.0) in
    let d = decimal-few m.0 low in
    subst (IsText 200) (sym m.2) (record {
      some = let s = t.some in omega arith;
      few = let f = t.few in omega arith;
      plain = plain-append name (codes "/" ++ decimal m.0) t.plain (refl, decimal-plain m.0 low);
    })

-- the name of a new index is a valid name of an automatic one
pub name_of-auto : (slots : List Slot) (number : ℕ) (shape : Shape) → number < 2 ^ 64 → length slots + 2 < 2 ^ 64 → is_auto_name (name_of slots number shape) ≡ true
name_of-auto slots number shape small few =
    ap (λ t. t && begins_with_auto (name_of slots number shape)) (fit (is_fit 200 plain) refl) ∙ name_of-begins slots number shape
  where
    plain : List ℕ
    plain = first_free (plain_name shape) slots

    by_number : List ℕ
    by_number = first_free (codes "Auto/" ++ decimal number) slots

    fit : (b : Bool) → is_fit 200 plain ≡ b → is_fit 200 (cond b plain by_number) ≡ true
    fit true e = e
    fit false e =
        let numbered = first_free-numbered (codes "Auto/" ++ decimal number) slots in
        text-fit 200 by_number (numbered-text (codes "Auto/" ++ decimal number) (length slots + 2) by_number few (number-text number small) numbered)

first-true : (a b : Bool) → a && b ≡ true → a ≡ true
first-true true b h = refl
first-true false b h = absurd cc

longer-text : (low high : ℕ) (words : List ℕ) → low ≤ high → IsText low words → IsText high words
longer-text low high words le t = record { some = t.some; few = let f = t.few in omega arith; plain = t.plain }

-- a name behind the prefix of replacements is one of at most 214 bytes
replacement-text : (name : List ℕ) → begins_with_replacement name ≡ true → IsText 200 (drop 14 name) → IsText 214 name
replacement-text name is t = text-other 214 name (replacement_of (drop 14 name)) (behind name is) (record {
  some = omega arith;
  few = let f = t.few in omega arith;
  plain = (refl, (refl, (refl, (refl, (refl, (refl, (refl, (refl, (refl, (refl, (refl, (refl, (refl, (refl, t.plain))))))))))))));
})

static-text : (name : List ℕ) → is_static_name name ≡ true → IsText 200 name
static-text name h = fit-text 200 name (first-true (is_fit 200 name) (not (is_reserved_name name)) h)

pub static-fit : (name : List ℕ) → is_static_name name ≡ true → is_fit 214 name ≡ true
static-fit name h = text-fit 214 name (longer-text 200 214 name (omega arith) (static-text name h))

auto-fit : (name : List ℕ) → is_auto_name name ≡ true → is_fit 214 name ≡ true
auto-fit name h = text-fit 214 name (longer-text 200 214 name (omega arith) (fit-text 200 name (first-true (is_fit 200 name) (begins_with_auto name) h)))

pub named-fit : (d : Definition) (name : List ℕ) → may_be_named d name ≡ true → is_fit 214 name ≡ true
named-fit (Static map reduce map_text reduce_text) name h =
    elim (begins_with_replacement name) as (λ b. begins_with_replacement name ≡ b → is_static_name (cond b (drop 14 name) name) ≡ true → is_fit 214 name ≡ true) [
      | true ↦ λ e g. text-fit 214 name (replacement-text name e (static-text (drop 14 name) g))
      | false ↦ λ e g. text-fit 214 name (longer-text 200 214 name (omega arith) (static-text name g))
    ] refl h
named-fit (Auto collection fields) name h = auto-fit name h
named-fit (AutoReduce collection groups sums) name h = auto-fit name h

-- the name of an automatic index is reserved
not-given : (name : List ℕ) → is_auto_name name ≡ true → is_reserved_name name ≡ false → ⊥
not-given name h free =
    let f = either_false (begins_with_auto name) (begins_with_replacement name) free in
    let g = both_true (is_fit 200 name) (begins_with_auto name) h in
    let e = sym g.1 ∙ f.0 in cc

-- an index whose name a client gave has a valid name
pub given-static : (d : Definition) (name : List ℕ) → may_be_named d name ≡ true → is_reserved_name name ≡ false → is_static_name name ≡ true
given-static (Static map reduce map_text reduce_text) name h free =
    let f = either_false (begins_with_auto name) (begins_with_replacement name) free in ap (λ b. is_static_name (cond b (drop 14 name) name)) (sym f.1) ∙ h
given-static (Auto collection fields) name h free = absurd (not-given name h free)
given-static (AutoReduce collection groups sums) name h free = absurd (not-given name h free)

-- and a definition by texts may have it, also behind the prefix of replacements
pub static-named : (d : Definition) (name : List ℕ) → is_automatic d ≡ false → is_reserved_name name ≡ false → is_static_name name ≡ true → may_be_named d name ≡ true
static-named (Static map reduce map_text reduce_text) name is free h =
    let f = either_false (begins_with_auto name) (begins_with_replacement name) free in ap (λ b. is_static_name (cond b (drop 14 name) name)) f.1 ∙ h
static-named (Auto collection fields) name is free h = absurd cc
static-named (AutoReduce collection groups sums) name is free h = absurd cc

pub replacement-named : (d : Definition) (name : List ℕ) → is_automatic d ≡ false → is_static_name name ≡ true → may_be_named d (replacement_of name) ≡ true
replacement-named (Static map reduce map_text reduce_text) name is h = h
replacement-named (Auto collection fields) name is h = absurd cc
replacement-named (AutoReduce collection groups sums) name is h = absurd cc

-- HOW MANY SLOTS THERE CAN BE

pub few_slots : (low top : ℕ) (slots : List Slot) → low ≤ top → NumbersRise low slots → ((s : Slot) → Has slots s → s.number ≤ top) → low + length slots ≤ top
few_slots low top [] le up under = omega arith
few_slots low top (s ∷ slots) le up under =
    let more = few_slots s.number top slots (under s (inl refl)) up.1 (λ x h. under x (inr h)) in let a = up.0 in omega arith
