-- What is read is sound, and at most a hundred deep.
use Rattle.std.proofs.Common.{◌≡◌, ℕ, zero, suc, ◌+◌, ◌-◌, ◌^◌, ◌<◌, ◌≤◌, ℤ, pos, neg_ℤ, List, [], ◌∷◌, ◌++◌, Bool, true, false, cond, ◌&&◌, ◌==◌, nat_lt, nat_le, length, drop, Option, Some, None, option_map, option_and_then, Result, Ok, Err, IsUtf8, FitsSigned, w64, Less, Equal, Greater, refl, ap, subst, arith}
use Rattle.std.proofs.lemmas.Bool.{ltb-true, leb-true}
use Rattle.std.proofs.lemmas.Str.{IsUtf8-from_is_utf8}
use Rattle.std.specs.Ordering.{match_ordering}
use Rattle.std.specs.Prelude.{slice_index}
use Rattle.std.specs.Str.{is_utf8}
use Rattle.fast_float.specs.Text.{Parts, scan}
use Rattle.json.specs.Json as tree
use Rattle.json.specs.Json.{Parse, parse_map, after_end_array, read_key, items_step, members_step, items, members, value_with, value, if_last}
use Rattle.json.specs.Lex.{tokens}
use Rattle.json.specs.Token.{Token}
use Rattle.serde_json.specs.Data as json
use Rattle.serde_json.specs.Data.{Num, unsigned, negative, float}
use Rattle.serde_json.specs.Find.{as_i64}
use Rattle.serde_json.specs.Read.{is_integer, float_of, number_from, number_of, of_json, of_items, of_members, read, max_depth}
use Rattle.spec_data.specs.Data.{Data, null, flag, num, text, array, object, depth, items_depth, entries_depth, Entries, entries_of, pairs_of}
use Rattle.spec_data.specs.Data as own
use Rattle.spec_data.specs.Folding.{key_cmp}
use Rattle.spec_data.specs.Json as is
use Rattle.spec_data.specs.Json.{JsonRefusal, reading, whole, or_refusal, number_not_whole, too_deep, value_of, members_of}
use Rattle.spec_data.specs.Rising.{Pairs, IsRising, put}
use Rattle.spec_data.specs.Scan.{is_too_deep, outside}
use Rattle.spec_data.specs.Sound.{IsSound, AreSound}
use Rattle.raven_json.proofs.Bools.{both_true}
use Rattle.spec_data.proofs.MemberLemmas.{IsRising-put}
use Rattle.raven_json.proofs.PairLemmas.{ArePairsSound, put-sound, put-depth, object-sound}
use Rattle.raven_json.proofs.LexLemmas.{AreGood, tokens-good}

-- TREES: nested no deeper than n, with UTF-8 texts

abbrev mutual
  Fits : ℕ → tree.Json → Type 0
  Fits n tree.null = Unit {0}
  Fits n (tree.boolean b) = Unit {0}
  Fits n (tree.number s) = Unit {0}
  Fits n (tree.string s) = IsUtf8 s
  Fits n (tree.array js) = (0 < n) × ItemsFit (n - 1) js
  Fits n (tree.object ms) = (0 < n) × MembersFit (n - 1) ms

  ItemsFit : ℕ → tree.Items → Type 0
  ItemsFit n tree.no_items = Unit {0}
  ItemsFit n (tree.item j js) = Fits n j × ItemsFit n js

  MembersFit : ℕ → tree.Members → Type 0
  MembersFit n tree.no_members = Unit {0}
  MembersFit n (tree.member k j ms) = IsUtf8 k × (Fits n j × MembersFit n ms)

-- after c open brackets, what is read fits in what is left of a hundred, and what follows it is good
abbrev Reads : {A : Type 0} → (ℕ → A → Type 0) → (ℕ → ℕ) → Parse A → Type 0
Reads {A} P after f = (ts rest : List Token) (a : A) (c : ℕ) → AreGood c ts → f ts ≡ Some (a, rest) → P (100 - c) a × AreGood (after c) rest

abbrev still : ℕ → ℕ
still c = c

abbrev closed : ℕ → ℕ
closed c = c - 1

same_read : {A : Type 0} (a b : A) (s t : List Token) → (let x : Option (A × List Token) = Some (a, s) in x) ≡ Some (b, t) → (a ≡ b) × (s ≡ t)
same_read {A} a b s t h =
    let e : (let x : A × List Token = (a, s) in x) ≡ (b, t) = cc in
    (ap (λ (x : A × List Token). x.0) e, ap (λ (x : A × List Token). x.1) e)

mapped : {A B : Type 0} (f : A → B) (o : Option (A × List Token)) (b : B) (rest : List Token) → parse_map f o ≡ Some (b, rest) → (a : A) × (o ≡ Some (a, rest)) × (f a ≡ b)
mapped f None b rest h = absurd cc
mapped f (Some p) b rest h = let is = same_read (f p.0) b p.1 rest h in (p.0, (λ i. Some (p.0, is.1 i)), is.0)

both-read : {A B : Type 0} (o : Option (A × List Token)) (f : A × List Token → Option (B × List Token)) (r : B × List Token) → option_and_then f o ≡ Some r → (p : A × List Token) × (o ≡ Some p) × (f p ≡ Some r)
both-read None f r h = absurd cc
both-read (Some p) f r h = (p, refl, h)

items-read : (f : Parse tree.Json) → Reads Fits still f → (k : ℕ) → Reads ItemsFit closed (items f k)
unfolding items
items-read f more zero ts rest a c g h = absurd cc
items-read f more (suc k) ts rest a c g h = by (items-read f more k) (after_end_array ts) refl h
  where
    end : (us vs : List Token) → after_end_array us ≡ Some vs → AreGood c us → AreGood (c - 1) vs
    end [] vs e d = absurd cc
    end (Token.begin_object ∷ us) vs e d = absurd cc
    end (Token.end_object ∷ us) vs e d = absurd cc
    end (Token.begin_array ∷ us) vs e d = absurd cc
    end (Token.end_array ∷ us) vs e d = subst (AreGood (c - 1)) (let is : us ≡ vs = cc in is) d
    end (Token.key s ∷ us) vs e d = absurd cc
    end (Token.string s ∷ us) vs e d = absurd cc
    end (Token.number s ∷ us) vs e d = absurd cc
    end (Token.boolean b ∷ us) vs e d = absurd cc
    end (Token.null ∷ us) vs e d = absurd cc
    end (Token.bad ∷ us) vs e d = absurd cc

    by : Reads ItemsFit closed (items f k) → (o : Option (List Token)) → after_end_array ts ≡ o → items_step f (items f k) ts o ≡ Some (a, rest) → ItemsFit (100 - c) a × AreGood (c - 1) rest
    by again (Some vs) e r = let is = same_read tree.no_items a vs rest r in (subst (ItemsFit (100 - c)) is.0 tt, subst (AreGood (c - 1)) is.1 (end ts vs e g))
    by again None e r =
        let p = both-read (f ts) (λ q. parse_map (tree.item q.0) (items f k q.1)) (a, rest) r in
        let one = more ts p.0.1 p.0.0 c g p.1 in
        let q = mapped (tree.item p.0.0) (items f k p.0.1) a rest p.2 in
        let two = again p.0.1 rest q.0 c one.1 q.1 in
        (subst (ItemsFit (100 - c)) q.2 (one.0, two.0), two.1)

members-read : (f : Parse tree.Json) → Reads Fits still f → (k : ℕ) → Reads MembersFit closed (members f k)
unfolding members
members-read f more zero ts rest a c g h = absurd cc
members-read f more (suc k) ts rest a c g h =
    let p = both-read (read_key ts) (λ q. members_step f (members f k) q.0 q.1) (a, rest) h in by (members-read f more k) p.0.0 p.0.1 (at ts p.0.0 p.0.1 p.1 g) p.2
  where
    -- what follows a key, or the end of the object
    Behind : Option (List ℕ) → List Token → Type 0
    Behind None us = AreGood (c - 1) us
    Behind (Some s) us = IsUtf8 s × AreGood c us

    at : (us : List Token) (o : Option (List ℕ)) (vs : List Token) → read_key us ≡ Some (o, vs) → AreGood c us → Behind o vs
    at [] o vs e d = absurd cc
    at (Token.begin_object ∷ us) o vs e d = absurd cc
    at (Token.end_object ∷ us) o vs e d =
        let is : (None ≡ o) × (us ≡ vs) = same_read None o us vs e in
        subst (λ x. Behind x vs) is.0 (subst (AreGood (c - 1)) is.1 d)
    at (Token.begin_array ∷ us) o vs e d = absurd cc
    at (Token.end_array ∷ us) o vs e d = absurd cc
    at (Token.key s ∷ us) o vs e d =
        let is : (Some s ≡ o) × (us ≡ vs) = same_read (Some s) o us vs e in
        subst (λ x. Behind x vs) is.0 (d.0, subst (AreGood c) is.1 d.1)
    at (Token.string s ∷ us) o vs e d = absurd cc
    at (Token.number s ∷ us) o vs e d = absurd cc
    at (Token.boolean b ∷ us) o vs e d = absurd cc
    at (Token.null ∷ us) o vs e d = absurd cc
    at (Token.bad ∷ us) o vs e d = absurd cc

    by : Reads MembersFit closed (members f k) → (o : Option (List ℕ)) (us : List Token) → Behind o us → members_step f (members f k) o us ≡ Some (a, rest) → MembersFit (100 - c) a × AreGood (c - 1) rest
    by again None us d r = let is = same_read tree.no_members a us rest r in (subst (MembersFit (100 - c)) is.0 tt, subst (AreGood (c - 1)) is.1 d)
    by again (Some s) us d r =
        let p = both-read (f us) (λ q. parse_map (tree.member s q.0) (members f k q.1)) (a, rest) r in
        let one = more us p.0.1 p.0.0 c d.1 p.1 in
        let q = mapped (tree.member s p.0.0) (members f k p.0.1) a rest p.2 in
        let two = again p.0.1 rest q.0 c one.1 q.1 in
        (subst (MembersFit (100 - c)) q.2 (d.0, (one.0, two.0)), two.1)

value-with : (a : Parse tree.Items) (o : Parse tree.Members) → Reads ItemsFit closed a → Reads MembersFit closed o → Reads Fits still (value_with a o)
value-with a o f g [] rest j c good h = absurd cc
value-with a o f g (Token.begin_object ∷ ts) rest j c good h =
    let p = mapped tree.object (o ts) j rest h in
    let le = good.0 in
    let one = g ts rest p.0 (c + 1) good.1 p.1 in
    let less : 100 - (c + 1) ≡ 100 - c - 1 = omega arith in
    let back : c + 1 - 1 ≡ c = omega arith in
    (subst (Fits (100 - c)) p.2 (omega arith, subst (λ n. MembersFit n p.0) less one.0), subst (λ n. AreGood n rest) back one.1)
value-with a o f g (Token.end_object ∷ ts) rest j c good h = absurd cc
value-with a o f g (Token.begin_array ∷ ts) rest j c good h =
    let p = mapped tree.array (a ts) j rest h in
    let le = good.0 in
    let one = f ts rest p.0 (c + 1) good.1 p.1 in
    let less : 100 - (c + 1) ≡ 100 - c - 1 = omega arith in
    let back : c + 1 - 1 ≡ c = omega arith in
    (subst (Fits (100 - c)) p.2 (omega arith, subst (λ n. ItemsFit n p.0) less one.0), subst (λ n. AreGood n rest) back one.1)
value-with a o f g (Token.end_array ∷ ts) rest j c good h = absurd cc
value-with a o f g (Token.key s ∷ ts) rest j c good h = absurd cc
value-with a o f g (Token.string s ∷ ts) rest j c good h = let is = same_read (tree.string s) j ts rest h in (subst (Fits (100 - c)) is.0 good.0, subst (AreGood c) is.1 good.1)
value-with a o f g (Token.number s ∷ ts) rest j c good h = let is = same_read (tree.number s) j ts rest h in (subst (Fits (100 - c)) is.0 tt, subst (AreGood c) is.1 good)
value-with a o f g (Token.boolean b ∷ ts) rest j c good h = let is = same_read (tree.boolean b) j ts rest h in (subst (Fits (100 - c)) is.0 tt, subst (AreGood c) is.1 good)
value-with a o f g (Token.null ∷ ts) rest j c good h = let is = same_read tree.null j ts rest h in (subst (Fits (100 - c)) is.0 tt, subst (AreGood c) is.1 good)
value-with a o f g (Token.bad ∷ ts) rest j c good h = absurd cc

value-reads : (n : ℕ) → Reads Fits still (value n)
unfolding value
value-reads zero = value-with (λ ts. None) (λ ts. None) (λ ts rest a c g h. absurd cc) (λ ts rest a c g h. absurd cc)
value-reads (suc n) =
    value-with (λ ts. items (value n) (length ts) ts) (λ ts. members (value n) (length ts) ts)
    (λ ts rest a c g h. items-read (value n) (value-reads n) (length ts) ts rest a c g h)
    (λ ts rest a c g h. members-read (value n) (value-reads n) (length ts) ts rest a c g h)

-- DATA OF THE LIBRARY: nested no deeper than n, with UTF-8 texts and numbers of 64 bits

abbrev NumberFits : Num → Type 0
NumberFits (unsigned n) = Unit {0}
NumberFits (negative z) = FitsSigned w64 z
NumberFits (float x) = Unit {0}

abbrev mutual
  DataFits : ℕ → json.Data → Type 0
  DataFits n json.null = Unit {0}
  DataFits n (json.boolean b) = Unit {0}
  DataFits n (json.number x) = NumberFits x
  DataFits n (json.string s) = IsUtf8 s
  DataFits n (json.array ds) = (0 < n) × ListFits (n - 1) ds
  DataFits n (json.object ms) = (0 < n) × EntriesFit (n - 1) ms

  ListFits : ℕ → json.Items → Type 0
  ListFits n json.no_items = Unit {0}
  ListFits n (json.item d ds) = DataFits n d × ListFits n ds

  EntriesFit : ℕ → json.Members → Type 0
  EntriesFit n json.no_members = Unit {0}
  EntriesFit n (json.member k d ms) = IsUtf8 k × (DataFits n d × EntriesFit n ms)

map-some : {A B : Type 0} (f : A → B) (o : Option A) (b : B) → option_map f o ≡ Some b → (a : A) × (o ≡ Some a) × (f a ≡ b)
map-some f None b h = absurd cc
map-some f (Some a) b h = (a, refl, cc)

then-some : {A B : Type 0} (f : A → Option B) (o : Option A) (b : B) → option_and_then f o ≡ Some b → (a : A) × (o ≡ Some a) × (f a ≡ Some b)
then-some f None b h = absurd cc
then-some f (Some a) b h = (a, refl, h)

same_number : (x y : Num) → Some x ≡ Some y → x ≡ y
same_number x y h = cc

one-number : (b : Bool) (x y : Num) (o : Option Num) → NumberFits x → (o ≡ Some y → NumberFits y) → cond b (Some x) o ≡ Some y → NumberFits y
one-number true x y o f more h = subst NumberFits (same_number x y h) f
one-number false x y o f more h = more h

negative-fits : (b : Bool) (n : ℕ) (y : Num) (o : Option Num) → (o ≡ Some y → NumberFits y) → cond (b && nat_lt 0 n && nat_le n (2 ^ 63)) (Some (negative (neg_ℤ (pos n)))) o ≡ Some y → NumberFits y
negative-fits b n y o more h =
    elim (b && nat_lt 0 n && nat_le n (2 ^ 63)) as (λ t. b && nat_lt 0 n && nat_le n (2 ^ 63) ≡ t → cond t (Some (negative (neg_ℤ (pos n)))) o ≡ Some y → NumberFits y) [
      | true ↦ λ e g.
          let both = both_true (b && nat_lt 0 n) (nat_le n (2 ^ 63)) e in
          let some = ltb-true 0 n (both_true b (nat_lt 0 n) both.0).1 in
          subst NumberFits (same_number _ y g) (small n some (leb-true n (2 ^ 63) both.1))
      | false ↦ λ e g. more g
    ] refl h
  where
    small : (m : ℕ) → 0 < m → m ≤ 2 ^ 63 → FitsSigned w64 (neg_ℤ (pos m))
    small zero p q = absurd (omega arith)
    small (suc m) p q = record { sfits = omega arith }

float-fits : (b : Bool) (x y : Num) → NumberFits x → cond b (Some x) None ≡ Some y → NumberFits y
float-fits true x y f h = subst NumberFits (same_number x y h) f
float-fits false x y f h = absurd cc

finite-fits : (b : Bool) (p : Parts) (y : Num) → float_of b p ≡ Some y → NumberFits y
finite-fits b p y h = float-fits _ (float _) y tt h

from-fits : (b : Bool) (p : Parts) (y : Num) → number_from b p ≡ Some y → NumberFits y
from-fits true p y h = negative-fits (is_integer p) _ y (float_of true p) (λ k. finite-fits true p y k) h
from-fits false p y h = one-number _ (unsigned _) y (float_of false p) tt (λ k. finite-fits false p y k) h

either-fits : (b : Bool) (p q : Option Num) (y : Num) → cond b p q ≡ Some y → (p ≡ Some y → NumberFits y) → (q ≡ Some y → NumberFits y) → NumberFits y
either-fits true p q y e f g = f e
either-fits false p q y e f g = g e

number_of-fits : (s : List ℕ) (y : Num) → number_of s ≡ Some y → NumberFits y
unfolding number_of
number_of-fits s y h = either-fits (slice_index s 0 == 45) (number_from true (scan (drop 1 s))) (number_from false (scan s)) y h (λ g. from-fits true (scan (drop 1 s)) y g) (λ g. from-fits false (scan s) y g)

put-fits : (n : ℕ) (k : List ℕ) (d : json.Data) (ms : json.Members) → IsUtf8 k → DataFits n d → EntriesFit n ms → EntriesFit n (json.put k d ms)
put-fits n k d json.no_members u f h = (u, (f, tt))
put-fits n k d (json.member l e ms) u f h = elim (key_cmp k l) as (λ o. EntriesFit n (match_ordering o (json.member k d (json.member l e ms)) (json.member l d ms) (json.member l e (json.put k d ms)))) [
  | Less ↦ (u, (f, h))
  | Equal ↦ (h.0, (f, h.1.1))
  | Greater ↦ (h.0, (h.1.0, put-fits n k d ms u f h.1.1))
]

mutual
  of-json : (n : ℕ) (j : tree.Json) (d : json.Data) → Fits n j → of_json j ≡ Some d → DataFits n d
  of-json n tree.null d f h = subst (DataFits n) (let e : json.null ≡ d = cc in e) tt
  of-json n (tree.boolean b) d f h = subst (DataFits n) (let e : json.boolean b ≡ d = cc in e) tt
  of-json n (tree.number s) d f h = let p = map-some json.number (number_of s) d h in subst (DataFits n) p.2 (number_of-fits s p.0 p.1)
  of-json n (tree.string s) d f h = subst (DataFits n) (let e : json.string s ≡ d = cc in e) f
  of-json n (tree.array js) d f h = let p = map-some json.array (of_items js) d h in subst (DataFits n) p.2 (f.0, of-items (n - 1) js p.0 f.1 p.1)
  of-json n (tree.object ms) d f h = let p = map-some json.object (of_members ms json.no_members) d h in subst (DataFits n) p.2 (f.0, of-members (n - 1) ms json.no_members p.0 f.1 tt p.1)

  of-items : (n : ℕ) (js : tree.Items) (ds : json.Items) → ItemsFit n js → of_items js ≡ Some ds → ListFits n ds
  of-items n tree.no_items ds f h = subst (ListFits n) (let e : json.no_items ≡ ds = cc in e) tt
  of-items n (tree.item j js) ds f h =
      let p = then-some (λ d. option_map (json.item d) (of_items js)) (of_json j) ds h in
      let q = map-some (json.item p.0) (of_items js) ds p.2 in
      subst (ListFits n) q.2 (of-json n j p.0 f.0 p.1, of-items n js q.0 f.1 q.1)

  of-members : (n : ℕ) (ms : tree.Members) (found out : json.Members) → MembersFit n ms → EntriesFit n found → of_members ms found ≡ Some out → EntriesFit n out
  of-members n tree.no_members found out f g h = subst (EntriesFit n) (let e : found ≡ out = cc in e) g
  of-members n (tree.member k j ms) found out f g h =
      let p = then-some (λ d. of_members ms (json.put k d found)) (of_json j) out h in
      of-members n ms (json.put k p.0 found) out f.1.1 (put-fits n k p.0 found f.0 (of-json n j p.0 f.1.0 p.1) g) p.2

-- VALUES

-- each is sound and no deeper than n
abbrev pub AreFine : ℕ → List Data → Type 0
AreFine n [] = Unit {0}
AreFine n (d ∷ ds) = (IsSound d × (depth d ≤ n)) × AreFine n ds

AreFine-push : (n : ℕ) (ds : List Data) (d : Data) → AreFine n ds → IsSound d × (depth d ≤ n) → AreFine n (ds ++ d ∷ [])
AreFine-push n [] d f g = (g, tt)
AreFine-push n (x ∷ ds) d f g = (f.0, AreFine-push n ds d f.1 g)

fine-sound : (n : ℕ) (ds : List Data) → AreFine n ds → AreSound (own.items_of ds)
fine-sound n [] f = tt
fine-sound n (d ∷ ds) f = (f.0.0, fine-sound n ds f.1)

fine-depth : (n : ℕ) (ds : List Data) → AreFine n ds → items_depth (own.items_of ds) ≤ n
fine-depth n [] f = omega arith
fine-depth n (d ∷ ds) f = let a = f.0.1 in let b = fine-depth n ds f.1 in omega arith

record AreFinePairs (n : ℕ) (ps : Pairs) : Type 0 where
  pub rising : IsRising ps
  pub sound : ArePairsSound ps
  pub shallow : entries_depth (entries_of ps) ≤ n

number-sound : (x : Num) (z : ℤ) → NumberFits x → as_i64 x ≡ Some z → FitsSigned w64 z
number-sound (unsigned n) z f h = elim (nat_lt n (2 ^ 63)) as (λ b. nat_lt n (2 ^ 63) ≡ b → cond b (Some (pos n)) None ≡ Some z → FitsSigned w64 z) [
  | true ↦ λ e g. let low = ltb-true n (2 ^ 63) e in let fits : FitsSigned w64 (pos n) = record { sfits = omega arith } in subst (FitsSigned w64) (let is : pos n ≡ z = cc in is) fits
  | false ↦ λ e g. absurd cc
] refl h
number-sound (negative y) z f h = subst (FitsSigned w64) (let is : y ≡ z = cc in is) f
number-sound (float x) z f h = absurd cc

abbrev pub IsFine : ℕ → Data → Type 0
IsFine n d = IsSound d × (depth d ≤ n)

mutual
  value-fine : (n : ℕ) (j : json.Data) (d : Data) → DataFits n j → value_of j ≡ Some d → IsFine n d
  value-fine n json.null d f h = subst (IsFine n) (let e : null ≡ d = cc in e) (tt, omega arith)
  value-fine n (json.boolean b) d f h = subst (IsFine n) (let e : flag b ≡ d = cc in e) (tt, omega arith)
  value-fine n (json.number x) d f h = let p = map-some num (as_i64 x) d h in subst (IsFine n) p.2 (number-sound x p.0 f p.1, omega arith)
  value-fine n (json.string s) d f h = subst (IsFine n) (let e : text s ≡ d = cc in e) (f, omega arith)
  value-fine n (json.array js) d f h =
      let p = map-some (λ vs. array (own.items_of vs)) (is.items_of js []) d h in
      let g = items-fine (n - 1) js [] p.0 f.1 tt p.1 in
      let some = f.0 in
      subst (IsFine n) p.2 (fine-sound (n - 1) p.0 g, let le = fine-depth (n - 1) p.0 g in omega arith)
  value-fine n (json.object js) d f h =
      let p = map-some (λ ps. object (entries_of ps)) (members_of js []) d h in
      let g = members-fine (n - 1) js [] p.0 f.1 (record { rising = tt; sound = tt; shallow = omega arith }) p.1 in
      let some = f.0 in
      subst (IsFine n) p.2 (object-sound p.0 g.rising g.sound, let le = g.shallow in omega arith)

  items-fine : (n : ℕ) (js : json.Items) (found out : List Data) → ListFits n js → AreFine n found → is.items_of js found ≡ Some out → AreFine n out
  items-fine n json.no_items found out f g h = subst (AreFine n) (let e : found ≡ out = cc in e) g
  items-fine n (json.item j js) found out f g h =
      let p = then-some (λ v. is.items_of js (found ++ v ∷ [])) (value_of j) out h in
      items-fine n js (found ++ p.0 ∷ []) out f.1 (AreFine-push n found p.0 g (value-fine n j p.0 f.0 p.1)) p.2

  members-fine : (n : ℕ) (js : json.Members) (found out : Pairs) → EntriesFit n js → AreFinePairs n found → members_of js found ≡ Some out → AreFinePairs n out
  members-fine n json.no_members found out f g h = subst (AreFinePairs n) (let e : found ≡ out = cc in e) g
  members-fine n (json.member k j js) found out f g h =
      let p = then-some (λ v. members_of js (put k v found)) (value_of j) out h in
      let v = value-fine n j p.0 f.1.0 p.1 in
      members-fine n js (put k p.0 found) out f.1.1 (record {
        rising = IsRising-put k p.0 found g.rising;
        sound = put-sound k p.0 found f.0 v.0 g.sound;
        shallow = put-depth k p.0 found n v.1 g.shallow;
      }) p.2

-- READING

last-is : (j k : tree.Json) (ts : List Token) → if_last j ts ≡ Some k → j ≡ k
last-is j k [] h = cc
last-is j k (t ∷ ts) h = absurd cc

read-fits : (bytes : List ℕ) (d : json.Data) → IsUtf8 bytes → is_too_deep outside 0 bytes ≡ false → read bytes ≡ Some d → DataFits 100 d
read-fits bytes d u shallow h =
    let p = then-some of_json (option_and_then (λ p. if_last p.0 p.1) (value max_depth (tokens bytes))) d h in
    let q = then-some (λ p. if_last p.0 p.1) (value max_depth (tokens bytes)) p.0 p.1 in
    let one = value-reads max_depth (tokens bytes) q.0.1 q.0.0 0 (tokens-good bytes u shallow) q.1 in
    of-json 100 p.0 d (subst (Fits 100) (last-is q.0.0 p.0 q.0.1 q.2) one.0) p.2

same_read_value : (a b : Data) → (let r : Result Data JsonRefusal = Ok a in r) ≡ Ok b → a ≡ b
same_read_value a b h = cc

whole-fine : (o : Option json.Data) (d : Data) → ((j : json.Data) → o ≡ Some j → DataFits 100 j) → whole o ≡ Ok d → IsFine 100 d
whole-fine None d f h = absurd cc
whole-fine (Some j) d f h = elim (value_of j) as (λ o. value_of j ≡ o → or_refusal number_not_whole o ≡ Ok d → IsFine 100 d) [
  | None ↦ λ e g. absurd cc
  | Some v ↦ λ e g. subst (IsFine 100) (same_read_value v d g) (value-fine 100 j v (f j refl) e)
] refl h

-- what is read is sound, and at most a hundred deep
pub reading-fine : (bytes : List ℕ) (d : Data) → reading bytes ≡ Ok d → IsSound d × (depth d ≤ 100)
reading-fine bytes d h =
    elim (is_too_deep outside 0 bytes) as (λ b. is_too_deep outside 0 bytes ≡ b → cond b (Err too_deep) (whole (cond (is_utf8 bytes) (read bytes) None)) ≡ Ok d → IsFine 100 d) [
      | true ↦ λ e g. absurd cc
      | false ↦ λ e g. whole-fine (cond (is_utf8 bytes) (read bytes) None) d (utf8 e) g
    ] refl h
  where
    utf8 : is_too_deep outside 0 bytes ≡ false → (j : json.Data) → cond (is_utf8 bytes) (read bytes) None ≡ Some j → DataFits 100 j
    utf8 shallow j g = elim (is_utf8 bytes) as (λ b. is_utf8 bytes ≡ b → cond b (read bytes) None ≡ Some j → DataFits 100 j) [
      | true ↦ λ u k. read-fits bytes j (IsUtf8-from_is_utf8 bytes u) shallow k
      | false ↦ λ u k. absurd cc
    ] refl g
