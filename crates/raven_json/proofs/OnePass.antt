-- The library's tree and our value, a turn of each loop at a time.
use Rattle.std.proofs.Common.{◌≡◌, ℕ, ◌-◌, ◌<◌, ◌≤◌, ℤ, List, [], ◌∷◌, ◌++◌, length, Bool, false, Option, Some, None, option_map, option_and_then, Ordering, Less, Equal, Greater, IsUtf8, Ok, refl, sym, ap, ◌∙◌, append_assoc, append-nil, subst}
use Rattle.std.proofs.lemmas.Cmp.{nat_list_cmp_total}
use Rattle.std.proofs.lemmas.Map.Lookups.{exact_bytes}
use Rattle.std.specs.Ordering.{match_ordering, ordering_reverse}
use Rattle.json.specs.Json as tree
use Rattle.json.specs.Json.{Parse, parse_map, after_end_array, read_key, value, items, members, if_last}
use Rattle.json.specs.Lex.{tokens}
use Rattle.json.specs.Token.{Token}
use Rattle.json.proofs.Grammar.{value_is, value-begin_array, value-begin_object, items_end, items_more, members_end, members_more}
use Rattle.serde_json.specs.Data as json
use Rattle.serde_json.specs.Find.{as_i64}
use Rattle.serde_json.specs.Read.{of_json, of_items, of_members, converted, number_of}
use Rattle.spec_data.specs.Data.{Data, null, flag, num, text, array, object, entries_of}
use Rattle.spec_data.specs.Data as own
use Rattle.spec_data.specs.Folding.{key_cmp}
use Rattle.spec_data.specs.Json.{value_of, items_of, members_of, reading, or_refusal, number_not_whole}
use Rattle.spec_data.specs.Rising.{Pairs, IsBelowAll, IsRising, put}
use Rattle.spec_data.specs.Scan.{is_too_deep, outside}
use Rattle.raven_json.specs.Whole.{whole_number, front_value, front_items, front_members}
use Rattle.raven_json.proofs.Readings.{is_json}

-- ---- what is converted

abbrev or_else : {A : Type 0} → A → Option A → A
or_else a None = a
or_else a (Some b) = b

same_pair : {B : Type 0} (r s : List Token) (x : Option B) (b : B) → option_map {U = B × List Token} (λ y. (y, r)) x ≡ Some (b, s) → (r ≡ s) × (x ≡ Some b)
same_pair r s None b e = absurd cc
same_pair r s (Some y) b e = let same = ap (or_else (y, r)) e in (ap (λ p. p.1) same, ap (λ p. Some p.0) same)

pub converted_some : {A B : Type 0} (f : A → Option B) (o : Option (A × List Token)) (b : B) (r : List Token) → converted f o ≡ Some (b, r) → (a : A) × (o ≡ Some (a, r)) × (f a ≡ Some b)
converted_some f None b r e = absurd cc
converted_some f (Some p) b r e = let both = same_pair p.1 r (f p.0) b e in (p.0, ap (λ s. Some (p.0, s)) both.0, both.1)

-- ---- one token

pub text_read : (depth : ℕ) (s : List ℕ) (ts : List Token) → front_value depth (Token.string s ∷ ts) ≡ Some (text s, ts)
text_read depth s ts = ap (λ o. converted value_of (converted of_json o)) (value_is depth (Token.string s ∷ ts))

pub flag_read : (depth : ℕ) (b : Bool) (ts : List Token) → front_value depth (Token.boolean b ∷ ts) ≡ Some (flag b, ts)
flag_read depth b ts = ap (λ o. converted value_of (converted of_json o)) (value_is depth (Token.boolean b ∷ ts))

pub null_read : (depth : ℕ) (ts : List Token) → front_value depth (Token.null ∷ ts) ≡ Some (null, ts)
null_read depth ts = ap (λ o. converted value_of (converted of_json o)) (value_is depth (Token.null ∷ ts))

number_valued : (x : Option json.Num) (z : ℤ) (ts : List Token) → option_and_then as_i64 x ≡ Some z
    → converted value_of (option_map (λ d. (d, ts)) (option_map json.number x)) ≡ Some (num z, ts)
number_valued None z ts e = absurd cc
number_valued (Some x) z ts e = rw e refl

pub number_read : (depth : ℕ) (s : List ℕ) (z : ℤ) (ts : List Token) → whole_number s ≡ Some z → front_value depth (Token.number s ∷ ts) ≡ Some (num z, ts)
number_read depth s z ts e = ap (λ o. converted value_of (converted of_json o)) (value_is depth (Token.number s ∷ ts)) ∙ number_valued (number_of s) z ts e

-- ---- lists and objects

list_of : (x : Option json.Items) (vs : List Data) (r s : List Token) → converted (λ ds. items_of ds []) (option_map (λ y. (y, r)) x) ≡ Some (vs, s)
    → converted value_of (option_map (λ y. (y, r)) (option_map json.array x)) ≡ Some (array (own.items_of vs), s)
list_of None vs r s e = absurd cc
list_of (Some ds) vs r s e = let both = same_pair r s (items_of ds []) vs e in rw both.1 (ap (λ t. Some (array (own.items_of vs), t)) both.0)

list_valued : (o : Option (tree.Items × List Token)) (vs : List Data) (r : List Token) → converted (λ ds. items_of ds []) (converted of_items o) ≡ Some (vs, r)
    → converted value_of (converted of_json (parse_map tree.array o)) ≡ Some (array (own.items_of vs), r)
list_valued None vs r e = absurd cc
list_valued (Some p) vs r e = list_of (of_items p.0) vs p.1 r e

map_of : (x : Option json.Members) (ps : Pairs) (r s : List Token) → converted (λ ms. members_of ms []) (option_map (λ y. (y, r)) x) ≡ Some (ps, s)
    → converted value_of (option_map (λ y. (y, r)) (option_map json.object x)) ≡ Some (object (entries_of ps), s)
map_of None ps r s e = absurd cc
map_of (Some ms) ps r s e = let both = same_pair r s (members_of ms []) ps e in rw both.1 (ap (λ t. Some (object (entries_of ps), t)) both.0)

map_valued : (o : Option (tree.Members × List Token)) (ps : Pairs) (r : List Token) → converted (λ ms. members_of ms []) (converted (λ ms. of_members ms json.no_members) o) ≡ Some (ps, r)
    → converted value_of (converted of_json (parse_map tree.object o)) ≡ Some (object (entries_of ps), r)
map_valued None ps r e = absurd cc
map_valued (Some p) ps r e = map_of (of_members p.0 json.no_members) ps p.1 r e

pub list_read : (depth : ℕ) (ts r : List Token) (vs : List Data) → 0 < depth → front_items (depth - 1) ts ≡ Some (vs, r)
    → front_value depth (Token.begin_array ∷ ts) ≡ Some (array (own.items_of vs), r)
list_read depth ts r vs some e =
    ap (λ q. converted value_of (converted of_json q)) (value-begin_array depth ts some) ∙ list_valued (items (value (depth - 1)) (length ts) ts) vs r e

pub map_read : (depth : ℕ) (ts r : List Token) (ps : Pairs) → 0 < depth → front_members (depth - 1) ts ≡ Some (ps, r)
    → front_value depth (Token.begin_object ∷ ts) ≡ Some (object (entries_of ps), r)
map_read depth ts r ps some e =
    ap (λ q. converted value_of (converted of_json q)) (value-begin_object depth ts some) ∙ map_valued (members (value (depth - 1)) (length ts) ts) ps r e

-- ---- one more item

item_of : (d : json.Data) (v : Data) (found : List Data) (r : List Token) (x : Option json.Items) → value_of d ≡ Some v
    → converted (λ ds. items_of ds found) (option_map (λ y. (y, r)) (option_map (json.item d) x)) ≡ converted (λ ds. items_of ds (found ++ v ∷ [])) (option_map (λ y. (y, r)) x)
item_of d v found r None e = refl
item_of d v found r (Some ds) e = rw e refl

with_item : (j : tree.Json) (d : json.Data) (v : Data) (found : List Data) (o : Option (tree.Items × List Token)) → of_json j ≡ Some d → value_of d ≡ Some v
    → converted (λ ds. items_of ds found) (converted of_items (parse_map (tree.item j) o)) ≡ converted (λ ds. items_of ds (found ++ v ∷ [])) (converted of_items o)
with_item j d v found None e f = refl
with_item j d v found (Some p) e f = rw e (item_of d v found p.1 (of_items p.0) f)

module _ (p : Parse tree.Json) where
  pub one_more : (n : ℕ) (ts r : List Token) (v : Data) (found : List Data) → 0 < n → after_end_array ts ≡ None → converted value_of (converted of_json (p ts)) ≡ Some (v, r)
      → converted (λ ds. items_of ds found) (converted of_items (items p n ts)) ≡ converted (λ ds. items_of ds (found ++ v ∷ [])) (converted of_items (items p (n - 1) r))
  one_more n ts r v found some going e =
      let d = converted_some value_of (converted of_json (p ts)) v r e in
      let j = converted_some of_json (p ts) d.0 r d.1 in
      ap (λ o. converted (λ ds. items_of ds found) (converted of_items o)) (items_more p n ts r j.0 some going j.1)
      ∙ with_item j.0 d.0 v found (items p (n - 1) r) j.2 d.2

  pub no_more : (n : ℕ) (ts r : List Token) (found : List Data) → length ts ≤ n → after_end_array ts ≡ Some r
      → converted (λ ds. items_of ds found) (converted of_items (items p n ts)) ≡ Some (found, r)
  no_more n ts r found enough e = ap (λ o. converted (λ ds. items_of ds found) (converted of_items o)) (items_end p n ts r enough e)

-- ---- one more member

-- the same names, and the values of these
abbrev pub AreValues : json.Members → Pairs → Type 0
AreValues json.no_members [] = Unit {0}
AreValues json.no_members (p ∷ ps) = ⊥
AreValues (json.member k d ms) [] = ⊥
AreValues (json.member k d ms) (p ∷ ps) = (k ≡ p.0) × (value_of d ≡ Some p.1) × AreValues ms ps

put_by : (o : Ordering) (k l : List ℕ) (d e : json.Data) (v : Data) (p : List ℕ × Data) (ms rest : json.Members) (ps others : Pairs)
    → key_cmp k l ≡ o → value_of d ≡ Some v → AreValues (json.member l e ms) (p ∷ ps) → AreValues rest others
    → AreValues (match_ordering o (json.member k d (json.member l e ms)) (json.member l d ms) (json.member l e rest)) (match_ordering o ((k, v) ∷ p ∷ ps) ((k, v) ∷ ps) (p ∷ others))
put_by Less k l d e v p ms rest ps others is f h r = (refl, f, h)
put_by Equal k l d e v p ms rest ps others is f h r = (sym (exact_bytes k l is), f, h.2)
put_by Greater k l d e v p ms rest ps others is f h r = (h.0, h.1, r)

pub AreValues-put : (k : List ℕ) (d : json.Data) (v : Data) (ms : json.Members) (ps : Pairs) → value_of d ≡ Some v → AreValues ms ps → AreValues (json.put k d ms) (put k v ps)
AreValues-put k d v json.no_members [] f h = (refl, f, tt)
AreValues-put k d v json.no_members (p ∷ ps) f h = absurd h
AreValues-put k d v (json.member l e ms) [] f h = absurd h
AreValues-put k d v (json.member l e ms) (p ∷ ps) f h =
    subst (λ n. AreValues (json.put k d (json.member l e ms)) (match_ordering (key_cmp k n) ((k, v) ∷ p ∷ ps) ((k, v) ∷ ps) (p ∷ put k v ps))) h.0
    (put_by (key_cmp k l) k l d e v p ms (json.put k d ms) ps (put k v ps) refl f h (AreValues-put k d v ms ps f h.2))

member_of : (k : List ℕ) (j : tree.Json) (d : json.Data) (old : json.Members) (o : Option (tree.Members × List Token)) → of_json j ≡ Some d
    → converted (λ ms. of_members ms old) (parse_map (tree.member k j) o) ≡ converted (λ ms. of_members ms (json.put k d old)) o
member_of k j d old None e = refl
member_of k j d old (Some p) e = rw e refl

-- the next member, as the library has it
pub record Next (p : Parse tree.Json) (n : ℕ) (k : List ℕ) (ts r : List Token) (v : Data) (old : json.Members) : Type 0 where
  pub found : json.Data
  pub is_value : value_of found ≡ Some v
  pub goes_on : converted (λ ms. of_members ms old) (members p n ts) ≡ converted (λ ms. of_members ms (json.put k found old)) (members p (n - 1) r)

module _ (p : Parse tree.Json) where
  pub next_member : (n : ℕ) (k : List ℕ) (ts s r : List Token) (v : Data) (old : json.Members) → 0 < n → read_key ts ≡ Some (Some k, s)
      → converted value_of (converted of_json (p s)) ≡ Some (v, r) → Next p n k ts r v old
  next_member n k ts s r v old some key e =
      let d = converted_some value_of (converted of_json (p s)) v r e in
      let j = converted_some of_json (p s) d.0 r d.1 in
      record {
        found = d.0;
        is_value = d.2;
        goes_on = ap (converted (λ ms. of_members ms old)) (members_more p n k ts s r j.0 some key j.1) ∙ member_of k j.0 d.0 old (members p (n - 1) r) j.2;
      }

  pub no_member : (n : ℕ) (ts r : List Token) (old : json.Members) → length ts ≤ n → read_key ts ≡ Some (None, r) → converted (λ ms. of_members ms old) (members p n ts) ≡ Some (old, r)
  no_member n ts r old enough e = ap (converted (λ ms. of_members ms old)) (members_end p n ts r enough e)

-- ---- all members

below_later : (j k : List ℕ) (v : Data) (found ps : Pairs) → IsBelowAll j (found ++ (k, v) ∷ ps) → key_cmp j k ≡ Less
below_later j k v [] ps h = h.0
below_later j k v (q ∷ found) ps h = below_later j k v found ps h.1

put_last : (k : List ℕ) (v : Data) (found ps : Pairs) → IsRising (found ++ (k, v) ∷ ps) → put k v found ≡ found ++ (k, v) ∷ []
put_last k v [] ps h = refl
put_last k v (q ∷ found) ps h =
    let past : key_cmp k q.0 ≡ Greater = nat_list_cmp_total.antisymm k q.0 ∙ ap ordering_reverse (below_later q.0 k v found ps h.0) in
    ap (λ o. match_ordering o ((k, v) ∷ q ∷ found) ((k, v) ∷ found) (q ∷ put k v found)) past ∙ ap (λ more. q ∷ more) (put_last k v found ps h.1)

members_after : (ms : json.Members) (found ps : Pairs) → AreValues ms ps → IsRising (found ++ ps) → members_of ms found ≡ Some (found ++ ps)
members_after json.no_members found [] h r = ap Some (sym (append-nil found))
members_after json.no_members found (p ∷ ps) h r = absurd h
members_after (json.member k d ms) found [] h r = absurd h
members_after (json.member k d ms) found (p ∷ ps) h r =
    let named : put k p.1 found ≡ found ++ p ∷ [] = ap (λ n. put n p.1 found) h.0 ∙ put_last p.0 p.1 found ps r in
    let again : found ++ p ∷ ps ≡ (found ++ p ∷ []) ++ ps = sym (append_assoc found (p ∷ []) ps) in
    ap (option_and_then (λ v. members_of ms (put k v found))) h.1 ∙ ap (members_of ms) named
    ∙ members_after ms (found ++ p ∷ []) ps h.2 (subst (λ (qs : Pairs). IsRising qs) again r) ∙ ap Some (sym again)

pub all_members : (ms : json.Members) (ps : Pairs) (r : List Token) → AreValues ms ps → IsRising ps → converted (λ found. members_of found []) (Some (ms, r)) ≡ Some (ps, r)
all_members ms ps r h up = ap (option_map (λ b. (b, r))) (members_after ms [] ps h up)

-- ---- the whole text

whole_read : (o : Option (tree.Json × List Token)) (d : json.Data) → converted of_json o ≡ Some (d, []) → option_and_then of_json (option_and_then (λ p. if_last p.0 p.1) o) ≡ Some d
whole_read o d e = let j = converted_some of_json o d [] e in ap (λ q. option_and_then of_json (option_and_then (λ p. if_last p.0 p.1) q)) j.1 ∙ j.2

pub whole_reading : (bytes : List ℕ) (v : Data) → is_too_deep outside 0 bytes ≡ false → IsUtf8 bytes → front_value 127 (tokens bytes) ≡ Some (v, []) → reading bytes ≡ Ok v
whole_reading bytes v shallow utf8 e =
    let p = converted_some value_of (converted of_json (value 127 (tokens bytes))) v [] e in
    is_json bytes p.0 shallow utf8 (whole_read (value 127 (tokens bytes)) p.0 p.1) ∙ ap (or_refusal number_not_whole) p.2
