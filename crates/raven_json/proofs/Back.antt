-- A sound value, as `serde_json` has it, is read back, and converted back.
use Rattle.std.proofs.Common.{◌≡◌, ℕ, suc, max, ◌≤◌, ◌<◌, ◌^◌, ℤ, pos, negsuc, List, [], ◌∷◌, ◌++◌, Option, Some, option_map, option_and_then, Less, Greater, refl, sym, ap, ◌∙◌, append_assoc, append-nil, arith, lt-ltb, FitsSigned, w64}
use Rattle.std.proofs.lemmas.Cmp.{nat_list_cmp_total}
use Rattle.std.specs.Ordering.{ordering_reverse}
use Rattle.json.specs.Json as tree
use Rattle.json.specs.Tree.{json_tokens, HasNumbers, ItemsHaveNumbers, MembersHaveNumbers, depth as tree_depth, items_depth as tree_items_depth, members_depth as tree_members_depth}
use Rattle.json.specs.Lex.{tokens}
use Rattle.json.specs.Token.{Token}
use Rattle.json.proofs.Printed.Decimals.{IsNumber-decimal, IsNumber-signed_decimal}
use Rattle.json.proofs.Printed.Tokens.{tokens-print}
use Rattle.json.proofs.Printed.Trees.{value-json_tokens, ArePrintable-json_tokens}
use Rattle.serde_json.specs.Data as json
use Rattle.serde_json.specs.Find.{of_integer}
use Rattle.serde_json.specs.Read.{of_json, of_items, of_members, number_of, read, max_depth}
use Rattle.serde_json.specs.Written.{outline, items_outline, members_outline, compact_text, number_text}
use Rattle.serde_json.proofs.Numbers.{number_of-decimal, number_of-negative}
use Rattle.serde_json.proofs.Texts.{print-outline}
use Rattle.spec_data.specs.Data.{Data, null, flag, num, text, array, object, Items, no_items, item, Entries, no_entries, entry, depth, items_depth, entries_depth, items_of, list_of, entries_of, pairs_of}
use Rattle.spec_data.specs.Folding.{key_cmp}
use Rattle.spec_data.specs.Json as is
use Rattle.spec_data.specs.Rising.{IsBelowAll, IsRising, put}
use Rattle.spec_data.specs.Sound.{IsSound, AreSound, HasSound}
use Rattle.raven_json.proofs.Compact.{json_of, items_json, members_json}

-- ---- numbers

number_back : (z : ℤ) → FitsSigned w64 z → number_of (number_text (of_integer z)) ≡ Some (of_integer z)
number_back (pos n) h = number_of-decimal n (omega (arith, h.sfits))
number_back (negsuc n) h = number_of-negative n (omega (arith, h.sfits))

numbered : (z : ℤ) → FitsSigned w64 z → HasNumbers (outline (json.number (of_integer z)))
numbered (pos n) h = IsNumber-decimal n (omega (arith, h.sfits))
numbered (negsuc n) h = IsNumber-signed_decimal (negsuc n) (omega (arith, h.sfits))

whole_back : (z : ℤ) → FitsSigned w64 z → is.value_of (json.number (of_integer z)) ≡ Some (num z)
whole_back (pos n) h = let few : n < 2 ^ 63 = omega (arith, h.sfits) in rw (lt-ltb n (2 ^ 63) few) refl
whole_back (negsuc n) h = refl

-- ---- each number has its text, and nothing is deeper

mutual
  numbers : (d : Data) → IsSound d → HasNumbers (outline (json_of d))
  numbers null h = tt
  numbers (flag b) h = tt
  numbers (num z) h = numbered z h
  numbers (text s) h = tt
  numbers (array ds) h = items_numbers ds h
  numbers (object ms) h = members_numbers ms h.1

  items_numbers : (ds : Items) → AreSound ds → ItemsHaveNumbers (items_outline (items_json ds))
  items_numbers no_items h = tt
  items_numbers (item d ds) h = (numbers d h.0, items_numbers ds h.1)

  members_numbers : (ms : Entries) → HasSound ms → MembersHaveNumbers (members_outline (members_json ms))
  members_numbers no_entries h = tt
  members_numbers (entry k d ms) h = (numbers d h.1.0, members_numbers ms h.1.1)

mutual
  depth_same : (d : Data) → tree_depth (outline (json_of d)) ≡ depth d
  depth_same null = refl
  depth_same (flag b) = refl
  depth_same (num z) = refl
  depth_same (text s) = refl
  depth_same (array ds) = ap (λ n. suc n) (items_depth_same ds)
  depth_same (object ms) = ap (λ n. suc n) (members_depth_same ms)

  items_depth_same : (ds : Items) → tree_items_depth (items_outline (items_json ds)) ≡ items_depth ds
  items_depth_same no_items = refl
  items_depth_same (item d ds) = λ i. max (depth_same d i) (items_depth_same ds i)

  members_depth_same : (ms : Entries) → tree_members_depth (members_outline (members_json ms)) ≡ entries_depth ms
  members_depth_same no_entries = refl
  members_depth_same (entry k d ms) = λ i. max (depth_same d i) (members_depth_same ms i)

-- ---- a member past all others goes in at the end

abbrev joined : json.Members → json.Members → json.Members
joined json.no_members more = more
joined (json.member k d ms) more = json.member k d (joined ms more)

joined_one : (ms : json.Members) (k : List ℕ) (d : json.Data) (more : json.Members) → joined (joined ms (json.member k d json.no_members)) more ≡ joined ms (json.member k d more)
joined_one json.no_members k d more = refl
joined_one (json.member l e ms) k d more = ap (json.member l e) (joined_one ms k d more)

-- each name is below k
abbrev AreBelow : Entries → List ℕ → Type 0
AreBelow no_entries k = Unit {0}
AreBelow (entry l e ms) k = (key_cmp l k ≡ Less) × AreBelow ms k

above : (l k : List ℕ) → key_cmp l k ≡ Less → key_cmp k l ≡ Greater
above l k h = nat_list_cmp_total.antisymm k l ∙ ap ordering_reverse h

abbrev with_last : Entries → List ℕ → Data → Entries
with_last no_entries k d = entry k d no_entries
with_last (entry l e ms) k d = entry l e (with_last ms k d)

json_put_last : (found : Entries) (k : List ℕ) (d : Data) → AreBelow found k → json.put k (json_of d) (members_json found) ≡ members_json (with_last found k d)
json_put_last no_entries k d h = refl
json_put_last (entry l e ms) k d h = rw (above l k h.0) (ap (json.member l (json_of e)) (json_put_last ms k d h.1))

put_last : (found : Entries) (k : List ℕ) (d : Data) → AreBelow found k → put k d (pairs_of found) ≡ pairs_of (with_last found k d)
put_last no_entries k d h = refl
put_last (entry l e ms) k d h = rw (above l k h.0) (ap (λ s. (l, e) ∷ s) (put_last ms k d h.1))

abbrev after : Entries → Entries → Entries
after no_entries ms = ms
after (entry l e found) ms = entry l e (after found ms)

after_last : (found : Entries) (k : List ℕ) (d : Data) (ms : Entries) → after (with_last found k d) ms ≡ after found (entry k d ms)
after_last no_entries k d ms = refl
after_last (entry l e found) k d ms = ap (entry l e) (after_last found k d ms)

after_none : (found : Entries) → after found no_entries ≡ found
after_none no_entries = refl
after_none (entry l e found) = ap (entry l e) (after_none found)

-- what was found is below all that comes
abbrev ArePast : Entries → Entries → Type 0
ArePast found no_entries = Unit {0}
ArePast found (entry k d ms) = AreBelow found k × ArePast found ms

below_last : (found : Entries) (k : List ℕ) (d : Data) (l : List ℕ) → AreBelow found l → key_cmp k l ≡ Less → AreBelow (with_last found k d) l
below_last no_entries k d l h e = (e, tt)
below_last (entry j f found) k d l h e = (h.0, below_last found k d l h.1 e)

past_last : (found : Entries) (k : List ℕ) (d : Data) (ms : Entries) → ArePast found ms → IsBelowAll k (pairs_of ms) → ArePast (with_last found k d) ms
past_last found k d no_entries h b = tt
past_last found k d (entry l e ms) h b = (below_last found k d l h.0 b.0, past_last found k d ms h.1 b.1)

past_none : (ms : Entries) → ArePast no_entries ms
past_none no_entries = tt
past_none (entry k d ms) = (tt, past_none ms)

-- ---- back from the tree

back_item : (d : json.Data) (ds : json.Items) (j : tree.Json) (js : tree.Items) → of_json j ≡ Some d → of_items js ≡ Some ds → of_items (tree.item j js) ≡ Some (json.item d ds)
back_item d ds j js e f = rw (e, f) refl

mutual
  back : (d : Data) → IsSound d → of_json (outline (json_of d)) ≡ Some (json_of d)
  back null h = refl
  back (flag b) h = refl
  back (num z) h = ap (option_map json.number) (number_back z h)
  back (text s) h = refl
  back (array ds) h = ap (option_map json.array) (back_items ds h)
  back (object ms) h = ap (option_map json.object) (back_members ms no_entries h.1 h.0 (past_none ms))

  back_items : (ds : Items) → AreSound ds → of_items (items_outline (items_json ds)) ≡ Some (items_json ds)
  back_items no_items h = refl
  back_items (item d ds) h = back_item (json_of d) (items_json ds) (outline (json_of d)) (items_outline (items_json ds)) (back d h.0) (back_items ds h.1)

  back_members : (ms found : Entries) → HasSound ms → IsRising (pairs_of ms) → ArePast found ms
      → of_members (members_outline (members_json ms)) (members_json found) ≡ Some (members_json (after found ms))
  back_members no_entries found h r p = ap (λ ms. Some (members_json ms)) (sym (after_none found))
  back_members (entry k d ms) found h r p =
      ap (option_and_then (λ e. of_members (members_outline (members_json ms)) (json.put k e (members_json found)))) (back d h.1.0)
      ∙ ap (of_members (members_outline (members_json ms))) (json_put_last found k d p.0)
      ∙ back_members ms (with_last found k d) h.1.1 r.1 (past_last found k d ms p.1 r.0)
      ∙ ap (λ ms. Some (members_json ms)) (after_last found k d ms)

-- ---- back from `serde_json`

items_of-list_of : (ds : Items) → items_of (list_of ds) ≡ ds
items_of-list_of no_items = refl
items_of-list_of (item d ds) = ap (item d) (items_of-list_of ds)

pub entries_of-pairs_of : (ms : Entries) → entries_of (pairs_of ms) ≡ ms
entries_of-pairs_of no_entries = refl
entries_of-pairs_of (entry k d ms) = ap (entry k d) (entries_of-pairs_of ms)

mutual
  pub converted : (d : Data) → IsSound d → is.value_of (json_of d) ≡ Some d
  converted null h = refl
  converted (flag b) h = refl
  converted (num z) h = whole_back z h
  converted (text s) h = refl
  converted (array ds) h = ap (option_map (λ vs. array (items_of vs))) (converted_items ds [] h) ∙ ap (λ ds. Some (array ds)) (items_of-list_of ds)
  converted (object ms) h =
      ap (option_map (λ ps. object (entries_of ps))) (converted_members ms no_entries h.1 h.0 (past_none ms)) ∙ ap (λ ms. Some (object ms)) (entries_of-pairs_of ms)

  converted_items : (ds : Items) (found : List Data) → AreSound ds → is.items_of (items_json ds) found ≡ Some (found ++ list_of ds)
  converted_items no_items found h = ap Some (sym (append-nil found))
  converted_items (item d ds) found h =
      ap (option_and_then (λ v. is.items_of (items_json ds) (found ++ v ∷ []))) (converted d h.0)
      ∙ converted_items ds (found ++ d ∷ []) h.1
      ∙ ap Some (append_assoc found (d ∷ []) (list_of ds))

  converted_members : (ms found : Entries) → HasSound ms → IsRising (pairs_of ms) → ArePast found ms
      → is.members_of (members_json ms) (pairs_of found) ≡ Some (pairs_of (after found ms))
  converted_members no_entries found h r p = ap (λ ms. Some (pairs_of ms)) (sym (after_none found))
  converted_members (entry k d ms) found h r p =
      ap (option_and_then (λ v. is.members_of (members_json ms) (put k v (pairs_of found)))) (converted d h.1.0)
      ∙ ap (is.members_of (members_json ms)) (put_last found k d p.0)
      ∙ converted_members ms (with_last found k d) h.1.1 r.1 (past_last found k d ms p.1 r.0)
      ∙ ap (λ ms. Some (pairs_of ms)) (after_last found k d ms)

-- ---- the text is read back

abbrev whole : Option (tree.Json × List Token) → Option json.Data
whole o = option_and_then of_json (option_and_then (λ p. tree.if_last p.0 p.1) o)

pub read_text : (d : Data) → IsSound d → depth d ≤ max_depth → read (compact_text (json_of d)) ≡ Some (json_of d)
read_text d h few =
    let j = outline (json_of d) in
    let same = ap tokens (sym (print-outline (json_of d))) ∙ tokens-print (json_tokens j) (ArePrintable-json_tokens j (numbers d h)) ∙ sym (append-nil (json_tokens j)) in
    let deep : tree_depth j ≤ max_depth = rw (depth_same d) few in
    ap (λ ts. whole (tree.value max_depth ts)) same ∙ ap whole (value-json_tokens j max_depth [] deep) ∙ back d h
