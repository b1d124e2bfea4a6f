-- The text of a value is the compact text of the same value of `serde_json`.
use Rattle.std.proofs.Common.{◌≡◌, ℕ, ℤ, pos, negsuc, List, [], ◌∷◌, ◌++◌, Bool, true, false, inl, inr, refl, ap, ◌∙◌, append_assoc, flat_map, ne_eqb}
use Rattle.std.proofs.lemmas.Bool.{cases_eq}
use Rattle.json.specs.Print.{escape_byte, quoted as json_quoted}
use Rattle.serde_json.specs.Data as json
use Rattle.serde_json.specs.Find.{of_integer}
use Rattle.serde_json.specs.Written.{compact_text, items_text as json_items_text, members_text as json_members_text}
use Rattle.spec_data.specs.Data.{Data, null, flag, num, text, array, object, Items, no_items, item, Entries, no_entries, entry}
use Rattle.spec_data.specs.Written.{escaped, quoted, comma_if, text_of, items_text, entries_text}

-- the same value
abbrev mutual
  pub json_of : Data → json.Data
  json_of null = json.null
  json_of (flag b) = json.boolean b
  json_of (num z) = json.number (of_integer z)
  json_of (text s) = json.string s
  json_of (array ds) = json.array (items_json ds)
  json_of (object ms) = json.object (members_json ms)

  pub items_json : Items → json.Items
  items_json no_items = json.no_items
  items_json (item d ds) = json.item (json_of d) (items_json ds)

  pub members_json : Entries → json.Members
  members_json no_entries = json.no_members
  members_json (entry k d ms) = json.member k (json_of d) (members_json ms)

escaped_same : (b : ℕ) → escaped b ≡ escape_byte b
unfolding escape_byte
escaped_same b = elim (cases_eq b 34) [
  | inl e ↦ rw e refl
  | inr n34 ↦ elim (cases_eq b 92) [
    | inl e ↦ rw e refl
    | inr n92 ↦ elim (cases_eq b 8) [
      | inl e ↦ rw e refl
      | inr n8 ↦ elim (cases_eq b 9) [
        | inl e ↦ rw e refl
        | inr n9 ↦ elim (cases_eq b 10) [
          | inl e ↦ rw e refl
          | inr n10 ↦ elim (cases_eq b 12) [
            | inl e ↦ rw e refl
            | inr n12 ↦ elim (cases_eq b 13) [
              | inl e ↦ rw e refl
              | inr n13 ↦ rw (ne_eqb b 34 n34, ne_eqb b 92 n92, ne_eqb b 8 n8, ne_eqb b 9 n9, ne_eqb b 10 n10, ne_eqb b 12 n12, ne_eqb b 13 n13) refl
            ]
          ]
        ]
      ]
    ]
  ]
]

pub quoted_same : (s : List ℕ) → quoted s ≡ json_quoted s
quoted_same s = ap (λ f. 34 ∷ (flat_map f s ++ 34 ∷ [])) (λ i b. escaped_same b i)

number_same : (z : ℤ) → text_of (num z) ≡ compact_text (json.number (of_integer z))
number_same (pos n) = refl
number_same (negsuc n) = refl

flag_same : (b : Bool) → text_of (flag b) ≡ compact_text (json.boolean b)
flag_same true = refl
flag_same false = refl

regroup : (a b c d : List ℕ) → (a ++ (b ++ c)) ++ d ≡ a ++ (b ++ (c ++ d))
regroup a b c d = append_assoc a (b ++ c) d ∙ ap (λ s. a ++ s) (append_assoc b c d)

regroup_member : (a q v c d : List ℕ) → (a ++ (q ++ 58 ∷ (v ++ c))) ++ d ≡ a ++ (q ++ 58 ∷ (v ++ (c ++ d)))
regroup_member a q v c d = regroup a q (58 ∷ (v ++ c)) d ∙ ap (λ s. a ++ (q ++ 58 ∷ s)) (append_assoc v c d)

mutual
  pub text_same : (d : Data) → text_of d ≡ compact_text (json_of d)
  text_same null = refl
  text_same (flag b) = flag_same b
  text_same (num z) = number_same z
  text_same (text s) = quoted_same s
  text_same (array ds) = ap (λ s. 91 ∷ s) (items_same false ds)
  text_same (object ms) = ap (λ s. 123 ∷ s) (entries_same false ms)

  items_same : (later : Bool) (ds : Items) → items_text later ds ++ 93 ∷ [] ≡ json_items_text later (items_json ds)
  items_same later no_items = refl
  items_same later (item d ds) =
      regroup (comma_if later) (text_of d) (items_text true ds) (93 ∷ [])
      ∙ (λ i. comma_if later ++ (text_same d i ++ items_same true ds i))

  entries_same : (later : Bool) (ms : Entries) → entries_text later ms ++ 125 ∷ [] ≡ json_members_text later (members_json ms)
  entries_same later no_entries = refl
  entries_same later (entry k d ms) =
      regroup_member (comma_if later) (quoted k) (text_of d) (entries_text true ms) (125 ∷ [])
      ∙ (λ i. comma_if later ++ (quoted_same k i ++ 58 ∷ (text_same d i ++ entries_same true ms i)))
