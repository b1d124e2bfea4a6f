-- What bodies of rows say.
use Rattle.std.proofs.Common.{◌≡◌, ℕ, suc, ◌-◌, List, [], ◌∷◌, ◌++◌, length, Bool, true, false, cond, ◌||◌, IfOk, option_map, Option, Some, None, Result, Ok, Err, map, refl, sym, ap, ◌∙◌, subst, arith}
use Rattle.std.proofs.lemmas.Grind.{common_steps}
use Rattle.std.proofs.lemmas.Slice.Eq.{bytes_eq-Decides}
use Rattle.std.specs.List.{list_any}
use Rattle.std.specs.Prelude.{◌==◌, if◌then◌else◌, codes}
use Rattle.std.specs.Str.{bytes_eq}
use Rattle.spec_data.specs.Data.{Data, Entries, object, pairs_of, entries_of}
use Rattle.spec_data.specs.Members.{Path, member}
use Rattle.spec_data.specs.Rising.{Pairs, without}
use Rattle.spec_data.proofs.MemberLemmas.{pairs_of-entries_of}
use Rattle.raven_value.specs.View.{data_of, pair_of}
use Rattle.raven_value.specs.declared.text.Text.{Text}
use Rattle.raven_value.specs.declared.value.Value.{Value}
use Rattle.index_tree.specs.Definitions.{Definition, Texts}
use Rattle.index_tree.specs.Mapper.{count_name, sum_name}
use Rattle.index_tree.specs.declared.reduce_query.FoldMember.{FoldMember}
use Rattle.spec_index.specs.Reduces.{has_quotient, is_quotient, key_member, sum_member}
use Rattle.spec_server.specs.Opening.{BodyForm, NoForm, AutoForm, StaticForm, auto_read, body_form, dividing, first_form, form_by, form_of, is_empty_object, is_two, reduce_form, reduce_read, texts_read, without_version}
use Rattle.index_definition.specs.DefinitionView.{automatic, definition_view}
use Rattle.index_definition.specs.RefusalView.{refusal_view}
use Rattle.index_definition.specs.declared.definition.Definition as program
use Rattle.index_definition.specs.declared.definition.DefBody.{DefBody}
use Rattle.index_definition.specs.declared.definition.DefBody.TheVariants.{Auto}
use Rattle.index_definition.specs.declared.shape.Shape.{Shape}
use Rattle.raven_base.specs.declared.memory.NoMemory.{NoMemory}
use Rattle.index_definition.specs.declared.refusal.Part.{Part}
use Rattle.index_definition.specs.declared.refusal.LangKind.{LangKind}
use Rattle.index_definition.specs.declared.refusal.LangRefusal.TheVariants.{At}
use Rattle.index_lang.specs.Bodies.{form_by_count, form_in, in_version, reduce_form_in, says_two}
use Rattle.index_lang.specs.Openings.{IsOfForm, IsSaid, unless_divided}
use Rattle.index_lang.specs.Parse.{IsParsed}

bare : (ps : List (Text × Value)) → (length ps == 0) ≡ is_empty_object (Some (object (entries_of (map pair_of ps))))
bare [] = refl
bare (p ∷ ps) = let some : (length (p ∷ ps) == 0) ≡ false = grind (arith, common_steps) in some

pub bare-members : (ps : List (Text × Value)) (ms : Pairs) (b : Bool) → map pair_of ps ≡ ms → b ≡ (length ps == 0) → b ≡ is_empty_object (Some (object (entries_of ms)))
bare-members ps ms b is h = h ∙ bare ps ∙ ap (λ xs. is_empty_object (Some (object (entries_of xs)))) is

pub ruleset bodies = (bare-members)

-- QUOTIENTS

any_joined : {A : Type 0} (f : A → Bool) (xs ys : List A) → list_any f xs ≡ false → list_any f ys ≡ false → list_any f (xs ++ ys) ≡ false
any_joined f [] ys h g = g
any_joined f (x ∷ xs) ys h g = elim (f x) as (λ b. b || list_any f xs ≡ false → b || list_any f (xs ++ ys) ≡ false) [ true ↦ λ k. k | false ↦ λ k. any_joined f xs ys k g ] h

abbrev divides_by : FoldMember → Bool
divides_by m = is_quotient m.value

keys_undivided : (groups : List Path) → list_any divides_by (map key_member groups) ≡ false
keys_undivided [] = refl
keys_undivided (g ∷ groups) = keys_undivided groups

sums_undivided : (sums : List Path) → list_any divides_by (map (λ path. sum_member (sum_name path)) sums) ≡ false
sums_undivided [] = refl
sums_undivided (s ∷ sums) = sums_undivided sums

undivided : (collection : List ℕ) (groups : Option (List Path)) (fields : List Path) → has_quotient (automatic collection groups fields) ≡ false
undivided collection None fields = refl
undivided collection (Some groups) fields =
    any_joined divides_by (map key_member groups) (sum_member count_name ∷ map (λ path. sum_member (sum_name path)) fields) (keys_undivided groups) (sums_undivided fields)

-- an automatic definition has none
pub auto-undivided : (body : DefBody) (shape : Shape) → body ≡ Auto shape → has_quotient (definition_view body) ≡ false
auto-undivided body shape is = ap (λ b. has_quotient (definition_view b)) is ∙ undivided shape.collection shape.groups shape.fields

pub ruleset quotients = (auto-undivided)

-- TEXTS

pub says-definition : (may_divide : Bool) (name map : List ℕ) (reduce : Option (List ℕ)) (definition : program.Definition) (d : Option Definition) → IsParsed name map reduce (Ok definition)
    → d ≡ unless_divided may_divide (Some (definition_view definition.body)) → IsSaid may_divide (map, reduce) d
says-definition may_divide name map reduce definition d h told = record {
  answer = Ok (definition_view definition.body);
  says = record { name = name; definition = definition; given = h; seen = refl };
  told = told;
}

pub says-nothing : (may_divide : Bool) (name map : List ℕ) (reduce : Option (List ℕ)) (part : Part) (at : ℕ) (kind : LangKind) → IsParsed name map reduce (Err (At part at kind)) → IsSaid may_divide (map, reduce) None
says-nothing may_divide name map reduce part at kind h = record {
  answer = Err (refusal_view part at kind);
  says = record { name = name; part = part; at = at; kind = kind; given = h; seen = refl };
  told = elim may_divide as (λ b. None ≡ unless_divided b None) [ true ↦ refl | false ↦ refl ];
}

pub ruleset sayings = (says-definition, says-nothing)

-- FORMS

pub form-auto : (may_divide : Bool) (auto : Option Definition) (read : Option Texts) (d : Definition) → Some d ≡ auto → IsOfForm (in_version may_divide (form_of auto read)) (Some d)
form-auto may_divide auto read d h =
    subst (λ o. IsOfForm (in_version may_divide (form_of o read)) (Some d)) h (elim may_divide as (λ b. IsOfForm (in_version b (AutoForm d)) (Some d)) [ true ↦ refl | false ↦ refl ])

pub form-texts : (may_divide : Bool) (auto : Option Definition) (read : Option Texts) (texts : Texts) (d : Option Definition) → None ≡ auto → Some texts ≡ read → IsSaid may_divide texts d
    → IsOfForm (in_version may_divide (form_of auto read)) d
form-texts may_divide auto read texts d h g said =
    subst (λ o. IsOfForm (in_version may_divide (form_of o read)) d) h (subst (λ r. IsOfForm (in_version may_divide (form_of None r)) d) g (by may_divide said))
  where
    by : (may : Bool) → IsSaid may texts d → IsOfForm (in_version may (StaticForm false texts)) d
    by true x = x
    by false x = x

pub form-none : (may_divide : Bool) (auto : Option Definition) (read : Option Texts) → None ≡ auto → None ≡ read → IsOfForm (in_version may_divide (form_of auto read)) None
form-none may_divide auto read h g =
    subst (λ o. IsOfForm (in_version may_divide (form_of o read)) None) h (subst (λ r. IsOfForm (in_version may_divide (form_of None r)) None) g
    (elim may_divide as (λ b. IsOfForm (in_version b NoForm) None) [ true ↦ refl | false ↦ refl ]))

pub form-reduce : (read d : Option Definition) → d ≡ read → IsOfForm (reduce_form read) d
form-reduce None d h = h
form-reduce (Some e) d h = h

pub ruleset forms = (form-auto, form-texts, form-none, form-reduce)

-- HOW MANY MEMBERS

pub count-four : (count : ℕ) (may_divide : Bool) (ms : Entries) (d : Option Definition) → count ≡ 4 → IsOfForm (form_in may_divide ms) d → IsOfForm (form_by_count count may_divide ms) d
count-four count may_divide ms d is h = subst (λ n. IsOfForm (form_by_count n may_divide ms) d) (sym is) h

pub count-five : (count : ℕ) (may_divide : Bool) (ms : Entries) (d : Option Definition) → count ≡ 5 → IsOfForm (reduce_form_in ms) d → IsOfForm (form_by_count count may_divide ms) d
count-five count may_divide ms d is h = subst (λ n. IsOfForm (form_by_count n may_divide ms) d) (sym is) h

pub count-other : (count : ℕ) (may_divide : Bool) (ms : Entries) → (count ≡ 4 → ⊥) → (count ≡ 5 → ⊥) → IsOfForm (form_by_count count may_divide ms) None
count-other count may_divide ms h g =
    let no_four : (count == 4) ≡ false = grind (arith, common_steps, h) in
    let no_five : (count == 5) ≡ false = grind (arith, common_steps, g) in
    subst (λ form. IsOfForm form None) (sym (λ i. if no_four i then form_in may_divide ms else (if no_five i then reduce_form_in ms else NoForm))) refl

pub ruleset counts = (count-four, count-five, count-other)

-- VERSIONS

-- a member of another name than that which is taken out
still_there : (k name : List ℕ) (ps : Pairs) → bytes_eq k name ≡ false → member name (entries_of (without k ps)) ≡ member name (entries_of ps)
still_there k name [] other = refl
still_there k name (p ∷ ps) other = by (still_there k name ps other) (bytes_eq k p.0) refl
  where
    apart : bytes_eq k p.0 ≡ true → (o : Bool) → bytes_eq name p.0 ≡ o → o ≡ false
    apart e true f = absurd (let same = (bytes_eq-Decides k name).1 ((bytes_eq-Decides k p.0).0 e ∙ sym ((bytes_eq-Decides name p.0).0 f)) in cc)
    apart e false f = refl

    by : member name (entries_of (without k ps)) ≡ member name (entries_of ps) → (o : Bool) → bytes_eq k p.0 ≡ o
        → member name (entries_of (cond o ps (p ∷ without k ps))) ≡ member name (entries_of (p ∷ ps))
    by rest true e = sym (ap (λ b. cond b (Some p.1) (member name (entries_of ps))) (apart e (bytes_eq name p.0) refl))
    by rest false e = ap (cond (bytes_eq name p.0) (Some p.1)) rest

one_less : (k : List ℕ) (ps : Pairs) (v : Data) → member k (entries_of ps) ≡ Some v → suc (length (without k ps)) ≡ length ps
one_less k [] v h = absurd cc
one_less k (p ∷ ps) v h = elim (bytes_eq k p.0) as (λ b. cond b (Some p.1) (member k (entries_of ps)) ≡ Some v → suc (length (cond b ps (p ∷ without k ps))) ≡ suc (length ps)) [
  | true ↦ λ g. refl
  | false ↦ λ g. ap suc (one_less k ps v g)
] h

abbrev version : List ℕ
version = codes "Version"

module _ (ps : Pairs) where
  abbrev other : Pairs
  other = without version ps

  kept : (name : List ℕ) → bytes_eq version name ≡ false → member name (entries_of other) ≡ member name (entries_of ps)
  kept name apart = still_there version name ps apart

  in_four : form_in true (entries_of other) ≡ form_in true (entries_of ps)
  in_four =
      let metadata = kept (codes "@metadata") refl in
      let kind = kept (codes "Kind") refl in
      λ i. dividing (form_of (auto_read (metadata i) (kept (codes "Collection") refl i) (kept (codes "Fields") refl i) (kind i))
      (texts_read (metadata i) (kind i) (kept (codes "Map") refl i) (kept (codes "Reduce") refl i)))

  in_five : reduce_form_in (entries_of other) ≡ reduce_form_in (entries_of ps)
  in_five =
      λ i. reduce_form (reduce_read (kept (codes "@metadata") refl i) (kept (codes "Collection") refl i) (kept (codes "Groups") refl i) (kept (codes "Kind") refl i)
      (kept (codes "Sums") refl i))

  whole_groups : (read : Option Definition) → dividing (reduce_form read) ≡ reduce_form read
  whole_groups None = refl
  whole_groups (Some d) = refl

  by_count : (count : ℕ) → dividing (if count == 4 then form_in false (entries_of other) else (if count == 5 then reduce_form_in (entries_of other) else NoForm)) ≡ form_by_count count true (entries_of ps)
  by_count count = elim (count == 4) as (λ b. dividing (cond b (form_in false (entries_of other)) (cond (count == 5) (reduce_form_in (entries_of other)) NoForm))
      ≡ cond b (form_in true (entries_of ps)) (cond (count == 5) (reduce_form_in (entries_of ps)) NoForm)) [
        | true ↦ in_four
        | false ↦ elim (count == 5) as (λ b. dividing (cond b (reduce_form_in (entries_of other)) NoForm) ≡ cond b (reduce_form_in (entries_of ps)) NoForm) [ true ↦ whole_groups _ ∙ in_five | false ↦ refl ]
      ]

  abbrev form_now : ℕ → BodyForm
  form_now count = if count == 4 then form_in false (entries_of ps) else (if count == 5 then reduce_form_in (entries_of ps) else NoForm)

  second : (v : Data) → member version (entries_of ps) ≡ Some v → is_two v ≡ true → body_form (object (entries_of ps)) ≡ form_by_count (length other) true (entries_of ps)
  second v found two =
      ap (λ o. form_by (without_version (entries_of ps) o) (object (entries_of ps))) found
      ∙ ap (λ b. form_by (cond b (Some (object (entries_of (without version (pairs_of (entries_of ps)))))) None) (object (entries_of ps))) two
      ∙ ap (λ l. dividing (first_form (object (entries_of (without version l))))) (pairs_of-entries_of ps)
      ∙ ap (λ l. dividing (if length l == 4 then form_in false (entries_of other) else (if length l == 5 then reduce_form_in (entries_of other) else NoForm))) (pairs_of-entries_of other)
      ∙ by_count (length other)

  first : says_two (member version (entries_of ps)) ≡ false → body_form (object (entries_of ps)) ≡ form_by_count (length ps) false (entries_of ps)
  first none = by (member version (entries_of ps)) none ∙ ap (λ l. form_now (length l)) (pairs_of-entries_of ps)
    where
      by : (o : Option Data) → says_two o ≡ false → form_by (without_version (entries_of ps) o) (object (entries_of ps)) ≡ first_form (object (entries_of ps))
      by None h = refl
      by (Some v) h = ap (λ b. form_by (cond b (Some (object (entries_of (without version (pairs_of (entries_of ps)))))) None) (object (entries_of ps))) h

  -- and one more is the version
  counted_second : says_two (member version (entries_of ps)) ≡ true → body_form (object (entries_of ps)) ≡ form_by_count (length ps - 1) true (entries_of ps)
  counted_second says = by (member version (entries_of ps)) refl says
    where
      by : (o : Option Data) → member version (entries_of ps) ≡ o → says_two o ≡ true → body_form (object (entries_of ps)) ≡ form_by_count (length ps - 1) true (entries_of ps)
      by None e h = absurd cc
      by (Some v) e h = second v e h ∙ ap (λ n. form_by_count n true (entries_of ps)) (let less = one_less version ps v e in let all : length other ≡ length ps - 1 = omega (arith, less) in all)

same_count : (items : List (Text × Value)) (ms : Pairs) → map pair_of items ≡ ms → length ms ≡ length items
same_count items ms is = ap length (sym is) ∙ many items
  where
    many : (xs : List (Text × Value)) → length (map pair_of xs) ≡ length xs
    many [] = refl
    many (x ∷ xs) = ap suc (many xs)

module _ (body : Value) (items : List (Text × Value)) (ms : Pairs) (found : Result (Option DefBody) NoMemory) (said : Option Data) where
  abbrev IsRead : BodyForm → Type 0
  IsRead form = IfOk found (λ d. IsOfForm form (option_map definition_view d))

  pub second-read : data_of body ≡ object (entries_of ms) → map pair_of items ≡ ms → said ≡ member version (entries_of ms) → says_two said ≡ true
      → IsRead (form_by_count (length items - 1) true (entries_of ms)) → IsRead (body_form (data_of body))
  second-read object_is is e h read =
      subst IsRead (sym (ap body_form object_is ∙ counted_second ms (ap says_two (sym e) ∙ h) ∙ ap (λ n. form_by_count (n - 1) true (entries_of ms)) (same_count items ms is))) read

  pub first-read : data_of body ≡ object (entries_of ms) → map pair_of items ≡ ms → said ≡ member version (entries_of ms) → says_two said ≡ false
      → IsRead (form_by_count (length items) false (entries_of ms)) → IsRead (body_form (data_of body))
  first-read object_is is e h read =
      subst IsRead (sym (ap body_form object_is ∙ first ms (ap says_two (sym e) ∙ h) ∙ ap (λ n. form_by_count n false (entries_of ms)) (same_count items ms is))) read
