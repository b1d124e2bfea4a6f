-- What is read of texts can be reduced once more.
use Rattle.std.proofs.Common.{◌≡◌, ℕ, List, [], ◌∷◌, ◌++◌, Bool, true, false, not, cond, ◌&&◌, ◌||◌, map, Option, Some, None, option_map, Ok, refl, sym, ap, ◌∙◌}
use Rattle.std.proofs.lemmas.Slice.Eq.{bytes_eq-Decides}
use Rattle.std.specs.List.{list_all, list_any}
use Rattle.std.specs.Str.{bytes_eq}
use Rattle.spec_store.proofs.StoreLemmas.{same_itself}
use Rattle.index_tree.specs.Definitions.{Definition, Texts}
use Rattle.index_tree.specs.declared.reduce_query.FoldMember.{FoldMember}
use Rattle.index_tree.specs.declared.reduce_query.FoldValue.{FoldValue}
use Rattle.index_tree.specs.declared.reduce_query.FoldValue.TheVariants as v
use Rattle.spec_index.specs.Again as again
use Rattle.spec_index.specs.Again.{are_apart, gives_part, is_sum_of, reduces_again}
use Rattle.reduce_grammar.specs.declared.spelled.PlacedFold.{PlacedFold}
use Rattle.reduce_grammar.specs.declared.spelled.SpelledReduce.{SpelledReduce}
use Rattle.index_definition.specs.DefinitionView.{definition_view}
use Rattle.index_definition.specs.declared.refusal.LangKind.{LangKind}
use Rattle.index_definition.specs.declared.refusal.LangKind.TheVariants as kind
use Rattle.index_definition.specs.declared.refusal.LangRefusal.{LangRefusal}
use Rattle.index_definition.specs.declared.refusal.LangRefusal.TheVariants.{At}
use Rattle.index_definition.specs.declared.refusal.Part.{Part}
use Rattle.index_definition.specs.declared.refusal.Part.TheVariants as part
use Rattle.index_lang.specs.Bound.{or_else}
use Rattle.index_lang.specs.Fields.{duplicate, duplicate_after, fields_agree, first_renamed, fold_name, fold_place, gives_key, has_name, irreducible, is_summed, keeps_name, member_name, member_place}
use Rattle.index_lang.specs.Parse.{causes, first_cause, reduce_causes, reduce_of, refused_at}
use Rattle.index_lang.specs.Reducing.{reduces_if, reduces_if_any}
use Rattle.index_lang.specs.Says.{Says}
use Rattle.index_lang.specs.declared.reading.ReadMap.{ReadMap}
use Rattle.index_lang.specs.declared.reading.ReadReduce.{ReadReduce}
use Rattle.index_lang.proofs.Texts.{parsed}

abbrev members_of : List PlacedFold → List FoldMember
members_of folds = map (λ p. p.member) folds

-- ---- no two members have one name

abbrev has_field : List PlacedFold → List ℕ → Bool
has_field folds name = has_name fold_name fold_place folds name

any_longer : {A : Type 0} (f : A → Bool) (xs ys : List A) → list_any f xs ≡ true → list_any f (xs ++ ys) ≡ true
any_longer f [] ys h = absurd cc
any_longer f (x ∷ xs) ys h = elim (f x) as (λ b. b || list_any f xs ≡ true → b || list_any f (xs ++ ys) ≡ true) [ true ↦ λ g. refl | false ↦ λ g. any_longer f xs ys g ] h

any_last : {A : Type 0} (f : A → Bool) (xs : List A) (y : A) → f y ≡ true → list_any f (xs ++ y ∷ []) ≡ true
any_last f [] y h = ap (λ b. b || false) h
any_last f (x ∷ xs) y h = elim (f x) as (λ b. b || list_any f (xs ++ y ∷ []) ≡ true) [ true ↦ refl | false ↦ any_last f xs y h ]

-- the first member is no duplicate, nor is one behind it
none_first : (b : Bool) (place : ℕ) (rest : Option ℕ) → cond b (Some place) rest ≡ None → (b ≡ false) × (rest ≡ None)
none_first true place rest h = absurd cc
none_first false place rest h = (refl, h)

-- a name that stands before these members is that of none of them
name_apart : (name : List ℕ) (before folds : List PlacedFold) → has_field before name ≡ true → duplicate_after fold_name fold_place before folds ≡ None
    → list_any (λ n. bytes_eq name n.name) (members_of folds) ≡ false
name_apart name before [] there none = refl
name_apart name before (m ∷ folds) there none =
    let first = none_first (has_field before m.member.name) m.at (duplicate_after fold_name fold_place (before ++ m ∷ []) folds) none in
    by first.0 (bytes_eq name m.member.name) refl
    ∙ name_apart name (before ++ m ∷ []) folds (any_longer (λ n. bytes_eq name n.member.name) before (m ∷ []) there) first.1
  where
    by : has_field before m.member.name ≡ false → (b : Bool) → bytes_eq name m.member.name ≡ b
        → bytes_eq name m.member.name || list_any (λ n. bytes_eq name n.name) (members_of folds) ≡ list_any (λ n. bytes_eq name n.name) (members_of folds)
    by other true e = absurd (let same = ap (has_field before) ((bytes_eq-Decides name m.member.name).0 e) in let no = sym there ∙ same ∙ other in cc)
    by other false e = ap (λ b. b || list_any (λ n. bytes_eq name n.name) (members_of folds)) e

apart : (before folds : List PlacedFold) → duplicate_after fold_name fold_place before folds ≡ None → are_apart (members_of folds) ≡ true
apart before [] none = refl
apart before (m ∷ folds) none =
    let first = none_first (has_field before m.member.name) m.at (duplicate_after fold_name fold_place (before ++ m ∷ []) folds) none in
    let there = any_last (λ n. bytes_eq m.member.name n.member.name) before m (same_itself m.member.name) in
    ap (λ b. not b && are_apart (members_of folds)) (name_apart m.member.name (before ++ m ∷ []) folds there first.1) ∙ apart (before ++ m ∷ []) folds first.1

-- ---- each member keeps its name

any_member : (f : FoldMember → Bool) (folds : List PlacedFold) → list_any (λ m. f m.member) folds ≡ list_any f (members_of folds)
any_member f [] = refl
any_member f (m ∷ folds) = ap (λ b. f m.member || b) (any_member f folds)

summed_alike : (folds : List PlacedFold) (field : List ℕ) → is_summed folds field ≡ again.is_summed (members_of folds) field
summed_alike folds field = any_member (λ m. bytes_eq field m.name && is_sum_of field m.value) folds

keeps_alike : (key : List (List ℕ)) (all : List PlacedFold) (name : List ℕ) (a : FoldValue) → keeps_name key all name a ≡ again.keeps_name key (members_of all) name a
keeps_alike key all name (v.Key own) = refl
keeps_alike key all name (v.Fold fold own field) = refl
keeps_alike key all name (v.Quotient own field by_own other) = λ i. summed_alike all field i && summed_alike all other i

all_keep : (key : List (List ℕ)) (all folds : List PlacedFold) → first_renamed key all folds ≡ None → list_all (λ m. again.keeps_name key (members_of all) m.name m.value) (members_of folds) ≡ true
all_keep key all [] none = refl
all_keep key all (m ∷ folds) none = by (all_keep key all folds) (keeps_name key all m.member.name m.member.value) refl none
  where
    by : (first_renamed key all folds ≡ None → list_all (λ n. again.keeps_name key (members_of all) n.name n.value) (members_of folds) ≡ true)
        → (b : Bool) → keeps_name key all m.member.name m.member.value ≡ b → cond b (first_renamed key all folds) (Some m.at) ≡ None
        → list_all (λ n. again.keeps_name key (members_of all) n.name n.value) (members_of (m ∷ folds)) ≡ true
    by rest true e h = ap (λ b. b && list_all (λ n. again.keeps_name key (members_of all) n.name n.value) (members_of folds)) (sym (keeps_alike key all m.member.name m.member.value) ∙ e) ∙ rest h
    by rest false e h = absurd cc

gives_alike : (key : List (List ℕ)) (folds : List PlacedFold) → gives_key key folds ≡ again.gives_key key (members_of folds)
gives_alike [] folds = refl
gives_alike (name ∷ key) folds = λ i. any_member (λ m. gives_part name m.value) folds i && gives_alike key folds i

-- ---- there is no cause

no_later : (a b c d e : Option LangRefusal) → first_cause (a ∷ b ∷ c ∷ d ∷ e ∷ []) ≡ None → (d ≡ None) × (e ≡ None)
no_later (Some why) b c d e h = absurd cc
no_later None (Some why) c d e h = absurd cc
no_later None None (Some why) d e h = absurd cc
no_later None None None (Some why) e h = absurd cc
no_later None None None None (Some why) h = absurd cc
no_later None None None None None h = (refl, refl)

no_second : (a b : Option LangRefusal) → first_cause (a ∷ b ∷ []) ≡ None → b ≡ None
no_second (Some why) b h = absurd cc
no_second None (Some why) h = absurd cc
no_second None None h = refl

no_place : (p : Part) (k : LangKind) (place : Option ℕ) → refused_at p k place ≡ None → place ≡ None
no_place p k (Some place) h = absurd cc
no_place p k None h = refl

no_either : (p : Option ℕ) (b : Bool) (place : ℕ) → or_else p (cond b None (Some place)) ≡ None → (p ≡ None) × (b ≡ true)
no_either (Some p) b place h = absurd cc
no_either None true place h = (refl, refl)
no_either None false place h = absurd cc

reducible : (r : SpelledReduce) → duplicate_after fold_name fold_place [] r.members ≡ None → irreducible r ≡ None → reduces_again (reduce_of r) ≡ true
reducible r none kept =
    let both = no_either (first_renamed r.key r.members r.members) (gives_key r.key r.members) r.key_at kept in
    λ i. apart [] r.members none i && (all_keep r.key r.members r.members both.0 i && (sym (gives_alike r.key r.members) ∙ both.1) i)

trees_reduce : (m : ReadMap) (read : Option ReadReduce) → first_cause (causes (record { map = m; reduce = read })) ≡ None → reduces_if_any (option_map (λ r. reduce_of r.reduce) read) ≡ true
trees_reduce m None h = refl
trees_reduce m (Some r) h =
    let twice : Option ℕ = duplicate fold_name fold_place r.reduce.members in
    let later =
    no_later (refused_at part.Map kind.UnknownName m.unbound) (refused_at part.Reduce kind.UnknownName r.unbound)
    (refused_at part.Map kind.DuplicateField (duplicate member_name member_place m.map.members)) (refused_at part.Reduce kind.DuplicateField twice) (first_cause (reduce_causes m r)) h
    in
    let differ : Option LangRefusal = cond (fields_agree m.map.members r.reduce.members) None (Some (At part.Reduce 0 kind.FieldsDiffer)) in
    let reduced = no_second differ (refused_at part.Reduce kind.NotReducible (irreducible r.reduce)) later.1 in
    reducible r.reduce (no_place part.Reduce kind.DuplicateField twice later.0) (no_place part.Reduce kind.NotReducible (irreducible r.reduce) reduced)

pub said-reduces : (texts : Texts) (d : Definition) → Says texts (Ok d) → reduces_if d ≡ true
said-reduces texts d said =
    ap reduces_if said.seen
    ∙ parsed said.name texts.0 texts.1 said.definition (λ e. reduces_if (definition_view e.body) ≡ true) (λ trees none. trees_reduce trees.map trees.reduce none) said.given
