-- Indexes of several maps: their parts, their entries, and what they answer.
use Rattle.std.proofs.Common.{◌≡◌, ℕ, zero, suc, ◌+◌, List, [], ◌∷◌, ◌++◌, true, false, flat_map, map, Option, Some, None, Result, Ok, Err, length, refl, sym, ap, ◌∙◌, subst, inl, inr}
use Rattle.spec_data.specs.Folding.{folded, same_key}
use Rattle.spec_data.specs.Tables.{Table}
use Rattle.spec_store.specs.Stale.{stale}
use Rattle.index_tree.specs.Mapper.{mapper_of}
use Rattle.index_tree.specs.Meaning.{Fields}
use Rattle.index_tree.specs.declared.reduce_query.ReduceQuery.{ReduceQuery}
use Rattle.spec_query.specs.Binding.{PlanRefusal, bind, check}
use Rattle.spec_query.specs.Offering.{offered_of}
use Rattle.spec_query.specs.Plan.{Plan}
use Rattle.spec_query.specs.Query.{Ask, OfCollection, OfIndex}
use Rattle.spec_index.specs.Again.{reduces_again}
use Rattle.spec_index.specs.Index.{documents}
use Rattle.spec_index.specs.Mapping.{scratch}
use Rattle.spec_index.specs.Reduces.{reduce_of}
use Rattle.spec_index.specs.Rows.{reduced}
use Rattle.spec_index.specs.World.{Slot, World, reads, serving}
use Rattle.spec_server.specs.Asking.{answer_of, found_by}
use Rattle.spec_server.specs.Replies.{NoIndex}
use Rattle.spec_server.specs.Several.{all_entries, answer_named, answer_parts, answer_several, answer_several_over, is_one_stale, least_etag, other_part, part_name, parts_from, parts_of, recorded, then_parts, together_if_bound, unless_other, unless_unfit}
use Rattle.spec_server.specs.Shown.{shown}
use Rattle.spec_server.specs.Sound.{Has, Sound}
use Rattle.raven_laws.proofs.AgainLemmas.{reduced-parts}
use Rattle.raven_laws.proofs.IndexLemmas.{fresh_whole}
use Rattle.raven_laws.proofs.SlotLemmas.{find-Has, none_passes}

-- a part is one of the slots
parts-Has : (most n : ℕ) (name : List ℕ) (slots : List Slot) (s : Slot) → Has (parts_from most n name slots) s → Has slots s
parts-Has zero n name slots s h = absurd h
parts-Has (suc most) n name slots s h = by (parts-Has most (n + 1) name slots s) (serving slots (part_name name n)) refl h
  where
    by : (Has (parts_from most (n + 1) name slots) s → Has slots s) → (o : Option Slot) → serving slots (part_name name n) ≡ o
        → Has (then_parts o (parts_from most (n + 1) name slots)) s → Has slots s
    by rest None e at = absurd at
    by rest (Some t) e (inl same) = subst (Has slots) same (find-Has (λ x. same_key (folded (part_name name n)) (folded x.name)) slots t e).0
    by rest (Some t) e (inr more) = rest more

entries-alike : (t u : Slot → Table) (parts : List Slot) → ((s : Slot) → Has parts s → t s ≡ u s) → all_entries t parts ≡ all_entries u parts
entries-alike t u [] same = refl
entries-alike t u (s ∷ parts) same =
    ap (λ T. scratch (mapper_of s.version.definition) T ++ all_entries t parts) (same s (inl refl))
    ∙ ap (λ l. scratch (mapper_of s.version.definition) (u s) ++ l) (entries-alike t u parts (λ x at. same x (inr at)))

-- what is answered depends on the entries alone
answers-alike : (t u : Slot → Table) (W : World) (ask : Ask) (name : List ℕ) (parts : List Slot) → all_entries t parts ≡ all_entries u parts
    → answer_parts t W ask name parts ≡ answer_parts u W ask name parts
answers-alike t u W ask name [] e = refl
answers-alike t u W ask name (s ∷ []) e = refl
answers-alike t u W ask name (s ∷ v ∷ more) e = by (other_part s (s ∷ v ∷ more)) (bind ask (offered_of s.version.definition))
  where
    bound : (r : Result Plan PlanRefusal) → together_if_bound t W ask name s (s ∷ v ∷ more) r ≡ together_if_bound u W ask name s (s ∷ v ∷ more) r
    bound (Ok q) =
        ap (λ es. answer_of (found_by (reduce_of s.version.definition) (shown W.setting.base) q es W.store) (least_etag s.version.etag (s ∷ v ∷ more)) name
        (is_one_stale W.store ask.cutoff (s ∷ v ∷ more))) e
    bound (Err refusal) = refl

    by : (o : Option Slot) (r : Result Plan PlanRefusal)
        → unless_other t W ask name s (s ∷ v ∷ more) o ≡ unless_other u W ask name s (s ∷ v ∷ more) o
    by (Some x) r = refl
    by None r = bound (bind ask (offered_of s.version.definition))

named-is : (tables : Slot → Table) (W : World) (ask : Ask) (name : List ℕ) → ask.query.origin ≡ OfIndex name
    → answer_named tables W ask ≡ answer_parts tables W ask name (parts_of W name)
named-is tables W ask name h =
    ap (λ origin. elim origin [ OfIndex n ↦ answer_parts tables W ask n (parts_of W n) | OfCollection collection ↦ NoIndex collection ]) h

pub fresh-together : (W : World) (ask : Ask) (name : List ℕ) → Sound W → ask.query.origin ≡ OfIndex name → is_one_stale W.store None (parts_of W name) ≡ false
    → answer_several W ask ≡ answer_several_over (λ s. documents (reads s.version) W.store) W ask
fresh-together W ask name o origin none =
    let all = λ (s : Slot). documents (reads s.version) W.store in
    ap (λ r. unless_unfit r (check ask))
    (named-is recorded W ask name origin
    ∙ answers-alike recorded all W ask name (parts_of W name) (entries-alike recorded all (parts_of W name) whole)
    ∙ sym (named-is all W ask name origin))
  where
    whole : (s : Slot) → Has (parts_of W name) s → s.version.table ≡ documents (reads s.version) W.store
    whole s at =
        let f = o.fits s (parts-Has (length W.slots) 1 name W.slots s at) in
        fresh_whole (reads s.version) s.version.table W.store s.version.etag o.store f.agrees
        (none_passes (λ x. stale W.store (reads x.version) x.version.etag None) (parts_of W name) s none at)

-- THE ROWS

abbrev fields_in : (Slot → Table) → Slot → List Fields
fields_in tables s = map (λ (e : List ℕ × Fields). e.1) (scratch (mapper_of s.version.definition) (tables s))

map-append : {A B : Type 0} (f : A → B) (xs ys : List A) → map f (xs ++ ys) ≡ map f xs ++ map f ys
map-append f [] ys = refl
map-append f (x ∷ xs) ys = ap (λ l. f x ∷ l) (map-append f xs ys)

flat-mapped : {A B C : Type 0} (g : B → List C) (f : A → B) (xs : List A) → flat_map g (map f xs) ≡ flat_map (λ x. g (f x)) xs
flat-mapped g f [] = refl
flat-mapped g f (x ∷ xs) = ap (λ l. g (f x) ++ l) (flat-mapped g f xs)

all-fields : (tables : Slot → Table) (parts : List Slot) → map (λ (e : List ℕ × Fields). e.1) (all_entries tables parts) ≡ flat_map (fields_in tables) parts
all-fields tables [] = refl
all-fields tables (s ∷ parts) =
    map-append (λ (e : List ℕ × Fields). e.1) (scratch (mapper_of s.version.definition) (tables s)) (all_entries tables parts) ∙ ap (λ l. fields_in tables s ++ l) (all-fields tables parts)

pub parts-rows : (reduce : ReduceQuery) (tables : Slot → Table) (parts : List Slot) → reduces_again reduce ≡ true
    → reduced reduce (flat_map (λ s. reduced reduce (fields_in tables s)) parts) ≡ reduced reduce (map (λ (e : List ℕ × Fields). e.1) (all_entries tables parts))
parts-rows reduce tables parts again =
    ap (reduced reduce) (sym (flat-mapped (reduced reduce) (fields_in tables) parts))
    ∙ reduced-parts reduce again (map (fields_in tables) parts)
    ∙ ap (reduced reduce) (flat-mapped (λ es. es) (fields_in tables) parts ∙ sym (all-fields tables parts))
