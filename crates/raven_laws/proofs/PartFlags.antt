-- The flag of an index of several maps.
use Rattle.std.proofs.Common.{◌≡◌, ℕ, List, [], ◌∷◌, Bool, true, false, Option, Some, None, Result, Ok, Err, ◌||◌, refl, sym, ap, ◌∙◌, subst, inl, inr, ◌↔◌}
use Rattle.std.specs.List.{list_any}
use Rattle.spec_store.specs.Store.{Store, IsStore}
use Rattle.spec_store.specs.Stale.{Unseen, stale}
use Rattle.spec_store.proofs.StaleLemmas.{stale-iff}
use Rattle.spec_query.specs.Binding.{PlanRefusal, bind, check}
use Rattle.spec_query.specs.Offering.{offered_of}
use Rattle.spec_query.specs.Plan.{Plan}
use Rattle.spec_query.specs.Query.{Ask, OfCollection, OfIndex, Origin}
use Rattle.spec_index.specs.World.{Slot, World, reads}
use Rattle.spec_server.specs.Replies.{Answer, NoIndex, QueryAnswer, Reply}
use Rattle.spec_server.specs.Several.{answer_named, answer_parts, answer_several, is_one_stale, other_part, parts_of, recorded, together_if_bound, unless_other, unless_unfit}
use Rattle.spec_server.specs.Sound.{Has}
use Rattle.raven_laws.specs.Flags.{IsOneUnseen}
use Rattle.raven_laws.proofs.SlotLemmas.{some}

found-any : {X : Type 0} (p : X → Bool) (xs : List X) (x : X) → Has xs x → p x ≡ true → list_any p xs ≡ true
found-any p [] x at is = absurd at
found-any p (y ∷ xs) x (inl e) is = subst (λ b. (b || list_any p xs) ≡ true) (sym (ap p e ∙ is)) refl
found-any p (y ∷ xs) x (inr more) is = elim (p y) as (λ b. (b || list_any p xs) ≡ true) [ true ↦ refl | false ↦ found-any p xs x more is ]

pub one-stale : (S : Store) (cutoff : Option ℕ) (parts : List Slot) → IsStore S
    → (is_one_stale S cutoff parts ≡ true) ↔ ((s : Slot) × Has parts s × Unseen S (reads s.version) s.version.etag cutoff)
one-stale S cutoff parts o = (there, back)
  where
    there : is_one_stale S cutoff parts ≡ true → (s : Slot) × Has parts s × Unseen S (reads s.version) s.version.etag cutoff
    there h = let f = some (λ s. stale S (reads s.version) s.version.etag cutoff) parts h in (f.0, f.1, (stale-iff S (reads f.0.version) f.0.version.etag cutoff o).0 f.2)

    back : (s : Slot) × Has parts s × Unseen S (reads s.version) s.version.etag cutoff → is_one_stale S cutoff parts ≡ true
    back f = found-any (λ s. stale S (reads s.version) s.version.etag cutoff) parts f.0 f.1 ((stale-iff S (reads f.0.version) f.0.version.etag cutoff o).1 f.2)

-- an answer has the flag of the parts of its name
abbrev IsTold : World → Option ℕ → Reply → Type 0
IsTold W cutoff reply = (answer : QueryAnswer) → reply ≡ Answer answer → (answer.is_stale ≡ true) ↔ IsOneUnseen W answer.index_name cutoff

same-answer : (a b : QueryAnswer) → Answer a ≡ Answer b → a ≡ b
same-answer a b e = cc

told-together : (W : World) (ask : Ask) (name : List ℕ) (first : Slot) (parts : List Slot) → IsStore W.store → parts ≡ parts_of W name → (r : Result Plan PlanRefusal)
    → IsTold W ask.cutoff (together_if_bound recorded W ask name first parts r)
told-together W ask name first parts o is (Err refusal) answer e = absurd cc
told-together W ask name first parts o is (Ok q) answer e =
    subst (λ (a : QueryAnswer). (a.is_stale ≡ true) ↔ IsOneUnseen W a.index_name ask.cutoff) (same-answer _ answer e)
    (subst (λ ps. (is_one_stale W.store ask.cutoff parts ≡ true) ↔ ((s : Slot) × Has ps s × Unseen W.store (reads s.version) s.version.etag ask.cutoff)) is (one-stale W.store ask.cutoff parts o))

told-parts : (W : World) (ask : Ask) (name : List ℕ) (parts : List Slot) → IsStore W.store → parts ≡ parts_of W name → IsTold W ask.cutoff (answer_parts recorded W ask name parts)
told-parts W ask name [] o is = λ answer e. absurd cc
told-parts W ask name (s ∷ []) o is = λ answer e. absurd cc
told-parts W ask name (s ∷ t ∷ more) o is = by (other_part s (s ∷ t ∷ more))
  where
    by : (x : Option Slot) → IsTold W ask.cutoff (unless_other recorded W ask name s (s ∷ t ∷ more) x)
    by (Some x) = λ answer e. absurd cc
    by None = told-together W ask name s (s ∷ t ∷ more) o is (bind ask (offered_of s.version.definition))

pub told-several : (W : World) (ask : Ask) → IsStore W.store → IsTold W ask.cutoff (answer_several W ask)
told-several W ask o = fits (answer_named recorded W ask) (named ask.query.origin) (check ask)
  where
    named : (origin : Origin) → IsTold W ask.cutoff (elim origin [ OfIndex n ↦ answer_parts recorded W ask n (parts_of W n) | OfCollection collection ↦ NoIndex collection ])
    named (OfIndex n) = told-parts W ask n (parts_of W n) o refl
    named (OfCollection collection) = λ answer e. absurd cc

    fits : (reply : Reply) → IsTold W ask.cutoff reply → (r : Option PlanRefusal) → IsTold W ask.cutoff (unless_unfit reply r)
    fits reply told None = told
    fits reply told (Some refusal) = λ answer e. absurd cc
