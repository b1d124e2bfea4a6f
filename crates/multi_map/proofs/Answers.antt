-- How the answer of an index of several maps comes from its parts.
use Rattle.std.proofs.Common.{◌≡◌, ℕ, List, [], ◌∷◌, Bool, true, false, not, cond, find, map, slice_get, Option, Some, None, Ok, ◌++◌, refl, sym, ap, ◌∙◌, subst, eqb-true}
use base.Stored.{Gv, gnil, gnum, gcons}
use Rattle.spec_store.specs.Store.{Store, row_at}
use Rattle.spec_store.proofs.StoreLemmas.{both_true}
use Rattle.index_tree.specs.Definitions.{Definition, Static, Auto, AutoReduce, reduce_code, same_codes}
use Rattle.index_tree.specs.Mapper.{mapper_of}
use Rattle.index_tree.specs.Meaning.{Fields}
use Rattle.index_tree.specs.declared.reduce_query.ReduceQuery.{ReduceQuery}
use Rattle.spec_query.specs.Binding.{PlanRefusal, bind, check, plan_of, refusal_of}
use Rattle.spec_query.specs.Binding as binding
use Rattle.spec_query.specs.Finding.{Found, find_rows}
use Rattle.spec_query.specs.Offering.{offered_of}
use Rattle.spec_query.specs.Plan.{Plan}
use Rattle.spec_query.specs.Query.{Ask}
use Rattle.spec_index.specs.Mapping.{scratch}
use Rattle.spec_index.specs.Reduces.{reduce_of}
use Rattle.spec_index.specs.Rows.{reduced}
use Rattle.spec_index.specs.World.{Slot, Version, World}
use Rattle.spec_server.specs.Asking.{Ready, answer_of, found_by, unless_refused, without_ids}
use Rattle.spec_server.specs.Replies.{Reply}
use Rattle.spec_server.specs.Several.{all_entries, answer_named, answer_several, is_one_stale, least_etag, other_part, recorded, same_reduce, together_if_bound, unless_other, unless_unfit}
use Rattle.spec_server.specs.Shown.{shown}
use Rattle.index_version.specs.Together.{HaveReduce, entries_together}

-- THE REDUCE OF THE PARTS

same-code : (g h : Gv) → same_codes g h ≡ true → g ≡ h
same-code gnil gnil e = refl
same-code (gnum m) (gnum n) e = ap gnum (eqb-true m n e)
same-code (gcons a b) (gcons c d) e = let both = both_true (same_codes a c) (same_codes b d) e in let left = same-code a c both.0 in let right = same-code b d both.1 in λ i. gcons (left i) (right i)
same-code _ _ e = absurd cc

-- two definitions with the same reduce have one
one-reduce : (d e : Definition) → same_reduce d e ≡ true → (r : ReduceQuery) × (reduce_of d ≡ Some r) × (reduce_of e ≡ Some r)
one-reduce (Static m (Some r) t u) (Static n (Some s) v w) h = (r, refl, ap Some (sym (reduce_code.inj r s (same-code (reduce_code.code r) (reduce_code.code s) h))))
one-reduce (Static m (Some r) t u) (Static n None v w) h = absurd cc
one-reduce (Static m (Some r) t u) (Auto c fields) h = absurd cc
one-reduce (Static m (Some r) t u) (AutoReduce c groups sums) h = absurd cc
one-reduce (Static m None t u) e h = absurd cc
one-reduce (Auto c fields) e h = absurd cc
one-reduce (AutoReduce c groups sums) e h = absurd cc

the-same : {A : Type 0} (a b : A) → Some a ≡ Some b → a ≡ b
the-same a b h = cc

abbrev differs : Definition → Slot → Bool
differs d s = not (same_reduce d s.version.definition)

-- the first part is like itself, and so has a reduce
first-has : (first : Slot) (parts : List Slot) → slice_get parts 0 ≡ Some first → other_part first parts ≡ None → (r : ReduceQuery) × (reduce_of first.version.definition ≡ Some r)
first-has first [] starts h = absurd cc
first-has first (s ∷ more) starts h =
    let d = s.version.definition in
    let is = the-same s first starts in
    let own : find (differs d) (s ∷ more) ≡ None = ap (λ (x : Slot). find (differs x.version.definition) (s ∷ more)) is ∙ h in
    let has : (r : ReduceQuery) × (reduce_of d ≡ Some r) =
    elim (same_reduce d d) as (λ b. same_reduce d d ≡ b → cond (not b) (Some s) (find (differs d) more) ≡ None → (r : ReduceQuery) × (reduce_of d ≡ Some r)) [
      | true ↦ λ e g. let one = one-reduce d d e in (one.0, one.1)
      | false ↦ λ e g. absurd cc
    ] refl own in
    (has.0, ap (λ (x : Slot). reduce_of x.version.definition) (sym is) ∙ has.1)

-- where no part differs each has the reduce of the first
all-have : (d : Definition) (r : ReduceQuery) → reduce_of d ≡ Some r → (parts : List Slot) → find (differs d) parts ≡ None → HaveReduce r (map (λ (s : Slot). s.version) parts)
all-have d r is [] h = tt
all-have d r is (s ∷ parts) h =
    elim (same_reduce d s.version.definition) as (λ b. same_reduce d s.version.definition ≡ b → cond (not b) (Some s) (find (differs d) parts) ≡ None
    → (reduce_of s.version.definition ≡ Some r) × HaveReduce r (map (λ (x : Slot). x.version) parts)) [
      | true ↦ λ e g. let one = one-reduce d s.version.definition e in (one.2 ∙ ap Some (the-same one.0 r (sym one.1 ∙ is)), all-have d r is parts g)
      | false ↦ λ e g. absurd cc
    ] refl h

-- THE ROWS

-- what is seen of the versions of what is lent
pub lent-versions : {A : Type 0} (f : A → Slot) (xs : List A) → map (λ x. (f x).version) xs ≡ map (λ (s : Slot). s.version) (map f xs)
lent-versions f [] = refl
lent-versions f (x ∷ xs) = ap (λ vs. (f x).version ∷ vs) (lent-versions f xs)

-- the versions in the parts have the entries of the parts
entries-of : (parts : List Slot) → entries_together (map (λ (s : Slot). s.version) parts) ≡ all_entries recorded parts
entries-of [] = refl
entries-of (s ∷ parts) = ap (λ es. scratch (mapper_of s.version.definition) s.version.table ++ es) (entries-of parts)

-- what is found among the rows of the versions is found by the reduce of the parts
pub found-rows : (base : List ℕ) (S : Store) (q : Plan) (parts : List Slot) (versions : List Version) (found : Found) (rows : List Fields) → versions ≡ map (λ (s : Slot). s.version) parts
    → ((r : ReduceQuery) → HaveReduce r versions → rows ≡ reduced r (map (λ (e : List ℕ × Fields). e.1) (entries_together versions)))
    → found ≡ find_rows (shown base) (λ id. row_at id S.rows) q (without_ids rows)
    → (r : ReduceQuery) → HaveReduce r versions → found ≡ found_by (Some r) (shown base) q (all_entries recorded parts) S
found-rows base S q parts versions found rows are by is r have =
    is
    ∙ ap (λ rows. find_rows (shown base) (λ id. row_at id S.rows) q (without_ids rows))
    (by r have ∙ ap (λ vs. reduced r (map (λ (e : List ℕ × Fields). e.1) (entries_together vs))) are ∙ ap (λ es. reduced r (map (λ (e : List ℕ × Fields). e.1) es)) (entries-of parts))

-- rows that are known of the versions that are lent are known of those in the parts
pub with-versions : (r : ReduceQuery) (lent own : List Version) (rows : List Fields) → lent ≡ own
    → ((s : ReduceQuery) → HaveReduce s lent → rows ≡ reduced s (map (λ (e : List ℕ × Fields). e.1) (entries_together lent)))
    → HaveReduce r own → rows ≡ reduced r (map (λ (e : List ℕ × Fields). e.1) (entries_together own))
with-versions r lent own rows are by has = by r (subst (HaveReduce r) (sym are) has) ∙ ap (λ vs. reduced r (map (λ (e : List ℕ × Fields). e.1) (entries_together vs))) are

-- THE ANSWER

abbrev from_parts : World → Ask → List ℕ → Slot → List Slot → Reply
from_parts W ask name first parts = unless_other recorded W ask name first parts (other_part first parts)

-- a reply that is refused with a cause
ready-same : (a b : Reply) → Ready a ≡ Ready b → a ≡ b
ready-same a b h = cc

-- all that is refused for the first part's definition is told by one refusal, the first
pub refusal-told : (W : World) (ask : Ask) (name : List ℕ) (first : Slot) (parts : List Slot) (reply : Reply) → other_part first parts ≡ None
    → Ready reply ≡ unless_refused (Ready (together_if_bound recorded W ask name first parts (bind ask (offered_of first.version.definition)))) (refusal_of ask (offered_of first.version.definition))
    → reply ≡ from_parts W ask name first parts
refusal-told W ask name first parts reply none is = by (refusal_of ask (offered_of first.version.definition)) is ∙ sym (ap (unless_other recorded W ask name first parts) none)
  where
    by : (cause : Option PlanRefusal) → Ready reply ≡ unless_refused (Ready (together_if_bound recorded W ask name first parts (binding.unless_refused (plan_of ask) cause))) cause
        → reply ≡ together_if_bound recorded W ask name first parts (binding.unless_refused (plan_of ask) cause)
    by None h = ready-same reply _ h
    by (Some refusal) h = ready-same reply _ h

-- what is found, the least etag and the flag are of all parts
pub answer-told : (W : World) (ask : Ask) (name called : List ℕ) (first : Slot) (parts : List Slot) (versions : List Version) (q : Plan) (reply : Reply) (found : Found) (etag : ℕ) (flag : Bool)
    → slice_get parts 0 ≡ Some first → other_part first parts ≡ None → bind ask (offered_of first.version.definition) ≡ Ok q → reply ≡ answer_of found etag called flag
    → versions ≡ map (λ (s : Slot). s.version) parts → ((r : ReduceQuery) → HaveReduce r versions → found ≡ found_by (Some r) (shown W.setting.base) q (all_entries recorded parts) W.store)
    → etag ≡ least_etag first.version.etag parts → called ≡ name → flag ≡ is_one_stale W.store ask.cutoff parts
    → reply ≡ from_parts W ask name first parts
answer-told W ask name called first parts versions q reply found etag flag starts none bound is are rows e n f =
    let has = first-has first parts starts none in
    let have = subst (HaveReduce has.0) (sym are) (all-have first.version.definition has.0 has.1 parts none) in
    let by = rows has.0 have ∙ ap (λ r. found_by r (shown W.setting.base) q (all_entries recorded parts) W.store) (sym has.1) in
    is
    ∙ (λ i. answer_of (by i) (e i) (n i) (f i))
    ∙ sym (ap (together_if_bound recorded W ask name first parts) bound)
    ∙ sym (ap (unless_other recorded W ask name first parts) none)

-- UNLESS IT IS REFUSED

pub unfit-told : (W : World) (ask : Ask) (reply : Reply) → Ready reply ≡ unless_refused (Ready (answer_named recorded W ask)) (check ask) → reply ≡ answer_several W ask
unfit-told W ask reply is = by (check ask) is
  where
    by : (cause : Option PlanRefusal) → Ready reply ≡ unless_refused (Ready (answer_named recorded W ask)) cause → reply ≡ unless_unfit (answer_named recorded W ask) cause
    by None h = ready-same reply _ h
    by (Some refusal) h = ready-same reply _ h
