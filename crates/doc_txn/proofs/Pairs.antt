-- Members that are kept stay in order, and a member that is taken out and put again is as if it were put among all.
use Rattle.std.proofs.Common.{◌≡◌, ◌∙◌, ℕ, List, [], ◌∷◌, Bool, true, false, cond, filter, map, not, Option, Ordering, Less, Equal, Greater, codes, refl, sym, ap, subst}
use Rattle.std.proofs.lemmas.Slice.Eq.{bytes_eq-Decides}
use Rattle.std.specs.Ordering.{match_ordering}
use Rattle.std.specs.Str.{bytes_eq}
use Rattle.raven_value.specs.View.{pair_of}
use Rattle.raven_value.specs.declared.text.Text.{Text}
use Rattle.raven_value.specs.declared.value.Value.{Value}
use Rattle.spec_data.proofs.MemberLemmas.{pairs_of-entries_of, below_by}
use Rattle.spec_data.specs.Data.{Data, entries_of, object}
use Rattle.spec_data.specs.Folding.{key_cmp}
use Rattle.spec_data.specs.Members.{member}
use Rattle.spec_data.specs.Rising.{Pairs, IsBelowAll, IsRising, put, without}
use Rattle.spec_store.proofs.KeyedLemmas.{key_ties, differ_less, differ_greater}
use Rattle.spec_store.specs.Commit.{clean_metadata, is_server_member, stored_body}

abbrev Member : Type 0
Member = Text × Value

IsBelowAll-filter : (k : List ℕ) (keep : List ℕ × Data → Bool) (ms : Pairs) → IsBelowAll k ms → IsBelowAll k (filter keep ms)
IsBelowAll-filter k keep [] h = tt
IsBelowAll-filter k keep (m ∷ ms) h =
    elim (keep m) as (λ b. IsBelowAll k (cond b (m ∷ filter keep ms) (filter keep ms))) [ true ↦ (h.0, IsBelowAll-filter k keep ms h.1) | false ↦ IsBelowAll-filter k keep ms h.1 ]

IsRising-filter : (keep : List ℕ × Data → Bool) (ms : Pairs) → IsRising ms → IsRising (filter keep ms)
IsRising-filter keep [] h = tt
IsRising-filter keep (m ∷ ms) h =
    elim (keep m) as (λ b. IsRising (cond b (m ∷ filter keep ms) (filter keep ms))) [
      | true ↦ (IsBelowAll-filter m.0 keep ms h.0, IsRising-filter keep ms h.1)
      | false ↦ IsRising-filter keep ms h.1
    ]

pub ruleset pairs = (pairs_of-entries_of)

-- WITHOUT THE SERVER'S MEMBERS

-- the members that stay are those that stay of what they are seen as
filter_seen : (keep : List ℕ → Bool) (xs : List Member) → map pair_of (filter (λ (m : Member). keep m.0) xs) ≡ filter (λ (m : List ℕ × Data). keep m.0) (map pair_of xs)
filter_seen keep [] = refl
filter_seen keep (m ∷ xs) =
    elim (keep m.0) as (λ b. map pair_of (cond b (m ∷ filter (λ (x : Member). keep x.0) xs) (filter (λ (x : Member). keep x.0) xs))
    ≡ cond b (pair_of m ∷ filter (λ (x : List ℕ × Data). keep x.0) (map pair_of xs)) (filter (λ (x : List ℕ × Data). keep x.0) (map pair_of xs))) [
      | true ↦ ap (λ (more : Pairs). pair_of m ∷ more) (filter_seen keep xs)
      | false ↦ filter_seen keep xs
    ]

module _ (ms : Pairs) (xs ys : List Member) (dropped : ys ≡ filter (λ (m : Member). not (is_server_member m.0)) xs) (seen : map pair_of xs ≡ ms) where
  pub cleaned : map pair_of ys ≡ filter (λ (m : List ℕ × Data). not (is_server_member m.0)) ms
  cleaned =
      ap (λ (zs : List Member). map pair_of zs) dropped
      ∙ filter_seen (λ n. not (is_server_member n)) xs
      ∙ ap (λ (ps : Pairs). filter (λ (m : List ℕ × Data). not (is_server_member m.0)) ps) seen

  pub cleaned-rises : IsRising ms → IsRising (map pair_of ys)
  cleaned-rises h = subst (λ (ps : Pairs). IsRising ps) (sym cleaned) (IsRising-filter (λ (m : List ℕ × Data). not (is_server_member m.0)) ms h)

-- A MEMBER THAT IS TAKEN OUT AND PUT AGAIN

-- without a name, where the first member has another name, and where it has this one
without_keep : (k : List ℕ) (m : List ℕ × Data) (ms : Pairs) → bytes_eq k m.0 ≡ false → without k (m ∷ ms) ≡ m ∷ without k ms
without_keep k m ms e = ap (λ b. cond b ms (m ∷ without k ms)) e

without_drop : (k : List ℕ) (m : List ℕ × Data) (ms : Pairs) → bytes_eq k m.0 ≡ true → without k (m ∷ ms) ≡ ms
without_drop k m ms e = ap (λ b. cond b ms (m ∷ without k ms)) e

-- a name below all of them is none of theirs
without_all : (k : List ℕ) (ms : Pairs) → IsBelowAll k ms → without k ms ≡ ms
without_all k [] h = refl
without_all k (m ∷ ms) h = without_keep k m ms (differ_less k m.0 h.0) ∙ ap (λ (more : Pairs). m ∷ more) (without_all k ms h.1)

put_below : (k : List ℕ) (a : Data) (ms : Pairs) → IsBelowAll k ms → put k a ms ≡ (k, a) ∷ ms
put_below k a [] h = refl
put_below k a (m ∷ ms) h = ap (λ o. match_ordering o ((k, a) ∷ m ∷ ms) ((k, a) ∷ ms) (m ∷ put k a ms)) h.0

put_at : (o : Ordering) (k : List ℕ) (a : Data) (m : List ℕ × Data) (ms : Pairs) → key_cmp k m.0 ≡ o → IsRising (m ∷ ms) → put k a (without k ms) ≡ put k a ms
    → put k a (without k (m ∷ ms)) ≡ match_ordering o ((k, a) ∷ m ∷ ms) ((k, a) ∷ ms) (m ∷ put k a ms)
put_at Less k a m ms e h r =
    let below : IsBelowAll k (m ∷ ms) = (e, below_by k m.0 ms e h.0) in
    ap (put k a) (without_all k (m ∷ ms) below) ∙ put_below k a (m ∷ ms) below
put_at Equal k a m ms e h r =
    let same : k ≡ m.0 = key_ties k m.0 e in
    let below : IsBelowAll k ms = subst (λ j. IsBelowAll j ms) (sym same) h.0 in
    ap (put k a) (without_drop k m ms ((bytes_eq-Decides k m.0).1 same)) ∙ put_below k a ms below
put_at Greater k a m ms e h r =
    ap (put k a) (without_keep k m ms (differ_greater k m.0 e))
    ∙ ap (λ o. match_ordering o ((k, a) ∷ m ∷ without k ms) ((k, a) ∷ without k ms) (m ∷ put k a (without k ms))) e
    ∙ ap (λ (more : Pairs). m ∷ more) r

put_without : (k : List ℕ) (a : Data) (ms : Pairs) → IsRising ms → put k a (without k ms) ≡ put k a ms
put_without k a [] h = refl
put_without k a (m ∷ ms) h = put_at (key_cmp k m.0) k a m ms refl h (put_without k a ms h.1)

-- the stored body, where the metadata is taken out, cleaned and put again
pub stored-of : (k : List ℕ) (ms rest new : Pairs) (found : Option Data) (clean : Data) → new ≡ put k clean rest → rest ≡ without k ms → clean ≡ clean_metadata found → found ≡ member k (entries_of ms)
    → k ≡ codes "@metadata" → IsRising ms → object (entries_of new) ≡ stored_body (object (entries_of ms))
stored-of k ms rest new found clean puts left cleans got named h =
    let all : new ≡ put k (clean_metadata (member k (entries_of ms))) ms =
    puts ∙ ap (put k clean) left ∙ put_without k clean ms h ∙ ap (λ (d : Data). put k d ms) (cleans ∙ ap clean_metadata got) in
    ap (λ (ps : Pairs). object (entries_of ps)) (all ∙ (λ i. put (named i) (clean_metadata (member (named i) (entries_of ms))) ((sym (pairs_of-entries_of ms)) i)))

pub ruleset stored_members = (stored-of)
