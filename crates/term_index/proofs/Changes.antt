-- How what the terms say follows a change of them.
use Rattle.std.proofs.Common.{◌≡◌, ℕ, List, [], ◌∷◌, Bool, true, false, cond, Option, Some, None, Less, Equal, Greater, refl, sym, ap, ◌∙◌}
use Rattle.std.specs.Ordering.{is_eq, nat_cmp, int_cmp, match_ordering}
use Rattle.std.specs.Cmp.Lexicographic.{nat_list_cmp_total}
use Rattle.std.specs.FinMap.{find, get, from_entries, get-from_entries, get-insert, get-remove, same_map, nat_cmp-IsAntisymmetric, int_cmp-IsAntisymmetric, slice_cmp-IsAntisymmetric}
use Rattle.std.specs.Map.{remove_entry}
use Rattle.std.specs.BTreeMap.{is_at, insert_entry}
use Rattle.spec_data.specs.Folding.{folded, key_cmp}
use Rattle.spec_data.specs.Scalars.{Scalar, nothing, truth, number, words, rank, number_in, words_in, order}
use Rattle.raven_value.specs.ScalarView.{scalar_view}
use Rattle.raven_value.specs.declared.scalar.Scalar.{Scalar as Value}
use Rattle.term_index.specs.Held.{Pairs, held, onto, AreApart, Values, set_value}
use Rattle.term_index.specs.Marks.{mark_cmp, at_id}
use Rattle.term_index.specs.KeyView.{by_mark, term_of}
use Rattle.term_index.specs.declared.key.Key.{Key}
use Rattle.term_index.specs.declared.key.Key.TheVariants as k
use Rattle.term_index.specs.declared.key.Term.{Term}
use Rattle.term_index.proofs.Orders.{then_left, then_right, equal}
use Rattle.term_index.proofs.Ties.{alike, alike_laws, HasId, ties, same_place}

-- what a key adds to a look-up
abbrev pub adds : List ℕ → Key → Option Scalar → Option Scalar
adds q (k.At t) o = cond (alike q (folded t.id)) (Some (scalar_view t.value)) o
adds q edge o = o

pub find-onto : (q : List ℕ) (key : Key) (rest : List (List ℕ × Scalar)) → find key_cmp q (onto key rest) ≡ adds q key (find key_cmp q rest)
find-onto q (k.At t) rest = refl
find-onto q (k.Before v) rest = refl
find-onto q (k.After v) rest = refl
find-onto q k.End rest = refl

abbrev pub IsNew : Key → List (List ℕ × Scalar) → Type 0
IsNew (k.At t) rest = find key_cmp (folded t.id) rest ≡ None
IsNew edge rest = Unit {0}

pub apart-onto : (key : Key) (rest : List (List ℕ × Scalar)) → AreApart (onto key rest) → IsNew key rest × AreApart rest
apart-onto (k.At t) rest a = (a.0, a.1)
apart-onto (k.Before v) rest a = (tt, a)
apart-onto (k.After v) rest a = (tt, a)
apart-onto k.End rest a = (tt, a)

pub onto-apart : (key : Key) (rest : List (List ℕ × Scalar)) → IsNew key rest → AreApart rest → AreApart (onto key rest)
onto-apart (k.At t) rest n a = (n, a)
onto-apart (k.Before v) rest n a = a
onto-apart (k.After v) rest n a = a
onto-apart k.End rest n a = a

-- A TERM LESS

adds_none : (q : List ℕ) (key : Key) (o : Option Scalar) → adds q key o ≡ None → o ≡ None
adds_none q (k.At t) o = elim (alike q (folded t.id)) as (λ b. cond b (Some (scalar_view t.value)) o ≡ None → o ≡ None) [ true ↦ λ h. absurd cc | false ↦ λ h. h ]
adds_none q (k.Before v) o = λ h. h
adds_none q (k.After v) o = λ h. h
adds_none q k.End o = λ h. h

adds_none_too : (q : List ℕ) (key : Key) (o p : Option Scalar) → adds q key o ≡ None → p ≡ None → adds q key p ≡ None
adds_none_too q (k.At t) o p = elim (alike q (folded t.id)) as (λ b. cond b (Some (scalar_view t.value)) o ≡ None → p ≡ None → cond b (Some (scalar_view t.value)) p ≡ None) [ true ↦ λ h g. absurd cc | false ↦ λ h g. g ]
adds_none_too q (k.Before v) o p = λ h g. g
adds_none_too q (k.After v) o p = λ h g. g
adds_none_too q k.End o p = λ h g. g

none-remove : (test : Key → Bool) (q : List ℕ) (es : Pairs) → find key_cmp q (held es) ≡ None → find key_cmp q (held (remove_entry test es)) ≡ None
none-remove test q [] h = h
none-remove test q (e ∷ es) h =
    let here : adds q e.0 (find key_cmp q (held es)) ≡ None = sym (find-onto q e.0 (held es)) ∙ h in
    elim (test e.0) as (λ b. find key_cmp q (held (cond b es (e ∷ remove_entry test es))) ≡ None) [
      | true ↦ adds_none q e.0 _ here
      | false ↦ find-onto q e.0 (held (remove_entry test es)) ∙ adds_none_too q e.0 _ _ here (none-remove test q es (adds_none q e.0 _ here))
    ]

new-remove : (test : Key → Bool) (key : Key) (es : Pairs) → IsNew key (held es) → IsNew key (held (remove_entry test es))
new-remove test (k.At t) es n = none-remove test (folded t.id) es n
new-remove test (k.Before v) es n = tt
new-remove test (k.After v) es n = tt
new-remove test k.End es n = tt

pub apart-remove : (test : Key → Bool) (es : Pairs) → AreApart (held es) → AreApart (held (remove_entry test es))
apart-remove test [] a = tt
apart-remove test (e ∷ es) a =
    let p = apart-onto e.0 (held es) a in
    elim (test e.0) as (λ b. AreApart (held (cond b es (e ∷ remove_entry test es)))) [
      | true ↦ p.1
      | false ↦ onto-apart e.0 _ (new-remove test e.0 es p.0) (apart-remove test es p.1)
    ]

pub find-alike : (q r : List ℕ) (es : List (List ℕ × Scalar)) → alike q r ≡ true → find key_cmp q es ≡ find key_cmp r es
find-alike q r [] h = refl
find-alike q r (e ∷ es) h = ap (λ b. cond b (Some e.1) (find key_cmp q es)) (alike_laws.congr q r e.0 h) ∙ ap (cond (alike r e.0) (Some e.1)) (find-alike q r es h)

-- ids that are the same are the same as each other one, or not
alike_both : (q x y : List ℕ) → alike x y ≡ true → alike q x ≡ alike q y
alike_both q x y h = alike_laws.symm q x ∙ (alike_laws.congr x y q h ∙ alike_laws.symm y q)

untied : (v : Value) (x : List ℕ) (key : Key) → ¬ (HasId x key) → is_eq (by_mark (term_of v x) key) ≡ false
untied v x key never = elim (is_eq (by_mark (term_of v x) key)) as (λ b. is_eq (by_mark (term_of v x) key) ≡ b → b ≡ false) [ true ↦ λ g. absurd (never (ties v x key g)) | false ↦ λ g. refl ] refl

out_is : (b c : Bool) (w : Scalar) (o : Option Scalar) → b ≡ c → (c ≡ true → o ≡ None) → o ≡ cond b None (cond c (Some w) o)
out_is true true w o e h = h refl
out_is true false w o e h = absurd cc
out_is false true w o e h = absurd cc
out_is false false w o e h = refl

stays_is : (b c : Bool) (w : Scalar) (o : Option Scalar) → (b ≡ true → c ≡ false) → cond c (Some w) (cond b None o) ≡ cond b None (cond c (Some w) o)
stays_is true true w o h = let never : true ≡ false = h refl in absurd cc
stays_is true false w o h = refl
stays_is false c w o h = refl

same_Some : (x y : Scalar) → Some x ≡ Some y → x ≡ y
same_Some x y h = cc

module _ (v : Value) (x : List ℕ) where
  -- without the term of this value and this id
  left : Pairs → Pairs
  left es = remove_entry (is_at (by_mark (term_of v x))) es

  Gone : List ℕ → Pairs → Type 0
  Gone q es = find key_cmp q (held (left es)) ≡ cond (alike q (folded x)) None (find key_cmp q (held es))

  -- the first term is the one that goes, or it is another
  first_goes : (q : List ℕ) (t : Term) (es : Pairs) → AreApart (held ((k.At t, tt) ∷ es)) → alike (folded x) (folded t.id) ≡ true → scalar_view t.value ≡ scalar_view v → Gone q ((k.At t, tt) ∷ es)
  unfolding left Gone
  first_goes q t es a h same =
      let tied : is_eq (by_mark (term_of v x) (k.At t)) ≡ true = ap (λ z. is_eq (mark_cmp (at_id (scalar_view v) x) (at_id z t.id))) same ∙ (same_place (scalar_view v) x t.id ∙ h) in
      ap (λ b. find key_cmp q (held (cond b es ((k.At t, tt) ∷ left es)))) tied
      ∙ out_is _ _ (scalar_view t.value) _ (alike_both q (folded x) (folded t.id) h) (λ g. find-alike q (folded t.id) (held es) g ∙ a.0)

  first_stays : (q : List ℕ) (t : Term) (es : Pairs) → alike (folded x) (folded t.id) ≡ false → Gone q es → Gone q ((k.At t, tt) ∷ es)
  unfolding left Gone
  first_stays q t es h ih =
      ap (λ b. find key_cmp q (held (cond b es ((k.At t, tt) ∷ left es)))) (untied v x (k.At t) (λ g. let two : true ≡ false = sym g ∙ h in absurd cc))
      ∙ (ap (cond (alike q (folded t.id)) (Some (scalar_view t.value))) ih ∙ stays_is _ _ (scalar_view t.value) _ (λ g. alike_laws.congr q (folded x) (folded t.id) g ∙ h))

  edge_stays : (q : List ℕ) (key : Key) (es : Pairs) → ¬ (HasId x key) → ((rest : List (List ℕ × Scalar)) → onto key rest ≡ rest) → Gone q es → Gone q ((key, tt) ∷ es)
  unfolding left Gone
  edge_stays q key es never plain ih =
      ap (λ b. find key_cmp q (held (cond b es ((key, tt) ∷ left es)))) (untied v x key never)
      ∙ (ap (find key_cmp q) (plain (held (left es))) ∙ (ih ∙ ap (λ rest. cond (alike q (folded x)) None (find key_cmp q rest)) (sym (plain (held es)))))

  pub find-remove : (q : List ℕ) (es : Pairs) → AreApart (held es) → find key_cmp (folded x) (held es) ≡ Some (scalar_view v)
      → find key_cmp q (held (remove_entry (is_at (by_mark (term_of v x))) es)) ≡ cond (alike q (folded x)) None (find key_cmp q (held es))
  unfolding left Gone
  find-remove q [] a at = absurd cc
  find-remove q ((k.At t, u) ∷ es) a at =
      elim (alike (folded x) (folded t.id)) as (λ b. alike (folded x) (folded t.id) ≡ b → cond b (Some (scalar_view t.value)) (find key_cmp (folded x) (held es)) ≡ Some (scalar_view v) → Gone q ((k.At t, tt) ∷ es)) [
        | true ↦ λ h s. first_goes q t es a h (same_Some _ _ s)
        | false ↦ λ h s. first_stays q t es h (find-remove q es a.1 s)
      ] refl at
  find-remove q ((k.Before w, u) ∷ es) a at = edge_stays q (k.Before w) es (λ h. h) (λ rest. refl) (find-remove q es a at)
  find-remove q ((k.After w, u) ∷ es) a at = edge_stays q (k.After w) es (λ h. h) (λ rest. refl) (find-remove q es a at)
  find-remove q ((k.End, u) ∷ es) a at = edge_stays q k.End es (λ h. h) (λ rest. refl) (find-remove q es a at)

-- A TERM MORE, of an id that has none

comes_is : (b c : Bool) (s w : Scalar) (o : Option Scalar) → (c ≡ true → b ≡ false) → cond c (Some w) (cond b (Some s) o) ≡ cond b (Some s) (cond c (Some w) o)
comes_is true true s w o h = let never : true ≡ false = h refl in absurd cc
comes_is true false s w o h = refl
comes_is false c s w o h = refl

module _ (v : Value) (x : List ℕ) where
  more : Pairs → Pairs
  more es = insert_entry by_mark es (term_of v x) tt

  Come : List ℕ → Pairs → Type 0
  Come q es = find key_cmp q (held (more es)) ≡ cond (alike q (folded x)) (Some (scalar_view v)) (find key_cmp q (held es))

  -- past a key that is not where the term goes
  past_key : (q : List ℕ) (key : Key) (es : Pairs) → ¬ (HasId x key) → adds q key (cond (alike q (folded x)) (Some (scalar_view v)) (find key_cmp q (held es))) ≡ cond (alike q (folded x)) (Some (scalar_view v)) (adds q key (find key_cmp q (held es))) → Come q es → Come q ((key, tt) ∷ es)
  unfolding more Come
  past_key q key es never swap ih =
      elim (by_mark (term_of v x) key) as (λ r. by_mark (term_of v x) key ≡ r → find key_cmp q (held (match_ordering r ((term_of v x, tt) ∷ (key, tt) ∷ es) ((key, tt) ∷ es) ((key, tt) ∷ more es))) ≡ cond (alike q (folded x)) (Some (scalar_view v)) (find key_cmp q (onto key (held es)))) [
        | Less ↦ λ h. refl
        | Equal ↦ λ h. absurd (never (ties v x key (ap is_eq h)))
        | Greater ↦ λ h.
            find-onto q key (held (more es)) ∙ (ap (adds q key) ih ∙ (swap ∙ ap (cond (alike q (folded x)) (Some (scalar_view v))) (sym (find-onto q key (held es)))))
      ] refl

  other : (y : List ℕ) (w : Scalar) (o : Option Scalar) → cond (alike (folded x) (folded y)) (Some w) o ≡ None → (alike (folded x) (folded y) ≡ false) × (o ≡ None)
  other y w o = elim (alike (folded x) (folded y)) as (λ b. cond b (Some w) o ≡ None → (b ≡ false) × (o ≡ None)) [ true ↦ λ h. absurd cc | false ↦ λ h. (refl, h) ]

  pub find-insert : (q : List ℕ) (es : Pairs) → find key_cmp (folded x) (held es) ≡ None
      → find key_cmp q (held (insert_entry by_mark es (term_of v x) tt)) ≡ cond (alike q (folded x)) (Some (scalar_view v)) (find key_cmp q (held es))
  unfolding more Come
  find-insert q [] never = refl
  find-insert q ((k.At t, u) ∷ es) never =
      let p = other t.id (scalar_view t.value) (find key_cmp (folded x) (held es)) never in
      past_key q (k.At t) es (λ g. let two : true ≡ false = sym g ∙ p.0 in absurd cc)
      (comes_is (alike q (folded x)) (alike q (folded t.id)) (scalar_view v) (scalar_view t.value) (find key_cmp q (held es)) (λ g. apart g p.0))
      (find-insert q es p.1)
    where
      apart : alike q (folded t.id) ≡ true → alike (folded x) (folded t.id) ≡ false → alike q (folded x) ≡ false
      apart g h = alike_laws.congr q (folded t.id) (folded x) g ∙ (alike_laws.symm (folded t.id) (folded x) ∙ h)
  find-insert q ((k.Before w, u) ∷ es) never = past_key q (k.Before w) es (λ h. h) refl (find-insert q es never)
  find-insert q ((k.After w, u) ∷ es) never = past_key q (k.After w) es (λ h. h) refl (find-insert q es never)
  find-insert q ((k.End, u) ∷ es) never = past_key q k.End es (λ h. h) refl (find-insert q es never)

  new-insert : (key : Key) (es : Pairs) → IsNew key (held es) → ¬ (HasId x key) → find key_cmp (folded x) (held es) ≡ None → IsNew key (held (insert_entry by_mark es (term_of v x) tt))
  new-insert (k.At t) es n never fresh =
      find-insert (folded t.id) es fresh ∙ ap (λ b. cond b (Some (scalar_view v)) (find key_cmp (folded t.id) (held es))) (apart (alike (folded t.id) (folded x)) refl) ∙ n
    where
      apart : (b : Bool) → alike (folded t.id) (folded x) ≡ b → alike (folded t.id) (folded x) ≡ false
      apart true h = absurd (never (alike_laws.symm (folded x) (folded t.id) ∙ h))
      apart false h = h
  new-insert (k.Before w) es n never fresh = tt
  new-insert (k.After w) es n never fresh = tt
  new-insert k.End es n never fresh = tt

  not_held : (key : Key) (rest : List (List ℕ × Scalar)) → find key_cmp (folded x) (onto key rest) ≡ None → (¬ (HasId x key)) × (find key_cmp (folded x) rest ≡ None)
  not_held (k.At t) rest h =
      let p = other t.id (scalar_view t.value) (find key_cmp (folded x) rest) h in
      (λ g. let two : true ≡ false = sym g ∙ p.0 in absurd cc, p.1)
  not_held (k.Before w) rest h = (λ g. g, h)
  not_held (k.After w) rest h = (λ g. g, h)
  not_held k.End rest h = (λ g. g, h)

  pub apart-insert : (es : Pairs) → AreApart (held es) → find key_cmp (folded x) (held es) ≡ None → AreApart (held (insert_entry by_mark es (term_of v x) tt))
  apart-insert [] a fresh = (refl, tt)
  apart-insert (e ∷ es) a fresh =
      let p = apart-onto e.0 (held es) a in
      let q = not_held e.0 (held es) fresh in
      elim (by_mark (term_of v x) e.0) as (λ r. by_mark (term_of v x) e.0 ≡ r → AreApart (held (match_ordering r ((term_of v x, tt) ∷ e ∷ es) ((e.0, tt) ∷ es) (e ∷ insert_entry by_mark es (term_of v x) tt)))) [
        | Less ↦ λ h. (fresh, a)
        | Equal ↦ λ h. absurd (q.0 (ties v x e.0 (ap is_eq h)))
        | Greater ↦ λ h. onto-apart e.0 _ (new-insert e.0 es p.0 q.0 q.1) (apart-insert es p.1 q.1)
      ] refl

-- ANOTHER VALUE OF AN ID

pub find-absent : (q x : List ℕ) (es : List (List ℕ × Scalar)) → find key_cmp x es ≡ None → find key_cmp q es ≡ cond (alike q x) None (find key_cmp q es)
find-absent q x es fresh = elim (alike q x) as (λ b. alike q x ≡ b → find key_cmp q es ≡ cond b None (find key_cmp q es)) [ true ↦ λ h. find-alike q x es h ∙ fresh | false ↦ λ h. refl ] refl

pub find-values : (q : List ℕ) (es : List (List ℕ × Scalar)) → get (from_entries {R = key_cmp} es) q ≡ find key_cmp q es
find-values q es = get-from_entries nat_list_cmp_total es q

twice : (b : Bool) (new o : Option Scalar) → cond b new (cond b None o) ≡ cond b new o
twice true new o = refl
twice false new o = refl

get-set_value : (x q : List ℕ) (new : Option Scalar) (m : Values) → get (set_value x new m) q ≡ cond (alike q x) new (get m q)
get-set_value x q None m = get-remove nat_list_cmp_total m x q
get-set_value x q (Some v) m = get-insert nat_list_cmp_total m x v q

pub replaced : (x : List ℕ) (new : Option Scalar) (old less gone : List (List ℕ × Scalar)) (m : Values) → from_entries old ≡ m
    → ((q : List ℕ) → find key_cmp q less ≡ cond (alike q x) None (find key_cmp q old)) → ((q : List ℕ) → find key_cmp q gone ≡ cond (alike q x) new (find key_cmp q less)) → from_entries gone ≡ set_value x new m
replaced x new old less gone m is out put =
    same_map nat_list_cmp_total (slice_cmp-IsAntisymmetric nat_cmp-IsAntisymmetric) _ _ (λ q.
    find-values q gone ∙ (put q ∙ (ap (cond (alike q x) new) (out q) ∙ (twice (alike q x) new (find key_cmp q old)
    ∙ (ap (cond (alike q x) new) (sym (find-values q old) ∙ ap (λ m. get m q) is) ∙ sym (get-set_value x q new m))))))

pub gone_itself : (x : List ℕ) (o : Option Scalar) → cond (alike x x) None o ≡ None
gone_itself x o = ap (λ b. cond b None o) (alike_laws.refl x)

-- THE SAME VALUE OF AN ID

same_key_cmp : (x y : List ℕ) → is_eq (key_cmp x y) ≡ true → x ≡ y
same_key_cmp x y h = slice_cmp-IsAntisymmetric nat_cmp-IsAntisymmetric x y (equal _ h)

-- the parts by which scalars are ordered
same_parts : (a b : Scalar) → rank a ≡ rank b → number_in a ≡ number_in b → words_in a ≡ words_in b → a ≡ b
same_parts nothing nothing r n w = refl
same_parts nothing (truth true) r n w = absurd cc
same_parts nothing (truth false) r n w = absurd cc
same_parts nothing (number m) r n w = absurd cc
same_parts nothing (words t) r n w = absurd cc
same_parts (truth true) nothing r n w = absurd cc
same_parts (truth false) nothing r n w = absurd cc
same_parts (truth true) (truth true) r n w = refl
same_parts (truth true) (truth false) r n w = absurd cc
same_parts (truth false) (truth true) r n w = absurd cc
same_parts (truth false) (truth false) r n w = refl
same_parts (truth true) (number m) r n w = absurd cc
same_parts (truth false) (number m) r n w = absurd cc
same_parts (truth true) (words t) r n w = absurd cc
same_parts (truth false) (words t) r n w = absurd cc
same_parts (number l) nothing r n w = absurd cc
same_parts (number l) (truth true) r n w = absurd cc
same_parts (number l) (truth false) r n w = absurd cc
same_parts (number l) (number m) r n w = ap number n
same_parts (number l) (words t) r n w = absurd cc
same_parts (words s) nothing r n w = absurd cc
same_parts (words s) (truth true) r n w = absurd cc
same_parts (words s) (truth false) r n w = absurd cc
same_parts (words s) (number m) r n w = absurd cc
same_parts (words s) (words t) r n w = ap words w

pub same_scalar : (a b : Scalar) → is_eq (order a b) ≡ true → a ≡ b
same_scalar a b h =
    let more = then_right (nat_cmp (rank a) (rank b)) _ h in
    let most = then_right (int_cmp (number_in a) (number_in b)) _ more in
    same_parts a b
    (nat_cmp-IsAntisymmetric (rank a) (rank b) (equal _ (then_left (nat_cmp (rank a) (rank b)) _ h)))
    (int_cmp-IsAntisymmetric (number_in a) (number_in b) (equal _ (then_left (int_cmp (number_in a) (number_in b)) _ more)))
    (same_key_cmp (words_in a) (words_in b) (then_right (key_cmp (folded (words_in a)) (folded (words_in b))) _ most))

pub unchanged : (x : List ℕ) (old new : Option Scalar) (m : Values) → get m x ≡ old → old ≡ new → m ≡ set_value x new m
unchanged x old new m is same =
    same_map nat_list_cmp_total (slice_cmp-IsAntisymmetric nat_cmp-IsAntisymmetric) _ _ (λ q. by q (alike q x) refl ∙ sym (get-set_value x q new m))
  where
    by : (q : List ℕ) (b : Bool) → alike q x ≡ b → get m q ≡ cond (alike q x) new (get m q)
    by q true h = ap (get m) (same_key_cmp q x h) ∙ (is ∙ (same ∙ ap (λ b. cond b new (get m q)) (sym h)))
    by q false h = ap (λ b. cond b new (get m q)) (sym h)
