-- A reading that keeps to a grammar and reads all that is spelled is exact, with the place of each refusal.
use Rattle.std.proofs.Common.{◌≡◌, ℕ, ◌≤◌, List, [], ◌∷◌, ◌++◌, length, refl, sym, ◌∙◌, ap, subst, append_assoc, length-append, arith}
use Rattle.exact_parse.specs.Steps.{head, Cause, Unexpected, TooLarge, Outcome, Read, Refused, Reader}
use Rattle.exact_parse.specs.Limits.{Verdict, Fine, Over}
use Rattle.exact_parse.specs.Keeps.{Goes, Prefix, Fits, Keeps}
use Rattle.exact_parse.specs.Answers.{Answer, Spelled, IsUnexpected, IsTooLarge, IsAnswer, answer_of}
use Rattle.exact_parse.specs.Exact.{Meets, SpellsText, GoesOn, UnexpectedAt, TooLargeAt}
use Rattle.exact_parse.proofs.Cuts.{Cut, same, earlier, later, cut, cut_same}

module _ {T K A : Type 0} (X : List T → A → List T → Type 0) (limit : (s : List T) (a : A) (r : List T) → X s a r → Verdict T K) (f : Reader T K A) (keeps : Keeps X f)
    (meets : (s r : List T) (a : A) (x : X s a r) → Meets (limit s a r x) a r (f 0 s)) where
  pub read_text : (ts : List T) (a : A) (c : ℕ) (r : List T) → f 0 ts ≡ Read a c r → SpellsText X limit ts a
  read_text ts a c r e = from (f 0 ts) refl (keeps.fits 0 ts)
    where
      within : (x : X ts a r) (v : Verdict T K) → limit ts a r x ≡ v → Meets v a r (f 0 ts) → (n : ℕ) × (limit ts a r x ≡ Fine n)
      within x (Fine n) is m = (n, is)
      within x (Over j p) is m = let bad : ◌≡◌ {A = Outcome T K A} (Read a c r) (Refused (TooLarge j) p) = sym e ∙ m in cc

      from : (o : Outcome T K A) → f 0 ts ≡ o → Fits X f 0 ts o → SpellsText X limit ts a
      from (Refused k s) is u = let bad : ◌≡◌ {A = Outcome T K A} (Read a c r) (Refused k s) = sym e ∙ is in cc
      from (Read b c' s) is u =
          let both : ◌≡◌ {A = Outcome T K A} (Read b c' s) (Read a c r) = sym is ∙ e in
          let tree : b ≡ a = cc in let rest : s ≡ r = cc in
          let x : X ts a r = subst (λ b. X ts b r) tree (subst (λ r. X ts b r) rest (subst (λ t. X t b s) (sym u.split) (u.spells s))) in
          let w = within x (limit ts a r x) refl (meets ts r a x) in
          record { rest = r; spelling = x; count = w.0; within = w.1 }

  pub text_read : (ts : List T) (a : A) → SpellsText X limit ts a → (c : ℕ) × (r : List T) × (f 0 ts ≡ Read a c r)
  text_read ts a x = (x.count, x.rest, subst (λ v. Meets v a x.rest (f 0 ts)) x.within (meets ts x.rest a x.spelling))

  -- what is refused as unexpected is spelled by nothing
  not_spelled : (k : K) (s r q : List T) (a : A) (x : X s a r) → f 0 s ≡ Refused (Unexpected k) q → ⊥
  not_spelled k s r q a x e = by (limit s a r x) (meets s r a x)
    where
      by : (v : Verdict T K) → Meets v a r (f 0 s) → ⊥
      by (Fine c) m = let bad : ◌≡◌ {A = Outcome T K A} (Read a c r) (Refused (Unexpected k) q) = sym m ∙ e in cc
      by (Over j p) m = let bad : ◌≡◌ {A = Outcome T K A} (Refused (TooLarge j) p) (Refused (Unexpected k) q) = sym m ∙ e in cc

  -- what is refused as too large, and spelled, is past the limit there
  over_there : (j : K) (s r q : List T) (a : A) (x : X s a r) → f 0 s ≡ Refused (TooLarge j) q → limit s a r x ≡ Over j q
  over_there j s r q a x e = by (limit s a r x) refl (meets s r a x)
    where
      by : (v : Verdict T K) → limit s a r x ≡ v → Meets v a r (f 0 s) → limit s a r x ≡ Over j q
      by (Fine c) is m = let bad : ◌≡◌ {A = Outcome T K A} (Read a c r) (Refused (TooLarge j) q) = sym m ∙ e in cc
      by (Over i p) is m = let both : ◌≡◌ {A = Outcome T K A} (Refused (TooLarge i) p) (Refused (TooLarge j) q) = sym m ∙ e in
          let kind : i ≡ j = cc in let same : p ≡ q = cc in is ∙ ap (λ i. Over i p) kind ∙ ap (Over j) same

  -- what is refused in one list is refused in each that begins alike
  pub alike : (k : Cause K) (ts p : List T) → f 0 ts ≡ Refused k p → (before : List T) × (ts ≡ before ++ p) × Prefix X k before p × ((z : List T) → head z ≡ head p → f 0 (before ++ z) ≡ Refused k z)
  alike k ts p e = from (f 0 ts) refl (keeps.fits 0 ts)
    where
      from : (o : Outcome T K A) → f 0 ts ≡ o → Fits X f 0 ts o → (before : List T) × (ts ≡ before ++ p) × Prefix X k before p × ((z : List T) → head z ≡ head p → f 0 (before ++ z) ≡ Refused k z)
      from (Read b c s) is u = let bad : ◌≡◌ {A = Outcome T K A} (Read b c s) (Refused k p) = sym is ∙ e in cc
      from (Refused j s) is u =
          let both : ◌≡◌ {A = Outcome T K A} (Refused j s) (Refused k p) = sym is ∙ e in
          let cause : j ≡ k = cc in let rest : s ≡ p = cc in (
            u.taken,
            u.split ∙ ap (λ s. u.taken ++ s) rest,
            subst (λ j. Prefix X j u.taken p) cause (subst (λ s. Prefix X j u.taken s) rest u.goes),
            λ z h. subst (λ j. f 0 (u.taken ++ z) ≡ Refused j z) cause (u.same z (h ∙ sym (ap head rest))),
          )

  -- ---- where a token is refused as unexpected

  no_other : (k j : K) (s p q : List T) → f 0 s ≡ Refused (Unexpected k) p → f 0 s ≡ Refused (TooLarge j) q → ⊥
  no_other k j s p q a b = let both : ◌≡◌ {A = Outcome T K A} (Refused (Unexpected k) p) (Refused (TooLarge j) q) = sym a ∙ b in cc

  within_cut : (k j : K) {w m v q : List T} → Cut w m v q → (p : List T) → f 0 (w ++ p) ≡ Refused (Unexpected k) p →
      ((z : List T) → head z ≡ head q → f 0 (v ++ z) ≡ Refused (TooLarge j) z) → length q ≤ length m
  within_cut k j same p e large = omega arith
  within_cut k j (earlier {p = m} {v = v} x u) p e large =
      let bad : f 0 (v ++ (x ∷ (u ++ p))) ≡ Refused (TooLarge j) (x ∷ (u ++ p)) = large (x ∷ (u ++ p)) refl in
      let good : f 0 (v ++ (x ∷ (u ++ p))) ≡ Refused (Unexpected k) p = subst (λ t. f 0 t ≡ Refused (Unexpected k) p) (append_assoc v (x ∷ u) p) e in
      absurd (no_other k j (v ++ (x ∷ (u ++ p))) p (x ∷ (u ++ p)) good bad)
  within_cut k j (later {q = q} x u) p e large = omega (arith, length-append u q)

  within_prefix : (k : K) (w m r p : List T) (a : A) (x : X (w ++ m) a r) → f 0 (w ++ p) ≡ Refused (Unexpected k) p → (j : K) (q : List T) → limit (w ++ m) a r x ≡ Over j q → length q ≤ length m
  within_prefix k w m r p a x e j q over =
      let large : f 0 (w ++ m) ≡ Refused (TooLarge j) q = subst (λ v. Meets v a r (f 0 (w ++ m))) over (meets (w ++ m) r a x) in
      by large (alike (TooLarge j) (w ++ m) q large)
    where
      by : f 0 (w ++ m) ≡ Refused (TooLarge j) q → (v : List T) × (w ++ m ≡ v ++ q) × Prefix {K = K} X (TooLarge j) v q × ((z : List T) → head z ≡ head q → f 0 (v ++ z) ≡ Refused (TooLarge j) z) → length q ≤ length m
      by large (v, split, g, again) = within_cut k j (cut w m v q split) p e again

  pub unexpected_at : (k : K) (ts p : List T) → f 0 ts ≡ Refused (Unexpected k) p → UnexpectedAt X limit ts p
  unexpected_at k ts p e = at (alike (Unexpected k) ts p e)
    where
      at : (before : List T) × (ts ≡ before ++ p) × Goes X before × ((z : List T) → head z ≡ head p → f 0 (before ++ z) ≡ Refused (Unexpected k) z) → UnexpectedAt X limit ts p
      at (w, split, g, again) = record {
        before = w;
        split = split;
        goes_on = record {
          more = g.more ++ [];
          rest = [];
          tree = g.tree;
          spelling = g.spells [];
          within = within_prefix k w (g.more ++ []) [] p g.tree (g.spells []) (again p refl);
        };
        none = λ z r a h x. not_spelled k (w ++ z) r z a x (again z h);
      }

  -- ---- where a token is refused as too large

  pub too_large_at : (j : K) (ts p : List T) → f 0 ts ≡ Refused (TooLarge j) p → TooLargeAt X limit j ts p
  too_large_at j ts p e = at p (alike (TooLarge j) ts p e)
    where
      at : (p : List T) → (before : List T) × (ts ≡ before ++ p) × Prefix {K = K} X (TooLarge j) before p × ((z : List T) → head z ≡ head p → f 0 (before ++ z) ≡ Refused (TooLarge j) z) → TooLargeAt X limit j ts p
      at [] (w, split, g, again) = absurd g
      at (x ∷ p) (w, split, g, again) =
          let spelling : X (w ++ (x ∷ (g.more ++ []))) g.tree [] = subst (λ t. X t g.tree []) (append_assoc w (x ∷ []) (g.more ++ [])) (g.spells []) in
          record {
            before = w;
            split = split;
            more = x ∷ (g.more ++ []);
            rest = [];
            tree = g.tree;
            same = refl;
            spelling = spelling;
            over = over_there j (w ++ (x ∷ (g.more ++ []))) [] (x ∷ (g.more ++ [])) g.tree spelling (again (x ∷ (g.more ++ [])) refl);
          }

  pub too_large_only : (j : K) (ts p : List T) → TooLargeAt X limit j ts p → f 0 ts ≡ Refused (TooLarge j) p
  too_large_only j ts p t =
      let large : f 0 (t.before ++ t.more) ≡ Refused (TooLarge j) t.more = subst (λ v. Meets v t.tree t.rest (f 0 (t.before ++ t.more))) t.over (meets (t.before ++ t.more) t.rest t.tree t.spelling) in
      at (alike (TooLarge j) (t.before ++ t.more) t.more large)
    where
      at : (v : List T) × (t.before ++ t.more ≡ v ++ t.more) × Prefix {K = K} X (TooLarge j) v t.more × ((z : List T) → head z ≡ head t.more → f 0 (v ++ z) ≡ Refused (TooLarge j) z) → f 0 ts ≡ Refused (TooLarge j) p
      at (v, split, g, again) = subst (λ s. f 0 s ≡ Refused (TooLarge j) p) (ap (λ w. w ++ p) (sym (cut_same (cut t.before t.more v t.more split) refl)) ∙ sym t.split) (again p (sym t.same))

  -- ---- nothing else is refused as unexpected

  Dead : List T → List T → Type 0
  Dead w p = (z r : List T) (a : A) → head z ≡ head p → X (w ++ z) a r → ⊥

  no_goes : (w u p : List T) (x : T) → Dead w (x ∷ p) → Goes X (w ++ x ∷ u) → ⊥
  unfolding Dead
  no_goes w u p x none g = none (x ∷ (u ++ (g.more ++ []))) [] g.tree refl (subst (λ t. X t g.tree []) (append_assoc w (x ∷ u) (g.more ++ [])) (g.spells []))

  refused : {w p v s : List T} → Cut w p v s → (k : Cause K) → Prefix X k v s → ((z : List T) → head z ≡ head s → f 0 (v ++ z) ≡ Refused k z) → GoesOn X limit w → Dead w p → (j : K) × (k ≡ Unexpected j) × (s ≡ p)
  unfolding Dead
  refused same (Unexpected j) g again on none = (j, refl, refl)
  refused {s = []} same (TooLarge j) g again on none = absurd g
  refused {w = w} {s = y ∷ s} same (TooLarge j) g again on none = absurd (no_goes w [] s y none g)
  refused (earlier {p = p} {v = v} x u) (Unexpected j) g again on none =
      absurd (not_spelled j (v ++ (x ∷ (u ++ on.more))) on.rest (x ∷ (u ++ on.more)) on.tree (subst (λ t. X t on.tree on.rest) (append_assoc v (x ∷ u) on.more) on.spelling) (again (x ∷ (u ++ on.more)) refl))
  refused (earlier {p = p} {v = v} x u) (TooLarge j) g again on none =
      let large : f 0 ((v ++ x ∷ u) ++ on.more) ≡ Refused (TooLarge j) (x ∷ (u ++ on.more)) = subst (λ t. f 0 t ≡ Refused (TooLarge j) (x ∷ (u ++ on.more))) (sym (append_assoc v (x ∷ u) on.more)) (again (x ∷ (u ++ on.more)) refl) in
      let long = on.within j (x ∷ (u ++ on.more)) (over_there j ((v ++ x ∷ u) ++ on.more) on.rest (x ∷ (u ++ on.more)) on.tree on.spelling large) in
      absurd (omega (arith, length-append u on.more, long))
  refused (later {w = w} {q = q} x u) (Unexpected j) g again on none = absurd (no_goes w u (u ++ q) x none g)
  refused (later {w = w} {q = []} x u) (TooLarge j) g again on none = absurd g
  refused (later {w = w} {q = y ∷ q} x u) (TooLarge j) g again on none =
      absurd (no_goes w (u ++ y ∷ []) (u ++ y ∷ q) x none (subst (Goes X) (append_assoc w (x ∷ u) (y ∷ [])) g))

  pub unexpected_only : (ts p : List T) → UnexpectedAt X limit ts p → (k : K) × (f 0 ts ≡ Refused (Unexpected k) p)
  unfolding Dead
  unexpected_only ts p t = from (f 0 ts) refl (keeps.fits 0 ts)
    where
      from : (o : Outcome T K A) → f 0 ts ≡ o → Fits X f 0 ts o → (k : K) × (f 0 ts ≡ Refused (Unexpected k) p)
      from (Read b c s) is u = absurd (t.none p s b refl (subst (λ t. X t b s) (sym u.split ∙ t.split) (u.spells s)))
      from (Refused k s) is u =
          let found = refused (cut t.before p u.taken s (sym t.split ∙ u.split)) k u.goes u.same t.goes_on t.none in
          (found.0, is ∙ ap (λ k. Refused k s) found.1 ∙ ap (Refused (Unexpected found.0)) found.2)

  pub refused_length : (ts p : List T) (k : Cause K) → f 0 ts ≡ Refused k p → length p ≤ length ts
  refused_length ts p k e = at (alike k ts p e)
    where
      at : (before : List T) × (ts ≡ before ++ p) × Prefix X k before p × ((z : List T) → head z ≡ head p → f 0 (before ++ z) ≡ Refused k z) → length p ≤ length ts
      at (w, split, g, again) = omega (arith, ap length split, length-append w p)

  -- ---- one answer each

  pub said : (ts : List T) → IsAnswer X limit ts (answer_of (f 0 ts))
  said ts = from (f 0 ts) refl
    where
      from : (o : Outcome T K A) → f 0 ts ≡ o → IsAnswer X limit ts (answer_of o)
      from (Read a c r) e = read_text ts a c r e
      from (Refused (Unexpected k) p) e = unexpected_at k ts p e
      from (Refused (TooLarge j) p) e = too_large_at j ts p e

  pub answer_is : (ts : List T) (answer : Answer T K A) → answer_of (f 0 ts) ≡ answer → IsAnswer X limit ts answer
  answer_is ts answer e = subst (IsAnswer X limit ts) e (said ts)

  answered : (ts : List T) (x : Answer T K A) → IsAnswer X limit ts x → answer_of (f 0 ts) ≡ x
  answered ts (Spelled a) h = ap answer_of ((text_read ts a h).2)
  answered ts (IsUnexpected p) h = ap answer_of ((unexpected_only ts p h).1)
  answered ts (IsTooLarge j p) h = ap answer_of (too_large_only j ts p h)

  pub one_answer : (ts : List T) (x y : Answer T K A) → IsAnswer X limit ts x → IsAnswer X limit ts y → x ≡ y
  one_answer ts x y h k = sym (answered ts x h) ∙ answered ts y k

  pub no_both : (j : K) (ts p : List T) → UnexpectedAt X limit ts p → TooLargeAt X limit j ts p → ⊥
  no_both j ts p h k = let bad : ◌≡◌ {A = Answer T K A} (IsUnexpected p) (IsTooLarge j p) = one_answer ts (IsUnexpected p) (IsTooLarge j p) h k in cc

  pub again : (ts p : List T) (k : Cause K) → f 0 ts ≡ Refused k p → (before : List T) × (ts ≡ before ++ p) × ((z : List T) → head z ≡ head p → f 0 (before ++ z) ≡ Refused k z)
  again ts p k e = let a = alike k ts p e in (a.0, a.1, a.3)
