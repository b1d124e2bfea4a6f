-- The steps keep to a relation, if their parts do.
use Rattle.std.proofs.Common.{◌≡◌, ℕ, ◌+◌, ◌≤◌, Bool, true, false, nat_lt, List, [], ◌∷◌, ◌++◌, length, Option, Some, None, refl, sym, ◌∙◌, ap, subst, append_assoc, length-append, arith}
use Rattle.exact_parse.specs.Steps.{head, Unexpected, TooLarge, Outcome, Read, Refused, Reader, and_then, ◌>>=◌, ◌>>◌, pure, refuse, too_large, choose, skip, within, counted, fresh, take, take_by, take_as}
use Rattle.exact_parse.specs.Keeps.{Goes, FitsRead, Fits, Keeps, Then}

-- ---- lists

pub head-swap : {T : Type 0} (w y z : List T) → head y ≡ head z → head (w ++ y) ≡ head (w ++ z)
head-swap [] y z h = h
head-swap (x ∷ w) y z h = refl

-- ---- single steps

pub pure_at : {T K A : Type 0} {X : List T → A → List T → Type 0} {a : A} → ((z : List T) → X z a z) → (c : ℕ) (s : List T) → Fits X (pure {K = K} a) c s (Read a c s)
pure_at h c s = record { taken = []; split = refl; spells = h; same = λ z e. refl }

pub pure_keeps : {T K A : Type 0} {X : List T → A → List T → Type 0} {a : A} → ((z : List T) → X z a z) → Keeps X (pure {K = K} a)
pure_keeps {a = a} h = record { short = record { more = []; tree = a; spells = h }; fits = pure_at h }

pub refuse_at : {T K A : Type 0} {X : List T → A → List T → Type 0} (k : K) → Goes X [] → (c : ℕ) (s : List T) → Fits X (refuse k) c s (Refused (Unexpected k) s)
refuse_at k g c s = record { taken = []; split = refl; goes = g; same = λ z e. refl }

pub refuse_keeps : {T K A : Type 0} {X : List T → A → List T → Type 0} (k : K) → Goes X [] → Keeps X (refuse k)
refuse_keeps {X = X} k g = record { short = g; fits = λ c s. refuse_at {X = X} k g c s }

pub too_large_at : {T K A : Type 0} {X : List T → A → List T → Type 0} {x : T} (k : K) → Goes X (x ∷ []) → (c : ℕ) (s : List T) → Fits X (too_large k) c (x ∷ s) (Refused (TooLarge k) (x ∷ s))
too_large_at k g c s = record { taken = []; split = refl; goes = g; same = λ z e. refl }

module _ {T K A : Type 0} (X : List T → A → List T → Type 0) (p : Option T → Reader T K A) where
  choose_same : (s s' w z : List T) → s ≡ w ++ s' → head z ≡ head s' → head (w ++ z) ≡ head s
  choose_same s s' w z split h = head-swap w z s' h ∙ sym (ap head split)

  choose_at : (c : ℕ) (s : List T) (o : Outcome T K A) → Fits X (p (head s)) c s o → Fits X (choose p) c s o
  choose_at c s (Read a c' s') f = record {
    taken = f.taken;
    split = f.split;
    spells = f.spells;
    same = λ z h. subst (λ t. p t c (f.taken ++ z) ≡ Read a c' z) (sym (choose_same s s' f.taken z f.split h)) (f.same z h);
  }
  choose_at c s (Refused k s') f = record {
    taken = f.taken;
    split = f.split;
    goes = f.goes;
    same = λ z h. subst (λ t. p t c (f.taken ++ z) ≡ Refused k z) (sym (choose_same s s' f.taken z f.split h)) (f.same z h);
  }

  pub choose_keeps : Goes X [] → ((c : ℕ) → Fits X (p None) c [] (p None c [])) → ((x : T) (c : ℕ) (s : List T) → Fits X (p (Some x)) c (x ∷ s) (p (Some x) c (x ∷ s))) → Keeps X (choose p)
  choose_keeps g none some = record { short = g; fits = go }
    where
      go : (c : ℕ) (s : List T) → Fits X (choose p) c s (choose p c s)
      go c [] = choose_at c [] (p None c []) (none c)
      go c (x ∷ s) = choose_at c (x ∷ s) (p (Some x) c (x ∷ s)) (some x c s)

module _ {T K A : Type 0} (X : List T → A → List T → Type 0) (p : Reader T K A) where
  fresh_at : (c : ℕ) (s : List T) (o : Outcome T K A) → Fits X p 0 s o → Fits X (fresh p) c s o
  fresh_at c s (Read a c' s') f = record { taken = f.taken; split = f.split; spells = f.spells; same = f.same }
  fresh_at c s (Refused k s') f = record { taken = f.taken; split = f.split; goes = f.goes; same = f.same }

  fresh_as : Keeps X p → Keeps X (fresh p)
  fresh_as g = record { short = g.short; fits = λ c s. fresh_at c s (p 0 s) (g.fits 0 s) }

  -- what is read is no longer than what was there
  pub read_shorter : Keeps X p → (c : ℕ) (s : List T) (a : A) (c' : ℕ) (s' : List T) → p c s ≡ Read a c' s' → length s' ≤ length s
  read_shorter g c s a c' s' e = by (subst (Fits X p c s) e (g.fits c s))
    where
      by : FitsRead X p c s a c' s' → length s' ≤ length s
      by u = omega (arith, ap length u.split, length-append u.taken s')

pub fresh_keeps : {T K A : Type 0} {X : List T → A → List T → Type 0} {p : Reader T K A} → Keeps X p → Keeps X (fresh p)
fresh_keeps {X = X} {p = p} g = fresh_as X p g

-- ---- after the next token

skip_to : {T K B : Type 0} (Z : List T → B → List T → Type 0) (q : Reader T K B) (x : T) (c : ℕ) (s : List T) (o : Outcome T K B) →
    Fits (λ m b r. Z (x ∷ m) b r) q c s o → Fits Z (skip >> q) c (x ∷ s) o
skip_to Z q x c s (Read b c' s') f = record { taken = x ∷ f.taken; split = ap (λ m. x ∷ m) f.split; spells = f.spells; same = f.same }
skip_to Z q x c s (Refused (Unexpected k) s') f = record {
  taken = x ∷ f.taken;
  split = ap (λ m. x ∷ m) f.split;
  goes = record { more = f.goes.more; tree = f.goes.tree; spells = f.goes.spells };
  same = f.same;
}
skip_to Z q x c s (Refused (TooLarge k) []) f = absurd f.goes
skip_to Z q x c s (Refused (TooLarge k) (y ∷ s')) f = record {
  taken = x ∷ f.taken;
  split = ap (λ m. x ∷ m) f.split;
  goes = record { more = f.goes.more; tree = f.goes.tree; spells = f.goes.spells };
  same = f.same;
}

-- a step at a token that goes on, if it is only done if there is room for the token
module _ {T K B : Type 0} (Z : List T → B → List T → Type 0) (x : T) (p : Reader T K B) (goes : Goes Z (x ∷ [])) where
  pub room_at : ((c : ℕ) (s : List T) → Fits Z p c (x ∷ s) (p c (x ∷ s))) → (k : K) (b : Bool) (c : ℕ) (s : List T) → Fits Z (within k b p) c (x ∷ s) (within k b p c (x ∷ s))
  room_at fits k true c s = fits c s
  room_at fits k false c s = too_large_at {X = Z} k goes c s

  counted_as : (k : K) (most : ℕ) (d : Bool) (c : ℕ) (s : List T) → nat_lt c most ≡ d → (o : Outcome T K B) →
      Fits Z (within k d p) (c + 1) s o → Fits Z (counted k most p) c s o
  counted_as k most d c s e (Read a c' s') f = record {
    taken = f.taken;
    split = f.split;
    spells = f.spells;
    same = λ z h. subst (λ d. within k d p (c + 1) (f.taken ++ z) ≡ Read a c' z) (sym e) (f.same z h);
  }
  counted_as k most d c s e (Refused j s') f = record {
    taken = f.taken;
    split = f.split;
    goes = f.goes;
    same = λ z h. subst (λ d. within k d p (c + 1) (f.taken ++ z) ≡ Refused j z) (sym e) (f.same z h);
  }

  pub count_at : ((c : ℕ) (s : List T) → Fits Z p c (x ∷ s) (p c (x ∷ s))) → (k : K) (most c : ℕ) (s : List T) → Fits Z (counted k most p) c (x ∷ s) (counted k most p c (x ∷ s))
  count_at fits k most c s = counted_as k most (nat_lt c most) c (x ∷ s) refl (counted k most p c (x ∷ s)) (room_at fits k (nat_lt c most) (c + 1) s)

module _ {T K B : Type 0} (Z : List T → B → List T → Type 0) (q : Reader T K B) (x : T) (g : Keeps (λ m b r. Z (x ∷ m) b r) q) where
  pub skip_at : (c : ℕ) (s : List T) → Fits Z (skip >> q) c (x ∷ s) (q c s)
  skip_at c s = skip_to Z q x c s (q c s) (g.fits c s)

  pub skip_goes : Goes Z (x ∷ [])
  skip_goes = record { more = g.short.more; tree = g.short.tree; spells = g.short.spells }

  pub skip_short : Goes Z []
  skip_short = record { more = x ∷ g.short.more; tree = g.short.tree; spells = g.short.spells }

  pub within_at : (k : K) (b : Bool) (c : ℕ) (s : List T) → Fits Z (within k b (skip >> q)) c (x ∷ s) (within k b (skip >> q) c (x ∷ s))
  within_at = room_at Z x (skip >> q) skip_goes skip_at

  pub counted_at : (k : K) (most c : ℕ) (s : List T) → Fits Z (counted k most (skip >> q)) c (x ∷ s) (counted k most (skip >> q) c (x ∷ s))
  counted_at = count_at Z x (skip >> q) skip_goes skip_at

-- ---- one after the other

module _ {T K A B : Type 0} (X : List T → A → List T → Type 0) (Z : List T → B → List T → Type 0) (f : Reader T K A) (h : A → Reader T K B) where
  pub then_goes : (w v : List T) (a : A) → ((z : List T) → X (w ++ (v ++ z)) a z) → Goes (Then X Z a) [] → Goes Z w
  then_goes w v a spells g = record {
    more = v ++ g.more;
    tree = g.tree;
    spells = λ z. subst (λ s. Z (w ++ s) g.tree z) (sym (append_assoc v g.more z)) (g.spells z (w ++ (v ++ (g.more ++ z))) (spells (g.more ++ z)));
  }

  then_goes_on : (w v : List T) (a : A) → ((z : List T) → X (w ++ z) a z) → Goes (Then X Z a) v → Goes Z (w ++ v)
  then_goes_on w v a spells g = record {
    more = g.more;
    tree = g.tree;
    spells = λ z. subst (λ s. Z s g.tree z) (sym (append_assoc w v (g.more ++ z))) (g.spells z (w ++ (v ++ (g.more ++ z))) (spells (v ++ (g.more ++ z))));
  }

  bind_more : (c : ℕ) (s : List T) (a : A) (c1 : ℕ) (s1 : List T) → FitsRead X f c s a c1 s1 → (o : Outcome T K B) →
      Fits (Then X Z a) (h a) c1 s1 o → Fits Z (f >>= h) c s o
  bind_more c s a c1 s1 u (Read b c2 s2) v = record {
    taken = u.taken ++ v.taken;
    split = u.split ∙ ap (λ m. u.taken ++ m) v.split ∙ sym (append_assoc u.taken v.taken s2);
    spells = λ z. subst (λ m. Z m b z) (sym (append_assoc u.taken v.taken z)) (v.spells z (u.taken ++ (v.taken ++ z)) (u.spells (v.taken ++ z)));
    same = λ z e. ap (λ m. and_then (f c m) h) (append_assoc u.taken v.taken z)
        ∙ ap (λ o. and_then o h) (u.same (v.taken ++ z) (head-swap v.taken z s2 e ∙ sym (ap head v.split)))
        ∙ v.same z e;
  }
  bind_more c s a c1 s1 u (Refused (Unexpected k) s2) v = record {
    taken = u.taken ++ v.taken;
    split = u.split ∙ ap (λ m. u.taken ++ m) v.split ∙ sym (append_assoc u.taken v.taken s2);
    goes = then_goes_on u.taken v.taken a u.spells v.goes;
    same = λ z e. ap (λ m. and_then (f c m) h) (append_assoc u.taken v.taken z)
        ∙ ap (λ o. and_then o h) (u.same (v.taken ++ z) (head-swap v.taken z s2 e ∙ sym (ap head v.split)))
        ∙ v.same z e;
  }
  bind_more c s a c1 s1 u (Refused (TooLarge k) []) v = absurd v.goes
  bind_more c s a c1 s1 u (Refused (TooLarge k) (y ∷ s2)) v = record {
    taken = u.taken ++ v.taken;
    split = u.split ∙ ap (λ m. u.taken ++ m) v.split ∙ sym (append_assoc u.taken v.taken (y ∷ s2));
    goes = subst (Goes Z) (sym (append_assoc u.taken v.taken (y ∷ []))) (then_goes_on u.taken (v.taken ++ y ∷ []) a u.spells v.goes);
    same = λ z e. ap (λ m. and_then (f c m) h) (append_assoc u.taken v.taken z)
        ∙ ap (λ o. and_then o h) (u.same (v.taken ++ z) (head-swap v.taken z (y ∷ s2) e ∙ sym (ap head v.split)))
        ∙ v.same z e;
  }

  bind_at : ((a : A) → Keeps (Then X Z a) (h a)) → (c : ℕ) (s : List T) (o : Outcome T K A) → Fits X f c s o → Fits Z (f >>= h) c s (and_then o h)
  bind_at g c s (Read a c1 s1) u = bind_more c s a c1 s1 u (h a c1 s1) ((g a).fits c1 s1)
  bind_at g c s (Refused (Unexpected k) s1) u = record {
    taken = u.taken;
    split = u.split;
    goes = then_goes u.taken u.goes.more u.goes.tree u.goes.spells ((g u.goes.tree).short);
    same = λ z e. ap (λ o. and_then o h) (u.same z e);
  }
  bind_at g c s (Refused (TooLarge k) []) u = absurd u.goes
  bind_at g c s (Refused (TooLarge k) (y ∷ s1)) u = record {
    taken = u.taken;
    split = u.split;
    goes = then_goes (u.taken ++ y ∷ []) u.goes.more u.goes.tree u.goes.spells ((g u.goes.tree).short);
    same = λ z e. ap (λ o. and_then o h) (u.same z e);
  }

  bind_as : Keeps X f → ((a : A) → Keeps (Then X Z a) (h a)) → Keeps Z (f >>= h)
  bind_as u g = record {
    short = then_goes [] u.short.more u.short.tree u.short.spells ((g u.short.tree).short);
    fits = λ c s. bind_at g c s (f c s) (u.fits c s);
  }

pub bind_keeps : {T K A B : Type 0} {X : List T → A → List T → Type 0} {Z : List T → B → List T → Type 0} {f : Reader T K A} (h : A → Reader T K B) → Keeps X f → ((a : A) → Keeps (Then X Z a) (h a)) → Keeps Z (f >>= h)
bind_keeps {X = X} {Z = Z} {f = f} h u g = bind_as X Z f h u g

-- ---- the same for a weaker relation

module _ {T K A : Type 0} (X Z : List T → A → List T → Type 0) (f : Reader T K A) (k : (s : List T) (a : A) (r : List T) → X s a r → Z s a r) where
  map_goes : (w : List T) → Goes X w → Goes Z w
  map_goes w g = record { more = g.more; tree = g.tree; spells = λ z. k (w ++ (g.more ++ z)) g.tree z (g.spells z) }

  map_at : (c : ℕ) (s : List T) (o : Outcome T K A) → Fits X f c s o → Fits Z f c s o
  map_at c s (Read a c' s') u = record { taken = u.taken; split = u.split; spells = λ z. k (u.taken ++ z) a z (u.spells z); same = u.same }
  map_at c s (Refused (Unexpected j) s') u = record { taken = u.taken; split = u.split; goes = map_goes u.taken u.goes; same = u.same }
  map_at c s (Refused (TooLarge k) []) u = absurd u.goes
  map_at c s (Refused (TooLarge k) (y ∷ s')) u = record { taken = u.taken; split = u.split; goes = map_goes (u.taken ++ y ∷ []) u.goes; same = u.same }

  map_as : Keeps X f → Keeps Z f
  map_as g = record { short = map_goes [] g.short; fits = λ c s. map_at c s (f c s) (g.fits c s) }

pub map_keeps : {T K A : Type 0} {X Z : List T → A → List T → Type 0} {f : Reader T K A} → ((s : List T) (a : A) (r : List T) → X s a r → Z s a r) → Keeps X f → Keeps Z f
map_keeps {X = X} {Z = Z} {f = f} k g = map_as X Z f k g

-- ---- the same for a reading that gives the same

module _ {T K A : Type 0} (X : List T → A → List T → Type 0) (f g : Reader T K A) (alike : (c : ℕ) (s : List T) → f c s ≡ g c s) where
  alike_at : (c : ℕ) (s : List T) (o : Outcome T K A) → Fits X f c s o → Fits X g c s o
  alike_at c s (Read a c' s') u = record { taken = u.taken; split = u.split; spells = u.spells; same = λ z h. sym (alike c (u.taken ++ z)) ∙ u.same z h }
  alike_at c s (Refused k s') u = record { taken = u.taken; split = u.split; goes = u.goes; same = λ z h. sym (alike c (u.taken ++ z)) ∙ u.same z h }

  pub alike_keeps : Keeps X f → Keeps X g
  alike_keeps k = record { short = k.short; fits = λ c s. subst (Fits X g c s) (alike c s) (alike_at c s (f c s) (k.fits c s)) }

-- ---- one token with a value

module _ {T K V B : Type 0} (k : K) (value : T → Option V) (Z : List T → B → List T → Type 0) (q : V → Reader T K B) where
  take_to : Goes Z [] → (x : T) (o : Option V) → ((v : V) → o ≡ Some v → Keeps (λ m b r. Z (x ∷ m) b r) (q v)) → (c : ℕ) (s : List T) →
      Fits Z (take_as k o >>= q) c (x ∷ s) ((take_as k o >>= q) c (x ∷ s))
  take_to g x (Some v) h c s = skip_at Z (q v) x (h v refl) c s
  take_to g x None h c s = refuse_at {X = Z} k g c _

  -- a token, and what follows on its value
  pub take_keeps : (x : T) (v : V) → value x ≡ Some v → ((x : T) (v : V) → value x ≡ Some v → Keeps (λ m b r. Z (x ∷ m) b r) (q v)) → Keeps Z (take k value >>= q)
  take_keeps x v is h = choose_keeps Z (λ t. take_by k value t >>= q) short (λ c. refuse_at {X = Z} k short c []) (λ x. take_to short x (value x) (h x))
    where
      short : Goes Z []
      short = skip_short Z (q v) x (h x v is)

module _ {T K B : Type 0} (k : K) (value : T → Option (Unit {0})) (Z : List T → B → List T → Type 0) (q : Reader T K B) where
  -- the one token that is taken, and what follows
  pub token_keeps : (x : T) → value x ≡ Some tt → ((y : T) (v : Unit {0}) → value y ≡ Some v → y ≡ x) → Keeps (λ m b r. Z (x ∷ m) b r) q → Keeps Z (take k value >>= λ _. q)
  token_keeps x is only g = take_keeps k value Z (λ _. q) x tt is (λ y v e. subst (λ y. Keeps (λ m b r. Z (y ∷ m) b r) q) (sym (only y v e)) g)
