-- A loop keeps to a relation, goes by its next token, and needs no more turns than there are tokens.
use Rattle.std.proofs.Common.{◌≡◌, ℕ, zero, suc, ◌+◌, ◌≤◌, Bool, true, false, nat_lt, List, [], ◌∷◌, ◌++◌, length, Option, Some, None, refl, sym, ◌∙◌, ap, subst, append_assoc, arith, cond}
use Rattle.exact_parse.specs.Steps.{head, TooLarge, Outcome, Read, Refused, Reader, and_then, ◌>>=◌, ◌>>◌, too_large, skip, within, Next, Ends, More, Counts, turn, turns, loop}
use Rattle.exact_parse.specs.Keeps.{Goes, FitsRead, FitsRefused, Fits, Keeps}
use Rattle.exact_parse.specs.Loops.{Link, EndKeeps, NextKeeps, LoopKeeps}
use Rattle.exact_parse.proofs.Cuts.{cut, cut_same}
use Rattle.exact_parse.proofs.Keeping.{choose_keeps, map_keeps, bind_keeps, too_large_at, skip_at, count_at, read_shorter}

module _ {T K A B : Type 0} (k : K) (Z : A → List T → B → List T → Type 0) (next : A → Option T → Next T K A B) (keeps : LoopKeeps Z next) where
  -- ---- so many turns

  module _ (a : A) where
    end_fits : (b : Bool) (more : A → Reader T K B) (c : ℕ) (o : Next T K A B) → EndKeeps (Z a) o → Fits (Z a) (turn k b more o) c [] (turn k b more o c [])
    end_fits b more c (Ends q) g = g c
    end_fits b more c (More p) g = absurd g
    end_fits b more c (Counts j most p) g = absurd g

    -- a token that is passed goes on
    passed : (x : T) (p : Reader T K A) → Keeps (Link Z a x) p → Goes (Z a) (x ∷ [])
    passed x p g = let tree = g.short.tree in let on = keeps.short tree in record {
      more = g.short.more ++ on.more;
      tree = on.tree;
      spells = λ z. subst (λ m. Z a (x ∷ m) on.tree z) (sym (append_assoc g.short.more on.more z)) (g.short.spells (on.more ++ z) on.tree z (on.spells z));
    }

    first_fits : (x : T) (c : ℕ) (s : List T) (o : Next T K A B) → NextKeeps Z a x o →
        Fits (Z a) (turn k false (λ b. too_large k) o) c (x ∷ s) (turn k false (λ b. too_large k) o c (x ∷ s))
    first_fits x c s (Ends q) g = g c s
    first_fits x c s (More p) g = too_large_at {X = Z a} k (passed x p g) c s
    first_fits x c s (Counts j most p) g = count_at (Z a) x (too_large k) (passed x p g) (too_large_at {X = Z a} k (passed x p g)) j most c s

    module _ (more : A → Reader T K B) (more_keeps : (b : A) → Keeps (Z b) (more b)) where
      turned : (x : T) (p : Reader T K A) → Keeps (Link Z a x) p → Keeps (λ m d r. Z a (x ∷ m) d r) (p >>= more)
      turned x p g = bind_keeps more g (λ b. map_keeps (λ n d r z s l. l d r z) (more_keeps b))

      next_fits : (x : T) (c : ℕ) (s : List T) (o : Next T K A B) → NextKeeps Z a x o → Fits (Z a) (turn k true more o) c (x ∷ s) (turn k true more o c (x ∷ s))
      next_fits x c s (Ends q) g = g c s
      next_fits x c s (More p) g = skip_at (Z a) (p >>= more) x (turned x p g) c s
      next_fits x c s (Counts j most p) g = count_at (Z a) x (skip >> (p >>= more)) (passed x p g) (skip_at (Z a) (p >>= more) x (turned x p g)) j most c s

  pub turns_keep : (n : ℕ) (a : A) → Keeps (Z a) (turns k next n a)
  unfolding turns
  turns_keep zero a = choose_keeps (Z a) (λ h. turn k false (λ b. too_large k) (next a h)) (keeps.short a)
      (λ c. end_fits a false (λ b. too_large k) c (next a None) (keeps.none a)) (λ x c s. first_fits a x c s (next a (Some x)) (keeps.some a x))
  turns_keep (suc n) a = choose_keeps (Z a) (λ h. turn k true (turns k next n) (next a h)) (keeps.short a)
      (λ c. end_fits a true (turns k next n) c (next a None) (keeps.none a)) (λ x c s. next_fits a (turns k next n) (turns_keep n) x c s (next a (Some x)) (keeps.some a x))

  -- ---- more turns than tokens change nothing, and no text gives the kind of a loop that has none left

  ends_alike : (i j : K) (b d : Bool) (f g : A → Reader T K B) (a : A) (c : ℕ) (o : Next T K A B) → EndKeeps (Z a) o → turn i b f o c [] ≡ turn j d g o c []
  ends_alike i j b d f g a c (Ends q) h = refl
  ends_alike i j b d f g a c (More p) h = absurd h
  ends_alike i j b d f g a c (Counts l most p) h = absurd h

  then_alike : (p : Reader T K A) (c : ℕ) (s : List T) (f g : A → Reader T K B) → ((b : A) (c' : ℕ) (n : List T) → p c s ≡ Read b c' n → f b c' n ≡ g b c' n) → (p >>= f) c s ≡ (p >>= g) c s
  then_alike p c s f g h = by (p c s) h
    where
      by : (o : Outcome T K A) → ((b : A) (c' : ℕ) (n : List T) → o ≡ Read b c' n → f b c' n ≡ g b c' n) → and_then o f ≡ and_then o g
      by (Read b c' n) h = h b c' n refl
      by (Refused j n) h = refl

  turn_alike : (i j : K) (f g : A → Reader T K B) (a : A) (x : T) (c : ℕ) (s : List T) (o : Next T K A B) → NextKeeps Z a x o →
      ((b : A) (c : ℕ) (n : List T) → length n ≤ length s → f b c n ≡ g b c n) → turn i true f o c (x ∷ s) ≡ turn j true g o c (x ∷ s)
  turn_alike i j f g a x c s (Ends q) fit h = refl
  turn_alike i j f g a x c s (More p) fit h = then_alike p c s f g (λ b c' n e. h b c' n (read_shorter (Link Z a x) p fit c s b c' n e))
  turn_alike i j f g a x c s (Counts l most p) fit h = by (nat_lt c most)
    where
      by : (d : Bool) → within l d (skip >> (p >>= f)) (c + 1) (x ∷ s) ≡ within l d (skip >> (p >>= g)) (c + 1) (x ∷ s)
      by true = then_alike p (c + 1) s f g (λ b c' n e. h b c' n (read_shorter (Link Z a x) p fit (c + 1) s b c' n e))
      by false = refl

  enough : (i j : K) (m n : ℕ) (a : A) (c : ℕ) (s : List T) → length s ≤ m → length s ≤ n → turns i next m a c s ≡ turns j next n a c s
  unfolding turns
  enough i j zero zero a c [] l h = ends_alike i j false false (λ b. too_large i) (λ b. too_large j) a c (next a None) (keeps.none a)
  enough i j zero (suc n) a c [] l h = ends_alike i j false true (λ b. too_large i) (turns j next n) a c (next a None) (keeps.none a)
  enough i j (suc m) zero a c [] l h = ends_alike i j true false (turns i next m) (λ b. too_large j) a c (next a None) (keeps.none a)
  enough i j (suc m) (suc n) a c [] l h = ends_alike i j true true (turns i next m) (turns j next n) a c (next a None) (keeps.none a)
  enough i j zero n a c (x ∷ s) l h = absurd (omega (arith, l))
  enough i j (suc m) zero a c (x ∷ s) l h = absurd (omega (arith, h))
  enough i j (suc m) (suc n) a c (x ∷ s) l h = turn_alike i j (turns i next m) (turns j next n) a x c s (next a (Some x)) (keeps.some a x)
      (λ b c' r short. enough i j m n b c' r (omega (arith, short, l)) (omega (arith, short, h)))

  -- So many turns as there are tokens, or more, are the loop.
  pub turns_suffice : (n : ℕ) (a : A) (c : ℕ) (s : List T) → length s ≤ n → turns k next n a c s ≡ loop k next a c s
  unfolding loop
  turns_suffice n a c s h = enough k k n (length s) a c s h (omega arith)

  -- The kind is one that no text gives.
  pub loop_kinds : (j : K) (a : A) (c : ℕ) (s : List T) → loop k next a c s ≡ loop j next a c s
  unfolding loop
  loop_kinds j a c s = enough k j (length s) (length s) a c s (omega arith) (omega arith)

  -- ---- the loop

  loop_same : (n : ℕ) (a : A) (c : ℕ) (s : List T) → length s ≤ n → (o : Outcome T K B) → turns k next n a c s ≡ o → loop k next a c s ≡ o
  loop_same n a c s h o e = sym (turns_suffice n a c s h) ∙ e

  -- with turns for both lists
  loop_fits : (a : A) (c : ℕ) (s : List T) (o : Outcome T K B) → ((n : ℕ) → length s ≤ n → Fits (Z a) (turns k next n a) c s o) → Fits (Z a) (loop k next a) c s o
  loop_fits a c s (Read b c' s') fits = let u = fits (length s) (omega arith) in record { taken = u.taken; split = u.split; spells = u.spells; same = again u }
    where
      again : (u : FitsRead (Z a) (turns k next (length s) a) c s b c' s') (z : List T) → head z ≡ head s' → loop k next a c (u.taken ++ z) ≡ Read b c' z
      again u z h = let n = length s + length (u.taken ++ z) in let v = fits n (omega arith) in
          let alike = cut_same (cut v.taken s' u.taken s' (sym v.split ∙ u.split)) refl in
          loop_same n a c (u.taken ++ z) (omega arith) (Read b c' z) (subst (λ w. turns k next n a c (w ++ z) ≡ Read b c' z) alike (v.same z h))
  loop_fits a c s (Refused j s') fits = let u = fits (length s) (omega arith) in record { taken = u.taken; split = u.split; goes = u.goes; same = again u }
    where
      again : (u : FitsRefused (Z a) (turns k next (length s) a) c s j s') (z : List T) → head z ≡ head s' → loop k next a c (u.taken ++ z) ≡ Refused j z
      again u z h = let n = length s + length (u.taken ++ z) in let v = fits n (omega arith) in
          let alike = cut_same (cut v.taken s' u.taken s' (sym v.split ∙ u.split)) refl in
          loop_same n a c (u.taken ++ z) (omega arith) (Refused j z) (subst (λ w. turns k next n a c (w ++ z) ≡ Refused j z) alike (v.same z h))

  -- A loop whose turns keep to a relation keeps to it.
  pub loop_keeps : (a : A) → Keeps (Z a) (loop k next a)
  loop_keeps a = record {
    short = keeps.short a;
    fits = λ c s. loop_fits a c s (loop k next a c s) (λ n h. subst (Fits (Z a) (turns k next n a) c s) (turns_suffice n a c s h) ((turns_keep n a).fits c s));
  }

  -- ---- what it does at a token

  pub loop_ends : (a : A) (c : ℕ) (s : List T) (q : Reader T K B) → next a (head s) ≡ Ends q → loop k next a c s ≡ q c s
  unfolding loop turns
  loop_ends a c [] q e = ap (λ o. turn k false (λ b. too_large k) o c []) e
  loop_ends a c (x ∷ s) q e = ap (λ o. turn k true (turns k next (length s)) o c (x ∷ s)) e

  -- the turns that are left are the loop
  left : (a : A) (x : T) (s : List T) (o : Next T K A B) (c : ℕ) → NextKeeps Z a x o → turn k true (turns k next (length s)) o c (x ∷ s) ≡ turn k true (loop k next) o c (x ∷ s)
  left a x s o c fit = turn_alike k k (turns k next (length s)) (loop k next) a x c s o fit (λ b c' n h. turns_suffice (length s) b c' n h)

  on : (a : A) (c : ℕ) (x : T) (s : List T) → loop k next a c (x ∷ s) ≡ turn k true (loop k next) (next a (Some x)) c (x ∷ s)
  unfolding loop turns
  on a c x s = left a x s (next a (Some x)) c (keeps.some a x)

  -- One turn, and the loop again: so code that turns goes on with the same loop.
  pub loop_turn : (a : A) (c : ℕ) (s : List T) → loop k next a c s ≡ turn k true (loop k next) (next a (head s)) c s
  unfolding loop turns
  loop_turn a c [] = ends_alike k k false true (λ b. too_large k) (loop k next) a c (next a None) (keeps.none a)
  loop_turn a c (x ∷ s) = on a c x s

  pub loop_more : (a : A) (c : ℕ) (x : T) (s : List T) (p : Reader T K A) → next a (Some x) ≡ More p → loop k next a c (x ∷ s) ≡ (p >>= loop k next) c s
  loop_more a c x s p e = on a c x s ∙ ap (λ o. turn k true (loop k next) o c (x ∷ s)) e

  pub loop_counts : (a : A) (c : ℕ) (x : T) (s : List T) (j : K) (most : ℕ) (p : Reader T K A) → next a (Some x) ≡ Counts j most p →
      loop k next a c (x ∷ s) ≡ cond (nat_lt c most) ((p >>= loop k next) (c + 1) s) (Refused (TooLarge j) (x ∷ s))
  loop_counts a c x s j most p e = on a c x s ∙ ap (λ o. turn k true (loop k next) o c (x ∷ s)) e ∙ by (nat_lt c most)
    where
      by : (d : Bool) → within j d (skip >> (p >>= loop k next)) (c + 1) (x ∷ s) ≡ cond d ((p >>= loop k next) (c + 1) s) (Refused (TooLarge j) (x ∷ s))
      by true = refl
      by false = refl
