-- Jobs, and what they leave together.
use Rattle.std.proofs.Common.{◌≡◌, ℕ, zero, suc, ◌+◌, ◌≤◌, ◌++◌, List, [], ◌∷◌, length, Bool, true, false, refl, sym, ◌∙◌, ap, subst, arith, append_assoc, append-nil, add-one}
use Rattle.std.specs.Prelude.{Option, Some, None, All, map, ◌||◌}
use Rattle.std.proofs.lemmas.List.Elements.{All-head, All-tail}
use Rattle.atomic_table.specs.Seated.{TableId}
use Rattle.raven_turn.specs.Passes.{Knowledge, IsJoined}
use Rattle.spec_desk.specs.Lived.{Lived}
use Rattle.serve_ports.specs.Doors.{Doorway}
use Rattle.raven_serve.specs.Works.{Belongs, Post, Report, any_failed, both, doorless, doors_in, join_all, places, post, posts, undone, with_door}

-- JOBS

pub same_post : (p q : Knowledge Lived) (clock : Option ℕ) (name : List ℕ) (door : Option Doorway) → q.turn ≡ p.turn → q.seen ≡ p.seen → post q clock name door ≡ post p clock name door
same_post p q clock name door e f = cc

doorless_more : (n : ℕ) → doorless (suc n) ≡ doorless n ++ None ∷ []
doorless_more zero = refl
doorless_more (suc n) = ap (λ l. None ∷ l) (doorless_more n)

places_more : (doors : List Doorway) (n : ℕ) → places doors (suc n) ≡ places doors n ++ None ∷ []
places_more [] n = doorless_more n
places_more (d ∷ doors) n = ap (λ l. Some d ∷ l) (places_more doors n)

pub map_more : {A B : Type 0} (f : A → B) (xs : List A) (x : A) → map f (xs ++ x ∷ []) ≡ map f xs ++ f x ∷ []
map_more f [] x = refl
map_more f (y ∷ xs) x = ap (λ l. f y ∷ l) (map_more f xs x)

-- one more was taken
pub took_one : {A : Type 0} (all taken before after : List A) (x : A) → all ≡ taken ++ before → before ≡ x ∷ after → all ≡ (taken ++ x ∷ []) ++ after
took_one all taken before after x e f = e ∙ ap (λ l. taken ++ l) f ∙ sym (append_assoc taken (x ∷ []) after)

module _ (p : Knowledge Lived) (clock : Option ℕ) (name : List ℕ) where
  pub posts_pump : (doors : List Doorway) (n : ℕ) → posts p clock name (places doors (n + 1)) ≡ posts p clock name (places doors n) ++ post p clock name None ∷ []
  posts_pump doors n = ap (λ l. map (post p clock name) l) (rw add-one (places_more doors n)) ∙ map_more (post p clock name) (places doors n) None

  places_front : {D : Type 0} (shows : D → Doorway) (ys : List D) (d : D) → places (map shows (ys ++ d ∷ [])) 0 ≡ places (map shows ys) 0 ++ Some (shows d) ∷ []
  places_front shows [] d = refl
  places_front shows (y ∷ ys) d = ap (λ l. Some (shows y) ∷ l) (places_front shows ys d)

  pub posts_front : {D : Type 0} (shows : D → Doorway) (ys : List D) (d : D) → posts p clock name (places (map shows (ys ++ d ∷ [])) 0) ≡ posts p clock name (places (map shows ys) 0) ++ post p clock name (Some (shows d)) ∷ []
  posts_front shows ys d = ap (λ l. map (post p clock name) l) (places_front shows ys d) ∙ map_more (post p clock name) (places (map shows ys) 0) (Some (shows d))

-- JOINING

pub joined_is : (p q r : Knowledge Lived) → IsJoined p q r → r ≡ both p q
joined_is p q r j =
    ap (λ t. record { turn = t; shares = r.shares; seen = r.seen; made = r.made }) j.0 ∙ ap (λ n. record { turn = p.turn; shares = n; seen = r.seen; made = r.made }) j.1
    ∙ ap (λ l. record { turn = p.turn; shares = p.shares + q.shares; seen = l; made = r.made }) j.2 ∙ ap (λ n. record { turn = p.turn; shares = p.shares + q.shares; seen = p.seen ++ q.seen; made = n }) j.3

pub join_step : (p now r : Knowledge Lived) (outs before after : List Report) (o : Report) (q : Knowledge Lived) → join_all p outs ≡ join_all now before → before ≡ o ∷ after → q ≡ o.pass → IsJoined now q r
    → join_all p outs ≡ join_all r after
join_step p now r outs before after o q e f g j = e ∙ ap (join_all now) f ∙ ap (λ k. join_all k after) (sym (joined_is now q r j ∙ ap (both now) g))

pub doors_none : (outs before after : List Report) (o : Report) (doors : List Doorway) → doors_in outs ≡ doors ++ doors_in before → before ≡ o ∷ after → o.door ≡ None → doors_in outs ≡ doors ++ doors_in after
doors_none outs before after o doors e f n = e ∙ ap (λ l. doors ++ doors_in l) f ∙ ap (λ k. doors ++ with_door k (doors_in after)) n

pub doors_some : (outs before after : List Report) (o : Report) (doors doors' : List Doorway) (d : Doorway) → doors_in outs ≡ doors ++ doors_in before → before ≡ o ∷ after → o.door ≡ Some d → doors' ≡ doors ++ d ∷ []
    → doors_in outs ≡ doors' ++ doors_in after
doors_some outs before after o doors doors' d e f n g =
    e ∙ ap (λ l. doors ++ doors_in l) f ∙ ap (λ k. doors ++ with_door k (doors_in after)) n ∙ sym (append_assoc doors (d ∷ []) (doors_in after)) ∙ ap (λ l. l ++ doors_in after) (sym g)

none_left : (xs : List Report) → length xs ≡ 0 → xs ≡ []
none_left [] e = refl
none_left (x ∷ xs) e = absurd (omega arith)

-- once no outcome is left
pub doors_all : (outs left : List Report) (doors : List Doorway) → doors_in outs ≡ doors ++ doors_in left → length left ≡ 0 → doors ≡ doors_in outs
doors_all outs left doors e z = sym (e ∙ ap (λ l. doors ++ doors_in l) (none_left left z) ∙ append-nil doors)

or_step : (a b c : Bool) → (a || (b || c)) ≡ ((a || b) || c)
or_step true b c = refl
or_step false b c = refl

pub failed_step : (outs before after : List Report) (o : Report) (any any' : Bool) → any_failed outs ≡ (any || any_failed before) → before ≡ o ∷ after → any' ≡ (any || o.failed) → any_failed outs ≡ (any' || any_failed after)
failed_step outs before after o any any' e f g = e ∙ ap (λ l. any || any_failed l) f ∙ or_step any o.failed (any_failed after) ∙ ap (λ b. b || any_failed after) (sym g)

pub belongs_tail : (turn : TableId) (before after : List Report) (o : Report) → All (Belongs turn) before → before ≡ o ∷ after → All (Belongs turn) after
belongs_tail turn before after o a e = All-tail (Belongs turn) o after (subst (λ (l : List Report). All (Belongs turn) l) e a)

pub belongs_head : (turn : TableId) (before after : List Report) (o : Report) → All (Belongs turn) before → before ≡ o ∷ after → Belongs turn o
belongs_head turn before after o a e = All-head (Belongs turn) o after (subst (λ (l : List Report). All (Belongs turn) l) e a)
