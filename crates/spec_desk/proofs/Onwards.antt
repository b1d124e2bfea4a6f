-- What a desk has seen goes on.
use Rattle.std.proofs.Common.{◌≡◌, ℕ, ◌==◌, List, [], ◌∷◌, Bool, true, false, refl, ◌∙◌, subst, arith}
use Rattle.std.specs.Prelude.{MatchBool, None}
use Rattle.std.proofs.lemmas.List.Elements.{All-cons, All-nil, All-head, All-tail}
use Rattle.spec_server.specs.Requests.{Pump, Tidy}
use Rattle.spec_server.specs.Replies.{Reply}
use Rattle.spec_desk.specs.Keepers.{MayGive}
use Rattle.spec_desk.specs.Lived.{Follows, Lived, etags}
use Rattle.spec_desk.specs.Stepped.{IsStep}
use Rattle.spec_desk.specs.Receipts.{AllLink, GoesOn, MakesBatches, HasCaughtUp, Onward, Standing}
use Rattle.spec_desk.specs.Receipts.Onward.{same, on}
use Rattle.spec_desk.proofs.Later.{Follows-itself, Follows-then, etags-more}

pub one : (Link : Lived → Lived → Type 0) (x y : Lived) → Link x y → AllLink Link (x ∷ []) y
one Link x y a = All-cons (λ s. Link s y) x [] a (All-nil (λ s. Link s y))

pub head : (Link : Lived → Lived → Type 0) (x y : Lived) → AllLink Link (x ∷ []) y → Link x y
head Link x y a = All-head (λ s. Link s y) x [] a

pub on_one : (x y : Lived) → Follows x y → Onward (x ∷ []) (y ∷ [])
on_one x y a = on y (one Follows x y a) refl

pub all_on : (seen : List Lived) (x y : Lived) → AllLink Follows seen x → Follows x y → AllLink Follows seen y
all_on [] x y a b = All-nil (λ s. Follows s y)
all_on (s ∷ more) x y a b = All-cons (λ t. Follows t y) s more (Follows-then s x y (All-head (λ t. Follows t x) s more a) b) (all_on more x y (All-tail (λ t. Follows t x) s more a) b)

-- a hold that found x and left y
pub on_hold : (seen seen' : List Lived) (x y : Lived) → AllLink Follows seen x → Follows x y → seen' ≡ y ∷ [] → Onward seen seen'
on_hold seen seen' x y a b e = on y (all_on seen x y a b) e

pub onward_on : (a b c : List Lived) → Onward a b → Onward b c → Onward a c
onward_on a b c (same e) (same f) = same (f ∙ e)
onward_on a b c (same e) (on y k f) = on y (subst (λ l. AllLink Follows l y) e k) f
onward_on a b c (on x h e) (same f) = on x h (f ∙ e)
onward_on a b c (on x h e) (on y k f) = on y (all_on a x y h (head Follows x y (subst (λ l. AllLink Follows l y) e k))) f

-- HOW DESKS STAND

pub goes_on_itself : (x : Standing) → GoesOn x x
goes_on_itself x = record { onward = same refl; clock = refl; pump = refl }

pub goes_on_then : (x y z : Standing) → GoesOn x y → GoesOn y z → GoesOn x z
goes_on_then x y z a b = record { onward = onward_on x.seen y.seen z.seen a.onward b.onward; clock = b.clock ∙ a.clock; pump = b.pump ∙ a.pump }

-- AFTER A REQUEST

match_false : (b : Bool) (P Q : Type 0) → b ≡ false → Q → MatchBool b P Q
match_false false P Q e h = h
match_false true P Q e h = absurd cc

match_true : (b : Bool) (P Q : Type 0) → b ≡ true → P → MatchBool b P Q
match_true true P Q e h = h
match_true false P Q e h = absurd cc

-- nothing is done
pub rests : (left : Lived) (x y : Standing) → (x.pump == 0) ≡ true → y.seen ≡ left ∷ [] → y.made ≡ x.made → HasCaughtUp left x y
rests left x y none now_seen now_made = record {
  end = left;
  caught_up = match_true (x.pump == 0) (left ≡ left) (MakesBatches x.clock x.pump left left) none refl;
  later = Follows-itself left;
  now_seen = now_seen;
  now_made = omega arith;
}

-- a batch for each index, and then a Tidy
pub brings : (left mid end : Lived) (x y : Standing) (now then_at : ℕ) (pumped tidied : Reply) → (x.pump == 0) ≡ false → MayGive x.clock now → IsStep now (Pump x.pump None) left pumped mid → Follows left mid
    → MayGive x.clock then_at → IsStep then_at Tidy mid tidied end → Follows mid end → x.made ≡ etags left → y.seen ≡ end ∷ [] → y.made ≡ etags end → HasCaughtUp left x y
brings left mid end x y now then_at pumped tidied some may step later may_then tidy goes was_made now_seen now_made = record {
  end = end;
  caught_up = match_false (x.pump == 0) (end ≡ left) (MakesBatches x.clock x.pump left end) some
      (record { pumped = pumped; between = mid; batch = (now, may, step); tidied = tidied; tidy = (then_at, may_then, tidy) });
  later = Follows-then left mid end later goes;
  now_seen = now_seen;
  now_made = let more = etags-more left end (Follows-then left mid end later goes) in omega arith;
}

-- of what a desk of one caller has seen
pub alone : (a b : Lived) (x y : Standing) → a ∷ [] ≡ b ∷ [] → HasCaughtUp a x y → HasCaughtUp b x y
alone a b x y e m = let same : a ≡ b = cc in subst (λ (z : Lived). HasCaughtUp z x y) same m
