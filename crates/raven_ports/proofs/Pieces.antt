-- Pieces that are taken or written one after another.
use Rattle.std.proofs.Common.{◌≡◌, ℕ, List, [], ◌++◌, Option, Some, None, refl, ap, sym, ◌∙◌, append_assoc, take, drop, subst}
use Rattle.std.proofs.lemmas.List.{append-nil, take-append-drop}
use Rattle.raven_ports.specs.Reported.{appended, preceded}
use Rattle.raven_ports.specs.Given.{GivesPrefix}

pub appended-appended : (a : Option (List ℕ)) (x y : List ℕ) → appended (appended a x) y ≡ appended a (x ++ y)
appended-appended (Some a) x y = ap Some (append_assoc a x y)
appended-appended None x y = refl

pub appended-nil : (a : Option (List ℕ)) → appended a [] ≡ a
appended-nil (Some a) = ap Some (append-nil a)
appended-nil None = refl

pub preceded-preceded : (a : Option (List ℕ)) (x y : List ℕ) → preceded x (preceded y a) ≡ preceded (x ++ y) a
preceded-preceded (Some a) x y = ap Some (sym (append_assoc x y a))
preceded-preceded None x y = refl

pub preceded-nil : (a : Option (List ℕ)) → preceded [] a ≡ a
preceded-nil (Some a) = refl
preceded-nil None = refl

-- these bytes were given, and with the rest they are all
pub record Continues (old now : Option (List ℕ)) (rest all : List ℕ) : Type 0 where
  pub prefix : List ℕ
  pub given : now ≡ appended old prefix
  pub whole : prefix ++ rest ≡ all

pub begins : (old : Option (List ℕ)) (all : List ℕ) → Continues old old all all
begins old all = record { prefix = []; given = sym (appended-nil old); whole = refl }

pub goes_on : (old now new : Option (List ℕ)) (r rest all : List ℕ) → Continues old now (r ++ rest) all → new ≡ appended now r → Continues old new rest all
goes_on old now new r rest all h k = record {
  prefix = h.prefix ++ r;
  given = k ∙ ap (λ z. appended z r) h.given ∙ appended-appended old h.prefix r;
  whole = append_assoc h.prefix r rest ∙ h.whole;
}

pub ends : (old now : Option (List ℕ)) (all : List ℕ) → Continues old now [] all → now ≡ appended old all
ends old now all h = h.given ∙ ap (appended old) (sym (append-nil h.prefix) ∙ h.whole)

-- if one piece is written in part, so are all
pub stops : (old now new : Option (List ℕ)) (r rest all : List ℕ) → Continues old now (r ++ rest) all → GivesPrefix now new r → GivesPrefix old new all
stops old now new r rest all h k = record {
  prefix = h.prefix ++ k.prefix;
  rest = k.rest ++ rest;
  split = sym h.whole ∙ ap (λ z. h.prefix ++ (z ++ rest)) k.split ∙ simp append_assoc;
  given = k.given ∙ ap (λ z. appended z k.prefix) h.given ∙ appended-appended old h.prefix k.prefix;
}

-- if the rest is cut in two
pub goes_on_by : (old now new : Option (List ℕ)) (n : ℕ) (rest all : List ℕ) → Continues old now rest all → new ≡ appended now (take n rest) → Continues old new (drop n rest) all
goes_on_by old now new n rest all h k = goes_on old now new (take n rest) (drop n rest) all (let P : List ℕ → Type 0 = λ r. Continues old now r all in subst P (sym (take-append-drop n rest)) h) k

pub stops_here : (old now new : Option (List ℕ)) (rest all : List ℕ) → Continues old now rest all → new ≡ now → GivesPrefix old new all
stops_here old now new rest all h k = record { prefix = h.prefix; rest = rest; split = sym h.whole; given = k ∙ h.given }

pub ruleset pieces = (appended-appended, appended-nil, preceded-preceded, preceded-nil)

pub ruleset runs = (begins, goes_on, goes_on_by, ends, stops, stops_here)
