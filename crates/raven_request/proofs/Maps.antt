-- The text of a list of one.
use Rattle.std.proofs.Common.{◌≡◌, ℕ, List, [], ◌∷◌, length, map, Option, Some, None, Ok, Err, refl, ap, ◌∙◌, arith, codes}
use Rattle.spec_data.specs.Data.{Data, null, flag, num, text, array, object, items_of}
use Rattle.raven_value.specs.View.{data_of}
use Rattle.raven_value.specs.declared.value.Value.{Value}
use Rattle.spec_server.specs.Texts.{map_member}
use Rattle.spec_server.specs.Words as read
use Rattle.raven_request.specs.Lists.{lone_text}
use Rattle.raven_request.specs.RequestView.{IsBadMember, Refuses}
use Rattle.raven_request.specs.declared.request.ReadRefusal.{ReadRefusal}
use Rattle.raven_request.proofs.Readings.{bad_member}

-- no text, if there is not one item

none_or_more : (ds : List Data) → (length ds ≡ 1 → ⊥) → (let x : Option (List ℕ) = None in x) ≡ lone_text ds
none_or_more [] h = refl
none_or_more (d ∷ []) h = absurd (h refl)
none_or_more (null ∷ e ∷ ds) h = refl
none_or_more (flag b ∷ e ∷ ds) h = refl
none_or_more (num n ∷ e ∷ ds) h = refl
none_or_more (text t ∷ e ∷ ds) h = refl
none_or_more (array xs ∷ e ∷ ds) h = refl
none_or_more (object ms ∷ e ∷ ds) h = refl

pub length-map : (vs : List Value) → length (map data_of vs) ≡ length vs
length-map [] = refl
length-map (v ∷ vs) = ap ℕ.suc (length-map vs)

pub not_one : (vs : List Value) → (length vs ≡ 1 → ⊥) → None ≡ lone_text (map data_of vs)
not_one vs h = none_or_more (map data_of vs) (λ e. h (let n = length-map vs in omega arith))

pub ruleset lists = (not_one)

-- WHAT IS READ OF THE MEMBER

one_text : (ds : List Data) (other : Option Data) (t : List ℕ) → Some t ≡ lone_text ds → map_member (Some (array (items_of ds))) other ≡ Ok t
one_text (text s ∷ []) other t h = let own : s ≡ t = cc in ap Ok own
one_text [] other t h = absurd cc
one_text (null ∷ []) other t h = absurd cc
one_text (flag b ∷ []) other t h = absurd cc
one_text (num n ∷ []) other t h = absurd cc
one_text (array xs ∷ []) other t h = absurd cc
one_text (object ms ∷ []) other t h = absurd cc
one_text (null ∷ e ∷ ds) other t h = absurd cc
one_text (flag b ∷ e ∷ ds) other t h = absurd cc
one_text (num n ∷ e ∷ ds) other t h = absurd cc
one_text (text s ∷ e ∷ ds) other t h = absurd cc
one_text (array xs ∷ e ∷ ds) other t h = absurd cc
one_text (object ms ∷ e ∷ ds) other t h = absurd cc

no_text : (ds : List Data) (other : Option Data) → None ≡ lone_text ds → map_member (Some (array (items_of ds))) other ≡ Err (read.BadMember (codes "Maps"))
no_text (text s ∷ []) other h = absurd cc
no_text [] other h = refl
no_text (null ∷ []) other h = refl
no_text (flag b ∷ []) other h = refl
no_text (num n ∷ []) other h = refl
no_text (array xs ∷ []) other h = refl
no_text (object ms ∷ []) other h = refl
no_text (null ∷ e ∷ ds) other h = refl
no_text (flag b ∷ e ∷ ds) other h = refl
no_text (num n ∷ e ∷ ds) other h = refl
no_text (text s ∷ e ∷ ds) other h = refl
no_text (array xs ∷ e ∷ ds) other h = refl
no_text (object ms ∷ e ∷ ds) other h = refl

-- of these items
module _ (ds es : List Data) (is : ds ≡ es) where
  pub maps-text : (other : Option Data) (t : List ℕ) → Some t ≡ lone_text ds → map_member (Some (array (items_of es))) other ≡ Ok t
  maps-text other t h = one_text es other t (h ∙ ap lone_text is)

  pub maps-none : (other : Option Data) (why : ReadRefusal) → None ≡ lone_text ds → IsBadMember (codes "Maps") why → Refuses why (map_member (Some (array (items_of es))) other)
  maps-none other why h bad = bad_member (codes "Maps") why (map_member (Some (array (items_of es))) other) bad (no_text es other (h ∙ ap lone_text is))

pub ruleset maps = (maps-text, maps-none, bad_member)
