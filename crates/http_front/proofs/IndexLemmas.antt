-- The one definition of a list of one.
use Rattle.std.proofs.Common.{◌≡◌, ℕ, List, [], ◌∷◌, length, map, Option, Some, None, Result, Ok, Err, refl, sym, ap, ◌∙◌, subst, arith, codes}
use Rattle.spec_data.specs.Data.{Data, null, flag, num, text, array, object, items_of}
use Rattle.index_tree.specs.Definitions.{Texts}
use Rattle.raven_value.specs.View.{data_of}
use Rattle.raven_value.specs.declared.value.Value.{Value}
use Rattle.spec_server.specs.Requests as is
use Rattle.spec_server.specs.Words as read
use Rattle.spec_server.specs.Texts as read_texts
use Rattle.spec_server.specs.Words.{LineRead, then_read}
use Rattle.spec_server.specs.Texts.{asked_to_define, texts_of_body}
use Rattle.spec_http.specs.Requests.{only_definition, texts_of_indexes}
use Rattle.raven_lines.specs.Lines.{Comes}
use Rattle.raven_request.specs.RequestRead.{AsksBy, IsRefusedFor}
use Rattle.raven_request.specs.RequestView.{IsBadMember}
use Rattle.raven_request.specs.declared.request.ReadRefusal.{ReadRefusal}
use Rattle.raven_request.proofs.Readings.{bad_member, refused_on}
use Rattle.raven_request.proofs.Requesting.{asks-unread, plainly-refused}
use Rattle.http_front.specs.Lists.{lone_object}

-- no object, if there is not one item

none_or_more : (ds : List Data) → (length ds ≡ 1 → ⊥) → (let x : Option Data = None in x) ≡ lone_object ds
none_or_more [] h = refl
none_or_more (d ∷ []) h = absurd (h refl)
none_or_more (null ∷ e ∷ ds) h = refl
none_or_more (flag b ∷ e ∷ ds) h = refl
none_or_more (num n ∷ e ∷ ds) h = refl
none_or_more (text t ∷ e ∷ ds) h = refl
none_or_more (array xs ∷ e ∷ ds) h = refl
none_or_more (object ms ∷ e ∷ ds) h = refl

length-map : (vs : List Value) → length (map data_of vs) ≡ length vs
length-map [] = refl
length-map (v ∷ vs) = ap ℕ.suc (length-map vs)

pub not_one : (vs : List Value) → (length vs ≡ 1 → ⊥) → None ≡ lone_object (map data_of vs)
not_one vs h = none_or_more (map data_of vs) (λ e. h (let n = length-map vs in omega arith))

pub ruleset lists = (not_one)

-- WHAT IS READ OF THE LIST

abbrev bad : Result (List ℕ × Texts) read.ReadRefusal
bad = Err (read.BadMember (codes "Indexes"))

one_object : (ds : List Data) (d : Data) → Some d ≡ lone_object ds → only_definition (Some (array (items_of ds))) ≡ texts_of_body d
one_object (object ms ∷ []) d h = let own : object ms ≡ d = cc in ap texts_of_body own
one_object [] d h = absurd cc
one_object (null ∷ []) d h = absurd cc
one_object (flag b ∷ []) d h = absurd cc
one_object (num n ∷ []) d h = absurd cc
one_object (text s ∷ []) d h = absurd cc
one_object (array xs ∷ []) d h = absurd cc
one_object (null ∷ e ∷ ds) d h = absurd cc
one_object (flag b ∷ e ∷ ds) d h = absurd cc
one_object (num n ∷ e ∷ ds) d h = absurd cc
one_object (text s ∷ e ∷ ds) d h = absurd cc
one_object (array xs ∷ e ∷ ds) d h = absurd cc
one_object (object ms ∷ e ∷ ds) d h = absurd cc

no_object : (ds : List Data) → None ≡ lone_object ds → only_definition (Some (array (items_of ds))) ≡ bad
no_object (object ms ∷ []) h = absurd cc
no_object [] h = refl
no_object (null ∷ []) h = refl
no_object (flag b ∷ []) h = refl
no_object (num n ∷ []) h = refl
no_object (text s ∷ []) h = refl
no_object (array xs ∷ []) h = refl
no_object (null ∷ e ∷ ds) h = refl
no_object (flag b ∷ e ∷ ds) h = refl
no_object (num n ∷ e ∷ ds) h = refl
no_object (text s ∷ e ∷ ds) h = refl
no_object (array xs ∷ e ∷ ds) h = refl
no_object (object ms ∷ e ∷ ds) h = refl

-- a member is missing or of another kind

pub asks-bad : (name : List ℕ) (given : Result (List ℕ × Texts) read.ReadRefusal) (why : ReadRefusal) → IsBadMember name why → given ≡ Err (read.BadMember name) → IsRefusedFor (asked_to_define given) why
asks-bad name given why h e = asks-unread given why (bad_member name why given h e)

pub asks-plainly-bad : (name : List ℕ) (why : ReadRefusal) → IsBadMember name why → IsRefusedFor (read_texts.Plain (Err (read.BadMember name))) why
asks-plainly-bad name why h = plainly-refused (Err (read.BadMember name)) why (bad_member name why (Err (read.BadMember name)) h refl)

-- of these items
module _ (ds es : List Data) (same : ds ≡ es) where
  pub list-defined : {A : Type 0} (view : A → is.Request) (d : Data) (result : Result A ReadRefusal) → Some d ≡ lone_object ds
      → AsksBy view (asked_to_define (texts_of_body d)) result → AsksBy view (asked_to_define (only_definition (Some (array (items_of es))))) result
  list-defined view d result h asks = subst (λ r. AsksBy view (asked_to_define r) result) (sym (one_object es d (h ∙ ap lone_object same))) asks

  pub list-bad : (why : ReadRefusal) → None ≡ lone_object ds → IsBadMember (codes "Indexes") why → IsRefusedFor (asked_to_define (only_definition (Some (array (items_of es))))) why
  list-bad why h told = asks-bad (codes "Indexes") (only_definition (Some (array (items_of es)))) why told (no_object es (h ∙ ap lone_object same))

pub ruleset indexes = (list-defined, list-bad, asks-plainly-bad)

pub ruleset bodies = (asks-bad, asks-plainly-bad)

-- THE JSON IS READ FIRST

module _ (json : Result Data read.ReadRefusal) (d : Data) where
  pub texts-then : (told : LineRead) → json ≡ Ok d → Comes (asked_to_define (texts_of_indexes d)) told → Comes (asked_to_define (then_read json texts_of_indexes)) told
  texts-then told e h = subst (λ r. Comes (asked_to_define (then_read r texts_of_indexes)) told) (sym e) h

  pub texts-refused : (why : ReadRefusal) → json ≡ Ok d → IsRefusedFor (asked_to_define (texts_of_indexes d)) why → IsRefusedFor (asked_to_define (then_read json texts_of_indexes)) why
  texts-refused why e h = subst (λ r. IsRefusedFor (asked_to_define (then_read r texts_of_indexes)) why) (sym e) h

pub ruleset texts = (texts-then, texts-refused, asks-unread, refused_on)
