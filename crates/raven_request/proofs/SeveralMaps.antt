-- The texts of an index of several maps, and its parts.
use Rattle.std.proofs.Common.{◌≡◌, ◌≤◌, ◌<◌, ◌+◌, ◌^◌, ℕ, suc, List, [], ◌∷◌, ◌++◌, length, Bool, true, false, cond, ◌&&◌, ◌==◌, nat_le, nat_lt, Option, Some, None, option_map, Result, Ok, Err, refl, sym, ap, ◌∙◌, subst, append-nil, append_assoc, map, codes, arith, if◌then◌else◌}
use Rattle.std.proofs.lemmas.Bool.{leb-true}
use Rattle.std.proofs.lemmas.Fmt.{decimal_digit}
use Rattle.std.proofs.lemmas.List.{length-append, map-append}
use Rattle.std.specs.Fmt.{decimal}
use Rattle.std.specs.List.{position_from}
use Rattle.raven_value.specs.View.{data_of}
use Rattle.raven_value.specs.declared.value.Value.{Value}
use Rattle.spec_data.specs.Data.{Data, null, flag, num, text, array, object, Entries, items_of, list_of}
use Rattle.spec_data.specs.Faults.{Fault, control, empty, fault_of, is_control, max_name, too_long}
use Rattle.spec_data.specs.Members.{member}
use Rattle.spec_data.proofs.Clean.{IsClean, clean-decimal}
use Rattle.spec_store.proofs.StoreLemmas.{both_true}
use Rattle.index_tree.specs.Definitions.{Definition, Texts}
use Rattle.index_tree.specs.Language.{LangRefusal}
use Rattle.index_lang.specs.ByTexts.{Named}
use Rattle.index_lang.specs.Says.{Says}
use Rattle.raven_lines.specs.Lines.{Comes, SayParts, no_part, one_more, refused, refused_later}
use Rattle.spec_server.specs.Requests as is
use Rattle.spec_server.specs.Requests.{Define, Do}
use Rattle.spec_server.specs.Several.{part_name}
use Rattle.spec_server.specs.Words as read
use Rattle.spec_server.specs.Words.{BadMember, LineRead, name_read, then_read, unless_name_fault}
use Rattle.spec_server.specs.Texts.{Asked, Defining, DefiningSeveral, SeveralTexts, asked_to_define_several, defined_by, map_text, map_texts, part_texts, several_in, several_maps, several_name, several_of_body, several_reduce}
use Rattle.raven_request.proofs.Maps.{length-map}
use Rattle.raven_request.proofs.Readings.{bad_member, list_of-items_of, refused_on}
use Rattle.raven_request.proofs.Requesting.{comes-then, not_refused, plainly-refused, refused-as, refused-then, told-refused}
use Rattle.raven_request.specs.RequestRead.{AsksBy, IsRefusedFor}
use Rattle.raven_request.specs.RequestView.{IsBadMember, Reads, Refuses, define_view, multi_view, part_view}
use Rattle.raven_request.specs.Several.{AreFit}
use Rattle.raven_request.specs.declared.request.ReadRefusal.{ReadRefusal}

-- THE TEXTS OF THE MAPS

-- with the texts in front that were read before
abbrev pub texts_before : List (List ℕ) → Result (List (List ℕ)) read.ReadRefusal → Result (List (List ℕ)) read.ReadRefusal
texts_before done r = then_read r (λ more. Ok (done ++ more))

pub no-text-before : (r : Result (List (List ℕ)) read.ReadRefusal) → texts_before [] r ≡ r
no-text-before (Ok maps) = refl
no-text-before (Err why) = refl

pub one-text-before : (done : List (List ℕ)) (m : List ℕ) (r : Result (List (List ℕ)) read.ReadRefusal)
    → texts_before (done ++ m ∷ []) r ≡ texts_before done (then_read r (λ more. Ok (m ∷ more)))
one-text-before done m (Ok more) = ap Ok (append_assoc done (m ∷ []) more)
one-text-before done m (Err why) = refl

pub ruleset map_lists = (no-text-before, one-text-before, refused_on, append-nil)

-- TWO TO EIGHT

-- of so many texts
module _ (vs : List Value) where
  abbrev are_few : Bool
  are_few = nat_le 2 (length vs) && nat_le (length vs) 8

  by-count : (b : Bool) → are_few ≡ b → several_maps (Some (array (items_of (map data_of vs)))) ≡ cond b (map_texts (map data_of vs)) (Err (BadMember (codes "Maps")))
  by-count b is =
      ap (λ ds. cond (nat_le 2 (length ds) && nat_le (length ds) 8) (map_texts ds) (Err (BadMember (codes "Maps")))) (list_of-items_of (map data_of vs))
      ∙ ap (λ few. cond few (map_texts (map data_of vs)) (Err (BadMember (codes "Maps")))) (ap (λ n. nat_le 2 n && nat_le n 8) (length-map vs) ∙ is)

  pub too-few : (why : ReadRefusal) → are_few ≡ false → IsBadMember (codes "Maps") why → Refuses why (several_maps (Some (array (items_of (map data_of vs)))))
  too-few why is bad = bad_member (codes "Maps") why (several_maps (Some (array (items_of (map data_of vs))))) bad (by-count false is)

  pub few-enough : {A : Type 0} (view : A → List (List ℕ)) (result : Result A ReadRefusal) → are_few ≡ true → Reads view result (map_texts (map data_of vs))
      → Reads view result (several_maps (Some (array (items_of (map data_of vs)))))
  few-enough view result is h = subst (Reads view result) (sym (by-count true is)) h

-- NAMES OF PARTS

-- where there is a control character hangs on no digit
same-control : (i : ℕ) (name : List ℕ) (a b : ℕ) → is_control a ≡ false → is_control b ≡ false → position_from is_control i (name ++ (codes "/" ++ a ∷ [])) ≡ position_from is_control i (name ++ (codes "/" ++ b ∷ []))
same-control i [] a b e f = rw (e, f) refl
same-control i (c ∷ name) a b e f = ap (λ r. cond (is_control c) (Some i) r) (same-control (i + 1) name a b e f)

-- the fault of a name, by its length and the place of its first control character
abbrev name_fault : (long : ℕ) (place : Option ℕ) → Option Fault
name_fault long place = if long == 0 then Some empty else (if nat_lt max_name long then Some (too_long long) else option_map control place)

-- the names of the first nine parts have the same faults
part-fault : (name : List ℕ) (n : ℕ) → n < 10 → fault_of max_name (part_name name n) ≡ fault_of max_name (part_name name 1)
part-fault name n small =
    let digit = decimal_digit n small in
    let one = decimal_digit 1 (omega arith) in
    let clean : is_control (48 + n) ≡ false = (subst IsClean digit (clean-decimal n (omega arith))).0 in
    let own = length-append name (codes "/" ++ decimal n) in
    let first = length-append name (codes "/" ++ decimal 1) in
    let own_digit = ap length digit in
    let first_digit = ap length one in
    let long : length (part_name name n) ≡ length (part_name name 1) = omega arith in
    let place : position_from is_control 0 (part_name name n) ≡ position_from is_control 0 (part_name name 1) =
    ap (λ ds. position_from is_control 0 (name ++ (codes "/" ++ ds))) digit ∙ same-control 0 name (48 + n) 49 clean refl
    ∙ sym (ap (λ ds. position_from is_control 0 (name ++ (codes "/" ++ ds))) one) in
    ap (λ l. name_fault l (position_from is_control 0 (part_name name n))) long ∙ ap (name_fault (length (part_name name 1))) place

-- so if the first is valid, each is
module _ (name : List ℕ) (n : ℕ) (first : fault_of max_name (part_name name 1) ≡ None) (small : n < 10) where
  valid : name_read (part_name name n) ≡ Ok (part_name name n)
  valid = ap (λ o. unless_name_fault o (part_name name n)) (part-fault name n small ∙ first)

  pub name-refused : (asked : Asked) (why : ReadRefusal) → Refuses why (name_read (part_name name n)) → IsRefusedFor asked why
  name-refused asked why h = not_refused asked (part_name name n) why (subst (Refuses why) valid h)

  pub name-valid : {A : Type 0} (view : A → is.Request) (called : List ℕ) (texts : Texts) (result : Result A ReadRefusal)
      → name_read (part_name name n) ≡ Ok called → AsksBy view (Defining called texts) result → AsksBy view (Defining (part_name name n) texts) result
  name-valid view called texts result h asks =
      let own : (let r : Result (List ℕ) read.ReadRefusal = Ok called in r) ≡ Ok (part_name name n) = sym h ∙ valid in
      let same : called ≡ part_name name n = cc in
      subst (λ x. AsksBy view (Defining x texts) result) same asks

pub ruleset naming = (name-refused, name-valid)

-- ONE PART AFTER ANOTHER

-- with the parts in front that were read before
abbrev parts_before : List (List ℕ × Definition) → Result (List (List ℕ × Definition)) LangRefusal → Result (List (List ℕ × Definition)) LangRefusal
parts_before done (Ok parts) = Ok (done ++ parts)
parts_before done (Err why) = Err why

-- what the texts that are left say is what all say, with the parts in front that were read before
abbrev pub SayLater : (reduce : List ℕ) → List (List ℕ × Definition) → (left all : List (List ℕ × List ℕ)) → Type 0
SayLater reduce done left all = (answer : Result (List (List ℕ × Definition)) LangRefusal) → SayParts reduce left answer → SayParts reduce all (parts_before done answer)

-- none of them is read yet
pub no-part-said : (reduce : List ℕ) (all : List (List ℕ × List ℕ)) → SayLater reduce [] all all
no-part-said reduce all (Ok parts) h = h
no-part-said reduce all (Err why) h = h

-- what the texts of a part say is defined under its name
defined-as : (name : List ℕ) (texts : Texts) (d : Named) (answer : Result Definition LangRefusal) → Says texts answer → Ok (Some (Do (define_view d))) ≡ defined_by name answer
    → (d.name ≡ name) × Says texts (Ok d.definition)
defined-as name texts d (Ok e) says h =
    let definition : e ≡ d.definition = cc in
    let called : d.name ≡ name = cc in
    (called, subst (λ x. Says texts (Ok x)) definition says)
defined-as name texts d (Err why) says h = absurd cc

-- none is left
pub all-said : (t : SeveralTexts) (k : ℕ) (left : List (List ℕ)) (parts : List Named) → left ≡ [] → SayLater t.reduce (map part_view parts) (part_texts (k + 1) t.name left) (part_texts 1 t.name t.maps)
    → Comes (DefiningSeveral t) (Ok (Some (Do (multi_view parts))))
all-said t k left parts none later =
    let said = subst (λ maps. SayLater t.reduce (map part_view parts) (part_texts (k + 1) t.name maps) (part_texts 1 t.name t.maps)) none later in
    record {
      answer = Ok (map part_view parts);
      says = subst (λ ps. SayParts t.reduce (part_texts 1 t.name t.maps) (Ok ps)) (append-nil (map part_view parts)) (said (Ok []) no_part);
      read = refl;
    }

-- these are left, of which the first has this number
module _ (t : SeveralTexts) (n k : ℕ) (left : List (List ℕ)) (m : List ℕ) (rest : List (List ℕ)) (number : n ≡ k + 1) (split : left ≡ m ∷ rest) where
  abbrev here : List (List ℕ × Definition) → Type 0
  here done = SayLater t.reduce done (part_texts (k + 1) t.name left) (part_texts 1 t.name t.maps)

  first : (done : List (List ℕ × Definition)) → here done → SayLater t.reduce done ((part_name t.name n, m) ∷ part_texts (k + 1 + 1) t.name rest) (part_texts 1 t.name t.maps)
  first done later =
      subst (λ i. SayLater t.reduce done ((part_name t.name i, m) ∷ part_texts (k + 1 + 1) t.name rest) (part_texts 1 t.name t.maps)) (sym number)
      (subst (λ maps. SayLater t.reduce done (part_texts (k + 1) t.name maps) (part_texts 1 t.name t.maps)) split later)

  -- one more is read
  pub part-said : (done new : List Named) (d : Named) → new ≡ done ++ d ∷ [] → Comes (Defining (part_name t.name n) (m, Some t.reduce)) (Ok (Some (Do (define_view d))))
      → here (map part_view done) → SayLater t.reduce (map part_view new) (part_texts (k + 1 + 1) t.name rest) (part_texts 1 t.name t.maps)
  part-said done new d is comes later =
      let own = defined-as (part_name t.name n) (m, Some t.reduce) d comes.answer comes.says comes.read in
      subst (λ ps. SayLater t.reduce ps (part_texts (k + 1 + 1) t.name rest) (part_texts 1 t.name t.maps)) (sym (ap (λ ds. map part_view ds) is ∙ map-append part_view done (d ∷ []))) (by own)
    where
      by : (d.name ≡ part_name t.name n) × Says (m, Some t.reduce) (Ok d.definition)
          → SayLater t.reduce (map part_view done ++ part_view d ∷ []) (part_texts (k + 1 + 1) t.name rest) (part_texts 1 t.name t.maps)
      by own (Ok parts) h =
          subst (λ ps. SayParts t.reduce (part_texts 1 t.name t.maps) (Ok ps))
          (ap (λ name. map part_view done ++ (name, d.definition) ∷ parts) (sym own.0) ∙ sym (append_assoc (map part_view done) (part_view d ∷ []) parts))
          (first (map part_view done) later (Ok ((part_name t.name n, d.definition) ∷ parts)) (one_more own.1 h))
      by own (Err why) h = first (map part_view done) later (Err why) (refused_later own.1 h)

  -- the first refusal counts
  pub part-refused : (done : List (List ℕ × Definition)) (why : ReadRefusal) → IsRefusedFor (Defining (part_name t.name n) (m, Some t.reduce)) why → here done → IsRefusedFor (DefiningSeveral t) why
  part-refused done why h later = refused-as (Defining (part_name t.name n) (m, Some t.reduce)) (DefiningSeveral t) why (λ r. by r.read r.comes.answer r.comes.says r.comes.read r.told) h
    where
      by : (told : LineRead) (answer : Result Definition LangRefusal) → Says (m, Some t.reduce) answer → told ≡ defined_by (part_name t.name n) answer → Refuses why told → IsRefusedFor (DefiningSeveral t) why
      by told (Ok d) says is refuses = not_refused (DefiningSeveral t) (Some (Do (Define (part_name t.name n) d))) why (subst (Refuses why) is refuses)
      by told (Err cause) says is refuses = told-refused (DefiningSeveral t) why (record {
        read = told;
        comes = record { answer = Err cause; says = first done later (Err cause) (refused says); read = is };
        told = refuses;
      })

pub ruleset parting = (no-part-said)

-- WHAT IS ASKED

-- the texts are not found
pub several-unread : (given : Result SeveralTexts read.ReadRefusal) (why : ReadRefusal) → Refuses why given → IsRefusedFor (asked_to_define_several given) why
several-unread (Ok texts) why h = not_refused (DefiningSeveral texts) texts why h
several-unread (Err told) why h = plainly-refused (Err told) why (refused_on why (Err told) (λ given. Ok None) h)

-- they are found
pub several-read : {A : Type 0} (view : A → is.Request) (texts : SeveralTexts) (given : Result SeveralTexts read.ReadRefusal) (result : Result A ReadRefusal)
    → given ≡ Ok texts → AsksBy view (DefiningSeveral texts) result → AsksBy view (asked_to_define_several given) result
several-read view texts given result is h = subst (λ g. AsksBy view (asked_to_define_several g) result) (sym is) h

-- in JSON that is read first
module _ (json : Result Data read.ReadRefusal) (d : Data) where
  pub several-then : (told : LineRead) → json ≡ Ok d → Comes (asked_to_define_several (several_of_body d)) told → Comes (asked_to_define_several (then_read json several_of_body)) told
  several-then told is h = comes-then asked_to_define_several several_of_body json d is told h

  pub several-refused : (why : ReadRefusal) → json ≡ Ok d → IsRefusedFor (asked_to_define_several (several_of_body d)) why → IsRefusedFor (asked_to_define_several (then_read json several_of_body)) why
  several-refused why is h = refused-then asked_to_define_several several_of_body json d is why h

-- WHAT IS FOUND has a first part of a valid name, and at most eight maps

then-ok : {A B : Type 0} (r : Result A read.ReadRefusal) (f : A → Result B read.ReadRefusal) (b : B) → then_read r f ≡ Ok b → (a : A) × (r ≡ Ok a) × (f a ≡ Ok b)
then-ok (Err why) f b h = absurd cc
then-ok (Ok a) f b h = (a, refl, h)

same_ok : {A : Type 0} (a b : A) → (let r : Result A read.ReadRefusal = Ok a in r) ≡ Ok b → a ≡ b
same_ok a b h = cc

read-valid : (o : Option Fault) (name out : List ℕ) → unless_name_fault o name ≡ Ok out → o ≡ None
read-valid None name out h = refl
read-valid (Some fault) name out h = absurd cc

name-fits : (o : Option Data) (name : List ℕ) → several_name o ≡ Ok name → fault_of max_name (part_name name 1) ≡ None
name-fits None name h = absurd cc
name-fits (Some null) name h = absurd cc
name-fits (Some (flag b)) name h = absurd cc
name-fits (Some (num n)) name h = absurd cc
name-fits (Some (array ds)) name h = absurd cc
name-fits (Some (object ms)) name h = absurd cc
name-fits (Some (text s)) name h =
    let p = then-ok (name_read (part_name s 1)) (λ part. Ok s) name h in
    subst (λ x. fault_of max_name (part_name x 1) ≡ None) (same_ok s name p.2) (read-valid (fault_of max_name (part_name s 1)) (part_name s 1) p.0 p.1)

as_many : (ds : List Data) (maps : List (List ℕ)) → map_texts ds ≡ Ok maps → length maps ≡ length ds
as_many [] maps h = ap length (sym (same_ok {A = List (List ℕ)} [] maps h))
as_many (d ∷ ds) maps h =
    let m = then-ok (map_text d) (λ map. then_read (map_texts ds) (λ maps. Ok (map ∷ maps))) maps h in
    let r = then-ok (map_texts ds) (λ maps. Ok (m.0 ∷ maps)) maps m.2 in
    ap length (sym (same_ok {A = List (List ℕ)} (m.0 ∷ r.0) maps r.2)) ∙ ap suc (as_many ds r.0 r.1)

few-maps : (o : Option Data) (maps : List (List ℕ)) → several_maps o ≡ Ok maps → length maps ≤ 8
few-maps None maps h = absurd cc
few-maps (Some null) maps h = absurd cc
few-maps (Some (flag b)) maps h = absurd cc
few-maps (Some (num n)) maps h = absurd cc
few-maps (Some (text s)) maps h = absurd cc
few-maps (Some (object ms)) maps h = absurd cc
few-maps (Some (array ds)) maps h = by (nat_le 2 (length (list_of ds)) && nat_le (length (list_of ds)) 8) refl h
  where
    by : (t : Bool) → (nat_le 2 (length (list_of ds)) && nat_le (length (list_of ds)) 8) ≡ t → cond t (map_texts (list_of ds)) (Err (BadMember (codes "Maps"))) ≡ Ok maps → length maps ≤ 8
    by true e g =
        let few = leb-true (length (list_of ds)) 8 (both_true (nat_le 2 (length (list_of ds))) (nat_le (length (list_of ds)) 8) e).1 in
        let many = as_many (list_of ds) maps g in
        omega arith
    by false e g = absurd cc

fits-in : (ms : Entries) (t : SeveralTexts) → several_in ms ≡ Ok t → AreFit t
fits-in ms t h =
    let all = several_maps (member (codes "Maps") ms) in
    let reduces = several_reduce (member (codes "Reduce") ms) in
    let n = then-ok (several_name (member (codes "Name") ms)) (λ name. then_read all (λ maps. then_read reduces (λ reduce. Ok (record { name = name; maps = maps; reduce = reduce })))) t h in
    let m = then-ok all (λ maps. then_read reduces (λ reduce. Ok (record { name = n.0; maps = maps; reduce = reduce }))) t n.2 in
    let r = then-ok reduces (λ reduce. Ok (record { name = n.0; maps = m.0; reduce = reduce })) t m.2 in
    subst AreFit (same_ok {A = SeveralTexts} (record { name = n.0; maps = m.0; reduce = r.0 }) t r.2) (record {
      name = name-fits (member (codes "Name") ms) n.0 n.1;
      few = few-maps (member (codes "Maps") ms) m.0 m.1;
    })

pub several-fits : (d : Data) (t : SeveralTexts) → several_of_body d ≡ Ok t → AreFit t
several-fits null t h = absurd cc
several-fits (flag b) t h = absurd cc
several-fits (num n) t h = absurd cc
several-fits (text s) t h = absurd cc
several-fits (array ds) t h = absurd cc
several-fits (object ms) t h = fits-in ms t h

pub ruleset asking = (several-unread, several-read, several-then, several-refused, refused_on)
