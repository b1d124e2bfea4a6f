-- One reading after another.
use Rattle.std.proofs.Common.{◌≡◌, ◌+◌, ℕ, suc, List, [], ◌∷◌, ◌++◌, length, Option, Some, None, Result, Ok, Err, refl, ap, ◌∙◌, sym, subst, append_assoc, map, arith}
use Rattle.std.proofs.lemmas.List.{append-nil, map-append}
use Rattle.spec_data.specs.Faults.{Fault}
use Rattle.raven_value.specs.Refusal.{fault_in}
use Rattle.raven_value.specs.View.{data_of}
use Rattle.raven_value.specs.declared.value.Value.{Value}
use Rattle.doc_txn.specs.CommandView.{command_view}
use Rattle.doc_txn.specs.declared.command.Command as program
use Rattle.spec_server.specs.Words as read
use Rattle.spec_data.specs.Data.{Data, array, items_of, list_of}
use Rattle.spec_store.specs.Commit.{Command}
use Rattle.spec_server.specs.Words.{then_read}
use Rattle.spec_server.specs.Commands.{command_read, commands_read, list_member}
use Rattle.raven_request.specs.RequestView.{IsBadId, IsBadMember, IsBadName, Refuses}
use Rattle.raven_request.specs.declared.request.ReadRefusal.{ReadRefusal}
use Rattle.raven_request.specs.declared.request.ReadRefusal.TheVariants as refusal

-- what reads on from a refusal is refused
pub refused_on : {A B : Type 0} (why : ReadRefusal) (r : Result A read.ReadRefusal) (f : A → Result B read.ReadRefusal) → Refuses why r → Refuses why (then_read r f)
refused_on refusal.UnknownLine r f h = ap (λ x. then_read x f) h
refused_on refusal.NotJson r f h = ap (λ x. then_read x f) h
refused_on refusal.NumberNotWhole r f h = ap (λ x. then_read x f) h
refused_on refusal.TooDeep r f h = ap (λ x. then_read x f) h
refused_on (refusal.BadId why) r f h = bad (fault_in why) h
  where
    bad : (fault : Option Fault) → IsBadId fault r → IsBadId fault (then_read r f)
    bad None h = h
    bad (Some fault) h = ap (λ x. then_read x f) h
refused_on (refusal.BadName why) r f h = bad (fault_in why) h
  where
    bad : (fault : Option Fault) → IsBadName fault r → IsBadName fault (then_read r f)
    bad None h = h
    bad (Some fault) h = ap (λ x. then_read x f) h
refused_on (refusal.BadMember name) r f h = ap (λ x. then_read x f) h
refused_on (refusal.BadDefinition part at kind) r f h = ap (λ x. then_read x f) h
refused_on (refusal.BadQuery at kind) r f h = ap (λ x. then_read x f) h
refused_on refusal.NoMemory r f h = tt

-- and what reads on from a value is what is read then
pub refused_then : {A B : Type 0} (why : ReadRefusal) (r : Result A read.ReadRefusal) (a : A) (f : A → Result B read.ReadRefusal) → r ≡ Ok a → Refuses why (f a) → Refuses why (then_read r f)
refused_then why r a f e h = subst (λ x. Refuses why (then_read x f)) (sym e) h

pub read_then : {A B : Type 0} (r : Result A read.ReadRefusal) (a : A) (f : A → Result B read.ReadRefusal) (b : B) → r ≡ Ok a → f a ≡ Ok b → then_read r f ≡ Ok b
read_then r a f b e h = ap (λ x. then_read x f) e ∙ h

pub ruleset readings = (refused_on, refused_then, read_then)

-- a member that is missing or of another kind
pub bad_member : {A : Type 0} (name : List ℕ) (why : ReadRefusal) (r : Result A read.ReadRefusal) → IsBadMember name why → r ≡ Err (read.BadMember name) → Refuses why r
bad_member name refusal.UnknownLine r h e = absurd h
bad_member name refusal.NotJson r h e = absurd h
bad_member name refusal.NumberNotWhole r h e = absurd h
bad_member name refusal.TooDeep r h e = absurd h
bad_member name (refusal.BadId why) r h e = absurd h
bad_member name (refusal.BadName why) r h e = absurd h
bad_member name (refusal.BadMember told) r h e = e ∙ ap (λ n. Err (read.BadMember n)) (sym h)
bad_member name (refusal.BadDefinition part at kind) r h e = absurd h
bad_member name (refusal.BadQuery at kind) r h e = absurd h
bad_member name refusal.NoMemory r h e = tt

pub list_of-items_of : (ds : List Data) → list_of (items_of ds) ≡ ds
list_of-items_of [] = refl
list_of-items_of (d ∷ ds) = ap (λ more. d ∷ more) (list_of-items_of ds)

pub read_list : (ds : List Data) (b : List Command) → commands_read ds ≡ Ok b → list_member (Some (array (items_of ds))) ≡ Ok b
read_list ds b e = ap commands_read (list_of-items_of ds) ∙ e

pub refused_list : (why : ReadRefusal) (ds : List Data) → Refuses why (commands_read ds) → Refuses why (list_member (Some (array (items_of ds))))
refused_list why ds h = subst (λ xs. Refuses why (commands_read xs)) (sym (list_of-items_of ds)) h

pub ruleset members = (bad_member, read_list, refused_list)

-- COMMANDS IN A LIST

abbrev in_front : List program.Command → Result (List Command) read.ReadRefusal → Result (List Command) read.ReadRefusal
in_front done r = then_read r (λ more. Ok (map command_view done ++ more))

-- none of them is read yet
pub none_read : (done : List program.Command) (all left : List Value) → done ≡ [] → left ≡ all → in_front done (commands_read (map data_of left)) ≡ commands_read (map data_of all)
none_read done all left none h =
    ap (λ cs. in_front cs (commands_read (map data_of left))) none
    ∙ by (commands_read (map data_of left)) ∙ ap (λ vs. commands_read (map data_of vs)) h
  where
    by : (r : Result (List Command) read.ReadRefusal) → in_front [] r ≡ r
    by (Ok cs) = refl
    by (Err refusal) = refl

pub one_fewer : (left rest : List Value) (v : Value) (count fewer : ℕ) → count ≡ length left → left ≡ v ∷ rest → fewer + 1 ≡ count → fewer ≡ length rest
one_fewer left rest v count fewer long split less =
    let longer : length left ≡ suc (length rest) = ap length split in
    omega arith

-- where some are read and these are left
module _ (done : List program.Command) (left : List Value) (all : Result (List Command) read.ReadRefusal) (so_far : in_front done (commands_read (map data_of left)) ≡ all) where
  pub none_left : (count : ℕ) → count ≡ length left → count ≡ 0 → all ≡ Ok (map command_view done)
  none_left count long none = by left so_far (sym long ∙ none)
    where
      by : (vs : List Value) → in_front done (commands_read (map data_of vs)) ≡ all → length vs ≡ 0 → all ≡ Ok (map command_view done)
      by [] h empty = sym h ∙ ap Ok (append-nil (map command_view done))
      by (v ∷ vs) h empty = absurd (omega arith)

  module _ (v : Value) (rest : List Value) (split : left ≡ v ∷ rest) where
    abbrev later : Result (List Command) read.ReadRefusal
    later = commands_read (map data_of rest)

    here : in_front done (commands_read (data_of v ∷ map data_of rest)) ≡ all
    here = ap (λ vs. in_front done (commands_read (map data_of vs))) (sym split) ∙ so_far

    -- the first refusal counts
    pub refused_here : (why : ReadRefusal) → Refuses why (command_read (data_of v)) → Refuses why all
    refused_here why h =
        subst (Refuses why) here
        (refused_on why (commands_read (data_of v ∷ map data_of rest)) (λ more. Ok (map command_view done ++ more))
        (refused_on why (command_read (data_of v)) (λ c. then_read later (λ cs. Ok (c ∷ cs))) h))

    pub one_more : (c : program.Command) (new : List program.Command) → command_read (data_of v) ≡ Ok (command_view c) → new ≡ done ++ c ∷ [] → in_front new later ≡ all
    one_more c new h is =
        ap (λ cs. in_front cs later) is ∙ by later
        ∙ ap (λ r. in_front done (then_read r (λ x. then_read later (λ cs. Ok (x ∷ cs))))) (sym h) ∙ here
      where
        by : (r : Result (List Command) read.ReadRefusal) → in_front (done ++ c ∷ []) r ≡ in_front done (then_read r (λ cs. Ok (command_view c ∷ cs)))
        by (Ok cs) = ap (λ front. Ok (front ++ cs)) (map-append command_view done (c ∷ [])) ∙ ap Ok (append_assoc (map command_view done) (command_view c ∷ []) cs)
        by (Err refusal) = refl

pub ruleset lists = (none_read, none_left, one_fewer, refused_here, one_more)
