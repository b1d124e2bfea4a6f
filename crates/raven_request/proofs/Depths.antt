-- What stands in a value that is at most a hundred deep is no deeper.
use Rattle.std.proofs.Common.{◌≡◌, ◌≤◌, ℕ, List, ◌∷◌, Option, Some, None, Result, Ok, IfSome, map, sym, subst, arith}
use Rattle.spec_data.specs.Data.{Data, null, flag, num, text, array, object, Entries, depth, items_depth, items_of}
use Rattle.spec_data.specs.Members.{member}
use Rattle.spec_server.specs.Words.{object_read, ReadRefusal}
use Rattle.raven_value.specs.View.{data_of}
use Rattle.raven_value.specs.declared.value.Value.{Value}
use Rattle.raven_json.proofs.PairLemmas.{member-depth}

pub member-shallow : (name : List ℕ) (ms : Entries) (found : Option Data) → found ≡ member name ms → depth (object ms) ≤ 100 → IfSome found (λ d. depth d ≤ 100)
member-shallow name ms None is few = tt
member-shallow name ms (Some d) is few = let less = member-depth name ms d (sym is) in omega arith

object-is : (d e : Data) → (let r : Result Data ReadRefusal = Ok d in r) ≡ Ok e → d ≡ e
object-is d e h = cc

same-depth : (name : List ℕ) (d e : Data) → object_read name (Some d) ≡ Ok e → depth d ≤ 100 → depth e ≤ 100
same-depth name null e h few = absurd cc
same-depth name (flag b) e h few = absurd cc
same-depth name (num z) e h few = absurd cc
same-depth name (text s) e h few = absurd cc
same-depth name (array ds) e h few = absurd cc
same-depth name (object ms) e h few = subst (λ (x : Data). depth x ≤ 100) (object-is (object ms) e h) few

pub object-shallow : (name : List ℕ) (found : Option Data) (d : Data) → object_read name found ≡ Ok d → IfSome found (λ x. depth x ≤ 100) → depth d ≤ 100
object-shallow name None d h few = absurd cc
object-shallow name (Some x) d h few = same-depth name x d h few

pub ruleset depths = (member-shallow, object-shallow)

-- ---- commands in a list

pub all_shallow : (left all : List Value) → left ≡ all → items_depth (items_of (map data_of all)) ≤ 100 → items_depth (items_of (map data_of left)) ≤ 100
all_shallow left all is few = subst (λ (vs : List Value). items_depth (items_of (map data_of vs)) ≤ 100) (sym is) few

pub first_shallow : (left rest : List Value) (v : Value) → left ≡ v ∷ rest → items_depth (items_of (map data_of left)) ≤ 100 → depth (data_of v) ≤ 100
first_shallow left rest v is few =
    let whole : items_depth (items_of (map data_of (v ∷ rest))) ≤ 100 = subst (λ (vs : List Value). items_depth (items_of (map data_of vs)) ≤ 100) is few in
    omega arith

pub rest_shallow : (left rest : List Value) (v : Value) → left ≡ v ∷ rest → items_depth (items_of (map data_of left)) ≤ 100 → items_depth (items_of (map data_of rest)) ≤ 100
rest_shallow left rest v is few =
    let whole : items_depth (items_of (map data_of (v ∷ rest))) ≤ 100 = subst (λ (vs : List Value). items_depth (items_of (map data_of vs)) ≤ 100) is few in
    omega arith

pub ruleset list_depths = (all_shallow, first_shallow, rest_shallow)
