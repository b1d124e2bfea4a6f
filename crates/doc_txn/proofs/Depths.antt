-- A stored body is no deeper than its body, or than a flat one with metadata.
use Rattle.std.proofs.Common.{◌≡◌, ℕ, ◌≤◌, List, [], ◌∷◌, Bool, true, false, not, cond, filter, codes, Option, Some, None, refl, ap, arith}
use Rattle.spec_data.specs.Data.{Data, null, flag, num, text, array, object, Entries, no_entries, entry, depth, entries_depth, entries_of, pairs_of}
use Rattle.spec_data.specs.Members.{member}
use Rattle.spec_data.specs.Rising.{Pairs}
use Rattle.spec_store.specs.Commit.{clean_metadata, is_server_member, stored_body}
use Rattle.raven_json.proofs.PairLemmas.{member-depth, put-depth}

entries-pairs : (ms : Entries) → entries_of (pairs_of ms) ≡ ms
entries-pairs no_entries = refl
entries-pairs (entry k d ms) = ap (entry k d) (entries-pairs ms)

filter-depth : (p : List ℕ × Data → Bool) (ps : Pairs) → entries_depth (entries_of (filter p ps)) ≤ entries_depth (entries_of ps)
filter-depth p [] = omega arith
filter-depth p (m ∷ ps) = let more = filter-depth p ps in elim (p m) as (λ b. entries_depth (entries_of (cond b (m ∷ filter p ps) (filter p ps))) ≤ entries_depth (entries_of (m ∷ ps))) [
  | true ↦ omega arith
  | false ↦ omega arith
]

abbrev is_others : List ℕ × Data → Bool
is_others m = not (is_server_member m.0)

clean-depth : (o : Option Data) (n : ℕ) → 1 ≤ n → ((d : Data) → o ≡ Some d → depth d ≤ n) → depth (clean_metadata o) ≤ n
clean-depth None n some h = some
clean-depth (Some null) n some h = some
clean-depth (Some (flag b)) n some h = some
clean-depth (Some (num z)) n some h = some
clean-depth (Some (text s)) n some h = some
clean-depth (Some (array ds)) n some h = some
clean-depth (Some (object ms)) n some h =
    let whole = h (object ms) refl in
    let same = ap entries_depth (entries-pairs ms) in
    let less = filter-depth is_others (pairs_of ms) in omega arith

pub stored-depth : (d : Data) → depth d ≤ 100 → depth (stored_body d) ≤ 100
stored-depth null h = h
stored-depth (flag b) h = h
stored-depth (num z) h = h
stored-depth (text s) h = h
stored-depth (array ds) h = h
stored-depth (object ms) h =
    let name = codes "@metadata" in
    let clean = clean_metadata (member name ms) in
    let shallow : depth clean ≤ 99 = clean-depth (member name ms) 99 (omega arith) (λ d is. let a = member-depth name ms d is in omega arith) in
    let same = ap entries_depth (entries-pairs ms) in
    let inner = put-depth name clean (pairs_of ms) 99 shallow (omega arith) in
    omega arith

pub ruleset depths = (stored-depth)
