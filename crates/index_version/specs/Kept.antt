-- What an index stores of what its map has given.
use Rattle.std.specs.Prelude.{◌≡◌, ℕ, List, [], Bool, true, false, Option, Some, None, if◌then◌else◌, length, refl}
use Rattle.std.specs.Coded.{Coded, coded×, code_by}
use Rattle.std.specs.FinMap.{FinMap, get}
use Rattle.std.specs.List.{count_by, filter_map, list_any}
use Rattle.std.specs.Map.{values_of}
use Rattle.std.specs.Option.{option_and_then}
use Rattle.spec_data.specs.Codes.{text_code}
use Rattle.spec_data.specs.Folding.{folded, key_cmp, same_key}
use Rattle.spec_data.specs.Rows.{Row, key}
use Rattle.spec_data.specs.Tables.{Table}
use Rattle.index_tree.specs.Meaning.{Fields, Outcome, Entry, NoEntry, Failed, Mapped}
use Rattle.index_tree.specs.Mapper.{Mapper, is_mapped}
use Rattle.spec_index.specs.Mapping.{entry_of, has_failed}
use Rattle.paged_map.specs.Pairs.{IsRising}
use Rattle.reference_track.specs.Sets.{id_cmp}
use Rattle.reference_track.specs.Tracks.{Track, is_pair}
use Rattle.index_version.specs.Codes.{mapped_code}

-- the id of a document, and what the map gives for it
pub record Given : Type 0 where
  pub id : List ℕ
  pub mapped : Mapped

abbrev pub given_code : Coded Given
given_code = code_by (List ℕ × Mapped) (coded× text_code mapped_code) (λ g. (g.id, g.mapped)) (λ p. record { id = p.0; mapped = p.1 }) (λ _. refl)

-- what the map gives for a document, if it is of the collection that is mapped
abbrev pub given_of : Mapper → Table → Row → Option Given
given_of m T d = if is_mapped m d then Some (record { id = d.id; mapped = m.meaning d T }) else None

-- what the map gives for a folded id, over the table alone
abbrev pub given_at : Mapper → Table → List ℕ → Option Given
given_at m T q = option_and_then (given_of m T) (get T q)

abbrev pub has_entry : Outcome → Bool
has_entry (Entry fields) = true
has_entry NoEntry = false
has_entry Failed = false

-- the fields of its entry, none if it has no entry
abbrev pub outcome_fields : Outcome → Fields
outcome_fields (Entry fields) = fields
outcome_fields NoEntry = []
outcome_fields Failed = []

-- the entry of a document, if it has one
abbrev pub entry_given : Given → Option (List ℕ × Fields)
entry_given g = entry_of g.id g.mapped.outcome

abbrev pub is_entry : Given → Bool
is_entry g = has_entry g.mapped.outcome

abbrev pub is_failure : Given → Bool
is_failure g = has_failed g.mapped.outcome

-- what a result counts for, if there is one: 1 if it passes the test
abbrev pub one_if : (Given → Bool) → Option Given → ℕ
one_if test None = 0
one_if test (Some g) = if test g then 1 else 0

-- how many of these are entries
abbrev pub entries_among : List (List ℕ × Given) → ℕ
entries_among pairs = length (filter_map entry_given (values_of pairs))

-- how many of these are failures
abbrev pub failures_among : List (List ℕ × Given) → ℕ
failures_among pairs = count_by is_failure (values_of pairs)

-- they are in order of their folded ids, and so many of them are entries and failures
pub record AreCounted (pairs : List (List ℕ × Given)) (entries errors : ℕ) : Type 0 where
  pub rising : IsRising id_cmp pairs
  pub entries_are : entries ≡ entries_among pairs
  pub errors_are : errors ≡ failures_among pairs

-- each row is under its own folded id
abbrev pub IsFiled : Table → Type 0
IsFiled T = (q : List ℕ) (t : Row) → get T q ≡ Some t → q ≡ key t

-- the id is one of those that were looked up
abbrev pub is_loaded : List ℕ → Option Given → Bool
is_loaded q None = false
is_loaded q (Some g) = list_any (same_key q) g.mapped.loads

-- what the map gives for the documents of a table, and which ids it looks up for which, is stored
pub record AreKept (m : Mapper) (T : Table) (given : FinMap key_cmp Given) (loads : Track) : Type 0 where
  pub filed : IsFiled T
  pub results : (q : List ℕ) → get given q ≡ given_at m T q
  pub pairs : (x y : List ℕ) → is_pair x y loads ≡ is_loaded (folded y) (get given (folded x))
