-- What the front of some tokens is, if each number in it is whole: a value, and the tokens after it.
use Rattle.std.specs.Prelude.{ℕ, ℤ, List, [], length, Option, option_and_then}
use Rattle.json.specs.Json.{value, items, members}
use Rattle.json.specs.Token.{Token}
use Rattle.serde_json.specs.Data.{no_members}
use Rattle.serde_json.specs.Find.{as_i64}
use Rattle.serde_json.specs.Read.{of_json, of_items, of_members, converted, number_of}
use Rattle.spec_data.specs.Data.{Data}
use Rattle.spec_data.specs.Json.{value_of, items_of, members_of}
use Rattle.spec_data.specs.Rising.{Pairs}

-- none if it has a fraction or an exponent, is `-0`, or does not fit in 64 bits
abbrev pub whole_number : List ℕ → Option ℤ
whole_number s = option_and_then as_i64 (number_of s)

-- the number says how deep lists and objects may nest
abbrev pub front_value : ℕ → List Token → Option (Data × List Token)
front_value depth ts = converted value_of (converted of_json (value depth ts))

-- the items up to the bracket that closes their list
abbrev pub front_items : ℕ → List Token → Option (List Data × List Token)
front_items depth ts = converted (λ ds. items_of ds []) (converted of_items (items (value depth) (length ts) ts))

-- the members up to the brace that closes their object
abbrev pub front_members : ℕ → List Token → Option (Pairs × List Token)
front_members depth ts = converted (λ found. members_of found []) (converted (λ found. of_members found no_members) (members (value depth) (length ts) ts))
