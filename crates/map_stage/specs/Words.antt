-- Which numbers entries have.
use Rattle.std.specs.Prelude.{List, [], ◌∷◌, FitsSigned}
use Rattle.std.specs.Int.{w64}
use Rattle.spec_data.specs.Scalars.{Scalar, nothing, truth, number, words}
use Rattle.index_tree.specs.Meaning.{Fields, Outcome, Entry, NoEntry, Failed}

-- if it is a number, it has 64 bits
abbrev pub IsWord : Scalar → Type 0
IsWord nothing = Unit {0}
IsWord (truth b) = Unit {0}
IsWord (number n) = FitsSigned w64 n
IsWord (words w) = Unit {0}

-- each number among the values of the fields has 64 bits
abbrev pub HasWords : Fields → Type 0
HasWords [] = Unit {0}
HasWords (f ∷ fs) = IsWord f.1 × HasWords fs

-- each number of the entry, if there is one, has 64 bits
abbrev pub OutcomeHasWords : Outcome → Type 0
OutcomeHasWords (Entry fields) = HasWords fields
OutcomeHasWords NoEntry = Unit {0}
OutcomeHasWords Failed = Unit {0}
