-- Small answers, worked by hand.
use Rattle.std.proofs.Common.{◌≡◌, ℕ, pos, List, [], ◌∷◌, Bool, true, false, codes, Option, Some, None, map, refl}
use Rattle.std.specs.Fmt.{digits}
use Rattle.spec_data.specs.Rows.{Row, gone}
use Rattle.spec_data.specs.Scalars.{Scalar, nothing, number, words, Is, AtLeast, Starts, There}
use Rattle.index_tree.specs.Meaning.{Fields}
use Rattle.spec_query.specs.Condition.{Condition, Always, And, Exact, Has, Not, Or}
use Rattle.spec_query.specs.Finding.{find_entries}
use Rattle.spec_query.specs.Plan.{Plan, page}
use Rattle.spec_query.specs.Sorting.{SortKey}

-- a user with a name and perhaps an age
abbrev user : List ℕ → List ℕ → Scalar → List ℕ × Fields
user id name age = (id, (codes "Age", age) ∷ (codes "Name", words name) ∷ [])

abbrev users : List (List ℕ × Fields)
users = user (codes "users/1") (codes "ADA") (number (pos 9)) ∷ user (codes "users/2") (codes "Bo") (number (pos 10)) ∷ user (codes "users/3") (codes "ada") nothing ∷ user (codes "Users/4") (codes "Adam") (number (pos 9)) ∷ []

abbrev plan : Condition → List SortKey → ℕ → Option ℕ → Plan
plan condition order start size = record { condition = condition; order = order; columns = []; includes = []; start = start; size = size }

abbrev by_age : Bool → Bool → List SortKey
by_age long desc = record { field = codes "Age"; long = long; desc = desc } ∷ []

abbrev ids : Plan → List (List ℕ)
ids q = map (λ e. e.0) (page q users)

-- `order by Age`: null, then the texts 10 and 9; users of one age are in the order of their ids
by_texts : ids (plan Always (by_age false false) 0 None) ≡ codes "users/3" ∷ codes "users/2" ∷ codes "users/1" ∷ codes "Users/4" ∷ []
unfolding digits
by_texts = refl

-- `order by Age as long`
by_numbers : ids (plan Always (by_age true false) 0 None) ≡ codes "users/3" ∷ codes "users/1" ∷ codes "Users/4" ∷ codes "users/2" ∷ []
by_numbers = refl

-- `order by Age as long desc`: users of one age stay in the order of their ids
by_numbers_down : ids (plan Always (by_age true true) 0 None) ≡ codes "users/2" ∷ codes "users/1" ∷ codes "Users/4" ∷ codes "users/3" ∷ []
by_numbers_down = refl

-- the second page of two
second_page : ids (plan Always (by_age true true) 2 (Some 2)) ≡ codes "Users/4" ∷ codes "users/3" ∷ []
second_page = refl

-- `startsWith(Name, 'aDa')`, and `exact(startsWith(Name, 'ada'))`
starting : ids (plan (Has (codes "Name") (Starts (codes "aDa"))) [] 0 None) ≡ codes "users/1" ∷ codes "users/3" ∷ codes "Users/4" ∷ []
starting = refl

starting_exactly : ids (plan (Exact (Has (codes "Name") (Starts (codes "ada")))) [] 0 None) ≡ codes "users/3" ∷ []
starting_exactly = refl

-- `not Age >= 10`, which a user without an age meets, and `exists(Age) and not Age >= 10`
not_old : ids (plan (Not (Has (codes "Age") (AtLeast (number (pos 10))))) [] 0 None) ≡ codes "users/1" ∷ codes "users/3" ∷ codes "Users/4" ∷ []
not_old = refl

young : ids (plan (And (Has (codes "Age") There) (Not (Has (codes "Age") (AtLeast (number (pos 10)))))) [] 0 None) ≡ codes "users/1" ∷ codes "Users/4" ∷ []
young = refl

-- a field that no entry has is there for none
no_field : ids (plan (Or (Has (codes "Town") There) (Has (codes "Town") (Is nothing))) [] 0 None) ≡ []
no_field = refl

-- A DOCUMENT DELETED SINCE is passed over after the page was cut

abbrev row : List ℕ → Row
row id = record { etag = 1; id = id; collection = codes "Users"; body = gone; changed = 0 }

abbrev at : List ℕ → Option Row
at id = Some (row id)

one_gone : find_entries (λ r d. d) at (plan Always [] 1 (Some 1)) users ≡ record { ids = codes "users/2" ∷ []; total = 4; results = []; includes = [] }
one_gone = refl
