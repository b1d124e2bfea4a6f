-- Small maps, worked by hand.
use Rattle.std.proofs.Common.{◌≡◌, ℕ, ℤ, pos, negsuc, List, [], ◌∷◌, true, false, codes, Option, Some, None, refl}
use Rattle.std.specs.Prelude.{if◌then◌else◌}
use Rattle.std.specs.Str.{bytes_eq}
use Rattle.jiff_fmt.proofs.OnLiterals.{jiff_fmt_on_literals}
use Rattle.spec_data.specs.Data.{Data, null, flag, num, text, object, no_entries, entry}
use Rattle.spec_data.specs.Rows.{Row, doc}
use Rattle.spec_data.specs.Scalars.{nothing, number, words}
use Rattle.index_tree.specs.declared.expression.BinaryOp.{BinaryOp}
use Rattle.index_tree.specs.declared.expression.BinaryOp.TheVariants as op
use Rattle.index_tree.specs.declared.expression.UnaryOp.TheVariants as sign
use Rattle.index_tree.specs.declared.map_query.Clause.{Clause}
use Rattle.index_tree.specs.declared.map_query.Clause.TheVariants as clause
use Rattle.index_tree.specs.declared.map_query.MapMember.{MapMember}
use Rattle.index_tree.specs.declared.map_query.MapQuery.{MapQuery}
use Rattle.index_tree.specs.Trees.{Tree, If, Binary, Unary, Dot, Load, Num, Quoted, Flag, Null, Var}
use Rattle.index_tree.specs.Asking.{Lookup}
use Rattle.index_tree.specs.Dates.{date_part}
use Rattle.index_tree.specs.Evaluate.{evaluate}
use Rattle.index_tree.specs.Meaning.{Mapped, Entry, NoEntry, Failed, meaning}
use Rattle.index_tree.specs.Scope.{fields_of, scope_of}

-- OPERATORS

abbrev no_rows : Lookup
no_rows id = None

abbrev value : Tree → Option Data
value tree = (evaluate no_rows [] tree).outcome

abbrev of : BinaryOp → ℤ → ℤ → Option Data
of o m n = value (Binary o (Num m) (Num n))

abbrev texts : BinaryOp → Option Data
texts o = value (Binary o (Quoted (codes "b")) (Quoted (codes "B")))

abbrev mixed : BinaryOp → Option Data
mixed o = value (Binary o (Num (pos 1)) (Quoted (codes "1")))

abbrev fails : Tree
fails = Binary op.Over (Num (pos 1)) (Num (pos 0))

abbrev least : ℤ
least = negsuc 9223372036854775807

abbrev greatest : ℤ
greatest = pos 9223372036854775807

sums : (of op.Plus (pos 2) (pos 3) ≡ Some (num (pos 5))) × (of op.Plus greatest (pos 1) ≡ None) × (of op.Minus least (pos 1) ≡ None) × (of op.Times greatest (pos 2) ≡ None)
sums = (refl, refl, refl, refl)

-- -7 / 2 is -3, and -7 % 2 is -1; 7 % -2 is 1
cut_towards_zero : (of op.Over (negsuc 6) (pos 2) ≡ Some (num (negsuc 2))) × (of op.Rest (negsuc 6) (pos 2) ≡ Some (num (negsuc 0))) × (of op.Rest (pos 7) (negsuc 1) ≡ Some (num (pos 1)))
cut_towards_zero = (refl, refl, refl)

by_zero : (of op.Over (pos 1) (pos 0) ≡ None) × (of op.Rest (pos 1) (pos 0) ≡ None)
by_zero = (refl, refl)

-- the least number by -1
least_by_one : (of op.Over least (negsuc 0) ≡ None) × (of op.Rest least (negsuc 0) ≡ Some (num (pos 0))) × (value (Unary sign.Minus (Num least)) ≡ None)
least_by_one = (refl, refl, refl)

joined : (texts op.Plus ≡ Some (text (codes "bB"))) × (texts op.Minus ≡ Some null) × (mixed op.Plus ≡ Some null) × (mixed op.Rest ≡ Some null)
joined = (refl, refl, refl, refl)

orders : (of op.Below (pos 1) (pos 2) ≡ Some (flag true)) × (texts op.Below ≡ Some (flag false)) × (texts op.AtLeast ≡ Some (flag true)) × (mixed op.AtMost ≡ Some (flag false)) × (mixed op.Above ≡ Some (flag false))
orders = (refl, refl, refl, refl, refl)

equals : (texts op.Equal ≡ Some (flag false)) × (mixed op.NotEqual ≡ Some (flag true)) × (of op.Equal (pos 1) (pos 1) ≡ Some (flag true)) × (value (Binary op.Equal Null Null) ≡ Some (flag true))
equals = (refl, refl, refl, refl)

flags : (value (Unary sign.Bang (Num (pos 1))) ≡ Some (flag true)) × (value (Unary sign.Bang (Flag true)) ≡ Some (flag false)) × (value (Unary sign.Minus (Flag true)) ≡ Some null)
flags = (refl, refl, refl)

only_what_is_needed : (value (Binary op.Or (Flag true) fails) ≡ Some (flag true)) × (value (Binary op.And Null fails) ≡ Some (flag false)) × (value (If (Num (pos 1)) fails (Num (pos 2))) ≡ Some (num (pos 2)))
    × (value (Binary op.And (Flag true) (Num (pos 1))) ≡ Some (flag false)) × (value (Binary op.Or (Flag false) fails) ≡ None)
only_what_is_needed = (refl, refl, refl, refl, refl)

-- DATES

abbrev year : List ℕ → Option ℤ
year s = date_part (codes "Year") s

abbrev month : List ℕ → Option ℤ
month s = date_part (codes "Month") s

abbrev day : List ℕ → Option ℤ
day s = date_part (codes "Day") s

dates : (year (codes "1997-09-19") ≡ Some (pos 1997)) × (month (codes "1997-09-19T10:11:12.5Z") ≡ Some (pos 9)) × (day (codes "19970919 10") ≡ Some (pos 19)) × (year (codes "-000001-01-01") ≡ Some (negsuc 0))
unfolding jiff_fmt_on_literals
dates = (refl, refl, refl, refl)

no_dates : (year (codes "1997-09-19ZZ") ≡ None) × (year (codes "1997-09-31") ≡ None) × (year (codes "1997-09-19z") ≡ None) × (date_part (codes "Hour") (codes "1997-09-19") ≡ None)
unfolding jiff_fmt_on_literals
no_dates = (refl, refl, refl, refl)

-- MAPS

abbrev row : List ℕ → List ℕ → Data → Row
row id collection d = record { etag = 1; id = id; collection = collection; body = doc d; changed = 0 }

abbrev named : List ℕ → Data → Data
named name v = object (entry name v no_entries)

abbrev acme : Row
acme = row (codes "companies/1") (codes "Companies") (named (codes "Name") (text (codes "Acme")))

abbrev order : Row
order = row (codes "orders/1") (codes "Orders") (named (codes "Company") (text (codes "COMPANIES/1")))

abbrev companies : Lookup
companies id = if bytes_eq id (codes "companies/1") then Some acme else None

abbrev load : List ℕ → Tree
load collection = Load (Dot (Var (codes "o")) (codes "Company")) collection

abbrev member : List ℕ → Tree → MapMember
member name value = record { name = name; value = value }

abbrev query : List Clause → List MapMember → MapQuery
query clauses members = record { var = codes "o"; collection = codes "Orders"; clauses = clauses; members = members }

-- from o in docs.Orders let c = LoadDocument(o.Company, collection) select new { Name = c.Name }
abbrev by_company : List ℕ → MapQuery
by_company collection = query (clause.Let (codes "c") (load collection) ∷ []) (member (codes "Name") (Dot (Var (codes "c")) (codes "Name")) ∷ [])

abbrev result : MapQuery → Mapped
result q = meaning q order companies

abbrev company : List (List ℕ)
company = codes "companies/1" ∷ []

loads : (result (by_company (codes "Companies")) ≡ record { outcome = Entry ((codes "Name", words (codes "Acme")) ∷ []); loads = company })
    × (result (by_company (codes "companies")) ≡ record { outcome = Entry ((codes "Name", nothing) ∷ []); loads = company })
    × (meaning (by_company (codes "Companies")) order no_rows ≡ record { outcome = Entry ((codes "Name", nothing) ∷ []); loads = company })
loads = (refl, refl, refl)

-- a failing name that no member uses; a condition before it ends first, and one after it does not
strict : (result (query (clause.Let (codes "x") fails ∷ []) []) ≡ record { outcome = Failed; loads = [] })
    × (result (query (clause.Where Null ∷ clause.Let (codes "x") fails ∷ []) []) ≡ record { outcome = NoEntry; loads = [] })
    × (result (query (clause.Let (codes "x") fails ∷ clause.Where (Flag false) ∷ []) []) ≡ record { outcome = Failed; loads = [] })
    × (result (query (clause.Let (codes "c") (load (codes "Companies")) ∷ clause.Let (codes "x") fails ∷ []) []) ≡ record { outcome = Failed; loads = company })
strict = (refl, refl, refl, refl)

-- lists and objects are no values of fields; fields rise by the bytes of their names, in whatever order the members are
abbrev a_and_b : Mapped
a_and_b = record { outcome = Entry ((codes "A", nothing) ∷ (codes "B", number (pos 7)) ∷ []); loads = [] }

fields : (result (query [] (member (codes "A") (Var (codes "o")) ∷ member (codes "B") (Num (pos 7)) ∷ [])) ≡ a_and_b)
    × (result (query [] (member (codes "B") (Num (pos 7)) ∷ member (codes "A") (Var (codes "o")) ∷ [])) ≡ a_and_b)
fields = (refl, refl)

-- bytes, and not letters: `Z` before `a`, and a name before those that it begins
abbrev three : Mapped
three = record { outcome = Entry ((codes "Z", number (pos 2)) ∷ (codes "a", number (pos 3)) ∷ (codes "aB", number (pos 1)) ∷ []); loads = [] }

rising : result (query [] (member (codes "aB") (Num (pos 1)) ∷ member (codes "Z") (Num (pos 2)) ∷ member (codes "a") (Num (pos 3)) ∷ [])) ≡ three
rising = refl

-- the members are still computed in their order: what is loaded before a failure, and after it nothing
in_turn : (result (query [] (member (codes "B") (load (codes "Companies")) ∷ member (codes "A") fails ∷ [])) ≡ record { outcome = Failed; loads = company })
    × (result (query [] (member (codes "B") fails ∷ member (codes "A") (load (codes "Companies")) ∷ [])) ≡ record { outcome = Failed; loads = [] })
in_turn = (refl, refl)

reads : (scope_of (by_company (codes "Companies")) ≡ codes "Orders" ∷ codes "Companies" ∷ []) × (scope_of (by_company (codes "Orders")) ≡ codes "Orders" ∷ []) × (fields_of (by_company (codes "Orders")) ≡ codes "Name" ∷ [])
reads = (refl, refl, refl)
