-- The orders, each of which is made of three draws.
use Rattle.std.specs.Prelude.{ℕ, suc, ◌+◌, ◌*◌, ◌/◌, ◌%◌, List, [], ◌∷◌, ◌++◌, nat_lt, if◌then◌else◌, codes}
use Rattle.std.specs.Fmt.{decimal}
use Rattle.spec_data.specs.Data.{Data, text}
use Rattle.spec_server.specs.Replies.{members, number}
use Rattle.spec_measure.specs.Draws.{draw}

-- the id of the order of this number
abbrev pub order_id : ℕ → List ℕ
order_id n = codes "orders/" ++ decimal n

-- one of 25 companies
abbrev pub company : ℕ → List ℕ
company a = codes "companies/" ++ decimal (1 + a % 25)

-- from 1 to 100,000 cents
abbrev pub cents : ℕ → ℕ
cents c = 1 + c % 100000

-- in two digits, if it has no more
abbrev pub two_digits : ℕ → List ℕ
two_digits n = if nat_lt n 10 then codes "0" ++ decimal n else decimal n

-- the beginning of a day of the years 1996 to 1998
abbrev pub moment : ℕ → List ℕ
moment b = decimal (1996 + b % 3) ++ (codes "-" ++ (two_digits (1 + b / 3 % 12) ++ (codes "-" ++ (two_digits (1 + b / 36 % 28) ++ codes "T00:00:00.0000000"))))

abbrev pub order : ℕ → ℕ → ℕ → Data
order a b c = members (
    (codes "@metadata", members ((codes "@collection", text (codes "Orders")) ∷ []))
    ∷ (codes "Cents", number (cents c))
    ∷ (codes "Company", text (company a))
    ∷ (codes "OrderedAt", text (moment b))
    ∷ [])

-- the order that follows k others
abbrev pub order_after : ℕ → ℕ → Data
order_after seed k = order (draw seed (suc (3 * k))) (draw seed (suc (suc (3 * k)))) (draw seed (suc (suc (suc (3 * k)))))
