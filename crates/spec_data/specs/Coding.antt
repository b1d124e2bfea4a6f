-- The parts of a code, by which a proof tells the coded values apart.
use Rattle.std.specs.Prelude.{ℕ, List}
use base.Stored.{Gv, gnil, gnum, gcons, Coded, coded_ℕ, coded_list}

abbrev pub first : Gv → Gv
first gnil = gnil
first (gnum n) = gnil
first (gcons a b) = a

abbrev pub rest : Gv → Gv
rest gnil = gnil
rest (gnum n) = gnil
rest (gcons a b) = b

-- the first number
abbrev pub tag : Gv → ℕ
tag gnil = 0
tag (gnum n) = n
tag (gcons a b) = tag a

abbrev pub text_code : Coded (List ℕ)
text_code = coded_list coded_ℕ
