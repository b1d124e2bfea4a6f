-- One pass over the tokens of a reduce, for the first variable that is not bound.
use Rattle.std.specs.Prelude.{ℕ, zero, suc, Bool, true, false, ◌||◌, if◌then◌else◌, List, [], ◌∷◌, Option, Some, None, codes}
use Rattle.std.specs.Str.{bytes_eq}
use Rattle.index_tokens.specs.declared.token.Token.{Token}
use Rattle.index_tokens.specs.declared.token.Token.TheVariants as t
use Rattle.index_tokens.specs.declared.token.Placed.{Placed}
use Rattle.index_tokens.specs.Spelling.{is_reserved}
use Rattle.index_tokens.specs.Words.{Tokens, name}
use Rattle.reduce_grammar.specs.declared.spelled.SpelledReduce.{SpelledReduce}
use Rattle.index_lang.specs.declared.groups.GroupScan.{GroupScan}
use Rattle.index_lang.specs.declared.groups.GroupStep.{GroupStep}
use Rattle.index_lang.specs.declared.groups.GroupStep.TheVariants.{Found, Ends, GoesOn}

abbrev pub scanned : Bool → ℕ → GroupScan
scanned grouped passed = record { grouped = grouped; passed = passed }

abbrev pub next_name : Tokens → Option (List ℕ)
next_name [] = None
next_name (y ∷ s) = name y

-- the variable of a fold once more, with the tokens before it passed too
abbrev pub own_again : Option (List ℕ) → List ℕ → Placed → GroupStep
own_again (Some w) own z = if bytes_eq w own then GoesOn (scanned true 3) else Found z.at
own_again None own z = GoesOn (scanned true 0)

module _ (m : SpelledReduce) where
  -- behind `into`: the name of a group
  abbrev pub names_group : Option (List ℕ) → Tokens → GroupStep
  names_group (Some n) (y ∷ s) = if bytes_eq n m.var then Found y.at else GoesOn (scanned true 1)
  names_group (Some n) [] = GoesOn (scanned true 0)
  names_group None s = GoesOn (scanned true 0)

  abbrev pub at_reserved : List ℕ → Tokens → GroupStep
  at_reserved w s = if bytes_eq w (codes "into") then names_group (next_name s) s else GoesOn (scanned false 0)

  abbrev pub at_variable : Placed → List ℕ → GroupStep
  at_variable x w = if bytes_eq w m.var then GoesOn (scanned false 0) else Found x.at

  -- up to `into` each variable is the name of an entry
  abbrev pub at_word : Placed → List ℕ → Tokens → GroupStep
  at_word x w s = if is_reserved w then at_reserved w s else at_variable x w

  abbrev pub at_key : Placed → Token → Tokens → GroupStep
  at_key x t.Point s = GoesOn (scanned false 1)
  at_key x (t.Word w) s = at_word x w s
  at_key x t.End s = Ends
  at_key x _ s = GoesOn (scanned false 0)

  abbrev pub own_name : Option (List ℕ) → Placed → Placed → GroupStep
  own_name (Some own) y z = if bytes_eq own m.var || bytes_eq own m.group then Found y.at else own_again (name z) own z
  own_name None y z = GoesOn (scanned true 0)

  -- behind the parenthesis of a fold: its variable, an arrow, and its variable once more
  abbrev pub at_fold : Tokens → GroupStep
  at_fold (y ∷ a ∷ z ∷ s) = own_name (name y) y z
  at_fold _ = GoesOn (scanned true 0)

  abbrev pub at_member : Token → Tokens → GroupStep
  at_member t.Open s = at_fold s
  at_member t.End s = Ends
  at_member _ s = GoesOn (scanned true 0)

  abbrev pub by_part : Bool → Placed → Token → Tokens → GroupStep
  by_part true x k s = at_member k s
  by_part false x k s = at_key x k s

  abbrev pub unless_passed : ℕ → Bool → Placed → Tokens → GroupStep
  unless_passed zero grouped x s = by_part grouped x x.token s
  unless_passed (suc passed) grouped x s = GoesOn (scanned grouped passed)

  abbrev pub step : GroupScan → Placed → Tokens → GroupStep
  step st x s = unless_passed st.passed st.grouped x s

  abbrev pub follow : GroupStep → (GroupScan → Option ℕ) → Option ℕ
  follow (Found place) go = Some place
  follow Ends go = None
  follow (GoesOn st) go = go st

  abbrev pub scan : GroupScan → Tokens → Option ℕ
  scan st [] = None
  scan st (x ∷ s) = follow (step st x s) (λ st. scan st s)

  -- the first two tokens bind the name of an entry
  abbrev pub scan_reduce : Tokens → Option ℕ
  scan_reduce s = scan (scanned false 2) s
