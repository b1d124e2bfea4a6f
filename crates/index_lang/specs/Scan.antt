-- One pass over the tokens of a map, for the first variable that is not bound.
use Rattle.std.specs.Prelude.{ℕ, zero, suc, ◌+◌, Bool, false, if◌then◌else◌, List, [], ◌∷◌, Option, Some, None, is_some, take, codes}
use Rattle.std.specs.Str.{bytes_eq}
use Rattle.index_tokens.specs.declared.token.Token.{Token}
use Rattle.index_tokens.specs.declared.token.Token.TheVariants as t
use Rattle.index_tokens.specs.declared.token.Placed.{Placed}
use Rattle.index_tokens.specs.Spelling.{is_reserved}
use Rattle.index_tokens.specs.Words.{Tokens, the, name}
use Rattle.index_grammar.specs.declared.spelled.SpelledMap.{SpelledMap}
use Rattle.index_definition.specs.Adding.{is_among}
use Rattle.index_lang.specs.Bound.{bound_by}
use Rattle.index_lang.specs.declared.names.Scanned.{Scanned}
use Rattle.index_lang.specs.declared.names.Step.{Step}
use Rattle.index_lang.specs.declared.names.Step.TheVariants.{Found, Ends, GoesOn}

abbrev pub scanned : ℕ → ℕ → ℕ → Scanned
scanned bound begun passed = record { bound = bound; begun = begun; passed = passed }

-- whether a name and `=` come next
abbrev pub is_named_by : Option (List ℕ) → Tokens → Bool
is_named_by (Some n) (y ∷ s) = is_some (the t.Assign y)
is_named_by (Some n) [] = false
is_named_by None s = false

abbrev pub is_named : Tokens → Bool
is_named [] = false
is_named (x ∷ s) = is_named_by (name x) s

-- how many tokens of these are no variables, as a member's name and its `=`
abbrev pub named_part : Tokens → ℕ
named_part s = if is_named s then 2 else 0

module _ (m : SpelledMap) where
  abbrev pub names : ℕ → List (List ℕ)
  names count = bound_by (m.var ∷ []) (take count m.clauses)

  abbrev pub is_bound : ℕ → List ℕ → Bool
  is_bound count n = is_among (names count) n

  -- at the word `let`: the name behind it
  abbrev pub binds : ℕ → Option (List ℕ) → Tokens → Step
  binds begun (Some n) (y ∷ s) = if is_bound begun n then Found y.at else GoesOn (scanned begun (begun + 1) 1)
  binds begun (Some n) [] = GoesOn (scanned begun (begun + 1) 0)
  binds begun None s = GoesOn (scanned begun (begun + 1) 0)

  abbrev pub next_name : Tokens → Option (List ℕ)
  next_name [] = None
  next_name (y ∷ s) = name y

  abbrev pub at_reserved : Scanned → List ℕ → Tokens → Step
  at_reserved st w s =
      if bytes_eq w (codes "let") then binds st.begun (next_name s) s else (
      if bytes_eq w (codes "where") then GoesOn (scanned st.begun (st.begun + 1) 0) else (
      if bytes_eq w (codes "select") then GoesOn (scanned st.begun st.begun 0) else GoesOn st))

  abbrev pub at_word : Scanned → Placed → List ℕ → Tokens → Step
  at_word st x w s =
      if is_reserved w then at_reserved st w s else (
      if is_bound st.bound w then GoesOn st else Found x.at)

  -- What is done at a token with others behind it. A name follows a point; after `{` or a comma a member may begin.
  abbrev pub at_token : Scanned → Placed → Token → Tokens → Step
  at_token st x t.Point s = GoesOn (scanned st.bound st.begun 1)
  at_token st x t.OpenBrace s = GoesOn (scanned st.bound st.begun (named_part s))
  at_token st x t.Comma s = GoesOn (scanned st.bound st.begun (named_part s))
  at_token st x (t.Word w) s = at_word st x w s
  at_token st x t.End s = Ends
  at_token st x _ s = GoesOn st

  abbrev pub unless_passed : ℕ → Scanned → Placed → Tokens → Step
  unless_passed zero st x s = at_token st x x.token s
  unless_passed (suc passed) st x s = GoesOn (scanned st.bound st.begun passed)

  abbrev pub step : Scanned → Placed → Tokens → Step
  step st x s = unless_passed st.passed st x s

  abbrev pub follow : Step → (Scanned → Option ℕ) → Option ℕ
  follow (Found place) go = Some place
  follow Ends go = None
  follow (GoesOn st) go = go st

  abbrev pub scan : Scanned → Tokens → Option ℕ
  scan st [] = None
  scan st (x ∷ s) = follow (step st x s) (λ st. scan st s)

  -- the first six tokens say which documents
  abbrev pub scan_map : Tokens → Option ℕ
  scan_map s = scan (scanned 0 0 6) s
