-- What the reading of a whole text is to give, for a grammar `X` and its limits.
use Rattle.std.specs.Prelude.{◌≡◌, ℕ, ◌≤◌, List, ◌++◌, length}
use Rattle.exact_parse.specs.Limits.{Verdict, Fine, Over}
use Rattle.exact_parse.specs.Steps.{head, TooLarge, Outcome, Read, Refused}

-- what a verdict lets be read
abbrev pub Meets : {T K A : Type 0} → Verdict T K → A → List T → Outcome T K A → Type 0
Meets (Fine c) a r o = o ≡ Read a c r
Meets (Over k p) a r o = o ≡ Refused (TooLarge k) p

module _ {T K A : Type 0} (X : List T → A → List T → Type 0) (limit : (s : List T) (a : A) (r : List T) → X s a r → Verdict T K) where
  -- the tokens spell the tree, and none is past a limit
  pub record SpellsText (ts : List T) (a : A) : Type 0 where
    pub rest : List T
    pub spelling : X ts a rest
    pub count : ℕ
    pub within : limit ts a rest spelling ≡ Fine count

  -- some token list of the grammar begins with these, and none of these is past a limit in it
  pub record GoesOn (w : List T) : Type 0 where
    pub more : List T
    pub rest : List T
    pub tree : A
    pub spelling : X (w ++ more) tree rest
    pub within : (k : K) (q : List T) → limit (w ++ more) tree rest spelling ≡ Over k q → length q ≤ length more

  -- no token list of the grammar begins with the tokens before `p` and the first of `p`, but some one with those before it
  pub record UnexpectedAt (ts p : List T) : Type 0 where
    pub before : List T
    pub split : ts ≡ before ++ p
    pub goes_on : GoesOn before
    pub none : (z r : List T) (a : A) → head z ≡ head p → X (before ++ z) a r → ⊥

  -- some token list of the grammar begins with the tokens before `p` and the first of `p`, and that one is the first past a limit, which is of this kind
  pub record TooLargeAt (k : K) (ts p : List T) : Type 0 where
    pub before : List T
    pub split : ts ≡ before ++ p
    pub more : List T
    pub rest : List T
    pub tree : A
    pub same : head more ≡ head p
    pub spelling : X (before ++ more) tree rest
    pub over : limit (before ++ more) tree rest spelling ≡ Over k more
