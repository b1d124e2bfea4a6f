-- Where a path is put into others.
use Rattle.std.proofs.Common.{◌≡◌, ◌<◌, ◌≤◌, ◌+◌, ◌-◌, add-one, drop, sum_by, true, nat_lt, ℕ, zero, suc, List, [], ◌∷◌, length, get_or, Ordering, Less, Equal, Greater, refl, sym, ap, ◌∙◌, arith}
use Rattle.std.proofs.lemmas.Bool.Decides.{Decides-ltb}
use Rattle.std.proofs.lemmas.List.Sums.{sum_by-cons}
use Rattle.std.specs.Prelude.{insert}
use Rattle.std.specs.Cmp.Lexicographic.{slice_cmp}
use Rattle.std.specs.Ordering.{ordering_then}
use Rattle.spec_data.specs.Folding.{key_cmp}
use Rattle.spec_data.specs.Members.{Path}
use Rattle.index_tree.specs.Mapper.{joined}
use Rattle.spec_index.specs.Optimiser.{path_order, with_path}
use Rattle.index_definition.specs.Order.{AreNamed, IsPlace, IsThere, paths_of}

abbrev pub Named : Type 0
Named = List ℕ × Path

-- the path is behind the first of them
abbrev pub HasPassed : Path → ℕ → List Named → Type 0
HasPassed p zero items = Unit {0}
HasPassed p (suc i) [] = ⊥
HasPassed p (suc i) (m ∷ ms) = (path_order p m.1 ≡ Greater) × HasPassed p i ms

-- the order of the code, by names and then by paths
abbrev pub order_by : List ℕ → Path → Named → Ordering
order_by name p m = ordering_then (key_cmp name m.0) (slice_cmp key_cmp p m.1)

named_at : (items : List Named) (i : ℕ) (m : Named) → AreNamed items → i < length items → m ≡ get_or items i m → m.0 ≡ joined m.1
named_at [] i m named lt is = absurd (omega arith)
named_at (n ∷ items) zero m named lt is = ap (λ (m : Named). m.0) is ∙ named.0 ∙ ap (λ (m : Named). joined m.1) (sym is)
named_at (n ∷ items) (suc i) m named lt is = named_at items i m named.1 (omega arith) is

ordered : (name : List ℕ) (p : Path) (items : List Named) (i : ℕ) (m : Named) → name ≡ joined p → AreNamed items → i < length items → m ≡ get_or items i m → path_order p m.1 ≡ order_by name p m
ordered name p items i m called named lt is =
    ap (λ (n : List ℕ). ordering_then (key_cmp n (joined m.1)) (slice_cmp key_cmp p m.1)) (sym called)
    ∙ ap (λ (n : List ℕ). ordering_then (key_cmp name n) (slice_cmp key_cmp p m.1)) (sym (named_at items i m named lt is))

passed_more : (p : Path) (i : ℕ) (items : List Named) (m : Named) → HasPassed p i items → i < length items → m ≡ get_or items i m → path_order p m.1 ≡ Greater → HasPassed p (suc i) items
passed_more p i [] m passed lt is above = absurd (omega arith)
passed_more p zero (n ∷ items) m passed lt is above = (ap (λ (m : Named). path_order p m.1) (sym is) ∙ above, tt)
passed_more p (suc i) (n ∷ items) m passed lt is above = (passed.0, passed_more p i items m passed.1 (omega arith) is above)

behind_first : (p q : Path) (qs : List Path) → path_order p q ≡ Greater → with_path p (q ∷ qs) ≡ q ∷ with_path p qs
behind_first p q qs above = rw above refl

before_first : (p q : Path) (qs : List Path) → path_order p q ≡ Less → with_path p (q ∷ qs) ≡ p ∷ q ∷ qs
before_first p q qs below = rw below refl

at_first : (p q : Path) (qs : List Path) → path_order p q ≡ Equal → with_path p (q ∷ qs) ≡ q ∷ qs
at_first p q qs same = rw same refl

is_there : (p : Path) (i : ℕ) (items : List Named) (m : Named) → HasPassed p i items → i < length items → m ≡ get_or items i m → path_order p m.1 ≡ Equal → IsThere p items
is_there p i [] m passed lt is same = absurd (omega arith)
is_there p zero (n ∷ items) m passed lt is same = at_first p n.1 (paths_of items) (ap (λ (m : Named). path_order p m.1) (sym is) ∙ same)
is_there p (suc i) (n ∷ items) m passed lt is same =
    behind_first p n.1 (paths_of items) passed.0 ∙ ap (λ (rest : List Path). n.1 ∷ rest) (is_there p i items m passed.1 (omega arith) is same)

puts_before : (name : List ℕ) (p : Path) (i : ℕ) (items : List Named) (m : Named) → HasPassed p i items → i < length items → m ≡ get_or items i m → path_order p m.1 ≡ Less →
    with_path p (paths_of items) ≡ paths_of (insert items i (name, p))
puts_before name p i [] m passed lt is below = absurd (omega arith)
puts_before name p zero (n ∷ items) m passed lt is below = before_first p n.1 (paths_of items) (ap (λ (m : Named). path_order p m.1) (sym is) ∙ below)
puts_before name p (suc i) (n ∷ items) m passed lt is below =
    behind_first p n.1 (paths_of items) passed.0 ∙ ap (λ (rest : List Path). n.1 ∷ rest) (puts_before name p i items m passed.1 (omega arith) is below)

puts_last : (name : List ℕ) (p : Path) (i : ℕ) (items : List Named) → HasPassed p i items → i ≡ length items → with_path p (paths_of items) ≡ paths_of (insert items i (name, p))
puts_last name p zero [] passed end = refl
puts_last name p (suc i) [] passed end = absurd passed
puts_last name p zero (n ∷ items) passed end = absurd (omega arith)
puts_last name p (suc i) (n ∷ items) passed end =
    behind_first p n.1 (paths_of items) passed.0 ∙ ap (λ (rest : List Path). n.1 ∷ rest) (puts_last name p i items passed.1 (omega arith))

stays_named : (name : List ℕ) (p : Path) (i : ℕ) (items : List Named) → name ≡ joined p → AreNamed items → i ≤ length items → AreNamed (insert items i (name, p))
stays_named name p zero [] called named within = (called, tt)
stays_named name p zero (n ∷ items) called named within = (called, named)
stays_named name p (suc i) [] called named within = absurd (omega arith)
stays_named name p (suc i) (n ∷ items) called named within = (named.0, stays_named name p i items called named.1 (omega arith))

-- the search goes on, and ends at a path that is the same, at one that the path is before, or at the end
pub goes_on : (name : List ℕ) (p : Path) (i : ℕ) (items : List Named) (m : Named) → name ≡ joined p → AreNamed items → HasPassed p i items → i < length items → m ≡ get_or items i m → order_by name p m ≡ Greater → HasPassed p (i + 1) items
goes_on name p i items m called named passed lt is above = rw (add-one i) (passed_more p i items m passed lt is (ordered name p items i m called named lt is ∙ above))

pub found : (name : List ℕ) (p : Path) (i : ℕ) (items : List Named) (m : Named) → name ≡ joined p → AreNamed items → HasPassed p i items → i < length items → m ≡ get_or items i m → order_by name p m ≡ Equal → IsThere p items
found name p i items m called named passed lt is same = is_there p i items m passed lt is (ordered name p items i m called named lt is ∙ same)

pub before : (name : List ℕ) (p : Path) (i : ℕ) (items : List Named) (m : Named) → name ≡ joined p → AreNamed items → HasPassed p i items → i < length items → m ≡ get_or items i m → order_by name p m ≡ Less → IsPlace name p items i
before name p i items m called named passed lt is below = record {
  within = omega arith;
  puts = puts_before name p i items m passed lt is (ordered name p items i m called named lt is ∙ below);
  named = stays_named name p i items called named (omega arith);
}

pub at_end : (name : List ℕ) (p : Path) (i : ℕ) (items : List Named) → name ≡ joined p → AreNamed items → HasPassed p i items → i ≡ length items → IsPlace name p items i
at_end name p i items called named passed end = record {
  within = omega arith;
  puts = puts_last name p i items passed end;
  named = stays_named name p i items called named (omega arith);
}

-- HOW LONG THE NAMES ARE

abbrev pub bytes_of : List Named → ℕ
bytes_of items = sum_by (λ p. length (joined p)) (paths_of items)

longer : (i : ℕ) (items : List Named) (m : Named) → AreNamed items → i < length items → m ≡ get_or items i m → bytes_of (drop i items) ≡ length m.0 + bytes_of (drop (suc i) items)
longer i [] m named lt is = absurd (omega arith)
longer zero (n ∷ items) m named lt is = sum_by-cons (λ p. length (joined p)) n.1 (paths_of items) ∙ ap (λ (k : ℕ). k + bytes_of items) (sym (ap (λ (m : Named). length m.0) is ∙ ap length named.0))
longer (suc i) (n ∷ items) m named lt is = longer i items m named.1 (omega arith) is

pub counted : (bytes all i : ℕ) (items : List Named) (m : Named) (name : List ℕ) → AreNamed items → i < length items → m ≡ get_or items i m → name ≡ m.0 → bytes + bytes_of (drop i items) ≡ all →
    (bytes + length name) + bytes_of (drop (i + 1) items) ≡ all
counted bytes all i items m name named lt is same so_far = rw (add-one i) (omega (arith, so_far, ap length same, longer i items m named lt is))

pub is_long : (limit bytes all i : ℕ) (items : List Named) (m : Named) (name : List ℕ) → AreNamed items → i < length items → m ≡ get_or items i m → name ≡ m.0 →
    bytes + bytes_of (drop i items) ≡ all → bytes ≤ limit → limit - bytes < length name → true ≡ nat_lt limit all
is_long limit bytes all i items m name named lt is same so_far within long =
    sym ((Decides-ltb limit all).1 (omega (arith, so_far, ap length same, longer i items m named lt is, within, long)))
