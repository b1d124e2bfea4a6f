-- Names that are joined from parts.
use Rattle.std.proofs.Common.{◌≡◌, ◌<◌, ◌-◌, ℕ, List, [], ◌∷◌, ◌++◌, true, false, codes, length, take, drop, refl, sym, ap, ◌∙◌, arith, length-append}
use Rattle.std.proofs.Math.Seq.{take-append_seam}
use Rattle.std.proofs.lemmas.Bool.{false_from_ne_true, false≢true}
use Rattle.std.proofs.lemmas.List.{take-append-drop}
use Rattle.std.proofs.lemmas.Slice.Eq.{bytes_eq-Decides}
use Rattle.std.specs.Bool.{one_answer}
use Rattle.std.specs.Str.{bytes_eq}
use Rattle.spec_data.specs.Members.{Path}
use Rattle.index_tree.specs.Mapper.{joined}
use Rattle.rql_plan.specs.Naming.{IsNoPart, IsPartThen}

same_behind : (front xs ys : List ℕ) → front ++ xs ≡ front ++ ys → xs ≡ ys
same_behind [] xs ys e = e
same_behind (b ∷ bs) xs ys e = same_behind bs xs ys (ap (λ (z : List ℕ). drop 1 z) e)

-- one front makes no difference
pub same_front : (front xs ys : List ℕ) → bytes_eq (front ++ xs) (front ++ ys) ≡ bytes_eq xs ys
same_front front xs ys =
    let whole = bytes_eq-Decides (front ++ xs) (front ++ ys) in
    one_answer {P = xs ≡ ys} _ _ (λ e. same_behind front xs ys (whole.0 e), λ e. whole.1 (ap (λ z. front ++ z) e)) (bytes_eq-Decides xs ys)

-- a name that does not begin with the front
pub other_front : (front name w : List ℕ) → bytes_eq (take (length front) name) front ≡ false → bytes_eq (front ++ w) name ≡ false
other_front front name w apart =
    false_from_ne_true _ (λ same.
    let begins : take (length front) name ≡ front = ap (λ z. take (length front) z) (sym ((bytes_eq-Decides (front ++ w) name).0 same)) ∙ take-append_seam front w in
    false≢true (sym apart ∙ (bytes_eq-Decides (take (length front) name) front).1 begins))

-- a name that begins with the front
pub front_and_rest : (front name rest : List ℕ) → bytes_eq (take (length front) name) front ≡ true → rest ≡ drop (length front) name → name ≡ front ++ rest
front_and_rest front name rest same is =
    sym (take-append-drop (length front) name) ∙ ap (λ z. z ++ drop (length front) name) ((bytes_eq-Decides (take (length front) name) front).0 same) ∙ ap (λ z. front ++ z) (sym is)

-- BEHIND A PART AND A DOT

pub no_part : (part name : List ℕ) → bytes_eq (take (length part) name) part ≡ false → IsNoPart part name
no_part part name apart = λ rest. other_front part name (codes "." ++ rest) apart

pub no_dot : (part name inner : List ℕ) → bytes_eq (take (length part) name) part ≡ true → inner ≡ drop (length part) name → bytes_eq (take 1 inner) (codes ".") ≡ false → IsNoPart part name
no_dot part name inner same is apart = λ rest.
    ap (λ z. bytes_eq (part ++ (codes "." ++ rest)) z) (front_and_rest part name inner same is)
    ∙ same_front part (codes "." ++ rest) inner ∙ other_front (codes ".") inner rest apart

pub part_then : (part name inner rest : List ℕ) → bytes_eq (take (length part) name) part ≡ true → inner ≡ drop (length part) name
    → bytes_eq (take 1 inner) (codes ".") ≡ true → rest ≡ drop 1 inner → IsPartThen part name rest
part_then part name inner rest same is dot behind = front_and_rest part name inner same is ∙ ap (λ z. part ++ z) (front_and_rest (codes ".") inner rest dot behind)

-- PARTS

pub last_part : (part rest : List ℕ) (parts more : Path) → parts ≡ part ∷ more → more ≡ [] → bytes_eq part rest ≡ bytes_eq (joined parts) rest
last_part part rest parts more is empty = ap (λ z. bytes_eq (joined z) rest) (ap (λ z. part ∷ z) (sym empty) ∙ sym is)

joined_more : (part : List ℕ) (parts more : Path) → parts ≡ part ∷ more → 0 < length more → joined parts ≡ part ++ (codes "." ++ joined more)
joined_more part parts [] is filled = absurd (omega arith)
joined_more part parts (next ∷ more) is filled = ap joined is

pub next_part : (part rest behind : List ℕ) (parts more : Path) → parts ≡ part ∷ more → 0 < length more → IsPartThen part rest behind
    → bytes_eq (joined more) behind ≡ bytes_eq (joined parts) rest
next_part part rest behind parts more is filled goes_on =
    sym (same_front (codes ".") (joined more) behind) ∙ sym (same_front part (codes "." ++ joined more) (codes "." ++ behind))
    ∙ ap (λ z. bytes_eq (part ++ (codes "." ++ joined more)) z) (sym goes_on) ∙ ap (λ z. bytes_eq z rest) (sym (joined_more part parts more is filled))

pub other_part : (part rest : List ℕ) (parts more : Path) → parts ≡ part ∷ more → 0 < length more → IsNoPart part rest → bytes_eq (joined parts) rest ≡ false
other_part part rest parts more is filled apart = ap (λ z. bytes_eq z rest) (joined_more part parts more is filled) ∙ apart (joined more)

pub no_more_parts : (rest : List ℕ) (parts : Path) → length parts ≡ 0 → bytes_eq (joined parts) rest ≡ bytes_eq [] rest
no_more_parts rest [] empty = refl
no_more_parts rest (part ∷ parts) empty = absurd (omega arith)

-- SUMS

same_before : (xs ys last : List ℕ) → xs ++ last ≡ ys ++ last → xs ≡ ys
same_before xs ys last e =
    let lengths : length xs ≡ length ys = omega (arith, length-append xs last, length-append ys last, ap length e) in
    sym (take-append_seam xs last) ∙ ap (λ z. take (length xs) z) e ∙ ap (λ n. take n (ys ++ last)) lengths ∙ take-append_seam ys last

-- one end makes no difference
same_end : (xs ys last : List ℕ) → bytes_eq (xs ++ last) (ys ++ last) ≡ bytes_eq xs ys
same_end xs ys last =
    let whole = bytes_eq-Decides (xs ++ last) (ys ++ last) in
    one_answer {P = xs ≡ ys} _ _ (λ e. same_before xs ys last (whole.0 e), λ e. whole.1 (ap (λ z. z ++ last) e)) (bytes_eq-Decides xs ys)

behind_front : (xs ys : List ℕ) → drop (length xs) (xs ++ ys) ≡ ys
behind_front [] ys = refl
behind_front (x ∷ xs) ys = behind_front xs ys

last_of : (w : List ℕ) → drop (length (w ++ codes ")") - 1) (w ++ codes ")") ≡ codes ")"
last_of w =
    let front : length (w ++ codes ")") - 1 ≡ length w = omega (arith, length-append w (codes ")")) in
    ap (λ n. drop n (w ++ codes ")")) front ∙ behind_front w (codes ")")

pub no_sum : (name w : List ℕ) → bytes_eq (take 4 name) (codes "sum(") ≡ false → bytes_eq (codes "sum(" ++ (w ++ codes ")")) name ≡ false
no_sum name w apart = other_front (codes "sum(") name (w ++ codes ")") apart

pub no_end : (name inner w : List ℕ) → bytes_eq (take 4 name) (codes "sum(") ≡ true → inner ≡ drop 4 name → bytes_eq (drop (length inner - 1) inner) (codes ")") ≡ false
    → bytes_eq (codes "sum(" ++ (w ++ codes ")")) name ≡ false
no_end name inner w same is apart =
    ap (λ z. bytes_eq (codes "sum(" ++ (w ++ codes ")")) z) (front_and_rest (codes "sum(") name inner same is)
    ∙ same_front (codes "sum(") (w ++ codes ")") inner
    ∙ false_from_ne_true _ (λ ends.
    let whole : w ++ codes ")" ≡ inner = (bytes_eq-Decides (w ++ codes ")") inner).0 ends in
    let last : drop (length inner - 1) inner ≡ codes ")" = ap (λ z. drop (length z - 1) z) (sym whole) ∙ last_of w in
    false≢true (sym apart ∙ (bytes_eq-Decides (drop (length inner - 1) inner) (codes ")")).1 last))

pub in_sum : (name inner middle w : List ℕ) → bytes_eq (take 4 name) (codes "sum(") ≡ true → inner ≡ drop 4 name → bytes_eq (drop (length inner - 1) inner) (codes ")") ≡ true
    → middle ≡ take (length inner - 1) inner → bytes_eq w middle ≡ bytes_eq (codes "sum(" ++ (w ++ codes ")")) name
in_sum name inner middle w same is ends begins =
    let whole : inner ≡ middle ++ codes ")" =
    sym (take-append-drop (length inner - 1) inner) ∙ ap (λ z. z ++ drop (length inner - 1) inner) (sym begins) ∙ ap (λ z. middle ++ z) ((bytes_eq-Decides (drop (length inner - 1) inner) (codes ")")).0 ends) in
    sym (same_end w middle (codes ")")) ∙ ap (λ z. bytes_eq (w ++ codes ")") z) (sym whole)
    ∙ sym (same_front (codes "sum(") (w ++ codes ")") inner) ∙ ap (λ z. bytes_eq (codes "sum(" ++ (w ++ codes ")")) z) (sym (front_and_rest (codes "sum(") name inner same is))

pub ruleset fronts = (no_part, no_dot, part_then)

pub ruleset joins = (last_part, next_part, other_part, no_more_parts)

pub ruleset sums = (no_sum, no_end, in_sum)
