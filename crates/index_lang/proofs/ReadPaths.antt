-- Paths that are read part by part, and lists of paths one by one.
use Rattle.std.proofs.Common.{◌≡◌, ◌-◌, ◌≤◌, ℕ, List, [], ◌∷◌, ◌++◌, length, get_or, take, drop, Bool, true, false, ◌&&◌, nat_lt, Option, Some, None, option_map, refl, sym, ap, ◌∙◌, append_assoc, append-nil, arith}
use Rattle.std.proofs.lemmas.Grind.{common_steps}
use Rattle.std.specs.Prelude.{if◌then◌else◌}
use Rattle.std.specs.List.{list_all}
use Rattle.std.specs.Ordering.{is_lt}
use Rattle.spec_data.specs.Data.{Data, null, flag, num, text, array, object, Items, no_items, item}
use Rattle.spec_data.specs.Folding.{key_cmp}
use Rattle.spec_data.specs.Members.{Path}
use Rattle.index_tree.specs.Mapper.{joined}
use Rattle.spec_server.specs.Opening.{and_then_some, are_rising, is_part, path_of, paths_of, words_of}
use Rattle.index_lang.specs.Bodies.{part_in}

-- THE PARTS OF A PATH

-- the path of the parts found and of those that are left
abbrev pub parts_after : Path → Items → Option Path
parts_after found no_items = Some found
parts_after found (item d more) = and_then_some (part_in d) (λ part. parts_after (found ++ part ∷ []) more)

abbrev whole : Path → Option Path → Option Path
whole found None = None
whole found (Some words) = if list_all is_part words then Some (found ++ words) else None

module _ (t : List ℕ) (found : Path) where
  with_part : (words : Option Path) → is_part t ≡ true → whole (found ++ t ∷ []) words ≡ whole found (option_map (λ ws. t ∷ ws) words)
  with_part None h = refl
  with_part (Some words) h = (λ i. if list_all is_part words then Some (append_assoc found (t ∷ []) words i) else None) ∙ (λ i. if sym h i && list_all is_part words then Some (found ++ t ∷ words) else None)

  without_part : (words : Option Path) → is_part t ≡ false → None ≡ whole found (option_map (λ ws. t ∷ ws) words)
  without_part None h = refl
  without_part (Some words) h = λ i. if sym h i && list_all is_part words then Some (found ++ t ∷ words) else None

  by_part : (is : Bool) (more : Items) → is_part t ≡ is → parts_after (found ++ t ∷ []) more ≡ whole (found ++ t ∷ []) (words_of more)
      → parts_after found (item (text t) more) ≡ whole found (words_of (item (text t) more))
  by_part true more h rest = (λ i. and_then_some (if h i then Some t else None) (λ part. parts_after (found ++ part ∷ []) more)) ∙ rest ∙ with_part (words_of more) h
  by_part false more h rest = (λ i. and_then_some (if h i then Some t else None) (λ part. parts_after (found ++ part ∷ []) more)) ∙ without_part (words_of more) h

parts : (found : Path) (ds : Items) → parts_after found ds ≡ whole found (words_of ds)
parts found no_items = ap Some (sym (append-nil found))
parts found (item (text t) more) = by_part t found (is_part t) more refl (parts (found ++ t ∷ []) more)
parts found (item null more) = refl
parts found (item (flag b) more) = refl
parts found (item (num n) more) = refl
parts found (item (array ds) more) = refl
parts found (item (object ms) more) = refl

first_word : (t : List ℕ) (words : Option Path) → whole [] (option_map (λ ws. t ∷ ws) words) ≡ and_then_some (option_map (λ ws. t ∷ ws) words) (λ path. if nat_lt 0 (length path) && list_all is_part path then Some path else None)
first_word t None = refl
first_word t (Some words) =
    let some : nat_lt 0 (length (t ∷ words)) ≡ true = grind (arith, common_steps) in
    λ i. if sym some i && list_all is_part (t ∷ words) then Some (t ∷ words) else None

path_by : (d : Data) (more : Items) → parts_after [] (item d more) ≡ path_of (array (item d more))
path_by (text t) more = parts [] (item (text t) more) ∙ first_word t (words_of more)
path_by null more = refl
path_by (flag b) more = refl
path_by (num n) more = refl
path_by (array ds) more = refl
path_by (object ms) more = refl

pub path-begun : (d : Data) (more : Items) (part : List ℕ) → Some part ≡ part_in d → parts_after (part ∷ []) more ≡ path_of (array (item d more))
path-begun d more part h = (λ i. and_then_some (h i) (λ p. parts_after (p ∷ []) more)) ∙ path_by d more

pub path-unbegun : (d : Data) (more : Items) → None ≡ part_in d → None ≡ path_of (array (item d more))
path-unbegun d more h = (λ i. and_then_some (h i) (λ p. parts_after (p ∷ []) more)) ∙ path_by d more

-- LISTS OF PATHS

-- the paths found and those that are left
abbrev pub paths_after : List Path → Items → Option (List Path)
paths_after found no_items = Some found
paths_after found (item d more) = and_then_some (path_of d) (λ path. paths_after (found ++ path ∷ []) more)

all_paths : (found : List Path) (path : Path) (more : Option (List Path)) → option_map (λ ps. (found ++ path ∷ []) ++ ps) more ≡ option_map (λ ps. found ++ ps) (option_map (λ ps. path ∷ ps) more)
all_paths found path None = refl
all_paths found path (Some more) = ap Some (append_assoc found (path ∷ []) more)

by_path : (found : List Path) (more : Items) (path : Option Path)
    → ((p : Path) → paths_after (found ++ p ∷ []) more ≡ option_map (λ ps. (found ++ p ∷ []) ++ ps) (paths_of more))
    → and_then_some path (λ p. paths_after (found ++ p ∷ []) more) ≡ option_map (λ ps. found ++ ps) (and_then_some path (λ p. option_map (λ ps. p ∷ ps) (paths_of more)))
by_path found more None rest = refl
by_path found more (Some p) rest = rest p ∙ all_paths found p (paths_of more)

each : (found : List Path) (ds : Items) → paths_after found ds ≡ option_map (λ ps. found ++ ps) (paths_of ds)
each found no_items = ap Some (sym (append-nil found))
each found (item d more) = by_path found more (path_of d) (λ p. each (found ++ p ∷ []) more)

as_found : (paths : Option (List Path)) → option_map (λ ps. [] ++ ps) paths ≡ paths
as_found None = refl
as_found (Some ps) = refl

pub paths-begun : (ds : Items) → paths_after [] ds ≡ paths_of ds
paths-begun ds = each [] ds ∙ as_found (paths_of ds)

-- WHETHER THEY RISE

-- whether these rise behind one of this joined form
abbrev pub rising_after : List ℕ → List Path → Bool
rising_after last [] = true
rising_after last (path ∷ more) = is_lt (key_cmp last (joined path)) && rising_after (joined path) more

rising_first : (path : Path) (more : List Path) → rising_after (joined path) more ≡ are_rising (path ∷ more)
rising_first path [] = refl
rising_first path (next ∷ more) = ap (λ rest. is_lt (key_cmp (joined path) (joined next)) && rest) (rising_first next more)

pub rising-begun : (ps : List Path) (path : Path) (last : List ℕ) → 1 ≤ length ps → path ≡ get_or ps 0 path → last ≡ joined path
    → rising_after last (take (length ps - 1) (drop 1 ps)) ≡ are_rising ps
rising-begun [] path last h is name = absurd (omega arith)
rising-begun (p ∷ ps) path last h is name =
    let rest : take (length (p ∷ ps) - 1) ps ≡ ps = grind (arith, common_steps) in
    ap (λ x. rising_after x (take (length (p ∷ ps) - 1) ps)) (name ∙ ap joined is) ∙ ap (λ more. rising_after (joined p) more) rest ∙ rising_first p ps

pub ruleset paths = (path-begun, path-unbegun, paths-begun, rising-begun)
