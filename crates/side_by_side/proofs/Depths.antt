-- The body of a definition's row is at most three deep.
use Rattle.std.proofs.Common.{◌≡◌, ◌≤◌, ℕ, List, [], ◌∷◌, Option, Some, None, map, refl, sym, subst, arith}
use Rattle.spec_data.specs.Data.{Data, depth, items_depth, items_of, text}
use Rattle.spec_data.specs.Members.{Path}
use Rattle.index_tree.specs.Definitions.{Auto, AutoReduce, Definition, Static}
use Rattle.spec_index.specs.World.{row_body, text_list, text_or_null}

parts-flat : (path : Path) → items_depth (items_of (map text path)) ≤ 0
parts-flat [] = omega arith
parts-flat (part ∷ path) = let more = parts-flat path in omega arith

paths-flat : (fs : List Path) → items_depth (items_of (map text_list fs)) ≤ 1
paths-flat [] = omega arith
paths-flat (p ∷ fs) = let one = parts-flat p in let more = paths-flat fs in omega arith

text-flat : (words : Option (List ℕ)) → depth (text_or_null words) ≡ 0
text-flat None = refl
text-flat (Some words) = refl

row-flat : (d : Definition) → depth (row_body d) ≤ 100
row-flat (Static query reduce words reduce_words) = let flat = text-flat reduce_words in omega arith
row-flat (Auto c fs) = let flat = paths-flat fs in omega arith
row-flat (AutoReduce c gs ss) = let flat = paths-flat gs in let other = paths-flat ss in omega arith

pub row-shallow : (body : Data) (d : Definition) → body ≡ row_body d → depth body ≤ 100
row-shallow body d is = subst (λ (x : Data). depth x ≤ 100) (sym is) (row-flat d)

pub ruleset depths = (row-shallow)
