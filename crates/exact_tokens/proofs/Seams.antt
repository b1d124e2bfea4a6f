-- Where a text may be cut.
use Rattle.std.proofs.Common.{◌<◌, ◌≤◌, ℕ, List, [], ◌∷◌, length, take, drop, IsUtf8, arith}
use Rattle.std.proofs.lemmas.Str.{IsUtf8-take, IsUtf8-drop, IsUtf8-nil, IsCharBoundary-after_ascii, IsCharBoundary-from_drop}

-- behind an ASCII byte
pub behind_ascii : (b : ℕ) (bs : List ℕ) → b < 128 → IsUtf8 (b ∷ bs) → IsUtf8 bs
behind_ascii b bs small u = IsUtf8-drop (b ∷ bs) 1 u (IsCharBoundary-after_ascii (b ∷ bs) 0 u (omega arith) small)

-- what is before a place, if what is after it is text
pub before_text : (s : List ℕ) (n : ℕ) → IsUtf8 s → n ≤ length s → IsUtf8 (drop n s) → IsUtf8 (take n s)
before_text s n u fits behind = IsUtf8-take s n u (IsCharBoundary-from_drop s n fits behind)

pub behind_all : (s : List ℕ) → IsUtf8 (drop (length s) s)
behind_all [] = IsUtf8-nil
behind_all (b ∷ bs) = behind_all bs

pub ruleset seams = (behind_ascii, before_text, behind_all)
