-- What several writes in a row have written.
use Rattle.std.proofs.Common.{◌≡◌, List, ℕ, ◌++◌, append_assoc}

pub five : (out s1 s2 s3 s4 s5 a b c d e : List ℕ) → s1 ≡ out ++ a → s2 ≡ s1 ++ b → s3 ≡ s2 ++ c → s4 ≡ s3 ++ d → s5 ≡ s4 ++ e → s5 ≡ out ++ (a ++ (b ++ (c ++ (d ++ e))))
five out s1 s2 s3 s4 s5 a b c d e h1 h2 h3 h4 h5 = rw (h5, h4, h3, h2, h1) (simp append_assoc)

pub six : (out s1 s2 s3 s4 s5 s6 a b c d e f : List ℕ) → s1 ≡ out ++ a → s2 ≡ s1 ++ b → s3 ≡ s2 ++ c → s4 ≡ s3 ++ d → s5 ≡ s4 ++ e → s6 ≡ s5 ++ f
    → s6 ≡ out ++ (a ++ (b ++ (c ++ (d ++ (e ++ f)))))
six out s1 s2 s3 s4 s5 s6 a b c d e f h1 h2 h3 h4 h5 h6 = rw (h6, h5, h4, h3, h2, h1) (simp append_assoc)
