-- The numbers of an entry into which a field is put.
use Rattle.std.proofs.Common.{◌≡◌, ℕ, List}
use Rattle.spec_data.specs.Rising.{put}
use Rattle.spec_data.specs.Scalars.{Scalar}
use Rattle.index_tree.specs.Meaning.{Fields}
use Rattle.map_stage.specs.Words.{HasWords, IsWord}
use Rattle.map_stage.proofs.WordLemmas as lemmas

pub words_put : (k : List ℕ) (v : Scalar) (old new : Fields) → new ≡ put k v old → HasWords old → IsWord v → HasWords new
words_put = lemmas.words_put
