-- The numbers of fields, one of which is put in.
use Rattle.std.proofs.Common.{◌≡◌, ℕ, List, [], ◌∷◌, subst, sym}
use Rattle.std.specs.declared.cmp.Ordering.{Ordering}
use Rattle.std.specs.declared.cmp.Ordering.TheVariants.{Less, Equal, Greater}
use Rattle.std.specs.Ordering.{match_ordering}
use Rattle.spec_data.specs.Folding.{key_cmp}
use Rattle.spec_data.specs.Rising.{put}
use Rattle.spec_data.specs.Scalars.{Scalar}
use Rattle.index_tree.specs.Meaning.{Fields}
use Rattle.map_stage.specs.Words.{HasWords, IsWord}

put_in : (k : List ℕ) (v : Scalar) (fields : Fields) → HasWords fields → IsWord v → HasWords (put k v fields)
put_in k v [] h w = (w, tt)
put_in k v (f ∷ fields) h w = by (put_in k v fields h.1 w) (key_cmp k f.0)
  where
    by : HasWords (put k v fields) → (r : Ordering) → HasWords (match_ordering r ((k, v) ∷ f ∷ fields) ((k, v) ∷ fields) (f ∷ put k v fields))
    by i Less = (w, (h.0, h.1))
    by i Equal = (w, h.1)
    by i Greater = (h.0, i)

pub words_put : (k : List ℕ) (v : Scalar) (old new : Fields) → new ≡ put k v old → HasWords old → IsWord v → HasWords new
words_put k v old new e h w = subst HasWords (sym e) (put_in k v old h w)
