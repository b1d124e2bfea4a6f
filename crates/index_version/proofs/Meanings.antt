-- That a definition's map means it.
use Rattle.std.proofs.Common.{refl}
use Rattle.index_tree.specs.Definitions.{Definition, Static, Auto, AutoReduce}
use Rattle.index_version.specs.Meaning.{Means, found_meaning}

pub definition_means : (definition : Definition) → Means (found_meaning definition) definition
definition_means (Static map reduce map_text reduce_text) = λ d T. refl
definition_means (Auto collection fields) = λ d T. refl
definition_means (AutoReduce collection groups sums) = λ d T. refl
