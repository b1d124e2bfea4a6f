use Rattle.raven_laws.proofs.MachineLemmas.{changes-Move}
use Rattle.raven_laws.proofs.opening.changes_go_on.Goals as goal

pub returns-clause-sound : goal.returns-clause-sound
returns-clause-sound c = λ W now line x o from h. (changes-Move W now line x o from h).sound

pub returns-clause-later : goal.returns-clause-later
returns-clause-later c = λ W now line x o from h. (changes-Move W now line x o from h).later
