-- A document as JSON can have it is at most a hundred deep.
use Rattle.std.proofs.Common.{◌≡◌, ◌≤◌, true}
use Rattle.std.proofs.lemmas.Bool.{leb-true}
use Rattle.spec_data.specs.Data.{Data, null, flag, num, text, array, object, depth}
use Rattle.spec_server.specs.WellFormed.{is_body}

pub body-shallow : (d : Data) → is_body d ≡ true → depth d ≤ 100
body-shallow null h = absurd cc
body-shallow (flag b) h = absurd cc
body-shallow (num z) h = absurd cc
body-shallow (text s) h = absurd cc
body-shallow (array ds) h = absurd cc
body-shallow (object ms) h = leb-true (depth (object ms)) 100 h

pub ruleset bodies = (body-shallow)
