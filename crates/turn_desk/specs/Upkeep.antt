-- What a pump asks over a turn beside its batches.
use Rattle.spec_server.specs.Requests.{Clean, Tidy}
use Rattle.spec_server.specs.Replies.{Reply}
use Rattle.spec_desk.specs.Lived.{Follows, Seen}
use Rattle.spec_desk.specs.Receipts.{LooksOnce, Standing}

-- one look with a Tidy
abbrev pub Tidies : Standing → Reply → Standing → Type 0
Tidies x reply y = (shot : Seen) × LooksOnce Follows x Tidy shot reply y

-- one look with a CLEAN
abbrev pub Cleans : Standing → Reply → Standing → Type 0
Cleans x reply y = (shot : Seen) × LooksOnce Follows x Clean shot reply y
