-- An `Answered` of the program, and what it is.
use Rattle.spec_index.specs.Optimiser.{Choice, Use, Make}
use Rattle.spec_server.specs.Asking as is
use Rattle.spec_server.specs.Replies.{Index}
use Rattle.index_definition.specs.ShapeView.{shape_view}
use Rattle.raven_reply.specs.ReplyView.{reply_view}
use Rattle.raven_snapshot.specs.declared.answered.Answered.{Answered}
use Rattle.raven_snapshot.specs.declared.answered.Answered.TheVariants.{Reply, MustMake}

abbrev pub answered_view : Answered → is.Answered
answered_view (Reply reply) = is.Ready (reply_view reply)
answered_view (MustMake shape) = is.MustMake (shape_view shape)

-- the name of the index that was picked, or that one has to be made
abbrev pub name_of_choice : Choice → is.Answered
name_of_choice (Use s) = is.Ready (Index s.name)
name_of_choice (Make shape) = is.MustMake shape
