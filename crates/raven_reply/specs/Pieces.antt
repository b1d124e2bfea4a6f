-- The value of a member of a reply.
use Rattle.spec_data.specs.Data.{Data, array, entries_of, flag, items_of, object, text}
use Rattle.spec_server.specs.Replies.{number}
use Rattle.raven_value.specs.View.{data_of}
use Rattle.raven_reply.specs.declared.piece.Piece.{Piece}
use Rattle.raven_reply.specs.declared.piece.Piece.TheVariants as p

abbrev pub piece_data : Piece → Data
piece_data (p.Text words) = text words.now
piece_data (p.Number n) = number n
piece_data (p.Flag b) = flag b
piece_data (p.Json value) = data_of value.now
piece_data (p.List values) = array (items_of values.now)
piece_data (p.Map members) = object (entries_of members.now)
