use Rattle.std.proofs.Common.{◌≡◌, ◌++◌, drop, false, map}
use Rattle.spec_data.specs.Data.{entries_of}
use Rattle.spec_data.specs.Written.{entries_text}
use Rattle.raven_reply.specs.Pieces.{piece_data}
use Rattle.raven_reply.proofs.piece.write_members.Given as goal

abbrev pub invariant-loop-member : goal.invariant-loop-member
invariant-loop-member l = l.out.items ++ entries_text l.later (entries_of (map (λ m. (m.0.now, piece_data m.1)) (drop l.member-index l.members))) ≡ l.fn.out.items ++ entries_text false (entries_of (map (λ m. (m.0.now, piece_data m.1)) l.members))
