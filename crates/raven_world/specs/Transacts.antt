-- What a transaction of a client leaves.
use Rattle.std.specs.Prelude.{◌≡◌, ℕ, List, Result, Ok, Err}
use Rattle.spec_data.specs.Data.{null}
use Rattle.spec_store.specs.Commit.{AnyVector, Client, Command, Delete, Put, Refused, commit, etags_taken}
use Rattle.spec_server.specs.Writes.{refused_at}
use Rattle.spec_index.specs.World as is
use Rattle.spec_server.specs.Replies.{Reply}
use Rattle.raven_reply.specs.ReplyView.{reply_view}
use Rattle.doc_txn.specs.TransactionView.{written_of}
use Rattle.doc_txn.specs.declared.transaction.Transaction.{Transaction}
use Rattle.raven_world.specs.declared.world.WorldFault.{WorldFault}
use Rattle.raven_world.specs.declared.world.WorldFault.TheVariants.{Refused as Refuse, NoMemory}

-- the commands are refused, with this reply
pub record IsRefusal (W : is.World) (now : ℕ) (commands : List Command) (reply : Reply) : Type 0 where
  pub refused : Refused
  pub cause : commit W.setting Client now commands W.store ≡ Err refused
  pub told : reply ≡ refused_at refused.at refused.kind

abbrev pub Transacts : is.World → ℕ → List Command → Result Transaction WorldFault → Type 0
Transacts W now commands (Ok done) = (commit W.setting Client now commands W.store ≡ Ok (written_of done)) × (done.etags ≡ etags_taken now commands W.store)
Transacts W now commands (Err (Refuse reply)) = IsRefusal W now commands (reply_view reply)
Transacts W now commands (Err NoMemory) = Unit {0}

-- the command without its document and without the vector that it expects, neither of which its reply depends on
abbrev pub bare : Command → Command
bare (Put id expected body) = Put id AnyVector null
bare (Delete id expected) = Delete id AnyVector
