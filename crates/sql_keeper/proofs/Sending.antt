-- A keeper in a file may go to another thread.
use denote.RattleType.{RattleType}
use denote.Param.Send.{IsSend, sendable, view_send, struct_send, recorded_send}
use denote.Struct.Declared.{shape}
use Rattle.std.proofs.Crossing.{crosses}
use Rattle.sqlite_disk.proofs.modelled.Modelled.TheSendSync as modelled
use Rattle.sqlite_disk.specs.contracts.modelled.Modelled as Modelled
use Rattle.sqlite_disk.specs.contracts.modelled.ModelledDisk as Disk
use Rattle.sqlite_disk.specs.contracts.start.Unknown as Unknown
use Rattle.sqlite_disk.specs.contracts.start.UnknownStart as Start
use Rattle.sqlite_std_file.specs.contracts.host.Host as Host
use Rattle.sqlite_std_file.specs.contracts.host.HostCalls as Calls
use Rattle.sqlite_store.proofs.store.FileStore.TheSendSync as store
use Rattle.sqlite_store.specs.contracts.store.FileStoreStore as Files
use Rattle.sql_keeper.proofs.keeper.SqlKeeper.TheSendSync as keeper
use Rattle.sql_keeper.specs.contracts.file_keeper.FileKeeper as FileKeeper

abbrev disk : RattleType
disk = Modelled.the_row Host.the_row Unknown.the_row Calls.TheImpl.ghosts Start.TheImpl.ghosts

host_send : IsSend Host.the_row
host_send = search (sendable, crosses) depth 60 fits 4000

disk_send : IsSend disk
disk_send = modelled.the_send Host.the_row Unknown.the_row Calls.TheImpl.ghosts Start.TheImpl.ghosts host_send

inside_send : IsSend FileKeeper.TheInside.the_row
inside_send = recorded_send _ _ _ FileKeeper.TheInside.the_type.to_one (struct_send (shape FileKeeper.TheInside.the_type) (keeper.the_field_send _ (Files.TheImpl.ghosts disk (Disk.TheImpl.ghosts Host.the_row Unknown.the_row Calls.TheImpl.ghosts Disk.TheImpl.no_dict Start.TheImpl.ghosts Disk.TheImpl.no_dict Disk.TheImpl.no_dict) Files.TheImpl.no_dict) (store.the_send _ _ disk_send), tt))

pub file_keeper_send : IsSend FileKeeper.the_row
file_keeper_send = view_send FileKeeper.TheInside.the_row _ _ _ _ inside_send
