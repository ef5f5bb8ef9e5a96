-- What a crash leaves of a desk in a file, and what the next run opens of it.
use Rattle.std.specs.Prelude.{◌≡◌, ◌⊎◌}
use Rattle.sqlite_disk.specs.declared.Disk.{Ghosts}
use Rattle.sqlite_wal.specs.Recovery.{Image}
use Rattle.sqlite_store.specs.declared.store.FileStore.{FileStore}
use Rattle.sqlite_store.specs.FileStore.{state as store_state}
use Rattle.sqlite.specs.Held.{Held}
use Rattle.sqlite.specs.State.{HasCleanDisk}
use Rattle.sqlite.specs.Start.{FindsIn}
use Rattle.sqlite.specs.Files.{file_state, IsOpened}
use Rattle.tb_core.specs.declared.limits.Limits.{Limits}
use Rattle.tb_core.specs.Machine.{Machine}
use Rattle.tb_core.specs.Commands.{Answer, Command}
use Rattle.tb_core.specs.Steps.{Steps}

-- a crash at this moment may leave these files: the database and its log
abbrev pub MayLeaveFiles : {D : Type 0} {g : Ghosts D} → Held (FileStore D g) → Image → Type 0
MayLeaveFiles c left = (store_state c.store).may_leave left

-- The next run opened this connection over these files.
pub record IsOpenedOver {E : Type 0} {k : Ghosts E} (left : Image) (next : Held (FileStore E k)) : Type 0 where
  pub clean : HasCleanDisk (file_state next)
  pub opened : IsOpened next
  pub found : FindsIn left (file_state next)

-- a crash at this moment may leave these files of the store
abbrev pub StoreMayLeave : {D : Type 0} {g : Ghosts D} → FileStore D g → Image → Type 0
StoreMayLeave store left = (store_state store).may_leave left

-- the state before a command, or one in which it ends
abbrev pub IsBeforeOrAfter : Limits → Machine → Command → Machine → Type 0
IsBeforeOrAfter l before command s = (s ≡ before) ⊎ ((a : Answer) × Steps l before command a s)
