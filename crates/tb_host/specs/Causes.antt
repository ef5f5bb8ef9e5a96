-- Causes for errors of the system and of the database.
use Rattle.std.specs.Prelude.{◌≡◌, ◌≢◌, ◌⊎◌, ◌==◌, ℕ, ℤ, pos, nat_lt, Option, Some, None, IsSomeAnd, if◌then◌else◌}
use Rattle.std.specs.IoError.{error_kind, raw_os_error}
use Rattle.std.specs.declared.io.Error.{Error}
use Rattle.std.specs.declared.io.ErrorKind.{ErrorKind}
use Rattle.std.specs.declared.io.ErrorKind.TheVariants as kind
use Rattle.sqlite.specs.declared.error.Error.{Error as DatabaseError}
use Rattle.sqlite.specs.declared.error.Error.TheVariants.{SqliteFailure}
use Rattle.sqlite.specs.declared.error.ErrorCode.{ErrorCode}
use Rattle.sqlite.specs.declared.error.ErrorCode.TheVariants as code
use Rattle.sqlite_std_file.specs.declared.pair.OpenError.{OpenError}
use Rattle.sqlite_std_file.specs.declared.pair.OpenError.TheVariants as unopened
use Rattle.tb_core.specs.declared.refusals.Fault.{Fault}
use Rattle.tb_core.specs.declared.refusals.Fault.TheVariants as fault
use Rattle.tb_http.specs.declared.replies.Reply.{Reply}
use Rattle.tb_http.specs.declared.replies.Reply.TheVariants as reply
use Rattle.tb_host.specs.declared.causes.FileCause.{FileCause}
use Rattle.tb_host.specs.declared.causes.FileCause.TheVariants as file
use Rattle.tb_host.specs.declared.misfit.Misfit.{Misfit}
use Rattle.tb_host.specs.declared.causes.PortCause.{PortCause}
use Rattle.tb_host.specs.declared.causes.PortCause.TheVariants as port
use Rattle.tb_host.specs.declared.causes.StreamCause.{StreamCause}
use Rattle.tb_host.specs.declared.causes.StreamCause.TheVariants as stream
use Rattle.tb_host.specs.declared.causes.Shortage.{Shortage}
use Rattle.tb_host.specs.declared.causes.Shortage.TheVariants.{OwnFiles, AllFiles, Buffers}

-- what the system has run out of, by the error number: ENFILE, EMFILE or ENOBUFS
abbrev pub IsShort : (number : Option ℤ) → Option Shortage → Type 0
IsShort number (Some AllFiles) = number ≡ Some (pos 23)
IsShort number (Some OwnFiles) = number ≡ Some (pos 24)
IsShort number (Some Buffers) = number ≡ Some (pos 105)
IsShort number None = (number ≢ Some (pos 23)) × (number ≢ Some (pos 24)) × (number ≢ Some (pos 105))

-- ---- files

-- by the kind of an error of the system
abbrev pub file_cause : ErrorKind → FileCause
file_cause kind.OutOfMemory = file.Memory
file_cause kind.StorageFull = file.Full
file_cause kind.QuotaExceeded = file.Quota
file_cause kind.FileTooLarge = file.TooLarge
file_cause kind.Uncategorized = file.Failed
file_cause kind.NotFound = file.Missing
file_cause kind.NotADirectory = file.NoFolder
file_cause kind.IsADirectory = file.Folder
file_cause kind.PermissionDenied = file.Denied
file_cause kind.ReadOnlyFilesystem = file.ReadOnly
file_cause kind.FilesystemLoop = file.Links
file_cause kind.StaleNetworkFileHandle = file.Lost
file_cause kind.TimedOut = file.NoAnswer
file_cause kind.NotConnected = file.NoAnswer
file_cause kind.HostUnreachable = file.NoAnswer
file_cause kind.NetworkUnreachable = file.NoAnswer
file_cause kind.NetworkDown = file.NoAnswer
file_cause kind.ConnectionRefused = file.NoAnswer
file_cause kind.ConnectionReset = file.NoAnswer
file_cause kind.ConnectionAborted = file.NoAnswer
file_cause kind.Unsupported = file.SecondName
file_cause _ = file.Unopened

-- for an error of the system
abbrev pub IsFileCause : Error → FileCause → Type 0
IsFileCause e c =
    ((shortage : Shortage) × IsShort (raw_os_error e) (Some shortage) × (c ≡ file.Short shortage))
    ⊎ (IsShort (raw_os_error e) None × (c ≡ file_cause (error_kind e)))

-- the cause for some error of the system
abbrev pub IsSystemCause : FileCause → Type 0
IsSystemCause c = (e : Error) × IsFileCause e c

-- the causes for a device that failed, where the database says no more than that
abbrev pub IsDeviceCause : (otherwise result : FileCause) → Type 0
IsDeviceCause otherwise result =
    (result ≡ file.Full) ⊎ (result ≡ file.Quota) ⊎ (result ≡ file.TooLarge) ⊎ (result ≡ otherwise)

-- For a file that the system does not open as a database. There is none where another command has it.
abbrev pub IsPathCause : OpenError → Option FileCause → Type 0
IsPathCause unopened.OutOfMemory c = c ≡ Some file.Memory
IsPathCause unopened.Busy c = c ≡ None
IsPathCause unopened.HotJournal c = c ≡ Some file.Journal
IsPathCause (unopened.Io e) c = IsSomeAnd c (IsFileCause e)

-- for a file that is to be made
abbrev pub cause_of_new : FileCause → FileCause
cause_of_new file.Missing = file.NoFolder
cause_of_new file.ReadOnly = file.NewReadOnly
cause_of_new other = other

-- what is wrong first with the rows of a file, where that was looked for
abbrev pub misfit_of : FileCause → Option Misfit
misfit_of (file.Rows misfit) = misfit
misfit_of _ = None

-- The line for a file in which no desk is opened or made: memory runs out, the device fails, or it is no desk.
abbrev pub reply_of : FileCause → Reply
reply_of file.Memory = reply.Memory
reply_of file.Busy = reply.Device
reply_of file.Lost = reply.Device
reply_of file.NoAnswer = reply.Device
reply_of file.Full = reply.Device
reply_of file.Quota = reply.Device
reply_of file.TooLarge = reply.Device
reply_of (file.Short shortage) = reply.Device
reply_of file.Failed = reply.Device
reply_of file.NoRandom = reply.Device
reply_of _ = reply.Desk

-- the line for a file that the database does not open
abbrev pub reply_of_code : ErrorCode → Reply
reply_of_code code.OutOfMemory = reply.Memory
reply_of_code code.DiskFull = reply.Device
reply_of_code code.DatabaseBusy = reply.Device
reply_of_code code.SystemIoFailure = reply.Device
reply_of_code _ = reply.Desk

abbrev pub reply_of_error : DatabaseError → Reply
reply_of_error (SqliteFailure code) = reply_of_code code
reply_of_error _ = reply.Desk

-- For a file that the database does not open. Where its device failed, the system's last error may say more.
abbrev pub IsErrorCause : DatabaseError → FileCause → Type 0
IsErrorCause (SqliteFailure code.OutOfMemory) c = c ≡ file.Memory
IsErrorCause (SqliteFailure code.DiskFull) c = IsDeviceCause file.Full c
IsErrorCause (SqliteFailure code.DatabaseBusy) c = c ≡ file.Busy
IsErrorCause (SqliteFailure code.SystemIoFailure) c = IsDeviceCause file.Failed c
IsErrorCause _ c = c ≡ file.Damaged

-- For a database in which no desk is opened, made or migrated; `not_a_desk` where its tables or rows do not allow it.
abbrev pub IsFaultCause : Fault → (not_a_desk result : FileCause) → Type 0
IsFaultCause fault.Memory not_a_desk c = c ≡ file.Memory
IsFaultCause fault.Device not_a_desk c = IsDeviceCause file.Failed c
IsFaultCause fault.Output not_a_desk c = IsDeviceCause file.Failed c
IsFaultCause fault.NotADesk not_a_desk c = c ≡ not_a_desk
IsFaultCause (fault.Refused refusal) not_a_desk c = c ≡ not_a_desk

-- the line for a database in which no desk is opened, made or migrated
abbrev pub reply_of_fault : Fault → Reply
reply_of_fault fault.Memory = reply.Memory
reply_of_fault fault.Device = reply.Device
reply_of_fault fault.Output = reply.Device
reply_of_fault fault.NotADesk = reply.Desk
reply_of_fault (fault.Refused refusal) = reply.Desk

-- ---- ports

-- by the kind of an error of the system; port 0 leaves the choice to the system
abbrev pub port_cause : ErrorKind → (number : ℕ) → PortCause
port_cause kind.OutOfMemory number = port.Memory
port_cause kind.AddrNotAvailable number = port.NoLoopback
port_cause kind.AddrInUse number = if number == 0 then port.NoneGiven else port.Taken
port_cause kind.PermissionDenied number =
    if number == 0 then port.NoneGiven else if nat_lt number 1024 then port.Denied else port.Failed
port_cause _ number = if number == 0 then port.NoneGiven else port.Failed

abbrev pub IsPortCause : Error → (number : ℕ) → PortCause → Type 0
IsPortCause e number c =
    ((shortage : Shortage) × IsShort (raw_os_error e) (Some shortage) × (c ≡ port.Short shortage))
    ⊎ (IsShort (raw_os_error e) None × (c ≡ port_cause (error_kind e) number))

-- ---- standard streams

abbrev pub input_cause : ErrorKind → StreamCause
input_cause kind.IsADirectory = stream.InputFolder
input_cause _ = stream.InputFailed

abbrev pub output_cause : ErrorKind → StreamCause
output_cause kind.BrokenPipe = stream.OutputPipe
output_cause kind.StorageFull = stream.OutputFull
output_cause kind.QuotaExceeded = stream.OutputQuota
output_cause kind.FileTooLarge = stream.OutputTooLarge
output_cause _ = stream.OutputFailed
