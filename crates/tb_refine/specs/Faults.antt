-- The faults that callers see for errors of the database and of reads.
use Rattle.std.specs.Prelude.{◌≢◌, Option, Some, None, Result, Ok, Err}
use Rattle.sqlite.specs.declared.error.Error.{Error}
use Rattle.sqlite.specs.declared.error.Error.TheVariants.{SqliteFailure}
use Rattle.sqlite.specs.declared.error.ErrorCode.{ErrorCode}
use Rattle.sqlite.specs.declared.error.ErrorCode.TheVariants.{OutOfMemory, SystemIoFailure, DatabaseCorrupt, DiskFull}
use Rattle.sqlite.specs.declared.error.ErrorCode.TheVariants.{NoRowid, Closed, TooBig}
use Rattle.tb_reads.specs.declared.error.ReadError.{ReadError}
use Rattle.tb_reads.specs.declared.error.ReadError.TheVariants.{Store, Form}
use Rattle.tb_core.specs.declared.refusals.Fault.{Fault}
use Rattle.tb_core.specs.declared.refusals.Fault.TheVariants.{Memory, Device, NotADesk}

-- a fault of the store, of its size or of its room is the device's
abbrev pub fault_of_code : ErrorCode → Fault
fault_of_code OutOfMemory = Memory
fault_of_code SystemIoFailure = Device
fault_of_code DatabaseCorrupt = Device
fault_of_code DiskFull = Device
fault_of_code NoRowid = Device
fault_of_code Closed = Device
fault_of_code TooBig = Device
fault_of_code _ = NotADesk

abbrev pub fault_of_error : Error → Fault
fault_of_error (SqliteFailure code) = fault_of_code code
fault_of_error _ = NotADesk

-- rows that cannot be read as records are not a desk's
abbrev pub fault_of_read : ReadError → Fault
fault_of_read (Store error) = fault_of_error error
fault_of_read Form = NotADesk

-- while the tables are made, any error but want of memory is the device's
abbrev pub making_fault_of_code : ErrorCode → Fault
making_fault_of_code OutOfMemory = Memory
making_fault_of_code _ = Device

abbrev pub fault_of_making : Error → Fault
fault_of_making (SqliteFailure code) = making_fault_of_code code
fault_of_making _ = Device

-- the answer of the database, or the fault for its error
abbrev pub reported_by : {X E : Type 0} → (E → Fault) → Result X E → Result X Fault
reported_by fault_of (Ok x) = Ok x
reported_by fault_of (Err error) = Err (fault_of error)

-- the same of a read of one row that exists: without the row, the tables are not a desk's
abbrev pub reported_of_row : {X : Type 0} → Result (Option X) ReadError → Result X Fault
reported_of_row (Ok (Some row)) = Ok row
reported_of_row (Ok None) = Err NotADesk
reported_of_row (Err error) = Err (fault_of_read error)

-- the fault is not the device's
abbrev pub IsNoDevice : Fault → Type 0
IsNoDevice fault = fault ≢ Device
