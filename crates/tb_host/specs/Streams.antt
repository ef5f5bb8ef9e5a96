-- Between crates: no contract of a front door cites a definition of this module.
-- What is known of the standard streams at the end of a run.
use Rattle.std.specs.Prelude.{◌≡◌, ◌⊎◌, ◌↔◌, IsTrue, ℕ, ℤ, pos, Bool, true, false, Option, Some, None, Result, IsOkAnd}
use Rattle.std.specs.Fd.{file_raw_fd}
use Rattle.std.specs.declared.fs.File.{File}
use Rattle.std.specs.declared.io.Error.{Error}
use Rattle.std.specs.declared.io.ErrorKind.{ErrorKind}
use Rattle.std.specs.declared.io.ErrorKind.TheVariants.{Interrupted}
use Rattle.tb_host.specs.declared.streams.Held.{Held}
use Rattle.tb_host.specs.declared.causes.StreamCause.{StreamCause}
use Rattle.tb_host.specs.declared.causes.StreamCause.TheVariants.{InputClosed, OutputClosed}
use Rattle.tb_host.specs.Causes.{input_cause, output_cause}

-- the cause for an output that failed with this error
abbrev pub output_cause_of : (failed : Option ErrorKind) → (was_closed : Bool) → Option StreamCause
output_cause_of None closed = None
output_cause_of (Some kind) true = Some OutputClosed
output_cause_of (Some kind) false = Some (output_cause kind)

-- the cause for an input: it failed with this error, or it was read and had been closed
abbrev pub input_cause_of : (failed : Option ErrorKind) → (was_read was_closed : Bool) → Option StreamCause
input_cause_of (Some kind) read closed = Some (input_cause kind)
input_cause_of None true true = Some InputClosed
input_cause_of None true false = None
input_cause_of None false closed = None

-- The first failure of a stream. One that a signal interrupted is tried again, and is none.
abbrev pub first_failure : (before : Option ErrorKind) → ErrorKind → Option ErrorKind
first_failure (Some first) kind = Some first
first_failure None Interrupted = None
first_failure None kind = Some kind

-- The last failure of a stream. One that a signal interrupted is tried again, and is none.
abbrev pub last_failure : (before : Option ErrorKind) → ErrorKind → Option ErrorKind
last_failure before Interrupted = before
last_failure before kind = Some kind

-- a file was opened, and has this descriptor
abbrev pub HasDescriptor : ℤ → Result File Error → Type 0
HasDescriptor number file = IsOkAnd file (λ f. file_raw_fd f ≡ number)

-- the stream with this number was closed when the program began, so that a file has its descriptor
abbrev pub StandsFor : Held → (stream : ℤ) → Type 0
StandsFor held stream = HasDescriptor stream held.first ⊎ HasDescriptor stream held.second
    ⊎ HasDescriptor stream held.third

-- the cause for standard output, descriptor 1
abbrev pub IsOutputCause : Held → (failed : Option ErrorKind) → Option StreamCause → Type 0
IsOutputCause held failed cause = (was_closed : Bool) × (IsTrue was_closed ↔ StandsFor held (pos 1))
    × (cause ≡ output_cause_of failed was_closed)

-- the cause for standard input, descriptor 0
abbrev pub IsInputCause : Held → (failed : Option ErrorKind) → (was_read : Bool) → Option StreamCause → Type 0
IsInputCause held failed was_read cause = (was_closed : Bool) × (IsTrue was_closed ↔ StandsFor held (pos 0))
    × (cause ≡ input_cause_of failed was_read was_closed)
