-- Inner: no contract beyond this crate cites a definition of this module.
-- What a program says at the end of a run, beside the cause of its answer.
use Rattle.std.specs.Prelude.{◌≡◌, ℕ, codes, Bool, true, false, nat_eq, if◌then◌else◌}
use Rattle.std.specs.Prelude.{Option, None, Some}
use Rattle.std.specs.declared.io.ErrorKind.{ErrorKind}
use Rattle.std.specs.declared.io.ErrorKind.TheVariants.{OutOfMemory}
use Rattle.tb_host.specs.declared.causes.Cause.{Cause}
use Rattle.tb_host.specs.declared.causes.Cause.TheVariants as cause
use Rattle.tb_host.specs.declared.causes.StreamCause.{StreamCause}
use Rattle.tb_desk.specs.declared.programs.Unbegun.{Unbegun}

-- What is reported at the end of a run beside the cause that the program gives: that the input failed, or, where no
-- other cause is known, that the answer is not whole.
abbrev pub also_reported : (input output : Option StreamCause) → (is_reported : Bool) → (status : ℕ) → Option Cause
also_reported (Some c) output reported status = Some (cause.Stream c)
also_reported None (Some c) reported status = None
also_reported None None true status = None
also_reported None None false status = if nat_eq status 3 then Some cause.BrokenOff else None

-- how a run ends that could not begin: there is no memory, or a word is no text
abbrev pub IsUnbegun : ErrorKind → Unbegun → Type 0
IsUnbegun OutOfMemory u = (u.line.now ≡ codes "refused memory\n") × (u.status ≡ 3) × (u.cause ≡ cause.Memory)
IsUnbegun _ u = (u.line.now ≡ codes "refused usage\n") × (u.status ≡ 2) × (u.cause ≡ cause.NotText)
