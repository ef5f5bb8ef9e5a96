-- What a fault of a command line says.
use Rattle.std.specs.Prelude.{◌≡◌, ◌≢◌, ◌⊎◌, [], Option, Some, None, Result, Ok, Err}
use Rattle.std.specs.Prelude.{IfOk, IfErr, ⊤}
use Rattle.clap.specs.Words.{IsAmong, Kinds, kind_of}
use Rattle.clap.specs.declared.error.Error.{Error}
use Rattle.clap.specs.declared.error.kind.ErrorKind.TheVariants.{OutOfMemory}
use Rattle.tb_cli.specs.declared.lines.LineFault.{LineFault}
use Rattle.tb_cli.specs.declared.lines.LineFault.TheVariants.{Clap, Usage, Memory}

-- want of memory
abbrev pub IsMemory : LineFault → Type 0
IsMemory (Clap e) = ⊥
IsMemory Usage = ⊥
IsMemory Memory = ⊤

-- Want of memory is told as such, and any other error of clap as itself.
abbrev pub IsToldAs : Error → LineFault → Type 0
IsToldAs e told =
    ((kind_of e ≡ OutOfMemory) × (told ≡ Memory)) ⊎ ((kind_of e ≢ OutOfMemory) × (told ≡ Clap e))

-- clap's fault comes only where C holds, and the desk's own only where U does
abbrev pub ComesOnly : LineFault → Type 0 → Type 0 → Type 0
ComesOnly (Clap e) C U = C
ComesOnly Usage C U = U
ComesOnly Memory C U = ⊤

-- the desk's own fault comes only where nothing is given, and want of memory only where something is
abbrev pub IsFaultOf : {A : Type 0} → Option A → LineFault → Type 0
IsFaultOf found (Clap e) = ⊥
IsFaultOf found Usage = found ≡ None
IsFaultOf found Memory = found ≢ None

-- the result x is what is given (`of x`, as plain data), or the fault is so
abbrev pub ReadsAs : {T A : Type 0} → Option A → (T → A) → Result T LineFault → Type 0
ReadsAs found of result = IfOk result (λ x. found ≡ Some (of x)) × IfErr result (IsFaultOf found)

-- clap's definition refuses words with these kinds of error, and accepts them where there is none. A result comes only
-- of words that it accepts, and an error of clap has one of the kinds.
abbrev pub AnswersAs : {T : Type 0} → Kinds → Result T LineFault → Type 0
AnswersAs kinds (Ok x) = kinds ≡ []
AnswersAs kinds (Err (Clap e)) = IsAmong (kind_of e) kinds
AnswersAs kinds (Err Usage) = kinds ≡ []
AnswersAs kinds (Err Memory) = ⊤
