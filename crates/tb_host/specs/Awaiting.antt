-- Inner: no contract beyond this crate cites a definition of this module.
-- The calls of the system with which a command waits for a file that another command has open.
use Rattle.std.specs.Prelude.{◌≡◌, ◌⊎◌, ◌≤◌, ◌++◌, ◌^◌, ◌-◌, ℕ, List, [], ◌∷◌, length, ⊤, Option, None, Some, Result, Ok, Err}
use Rattle.std.specs.Duration.{as_nanos}
use Rattle.std.specs.declared.time.Duration.{Duration}
use Rattle.sqlite_std_file.specs.declared.pair.OpenError.{OpenError}
use Rattle.tb_host.specs.Causes.{IsPathCause}
use Rattle.tb_host.specs.Patience.{IsPause}
use Rattle.tb_host.specs.declared.causes.FileCause.{FileCause}
use Rattle.tb_host.specs.declared.causes.FileCause.TheVariants as file

-- how a file is let go that was opened, and has no desk
pub data Parting : Type 0 where
  -- what opening the file has written to its log, which is at this path, was undone
  undone : (log : List ℕ) → Parting
  -- it was let go as it is
  dropped : Parting
  -- its log was written into it
  closed : Parting

pub data Call : Type 0 where
  -- a file was to be locked, which failed so, if it did
  locked : Option OpenError → Call
  -- a clock was asked how long the command has waited
  clock_read : Result Duration FileCause → Call
  paused : (nanos : ℕ) → Call

-- these calls were made after those that are kept
abbrev pub Makes : {C : Type 0} → (old new : Option (List C)) → (more : List C) → Type 0
Makes None new more = ⊤
Makes (Some before) None more = ⊥
Makes (Some before) (Some all) more = all ≡ before ++ more

-- The calls between two attempts to lock a file: the command pauses for as long as its patience says.
abbrev pub IsWait : List Call → Type 0
IsWait made = (waited : Duration) × (pause : Duration) × IsPause (as_nanos waited) (Some pause)
    × (made ≡ clock_read (Ok waited) ∷ (paused (as_nanos pause) ∷ []))

-- The calls after the last attempt: its patience is at an end, or the clock failed.
abbrev pub IsVainWait : List Call → FileCause → Type 0
IsVainWait made cause = (made ≡ clock_read (Err cause) ∷ [])
    ⊎ ((waited : Duration) × IsPause (as_nanos waited) None × (made ≡ clock_read (Ok waited) ∷ [])
    × (cause ≡ file.Busy))

-- Attempts in vain: another command has the file at each, and there is a wait after it.
pub data AreVain : List Call → Type 0 where
  none : AreVain []
  one_more : (before : List Call) (e : OpenError) (wait : List Call)
      → AreVain before → IsPathCause e None → IsWait wait → AreVain (before ++ locked (Some e) ∷ wait)

-- What the last attempt came to: the file was locked, or there is a cause.
abbrev pub EndsWaiting : List Call → Option FileCause → Type 0
EndsWaiting made None = made ≡ locked None ∷ []
EndsWaiting made (Some cause) = (e : OpenError)
    × ((IsPathCause e (Some cause) × (made ≡ locked (Some e) ∷ []))
    ⊎ (IsPathCause e None × (wait : List Call) × IsVainWait wait cause × (made ≡ locked (Some e) ∷ wait)))

-- What waiting for a file came to. After so many attempts as no command makes it is busy.
abbrev pub HasWaited : (old new : Option (List Call)) → Option FileCause → Type 0
HasWaited old new ended = (vain : List Call) × AreVain vain
    × (((last : List Call) × EndsWaiting last ended × Makes old new (vain ++ last))
    ⊎ ((2 ^ 64 - 1 ≤ length vain) × (ended ≡ Some file.Busy) × Makes old new vain))
