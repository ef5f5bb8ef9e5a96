-- Between crates: no contract of a front door cites a definition of this module.
-- How long the program waits for clients and for files. Times are nanoseconds.
use Rattle.std.specs.Prelude.{◌≡◌, ◌≤◌, ◌<◌, ◌+◌, ◌-◌, ◌*◌, ◌/◌, ℕ, Option, min, MatchOption}
use Rattle.std.specs.Prelude.{Result, Ok, Err}
use Rattle.std.specs.Duration.{as_nanos}
use Rattle.std.specs.declared.io.Error.{Error}
use Rattle.std.specs.declared.time.Duration.{Duration}

-- so many seconds
abbrev pub seconds : ℕ → ℕ
seconds n = n * 1000000000

abbrev pub milliseconds : ℕ → ℕ
milliseconds n = n * 1000000

-- What is left for the next read where all reads may take `whole` together and one may take `each`. Once `whole` is over
-- there is no other read.
abbrev pub IsReadTime : (each whole elapsed : ℕ) → Option Duration → Type 0
IsReadTime each whole elapsed left =
    MatchOption left (whole ≤ elapsed) (λ d. (elapsed < whole) × (as_nanos d ≡ min (whole - elapsed) each))

-- For how long the program still waits for a client, where so much time has passed since it looked last. More than a
-- tenth of a second between two looks is time in which it answers another.
abbrev pub wait_left : (left passed : ℕ) → ℕ
wait_left left passed = left - min passed (milliseconds 100)

-- What is left for the rest of an answer after a write of `count` bytes that took so long. Each 1,024 bytes earn a
-- millisecond, and three seconds at most are left.
abbrev pub answer_time : (left took count : ℕ) → ℕ
answer_time left took count = min (left - took + milliseconds (count / 1024)) (seconds 3)

-- how long something took, by what a clock says of it; one that fails has measured no time
abbrev pub measured : Result Duration Error → ℕ
measured (Ok took) = as_nanos took
measured (Err e) = 0

-- A command tries to open a file that another has for ten seconds. Between two attempts it pauses for 20 milliseconds,
-- after a second for 2.
abbrev pub IsPause : (waited : ℕ) → Option Duration → Type 0
IsPause waited pause = MatchOption pause (seconds 10 ≤ waited) (λ d. (waited < seconds 10)
    × (waited < seconds 1 → as_nanos d ≡ milliseconds 20) × (seconds 1 ≤ waited → as_nanos d ≡ milliseconds 2))
