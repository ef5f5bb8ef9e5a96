-- Inner: no contract beyond this crate cites a definition of this module.
-- Which of the waiting connections is dropped to make room for another, how large their buffers may grow, and when the
-- server last looked at them.
use Rattle.std.specs.Prelude.{◌≡◌, ◌≢◌, ◌⊎◌, ◌-◌, ◌≤◌, ◌<◌, ◌^◌, ℕ, List, [], ◌∷◌, drop, get_or, length, max, take}
use Rattle.std.specs.Prelude.{◌++◌, Option, None, Some, Ok, Err, ⊤, Bool, true, false, IsSomeAnd, vec_len}
use Rattle.std.specs.declared.io.Error.{Error}
use Rattle.std.specs.declared.net.tcp.TcpStream.{TcpStream}
use Rattle.std.specs.List.{AllWithin, HoldsAt, remove, sum_by}
use Rattle.std.specs.Time.{instant_nanos}
use Rattle.std.specs.declared.time.Instant.{Instant}
use Rattle.std.specs.Duration.{as_nanos}
use Rattle.tb_http.specs.Asks.{body_limit}
use Rattle.tb_host.specs.Patience.{wait_left}
use Rattle.tb_desk.specs.Sockets.{Call, EndsBy, FailsFarewell, Makes, clock_read, farewell, stream_set}
use Rattle.tb_desk.specs.declared.arriving.Awaited.TheVariants.{Head, Nothing}
use Rattle.tb_desk.specs.declared.callers.Caller.{Caller}
use Rattle.tb_desk.specs.declared.leaving.Leaver.{Leaver}
use Rattle.tb_desk.specs.declared.waiting.Next.{Next}
use Rattle.tb_desk.specs.declared.waiting.Next.TheVariants.{Whole, Late, Broken}

-- The connection at this place goes first: the oldest of those that have sent no head, or the oldest where all have.
abbrev pub IsFirstToGo : List Caller → ℕ → Type 0
IsFirstToGo callers at =
    ((at < length callers) × HoldsAt (λ c. c.awaited ≡ Head) callers at
    × AllWithin (λ c. c.awaited ≢ Head) callers 0 at)
    ⊎ ((at ≡ 0) × AllWithin (λ c. c.awaited ≢ Head) callers 0 (length callers))

-- one of the connections is dropped, and the others stay in their order
abbrev pub LetsOneGo : (old new : List Caller) → Type 0
LetsOneGo old new = (at : ℕ) × IsFirstToGo old at × (new ≡ remove old at)

-- how many nanoseconds ago the server looked, none where it did not
abbrev pub time_since : (looked : Option Instant) → (now : Instant) → ℕ
time_since None now = 0
time_since (Some looked) now = instant_nanos now - instant_nanos looked

-- its request is not whole, and the time for what is awaited is over
abbrev pub IsLate : Caller → Type 0
IsLate c = (c.awaited ≢ Nothing) × (as_nanos c.left ≡ 0)

-- its request is not whole, and there is time
abbrev pub Waits : Caller → Type 0
Waits c = (c.awaited ≢ Nothing) × (as_nanos c.left ≢ 0)

-- A connection whose request is whole is served, and what is answered may wait for the client. It is not where the
-- system refuses that, nor is one whose time is over.
abbrev pub IsNext : (old new : Option (List Call)) → (caller : Caller) → (is_whole : Bool) → Next → Type 0
IsNext old new caller is_whole (Whole served) = (served ≡ caller) × (is_whole ≡ true)
    × Makes old new (stream_set caller.stream false (Ok tt) ∷ [])
IsNext old new caller is_whole (Late dropped) = (dropped ≡ caller) × (is_whole ≡ false) × Makes old new []
IsNext old new caller is_whole (Broken error) = (is_whole ≡ true)
    × Makes old new (stream_set caller.stream false (Err error) ∷ [])

-- the last call before a connection no longer waits: what is answered to it may wait for the client
abbrev pub IsLetGo : (old new : Option (List Call)) → Next → Type 0
IsLetGo old new (Whole served) = EndsBy old new (stream_set served.stream false (Ok tt))
IsLetGo old new (Late dropped) = ⊤
IsLetGo old new (Broken error) = (stream : TcpStream) × EndsBy old new (stream_set stream false (Err error))

-- a connection is served where its request is whole, and dropped where its time is over
abbrev pub NoLongerWaits : Next → Type 0
NoLongerWaits (Whole served) = served.awaited ≡ Nothing
NoLongerWaits (Late dropped) = IsLate dropped
NoLongerWaits (Broken error) = ⊤

-- A look at a connection so many nanoseconds after the last one: the time for the part that is awaited is less by them,
-- where it was awaited before, and there is room for it.
abbrev pub Ages : (passed : ℕ) → (old new : Caller) → Type 0
Ages passed old new = (old.awaited ≢ Head) ⊎ (new.awaited ≡ Head) → new.awaited ≢ Nothing → new.is_held ≡ false
    → as_nanos new.left ≡ wait_left (as_nanos old.left) passed

-- each of the first connections was looked at so
abbrev pub AgeTo : (passed : ℕ) → (old new : List Caller) → (count : ℕ) → Type 0
AgeTo passed old new count = (k : ℕ) → (d : Caller) → k < count → Ages passed (get_or old k d) (get_or new k d)

-- a connection whose client has its answer: its time is less by so many nanoseconds, and some is left
abbrev pub StaysInTime : (passed : ℕ) → (old new : Leaver) → Type 0
StaysInTime passed old new = (as_nanos new.left ≡ wait_left (as_nanos old.left) passed) × (as_nanos new.left ≢ 0)

-- a connection was added to those that end; where too many do, the first of them was closed
abbrev pub IsAdded : (capacity : ℕ) → Leaver → (old new : List Leaver) → Type 0
IsAdded capacity leaver old new = (length old < 256 → length old < capacity → new ≡ old ++ leaver ∷ [])
    × (256 ≤ length old → new ≡ drop 1 old ++ leaver ∷ [])

-- The connection of a client that has its answer was ended. If its client still sends, it is one of those that end.
abbrev pub IsParted : (old new : Option (List Call)) → TcpStream → (capacity : ℕ) → (before after : List Leaver)
    → Type 0
IsParted old new stream capacity before after =
    (Makes old new (farewell stream false) × (after ≡ before))
    ⊎ ((e : Error) × FailsFarewell old new stream e × (after ≡ before))
    ⊎ ((leaver : Leaver) × (leaver.stream ≡ stream) × Makes old new (farewell stream true)
    × IsAdded capacity leaver before after)

-- the clock was read, and shows when the server last looked
abbrev pub IsClockRead : (old new : Option (List Call)) → (looked : Option Instant) → (more : List Call) → Type 0
IsClockRead old new looked more = IsSomeAnd looked (λ now. Makes old new (clock_read (Ok now) ∷ more))

-- a connection whose client has its answer still has time for its end
abbrev pub HasTime : Leaver → Type 0
HasTime leaver = as_nanos leaver.left ≢ 0

-- Some of these connections stay, in their order, each of them in time.
abbrev pub StayInTime : (passed : ℕ) → (old new : List Leaver) → Type 0
StayInTime passed [] new = new ≡ []
StayInTime passed (l ∷ more) new = StayInTime passed more new ⊎ ((m : Leaver) × (rest : List Leaver)
    × (new ≡ m ∷ rest) × StaysInTime passed l m × StayInTime passed more rest)

-- how many bytes the buffer of a connection has beyond those for a head
abbrev pub kept_of : Caller → ℕ
kept_of c = vec_len c.room - 8192

-- how many the buffers of these have together
abbrev pub kept_by : List Caller → ℕ
kept_by callers = sum_by kept_of callers

-- The buffer of the oldest connection grows to that of the longest body at most, and those of all others together to
-- 12 MiB at most.
abbrev pub KeepsRoom : (old new : List Caller) → Type 0
KeepsRoom old new = (kept_by (take 1 new) ≤ max (kept_by (take 1 old)) body_limit)
    × (kept_by old < 2 ^ 63 → kept_by (drop 1 new) ≤ max (kept_by (drop 1 old)) 12582912)
