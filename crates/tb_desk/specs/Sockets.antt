-- Inner: no contract beyond this crate cites a definition of this module.
-- The calls of the system that a server makes at its sockets and its clock, with what came of each.
use Rattle.std.specs.Prelude.{◌≡◌, ◌⊎◌, ◌++◌, ◌≤◌, ◌+◌, ℕ, List, [], ◌∷◌, Bool, true, false, ⊤, Option, None, Some}
use Rattle.std.specs.Prelude.{Result, Ok, Err, is_ok, nat_eq, not, if◌then◌else◌}
use Rattle.std.specs.Result.{result_err}
use Rattle.std.specs.declared.io.Error.{Error}
use Rattle.std.specs.declared.net.tcp.TcpListener.{TcpListener}
use Rattle.std.specs.declared.net.tcp.TcpStream.{TcpStream}
use Rattle.std.specs.declared.time.Instant.{Instant}
use Rattle.tb_host.specs.Patience.{milliseconds}
use Rattle.tb_desk.specs.declared.arriving.Awaited.{Awaited}
use Rattle.tb_desk.specs.declared.arriving.Awaited.TheVariants.{Head, Body, Nothing}

-- what a call answers that has no value
abbrev pub Done : Type 0
Done = Result (Unit {0}) Error

pub data Call : Type 0 where
  -- whether a listener answers at once was set
  listener_set : TcpListener → (nonblocking : Bool) → Done → Call
  -- a listener was asked for a connection
  accepted : TcpListener → Result TcpStream Error → Call
  -- whether a connection answers at once was set
  stream_set : TcpStream → (nonblocking : Bool) → Done → Call
  -- for how long a connection waits for bytes was set
  read_time_set : TcpStream → (nanos : ℕ) → Done → Call
  -- the writing half of a connection was shut down
  write_shut : TcpStream → Done → Call
  clock_read : Result Instant Error → Call
  slept : (nanos : ℕ) → Call

-- these calls were made after those that are kept
abbrev pub Makes : (old new : Option (List Call)) → (more : List Call) → Type 0
Makes None new more = ⊤
Makes (Some before) None more = ⊥
Makes (Some before) (Some all) more = all ≡ before ++ more

-- The call at a new connection: where no other waits, it waits a moment for its request, else it answers at once.
abbrev pub first_call : TcpStream → (is_alone : Bool) → Done → Call
first_call stream true done = read_time_set stream (milliseconds 20) done
first_call stream false done = stream_set stream true done

-- The calls at a new connection. Once its request waits, it answers at once.
abbrev pub welcome : TcpStream → (is_alone : Bool) → Awaited → List Call
welcome stream false awaited = first_call stream false (Ok tt) ∷ []
welcome stream true Nothing = first_call stream true (Ok tt) ∷ []
welcome stream true Head = first_call stream true (Ok tt) ∷ (stream_set stream true (Ok tt) ∷ [])
welcome stream true (Body whole) = first_call stream true (Ok tt) ∷ (stream_set stream true (Ok tt) ∷ [])

-- the calls at a new connection where one of them fails: no further one is made
abbrev pub IsFailedWelcome : TcpStream → (is_alone : Bool) → Error → List Call → Type 0
IsFailedWelcome stream is_alone e made = (made ≡ first_call stream is_alone (Err e) ∷ [])
    ⊎ ((is_alone ≡ true) × (made ≡ first_call stream true (Ok tt) ∷ (stream_set stream true (Err e) ∷ [])))

-- the calls at a connection that has come; none where none has
abbrev pub IsWelcome : (came : Result TcpStream Error) → (is_alone : Bool) → List Call → Type 0
IsWelcome (Ok stream) is_alone made = ((awaited : Awaited) × (made ≡ welcome stream is_alone awaited))
    ⊎ ((e : Error) × IsFailedWelcome stream is_alone e made)
IsWelcome (Err e) is_alone made = made ≡ []

-- A listener was asked for a connection. It waits for one where no other connection waits.
pub record HasAsked (old new : Option (List Call)) (listener : TcpListener) (is_alone has_come : Bool) : Type 0 where
  pub came : Result TcpStream Error
  pub more : List Call
  pub so : has_come ≡ is_ok came
  pub welcomed : IsWelcome came is_alone more
  pub made : Makes old new (listener_set listener (not is_alone) (Ok tt) ∷ (accepted listener came ∷ more))

-- A listener failed, and nothing more was asked.
abbrev pub FailsToAsk : (old new : Option (List Call)) → TcpListener → (is_alone : Bool) → Error → Type 0
FailsToAsk old new listener is_alone e = Makes old new (listener_set listener (not is_alone) (Err e) ∷ [])
    ⊎ Makes old new (listener_set listener (not is_alone) (Ok tt) ∷ (accepted listener (Err e) ∷ []))

-- The calls at a connection whose client has its answer. The answer ends, and the client has a moment for its end. If
-- it still sends, the connection answers at once from then on.
abbrev pub farewell : TcpStream → (still_sends : Bool) → List Call
farewell stream false = write_shut stream (Ok tt) ∷ (read_time_set stream (milliseconds 20) (Ok tt) ∷ [])
farewell stream true = write_shut stream (Ok tt) ∷ (read_time_set stream (milliseconds 20) (Ok tt)
    ∷ (stream_set stream true (Ok tt) ∷ []))

-- one of these calls failed, and no further one was made
abbrev pub FailsFarewell : (old new : Option (List Call)) → TcpStream → Error → Type 0
FailsFarewell old new stream e = Makes old new (write_shut stream (Err e) ∷ [])
    ⊎ Makes old new (write_shut stream (Ok tt) ∷ (read_time_set stream (milliseconds 20) (Err e) ∷ []))
    ⊎ Makes old new (write_shut stream (Ok tt) ∷ (read_time_set stream (milliseconds 20) (Ok tt)
    ∷ (stream_set stream true (Err e) ∷ [])))

-- the pause after a look at the connections, where there is something to wait for
abbrev pub pause_if : Bool → List Call
pause_if true = slept (milliseconds 2) ∷ []
pause_if false = []

-- how many calls asked a listener for a connection where none came, and how many paused for as long as after a look
abbrev pub vain_by : Call → ℕ
vain_by (accepted listener (Err e)) = 1
vain_by _ = 0

abbrev pub vain_in : List Call → ℕ
vain_in [] = 0
vain_in (call ∷ more) = vain_by call + vain_in more

abbrev pub pauses_by : Call → ℕ
pauses_by (slept nanos) = if nat_eq nanos (milliseconds 2) then 1 else 0
pauses_by _ = 0

abbrev pub pauses_in : List Call → ℕ
pauses_in [] = 0
pauses_in (call ∷ more) = pauses_by call + pauses_in more

-- Each time that no connection came, but for the last time, a pause was made, and no other.
abbrev pub PausesInVain : (old new : Option (List Call)) → Type 0
PausesInVain old new = (made : List Call) × Makes old new made × (pauses_in made ≤ vain_in made)
    × (vain_in made ≤ pauses_in made + 1)

-- calls were made, and this one was the last of them
abbrev pub EndsBy : (old new : Option (List Call)) → Call → Type 0
EndsBy old new last = (before : List Call) × Makes old new (before ++ last ∷ [])

-- why a call failed, if it did
abbrev pub error_of : Call → Option Error
error_of (listener_set listener nonblocking done) = result_err done
error_of (accepted listener came) = result_err came
error_of (stream_set stream nonblocking done) = result_err done
error_of (read_time_set stream nanos done) = result_err done
error_of (write_shut stream done) = result_err done
error_of (clock_read time) = result_err time
error_of (slept nanos) = None

-- the last call failed so
abbrev pub FailsBy : (old new : Option (List Call)) → Error → Type 0
FailsBy old new e = (last : Call) × (error_of last ≡ Some e) × EndsBy old new last
