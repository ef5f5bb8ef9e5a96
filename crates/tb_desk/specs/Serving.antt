-- Inner: no contract beyond this crate cites a definition of this module.
-- What a server decides without the system: where it listens, what it serves beside the desk, how many connections may
-- wait, and which errors of a connection say that there is nothing yet.
use Rattle.std.specs.Prelude.{◌≡◌, ◌≢◌, ◌⊎◌, ◌==◌, ℕ, ℤ, pos, List, [], ◌∷◌, ◌++◌, codes, decimal, Bool, true, false, not}
use Rattle.std.specs.Prelude.{Option, Some, None, Result, Ok, Err, if◌then◌else◌}
use Rattle.std.specs.IoError.{error_kind}
use Rattle.std.specs.declared.io.Error.{Error}
use Rattle.std.specs.declared.io.ErrorKind.{ErrorKind}
use Rattle.std.specs.declared.io.ErrorKind.TheVariants as kind
use Rattle.tb_conllu.specs.Pieces.{AskedFor}
use Rattle.tb_http.specs.Asks.{body_limit}
use Rattle.tb_http.specs.Faults.{AwaitsMore, IsAtMostOne, TakenAfter}
use Rattle.tb_http.specs.declared.status.Status.{Status}
use Rattle.tb_answer.specs.declared.answering.Broken.{Broken}
use Rattle.tb_answer.specs.declared.answering.Broken.TheVariants as broken
use Rattle.tb_host.specs.declared.causes.Cause.{Cause}
use Rattle.tb_host.specs.declared.causes.Cause.TheVariants as cause
use Rattle.tb_desk.specs.declared.serving.Beside.{Beside}
use Rattle.tb_desk.specs.declared.serving.Beside.TheVariants as beside

-- the address of this machine for its own programs alone (RFC 1122, section 3.2.1.3)
abbrev pub loopback : List ℕ
loopback = 127 ∷ 0 ∷ 0 ∷ 1 ∷ []

-- the line that says where the page is
abbrev pub page_line : (port : ℕ) → List ℕ
page_line port = codes "deskview: open http://127.0.0.1:" ++ decimal port ++ codes "/ in a browser"

-- the place of a fault at a port
abbrev pub port_place : (port : ℕ) → List ℕ
port_place port = codes "port " ++ decimal port

-- What follows from an answer: whether the client has it whole, or why the server ends.
abbrev pub ended_by : Result Status Broken → (has_moved is_shut : Bool) → Result Bool Cause
ended_by (Ok status) moved true = Err cause.FileShut
ended_by (Ok status) moved false = Ok true
ended_by (Err broken.Read) true shut = Err cause.FilesMoved
ended_by (Err broken.Read) false shut = Ok false
ended_by (Err broken.Write) moved shut = Ok false

-- The reader of a request is read while a part of it is missing, and at most one request is taken. Of a reader that
-- failed it is not said which reads were made.
abbrev pub ReadsOne : (pieces rest : Option (List (List ℕ))) → (unread left : Option (List ℕ)) → Result Status Broken
    → Type 0
ReadsOne pieces rest unread left result =
    (result ≢ Err broken.Read → (taken : List ℕ) × AskedFor (AwaitsMore body_limit) [] pieces rest taken)
    × TakenAfter [] unread left (IsAtMostOne body_limit)

-- the port of the page, for a server at this port that has one
abbrev pub page_at : Beside → (port : ℕ) → Option ℕ
page_at beside.Nothing port = None
page_at beside.Page port = Some port

-- how many connections may wait
abbrev pub most_waiting : ℕ
most_waiting = 256

-- no connection has come, or one that has closed again
abbrev pub is_no_connection : ErrorKind → Bool
is_no_connection kind.WouldBlock = true
is_no_connection kind.Interrupted = true
is_no_connection kind.ConnectionAborted = true
is_no_connection _ = false

-- no byte has come over a connection
abbrev pub is_no_byte : ErrorKind → Bool
is_no_byte kind.WouldBlock = true
is_no_byte kind.TimedOut = true
is_no_byte kind.Interrupted = true
is_no_byte _ = false

-- Whether a client sends nothing more, by a read of its connection. A read of some bytes says nothing.
abbrev pub end_after : (came : Result ℕ Error) → Option Bool
end_after (Ok count) = if count == 0 then Some true else None
end_after (Err e) = Some (not (is_no_byte (error_kind e)))

-- The system has no room for another connection, by the error number: ENOMEM, ENFILE, EMFILE or ENOBUFS.
abbrev pub IsWantOfRoom : (number : Option ℤ) → Bool → Type 0
IsWantOfRoom number true = (number ≡ Some (pos 12)) ⊎ (number ≡ Some (pos 23)) ⊎ (number ≡ Some (pos 24))
    ⊎ (number ≡ Some (pos 105))
IsWantOfRoom number false = (number ≢ Some (pos 12)) × (number ≢ Some (pos 23)) × (number ≢ Some (pos 24))
    × (number ≢ Some (pos 105))
