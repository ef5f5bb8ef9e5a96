-- How a service ends that a line asks for: what is written, the exit status, and which cause is told. What a server
-- answers is said request by request.
use Rattle.std.specs.Prelude.{◌≡◌, ◌≢◌, ◌⊎◌, ◌++◌, ◌-◌, ◌^◌, ℕ, List, Option, Some, None, codes, decimal, ⊤}
use Rattle.std.specs.Io.KnownBytes.{Appends, Keeps}
use Rattle.std.specs.declared.io.Error.{Error}
use Rattle.tb_conllu.specs.Sunk.{AppendsPart}
use Rattle.tb_http.specs.declared.replies.Reply.TheVariants as reply
use Rattle.tb_cli.specs.Lines.{Said, serve}
use Rattle.tb_host.specs.Causes.{IsPortCause}
use Rattle.tb_desk.specs.Replies.{IsFileRefused, IsOutOfMemory, IsReplyWritten}
use Rattle.tb_host.specs.declared.causes.Cause.{Cause}
use Rattle.tb_host.specs.declared.causes.Cause.TheVariants as cause
use Rattle.tb_host.specs.declared.causes.PortCause.{PortCause}
use Rattle.tb_desk.specs.declared.service.Service.{Service}
use Rattle.tb_desk.specs.declared.serving.Beside.TheVariants as beside

-- what a line asks a server for, if it is one of `serve`
abbrev pub service_of : Said → Option Service
service_of (serve db number count) = Some record { port = number; requests = count; beside = beside.Nothing }
service_of _ = None

-- what the page asks a server for: it is served until the program is ended
abbrev pub page_service : (number : ℕ) → Service
page_service number = record { port = number; requests = 2 ^ 64 - 1; beside = beside.Page }

-- the line asks for a service, of which P holds
abbrev pub WithService : Said → (Service → Type 0) → Type 0
WithService said P = (service : Service) × (service_of said ≡ Some service) × P service

-- A listener has a port: the one that was asked for, or for port 0 one that the system chooses.
abbrev pub IsChosen : (asked number : ℕ) → Type 0
IsChosen asked number = (number ≢ 0) × (asked ≢ 0 → number ≡ asked)

-- the line with which a server says that it listens
abbrev pub listening : (number : ℕ) → List ℕ
listening number = codes "listening " ++ decimal number ++ codes "\n"

-- the system refuses this port for an error of its own
abbrev pub IsPortRefused : (number : ℕ) → PortCause → Type 0
IsPortRefused number c = (e : Error) × IsPortCause e number c

-- why a server ends before it has served as many connections as it was asked to
abbrev pub IsServerEnd : Cause → Type 0
IsServerEnd c = (c ≡ cause.FilesMoved) ⊎ (c ≡ cause.FileShut) ⊎ (c ≡ cause.NoConnections)

-- nothing is said of the cause that is told
abbrev pub untold : Option Cause → Type 0
untold told = ⊤

module _ {Reason : Type 0} (held holds : Option (List ℕ)) (is_refusal : Reason → Type 0) (status : ℕ)
    (is_told : Option Cause → Type 0) where
  -- the system refused the port, and the line for a failed device is written
  pub record IsUnbound (number : ℕ) : Type 0 where
    pub why : PortCause
    pub refused : IsPortRefused number why
    pub written : IsReplyWritten held holds is_refusal status reply.Device
    pub told : is_told (Some (cause.Port why))

  -- The line with the port was not taken, or not handed on, for one of the sink's reasons. Nothing more is written.
  pub record IsUnheard (number : ℕ) : Type 0 where
    pub part : AppendsPart held holds (listening number)
    pub why : (reason : Reason) × is_refusal reason
    pub ends : status ≡ 3
    pub told : is_told None

  -- All connections were served, and nothing more is written. Or the server ended before the last of them, and the line
  -- for a failed device is written.
  abbrev pub IsEnded : (count : ℕ) → Type 0
  IsEnded count = (Keeps held holds × (status ≡ 0) × is_told None)
      ⊎ ((c : Cause) × IsServerEnd c × (count ≢ 0) × IsReplyWritten held holds is_refusal status reply.Device
      × is_told (Some c))

module _ {Reason : Type 0} (held holds : Option (List ℕ)) (is_refusal : Reason → Type 0) (status : ℕ)
    (is_told : Option Cause → Type 0) where
  -- the line with the port was written, and then the server ended
  pub record IsHeard (number count : ℕ) : Type 0 where
    pub line : Option (List ℕ)
    pub written : Appends held line (listening number)
    pub ended : IsEnded line holds is_refusal status is_told count

  -- how a server ends that listens at this port
  abbrev pub IsServedAt : (number count : ℕ) → Type 0
  IsServedAt number count = IsUnheard held holds is_refusal status is_told number ⊎ IsHeard number count

  -- a port was chosen, and the server ends so
  pub record IsServedSomewhere (service : Service) : Type 0 where
    pub number : ℕ
    pub chosen : IsChosen service.port number
    pub served : IsServedAt number service.requests

  -- how a service ends that has the memory that it needs
  abbrev pub IsServedWith : Service → Type 0
  IsServedWith service = IsUnbound held holds is_refusal status is_told service.port ⊎ IsServedSomewhere service

  -- how a service ends: as said, or memory ran out before the server listened
  abbrev pub IsServed : Service → Type 0
  IsServed service = IsOutOfMemory held holds is_refusal status is_told ⊎ IsServedWith service

  -- how the service of a desk in a file ends: also where the file is refused
  abbrev pub IsServedInFile : Service → Type 0
  IsServedInFile service = IsFileRefused held holds is_refusal status is_told ⊎ IsServed service
