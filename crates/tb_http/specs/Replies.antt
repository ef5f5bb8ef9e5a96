-- The answers that are one line, over HTTP and on standard output: the line, the status over HTTP, and the exit status.
use Rattle.std.specs.Prelude.{ℕ, List, ◌++◌, codes, decimal, Option, Some, None}
use Rattle.tb_core.specs.declared.refusals.Refusal.{Refusal}
use Rattle.tb_core.specs.declared.refusals.Refusal.TheVariants as refusal
use Rattle.tb_core.specs.Refusals.{refusal_text}
use Rattle.tb_core.specs.Words.{state_word}
use Rattle.tb_http.specs.declared.actions.Allow.{Allow}
use Rattle.tb_http.specs.declared.asks.RequestFault.{RequestFault}
use Rattle.tb_http.specs.declared.asks.RequestFault.TheVariants as fault
use Rattle.tb_http.specs.declared.replies.Reply.{Reply}
use Rattle.tb_http.specs.declared.replies.Reply.TheVariants as reply
use Rattle.tb_http.specs.declared.status.Status.{Status}
use Rattle.tb_http.specs.declared.status.Status.TheVariants.{Ok, BadRequest, Forbidden, NotFound, MethodNotAllowed}
use Rattle.tb_http.specs.declared.status.Status.TheVariants.{Conflict, PayloadTooLarge, UnprocessableEntity}
use Rattle.tb_http.specs.declared.status.Status.TheVariants.{ServiceUnavailable, InsufficientStorage}

-- the word for a fault of a request
abbrev pub fault_word : RequestFault → List ℕ
fault_word fault.Head = codes "head"
fault_word fault.Length = codes "length"
fault_word fault.Path = codes "path"
fault_word (fault.Method allow) = codes "method"
fault_word fault.Long = codes "long"
fault_word fault.Body = codes "body"

abbrev pub fault_status : RequestFault → Status
fault_status fault.Head = BadRequest
fault_status fault.Length = BadRequest
fault_status fault.Path = NotFound
fault_status (fault.Method allow) = MethodNotAllowed
fault_status fault.Long = PayloadTooLarge
fault_status fault.Body = BadRequest

abbrev pub refusal_status : Refusal → Status
refusal_status refusal.BadName = BadRequest
refusal_status refusal.NoSuchBatch = NotFound
refusal_status refusal.NoSuchSentence = NotFound
refusal_status (refusal.WrongState state) = Conflict
refusal_status refusal.NotYours = Forbidden
refusal_status refusal.OwnWork = Forbidden
refusal_status (refusal.Stale current) = Conflict
refusal_status (refusal.Read line code) = UnprocessableEntity
refusal_status (refusal.Rule sentence rule row) = UnprocessableEntity
refusal_status refusal.Empty = UnprocessableEntity
refusal_status refusal.NotOne = UnprocessableEntity
refusal_status refusal.SentIdChanged = UnprocessableEntity
refusal_status refusal.TextChanged = UnprocessableEntity
refusal_status refusal.NothingChanged = UnprocessableEntity
refusal_status refusal.NameTaken = Conflict
refusal_status (refusal.SentIdTaken sentence) = Conflict
refusal_status refusal.Full = InsufficientStorage
refusal_status refusal.NoSuchRevision = NotFound
refusal_status (refusal.Query code number) = UnprocessableEntity
refusal_status refusal.Pulled = Conflict
refusal_status refusal.NotPulled = Conflict
refusal_status refusal.TooManyHits = UnprocessableEntity

-- the line, with its line feed
abbrev pub reply_text : Reply → List ℕ
reply_text (reply.Imported r) =
    codes "imported batch=" ++ decimal r.batch ++ codes " first=" ++ decimal r.first
    ++ codes " sentences=" ++ decimal r.sentences ++ codes " words=" ++ decimal r.words ++ codes "\n"
reply_text (reply.Moved r) =
    codes "moved batch=" ++ decimal r.batch ++ codes " state=" ++ state_word r.state
    ++ codes " sentences=" ++ decimal r.sentences ++ codes " words=" ++ decimal r.words ++ codes "\n"
reply_text (reply.Corrected r) =
    codes "corrected sentence=" ++ decimal r.sentence ++ codes " rev=" ++ decimal r.rev ++ codes " words="
    ++ decimal r.words ++ codes "\n"
reply_text (reply.Pulled r) = codes "pulled sentence=" ++ decimal r.sentence ++ codes " words=" ++ decimal r.words
    ++ codes "\n"
reply_text (reply.Restored r) =
    codes "restored sentence=" ++ decimal r.sentence ++ codes " state=" ++ state_word r.state ++ codes " words="
    ++ decimal r.words ++ codes "\n"
reply_text (reply.Refused refusal) = refusal_text refusal ++ codes "\n"
reply_text (reply.Faulty fault) = codes "refused " ++ fault_word fault ++ codes "\n"
reply_text reply.Memory = codes "refused memory\n"
reply_text reply.Device = codes "refused device\n"
reply_text reply.Desk = codes "refused desk\n"

-- the status over HTTP
abbrev pub status_of : Reply → Status
status_of (reply.Imported r) = Ok
status_of (reply.Moved r) = Ok
status_of (reply.Corrected r) = Ok
status_of (reply.Pulled r) = Ok
status_of (reply.Restored r) = Ok
status_of (reply.Refused refusal) = refusal_status refusal
status_of (reply.Faulty fault) = fault_status fault
status_of reply.Memory = ServiceUnavailable
status_of reply.Device = ServiceUnavailable
status_of reply.Desk = ServiceUnavailable

-- the exit status of a command line: 0 done, 1 refused, 3 memory or device
abbrev pub exit_of : Reply → ℕ
exit_of (reply.Imported r) = 0
exit_of (reply.Moved r) = 0
exit_of (reply.Corrected r) = 0
exit_of (reply.Pulled r) = 0
exit_of (reply.Restored r) = 0
exit_of (reply.Refused refusal) = 1
exit_of (reply.Faulty fault) = 1
exit_of reply.Memory = 3
exit_of reply.Device = 3
exit_of reply.Desk = 1

-- the methods that a reply lists
abbrev pub allow_in : Reply → Option Allow
allow_in (reply.Faulty (fault.Method allow)) = Some allow
allow_in _ = None
