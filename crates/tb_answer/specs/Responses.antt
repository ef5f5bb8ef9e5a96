-- The response of a call over HTTP, its head and its body, and what a sink holds of it.
use Rattle.std.specs.Prelude.{◌≡◌, ◌⊎◌, ℕ, List, ◌++◌, length, Option, Some, None, IsTrue}
use Rattle.std.specs.Io.KnownBytes.{Appends}
use Rattle.sqlite.specs.Store.{Ghosts}
use Rattle.sqlite.specs.Held.{state}
use Rattle.tb_conllu.specs.Sunk.{AppendsPart}
use Rattle.tb_core.specs.declared.limits.Limits.{Limits}
use Rattle.tb_core.specs.Machine.{Machine}
use Rattle.tb_http.specs.declared.heads.Extra.{Extra}
use Rattle.tb_http.specs.declared.heads.Extra.TheVariants as extra
use Rattle.tb_http.specs.declared.replies.Reply.{Reply}
use Rattle.tb_http.specs.declared.status.Status.{Status}
use Rattle.tb_http.specs.declared.status.Status.TheVariants.{Ok}
use Rattle.tb_http.specs.Heads.{head_text, reply_head}
use Rattle.tb_http.specs.Replies.{reply_text, status_of}
use Rattle.tb_store.specs.Kept.{Kept}
use Rattle.tb_store.specs.Represents.{Represents}
use Rattle.tb_answer.specs.Commanded.{HasFailed, IsAnswered}
use Rattle.tb_answer.specs.Asked.{IsBody, IsReportedOf}
use Rattle.tb_answer.specs.Calls.{CallText, commands, asks}
use Rattle.tb_search.specs.Visited.{HasReason}

-- the response whose body is a reply's line
abbrev pub reply_response : Reply → List ℕ
reply_response r = reply_head r ++ reply_text r

-- the header with the number of a current revision
abbrev pub extra_of_revision : Option ℕ → Extra
extra_of_revision None = extra.Nothing
extra_of_revision (Some rev) = extra.Revision rev

-- the response whose body is a text, and its head
abbrev pub body_head : (rev : Option ℕ) → (body : List ℕ) → List ℕ
body_head rev body = head_text Ok (Some (length body)) (extra_of_revision rev)

abbrev pub body_response : (rev : Option ℕ) → (body : List ℕ) → List ℕ
body_response rev body = body_head rev body ++ body

-- The response of a call in a state, and its status: that of a reply, or 200 with the text of a question.
abbrev pub IsResponse : {S : Type 0} → Ghosts S → Limits → Machine → CallText → (old new : Kept S)
    → (text : List ℕ) → Status → Type 0
IsResponse g l s (commands c) old new text status = (r : Reply) × IsAnswered g l s c old new r
    × (text ≡ reply_response r) × (status ≡ status_of r)
IsResponse g l s (asks q) old new text status =
    (IsTrue (state g new.conn).is_open → Represents g new s)
    × (((rev : Option ℕ) × (body : List ℕ) × IsBody s q rev body × (text ≡ body_response rev body)
    × (status ≡ Ok))
    ⊎ ((r : Reply) × IsReportedOf (HasFailed g old new) s q r × (text ≡ reply_response r)
    × (status ≡ status_of r)))

-- The text was written whole, and its status is reported. Or the sink refused it for one of its reasons, and holds a
-- first part of it.
abbrev pub IsSent : {Reason : Type 0} → (old new : Option (List ℕ)) → (text : List ℕ) → Status
    → (Reason → Type 0) → (reported : Option Status) → Type 0
IsSent old new text status is_refusal reported =
    (Appends old new text × (reported ≡ Some status)) ⊎ (AppendsPart old new text × HasReason is_refusal
    × (reported ≡ None))
