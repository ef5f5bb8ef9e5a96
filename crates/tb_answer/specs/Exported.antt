-- What an export has in a state: the batch with the given name, or released text where there is no name.
use Rattle.std.specs.Prelude.{◌≡◌, ◌⊎◌, ℕ, List, length, Option, Some, None, Result, Ok, Err, false}
use Rattle.tb_core.specs.declared.refusals.Refusal.{Refusal}
use Rattle.tb_core.specs.declared.refusals.Fault.TheVariants.{Refused}
use Rattle.tb_core.specs.Machine.{Machine, Sentence}
use Rattle.tb_core.specs.Names.{is_name}
use Rattle.tb_search.specs.Released.{released, in_batch, current_text}
use Rattle.tb_refine.specs.Finding.{HasNumber}
use Rattle.tb_store.specs.Exports.{RefusesBatch}
use Rattle.tb_http.specs.declared.replies.Reply.{Reply}
use Rattle.tb_http.specs.declared.replies.Reply.TheVariants as reply
use Rattle.tb_http.specs.declared.status.Status.{Status}
use Rattle.tb_http.specs.declared.status.Status.TheVariants as status
use Rattle.tb_http.specs.Replies.{reply_text, exit_of, status_of}
use Rattle.tb_answer.specs.declared.written.Written.{Written}
use Rattle.tb_answer.specs.declared.written.Written.TheVariants as written
use Rattle.tb_answer.specs.Commanded.{IsFailure}
use Rattle.tb_answer.specs.Responses.{reply_response, body_response}

-- the sentences of an export, in order
abbrev pub AreExported : Machine → (name : Option (List ℕ)) → List Sentence → Type 0
AreExported s None xs = xs ≡ released s
AreExported s (Some name) xs = (n : ℕ) × HasNumber s name (Some n) × (xs ≡ in_batch s n)

-- the refusal of an export; released text is never refused
abbrev pub RefusesExport : Machine → (name : Option (List ℕ)) → Refusal → Type 0
RefusesExport s None r = ⊥
RefusesExport s (Some name) r = RefusesBatch s name (Refused r)

-- What an export has in a state: the text of its sentences, or the refusal.
abbrev pub HasExport : Machine → (name : Option (List ℕ)) → Result (List ℕ) Refusal → Type 0
HasExport s name (Ok text) = (xs : List Sentence) × AreExported s name xs × (text ≡ current_text xs)
HasExport s name (Err r) = RefusesExport s name r

-- the export is of a batch by what is no name
abbrev pub IsNamedBadly : (name : Option (List ℕ)) → Type 0
IsNamedBadly None = ⊥
IsNamedBadly (Some name) = is_name name ≡ false

-- The answer in place of the text: the refusal, or a failure of the call with this cause. An export by a bad name
-- never fails.
abbrev pub IsReportedOfExport : (cause : Type 0) → Machine → (name : Option (List ℕ)) → Reply → Type 0
IsReportedOfExport cause s name reported =
    ((r : Refusal) × (reported ≡ reply.Refused r) × HasExport s name (Err r))
    ⊎ (IsFailure cause reported × (IsNamedBadly name → ⊥))

-- The text of an export on the command line, its own exit status, and the value that says what it is.
abbrev pub IsExportOutput : (cause : Type 0) → Machine → (name : Option (List ℕ)) → (text : List ℕ)
    → (own : ℕ) → Written → Type 0
IsExportOutput cause s name text own w =
    (HasExport s name (Ok text) × (own ≡ 0) × (w ≡ written.Text (length text)))
    ⊎ ((r : Reply) × IsReportedOfExport cause s name r × (text ≡ reply_text r) × (own ≡ exit_of r)
    × (w ≡ written.Reply r))

-- The response of an export in a state, and its status: 200 with the text, or that of a reply.
abbrev pub IsExportResponse : (cause : Type 0) → Machine → (name : Option (List ℕ)) → (text : List ℕ)
    → Status
    → Type 0
IsExportResponse cause s name text code =
    ((body : List ℕ) × HasExport s name (Ok body) × (text ≡ body_response None body) × (code ≡ status.Ok))
    ⊎ ((r : Reply) × IsReportedOfExport cause s name r × (text ≡ reply_response r) × (code ≡ status_of r))
