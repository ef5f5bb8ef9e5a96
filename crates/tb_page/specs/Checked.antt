-- How the page answers the check of a text, which nobody saves.
use Rattle.std.specs.Prelude.{◌≡◌, ◌⊎◌, ℕ, List}
use Rattle.tb_http.specs.declared.replies.Reply.TheVariants.{Memory}
use Rattle.tb_http.specs.declared.status.Status.{Status}
use Rattle.tb_http.specs.declared.status.Status.TheVariants.{Ok as Done}
use Rattle.tb_http.specs.Replies.{reply_text, status_of}
use Rattle.tb_page.specs.declared.heads.Kind.TheVariants.{Plain}
use Rattle.tb_page.specs.Heads.{page_response}
use Rattle.tb_words.specs.FirstFaults.{IsFaultList}

-- how many faults are listed at most, as by `deskview check` where no number is asked for
abbrev pub most_listed : ℕ
most_listed = 100

-- The response to the check of a text: what `deskview check` prints for it, whatever its exit status, or the line of want
-- of memory.
abbrev pub IsCheckResponse : (text : List ℕ) → (response : List ℕ) → Status → Type 0
IsCheckResponse text response status =
    ((list : List ℕ) × (exit : ℕ) × IsFaultList text most_listed list exit
    × (response ≡ page_response Done Plain list) × (status ≡ Done))
    ⊎ ((response ≡ page_response (status_of Memory) Plain (reply_text Memory)) × (status ≡ status_of Memory))
