-- The page of the trees of a file, and why there is none.
use Rattle.std.specs.Prelude.{◌≡◌, ◌⊎◌, ℕ, List, Bool, Option, None, ⊤}
use Rattle.tb_check.specs.Check.{IsReplyTo, file_limit, reply_text, status_of}
use Rattle.tb_check.specs.Input.{IsAskedFor, IsInput}
use Rattle.tb_check.specs.declared.input.Input.{Input}
use Rattle.tb_check.specs.declared.input.Input.TheVariants as input
use Rattle.tb_check.specs.declared.reply.CheckReply.{CheckReply}
use Rattle.tb_check.specs.declared.reply.CheckReply.TheVariants as check
use Rattle.tb_assets.specs.Trees.{trees_page}
use Rattle.tb_answer.specs.Output.{IsWritten}
use Rattle.tb_host.specs.declared.causes.Cause.{Cause}
use Rattle.tb_desk.specs.Told.{IsCheckExplainedBy, WithTold}

-- the check accepts the file, and this is the page of its trees
unfoldable pub IsDrawnFile : List ℕ → (page : List ℕ) → Type 0
IsDrawnFile file page =
    ((sentences : ℕ) × (words : ℕ) × IsReplyTo file_limit file (check.Counts sentences words)) × (page ≡ trees_page file)

-- Why the trees of a file are not drawn: its first fault, or want of memory.
abbrev pub IsUndrawnFile : List ℕ → CheckReply → Type 0
IsUndrawnFile file (check.Read line code) = IsReplyTo file_limit file (check.Read line code)
IsUndrawnFile file (check.Rule sentence rule row) = IsReplyTo file_limit file (check.Rule sentence rule row)
IsUndrawnFile file check.Memory = ⊤
IsUndrawnFile file _ = ⊥

-- the page of the trees of what was read of an input
abbrev pub IsDrawn : Input → (page : List ℕ) → Type 0
IsDrawn (input.Whole file) page = IsDrawnFile file.items page
IsDrawn _ page = ⊥

-- why there is none
abbrev pub IsUndrawn : Input → CheckReply → Type 0
IsUndrawn (input.Whole file) reply = IsUndrawnFile file.items reply
IsUndrawn input.TooLong reply = reply ≡ check.Long
IsUndrawn input.Memory reply = reply ≡ check.Memory
IsUndrawn input.Broken reply = reply ≡ check.Device

module _ {Reason : Type 0} (held holds : Option (List ℕ)) (is_refusal : Reason → Type 0) (status : ℕ)
    (is_wanted : Bool) (is_told : Option Cause → Type 0) where
  -- the page is written, or the line of why there is none, which is explained where words are wanted
  abbrev pub IsDrawingWritten : Input → Type 0
  IsDrawingWritten input =
      ((page : List ℕ) × IsDrawn input page × IsWritten held holds page 0 is_refusal status × is_told None)
      ⊎ ((reply : CheckReply) × IsUndrawn input reply
      × IsWritten held holds (reply_text reply) (status_of reply) is_refusal status
      × WithTold is_told (IsCheckExplainedBy is_wanted reply))

module _ {Why Reason : Type 0} (is_failure : Why → Type 0) (unread left : Option (List ℕ))
    (given gives : Option (List (List ℕ))) (held holds : Option (List ℕ)) (is_refusal : Reason → Type 0) (status : ℕ)
    (is_wanted : Bool) (is_told : Option Cause → Type 0) where
  -- An input of at most `file_limit` bytes is read, and its trees are drawn. No read comes after its end.
  abbrev pub AreTreesDrawn : Type 0
  AreTreesDrawn = (came : Input) × IsInput is_failure file_limit unread left came
      × IsAskedFor file_limit given gives came × IsDrawingWritten held holds is_refusal status is_wanted is_told came
