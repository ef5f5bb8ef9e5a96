-- The reply to an input that is checked, and what is asked of its source.
use Rattle.std.specs.Prelude.{ℕ, List, Option}
use Rattle.tb_check.specs.Check.{IsReplyToInput, file_limit}
use Rattle.tb_check.specs.Input.{IsAskedFor, IsInput}
use Rattle.tb_check.specs.declared.input.Input.{Input}
use Rattle.tb_check.specs.declared.reply.CheckReply.{CheckReply}

-- The reply to an input that was read: true of its bytes, or why they did not come. No more of it is taken. Where the
-- pieces that the source gives are counted, no read comes after its end.
abbrev pub IsReplyToAsked : {Why : Type 0} → (is_failure : Why → Type 0) → (unread left : Option (List ℕ))
    → (given gives : Option (List (List ℕ))) → CheckReply → Type 0
IsReplyToAsked is_failure unread left given gives reply =
    (came : Input) × IsInput is_failure file_limit unread left came × IsAskedFor file_limit given gives came
    × IsReplyToInput file_limit came reply
