use Rattle.tb_check.proofs.Read.{taken_reply}
use Rattle.tb_check.proofs.laws.the_reply_to_what_is_taken_is_true.Goals as goal

pub returns : goal.returns
returns g c = λ source limit unread left given gives reply. taken_reply (g.R.Source.IsFailure source) limit unread left given gives reply
