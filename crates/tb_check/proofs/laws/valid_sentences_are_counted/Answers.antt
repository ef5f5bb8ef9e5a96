use Rattle.tb_check.proofs.Replies.{counted_whole}
use Rattle.tb_check.proofs.laws.valid_sentences_are_counted.Goals as goal

pub returns : goal.returns
returns c = counted_whole c.one_reply_is_true.ensures
