use Rattle.tb_http.specs.declared.asks.RequestFault.TheVariants.{Long}
use Rattle.tb_http.specs.declared.replies.Reply.TheVariants as reply
use Rattle.tb_desk.proofs.Telling.{explained_so}
use Rattle.tb_desk.proofs.faults.answer_input.Goals as goal

pub returns-in-TooLong : goal.returns-in-TooLong
returns-in-TooLong g c = rw c.in-TooLong.is (c.put_reply.ensures, explained_so c.args.is_wanted (reply.Faulty Long) c.explained.result c.explained.ensures.explained)
