use Rattle.tb_check.proofs.Replies.{one_reply}
use Rattle.tb_check.proofs.laws.one_reply_is_true.Goals as goal

pub returns : goal.returns
returns c = one_reply (record {
  one_list = c.one_list_has_a_text.ensures;
  no_file = c.reported_bytes_are_no_file.ensures;
  one_reported = c.one_fault_is_reported.ensures;
  not_valid = c.faulty_sentences_are_not_valid.ensures;
  one_sentence = c.one_sentence_is_reported.ensures;
})
