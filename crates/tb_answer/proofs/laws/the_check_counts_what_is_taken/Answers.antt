use Rattle.tb_answer.proofs.laws.the_check_counts_what_is_taken.Goals as goal

pub returns : goal.returns
returns c limit body bs reply few taken = c.valid_sentences_are_counted.ensures limit body bs reply few taken.file taken.valid
