use Rattle.tb_words.proofs.refusals.of_large.Goals as goal

pub returns : goal.returns
returns c = record { sentence = c.words_of_query.ensures.1.2.0; page = c.words_of_query.ensures.0 }
