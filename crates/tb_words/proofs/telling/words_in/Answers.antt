use Rattle.tb_words.proofs.telling.words_in.Goals as goal

pub returns : goal.returns
returns c = (
  c.in_ok-placed.placed,
  c.in_ok-fault.fault,
  c.in_ok-placed.ensures,
  c.in_ok-fault.ensures,
  c.words.ensures.sentence,
  c.words.ensures.place,
)
