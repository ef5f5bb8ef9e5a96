use Rattle.std.proofs.Common.{refl}
use Rattle.tb_words.proofs.Steps.{next_line_read}
use Rattle.tb_words.proofs.places.Lines.read_next.Goals as goal

pub returns-clause-at : goal.returns-clause-at
returns-clause-at c =
    λ file at. next_line_read file _ _ at refl c.next_line.ensures.line refl c.next_line.ensures.left
