use Rattle.std.proofs.Common.{refl, inr}
use Rattle.tb_answer.proofs.Parts.{part_of_first, part_of_second}
use Rattle.tb_answer.proofs.responses.put_response.Goals as goal

pub returns-then-not-put_piece : goal.returns-then-not-put_piece
returns-then-not-put_piece g c =
    let refused = c.if-not-put_piece.ensures.refused refl in
    inr (part_of_first _ _ c.args.head.now c.args.body.now refused.0, refused.1, refl)

pub returns-then-not-put_piece-2 : goal.returns-then-not-put_piece-2
returns-then-not-put_piece-2 g c =
    let taken = c.if-not-put_piece.ensures.taken refl in
    let refused = c.if-not-put_piece-2.ensures.refused refl in
    inr (part_of_second _ _ _ c.args.head.now c.args.body.now taken refused.0, refused.1, refl)
