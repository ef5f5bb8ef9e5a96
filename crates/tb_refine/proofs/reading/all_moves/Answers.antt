use Rattle.std.proofs.Common.{◌≡◌, map, ap, ◌∙◌, rules}
use Rattle.tb_tables.specs.Values.{move_of}
use Rattle.tb_refine.proofs.Numbering.{moves_are_numbered, same_moves}
use Rattle.tb_refine.proofs.DeskReads.{read_made, read_stopped}
use Rattle.tb_refine.proofs.There.{both_ok}
use Rattle.tb_refine.proofs.reading.all_moves.Goals as goal

pub returns-clause-answered : goal.returns-clause-answered
returns-clause-answered g c clean = both_ok c.read_moves.result c.read_moves.ensures.records c.read_moves.ensures.numbers (λ v records numbers s desk.
    let rows : c.as_slice.result.now ≡ c.in_ok-rows.rows.items = search rules in
    same_moves 1 v.items s.moves numbers (moves_are_numbered s desk.reachable.reached) (records ∙ ap (map move_of) rows ∙ c.in_ok-rows.ensures.answered clean s desk))

pub returns-in_err-rows-clause-read : goal.returns-in_err-rows-clause-read
returns-in_err-rows-clause-read g c =
    read_stopped c.from_residual.result c.in_err-rows.field-0.0 c.from_residual.ensures.1 c.in_err-rows.ensures.read (λ clean s desk fails on. on fails)

pub returns-clause-read : goal.returns-clause-read
returns-clause-read g c =
    read_made c.read_moves.result c.in_ok-rows.ensures.read.read_only c.read_moves.ensures.never_refuses c.read_moves.ensures.output c.read_moves.ensures.cause (λ clean unlimited s desk bad.
    let rows : c.as_slice.result.now ≡ c.in_ok-rows.rows.items = search rules in
    c.read_moves.ensures.known bad s.moves (ap (map move_of) rows ∙ c.in_ok-rows.ensures.answered clean s desk))
