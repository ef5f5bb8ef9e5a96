use Rattle.std.proofs.Common.{◌≡◌, ◌∙◌, Result, Err, [], ◌∷◌, ap, map, subst, sym}
use Rattle.std.proofs.lemmas.Result.{err_from_is_err_and}
use Rattle.std.specs.Prelude.{IfErr}
use Rattle.tb_core.specs.declared.refusals.Fault.{Fault}
use Rattle.tb_core.specs.declared.refusals.Fault.TheVariants.{NotADesk}
use Rattle.tb_host.proofs.Firsts.{err_is, move_in, no_move_in}
use Rattle.tb_host.specs.Looked.{IsMoveRow}
use Rattle.tb_tables.specs.Values.{move_of}
use Rattle.tb_host.proofs.misfit.read_move.Goals as goal

pub returns-clause-right : goal.returns-clause-right
returns-clause-right c = move_in _ c.args.row.now (c.in_ok-read_moves.ensures.records ∙ ap (map move_of) c.from_ref.ensures.value)

pub returns-in_err-read_moves-clause-wrong : goal.returns-in_err-read_moves-clause-wrong
returns-in_err-read_moves-clause-wrong c =
    let p = err_from_is_err_and c.from_residual.result c.from_residual.ensures.1 in
    subst (λ (r : Result (Unit {0}) Fault). IfErr r (λ fault. fault ≡ NotADesk → ¬ IsMoveRow c.args.row.now)) (sym (p.1 ∙ ap Err p.2))
    (λ same right. c.in_err-read_moves.ensures.known (ap (λ f. Err f) same) (right.0 ∷ []) (ap (map move_of) c.from_ref.ensures.value ∙ ap (λ z. z ∷ []) right.1))

pub returns-in_err-read_moves-clause-sure : goal.returns-in_err-read_moves-clause-sure
returns-in_err-read_moves-clause-sure c off =
    let p = err_from_is_err_and c.from_residual.result c.from_residual.ensures.1 in
    let rows = ap (map move_of) c.from_ref.ensures.value in
    let same = c.in_err-read_moves.ensures.wrong (λ ms e. no_move_in c.args.row.now off ms (sym rows ∙ e)) in
    p.1 ∙ ap Err (p.2 ∙ err_is _ _ same)

pub returns-clause-sure : goal.returns-clause-sure
returns-clause-sure c off =
    let rows = ap (map move_of) c.from_ref.ensures.value in
    let same = c.in_ok-read_moves.ensures.wrong (λ ms e. no_move_in c.args.row.now off ms (sym rows ∙ e)) in
    absurd cc
