use Rattle.std.proofs.Common.{◌≡◌, ◌≢◌}
use Rattle.tb_core.specs.declared.refusals.Fault.TheVariants.{NotADesk}
use Rattle.tb_host.proofs.Firsts.{err_is, found_more}
use Rattle.tb_host.specs.Looked.{IsMoveRow}
use Rattle.tb_host.specs.declared.misfit.Misfit.TheVariants as wrong
use Rattle.tb_host.specs.declared.misfit.Table.TheVariants.{Moves}
use Rattle.tb_host.proofs.misfit.look_at_move.Goals as goal

pub returns-in-Err-clause-wrong : goal.returns-in-Err-clause-wrong
returns-in-Err-clause-wrong c =
    found_more (c.in-Err.fault ≢ NotADesk) (¬ ¬ IsMoveRow c.args.row.now) (λ m. (m ≡ wrong.Row Moves c.args.number) × (c.in-Err.fault ≡ NotADesk)) (λ m. (m ≡ wrong.Row Moves c.args.number) × (¬ IsMoveRow c.args.row.now)) c.stop_of_fault.result c.stop_of_fault.ensures.found
    (λ other off. other (err_is c.in-Err.fault NotADesk (c.in-Err.ensures.sure off)))
    (λ m h. (h.0, c.in-Err.ensures.wrong h.1))
