use Rattle.std.proofs.Common.{[], ◌∷◌, string_bytes}
use Rattle.tb_host.specs.Awaiting.{dropped, undone}
use Rattle.tb_host.proofs.Awaited.{makes_more}
use Rattle.tb_host.proofs.files.leave.Goals as goal

pub returns : goal.returns
returns g c = makes_more _ _ _ (undone (string_bytes c.args.log.now.path) ∷ []) (dropped ∷ []) c.undo.ensures c.let_go.ensures
