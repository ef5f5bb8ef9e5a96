use Rattle.std.proofs.Common.{subst}
use Rattle.tb_host.specs.Contents.{IsReserved}
use Rattle.tb_host.proofs.Unlisted.{not_reserved}
use Rattle.tb_host.proofs.looking.file_at.Goals as goal

pub returns-then-is_no_path-clause-empty : goal.returns-then-is_no_path-clause-empty
returns-then-is_no_path-clause-empty g c empty = absurd (not_reserved (subst IsReserved empty (c.is_no_path.ensures.0 c.if-is_no_path.true)))
