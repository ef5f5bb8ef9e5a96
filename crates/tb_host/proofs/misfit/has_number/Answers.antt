use Rattle.std.proofs.Common.{refl, sym}
use Rattle.std.proofs.lemmas.Bool.{true≢false}
use Rattle.tb_host.proofs.Numbered.{no_number}
use Rattle.tb_host.proofs.misfit.has_number.Goals as goal

pub returns-in-None : goal.returns-in-None
returns-in-None c = (λ no. absurd (true≢false (sym no)), λ is. absurd (no_number c.args.row.now c.args.number (c.in-None.ensures.none refl) is))
