use Rattle.std.proofs.Common.{Option, subst, sym}
use Rattle.std.specs.Prelude.{IsTrue}
use Rattle.tb_host.proofs.Firsts.{found_so}
use Rattle.tb_host.specs.Looked.{EndsIf, IsFirstStop, stop_in}
use Rattle.tb_host.specs.declared.misfit.Misfit.{Misfit}
use Rattle.tb_host.proofs.misfit.misfit_in.Goals as goal

pub returns : goal.returns
returns g c said is =
    subst (λ (o : Option Misfit). EndsIf (IsTrue said.may_fail) (IsFirstStop said) (stop_in o)) (sym c.found_by.ensures) (found_so (IsTrue said.may_fail) (IsFirstStop said) c.look.result (c.look.ensures said is))
