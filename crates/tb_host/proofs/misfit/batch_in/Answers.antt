use Rattle.std.proofs.Common.{◌∙◌, ap, refl, sym}
use Rattle.std.proofs.lemmas.Bool.{true≢false}
use Rattle.tb_host.proofs.Firsts.{no_some}
use Rattle.tb_tables.specs.Records.{Batch}
use Rattle.tb_host.proofs.misfit.batch_in.Goals as goal

pub returns-then-not-has_good_name-clause-none : goal.returns-then-not-has_good_name-clause-none
returns-then-not-has_good_name-clause-none c _ right = true≢false (sym right.0 ∙ sym c.if-not-has_good_name.ensures)

pub returns-in-None-clause-none : goal.returns-in-None-clause-none
returns-in-None-clause-none c _ right = no_some _ ((c.in-None.ensures right.1.state).1 (sym (ap (λ (x : Batch). x.state) right.2))) refl
