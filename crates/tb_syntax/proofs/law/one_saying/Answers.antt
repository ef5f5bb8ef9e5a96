use Rattle.tb_syntax.proofs.Sayings as sayings
use Rattle.tb_syntax.proofs.law.one_saying.Goals as goal

pub returns-clause-pattern : goal.returns-clause-pattern
returns-clause-pattern c text t u es fs said reported x y = (sayings.one_saying text t u es fs said reported x y).0

pub returns-clause-tests : goal.returns-clause-tests
returns-clause-tests c text t u es fs said reported x y = (sayings.one_saying text t u es fs said reported x y).1

pub returns-clause-literals : goal.returns-clause-literals
returns-clause-literals c text t u es fs said reported x y = (sayings.one_saying text t u es fs said reported x y).2
