use Rattle.tb_query.proofs.OneReading.{same_tests}
use Rattle.tb_query.proofs.laws.a_text_has_one_reading.Goals as goal

pub returns-clause-pattern : goal.returns-clause-pattern
returns-clause-pattern c text t u ts us p q = c.one_saying.ensures.pattern text t u p.0 q.0 p.1 q.1 p.2 q.2

pub returns-clause-tests : goal.returns-clause-tests
returns-clause-tests c text t u ts us p q =
    same_tests p.0 q.0 p.1 q.1 ts us p.3 q.3 (c.one_saying.ensures.tests text t u p.0 q.0 p.1 q.1 p.2 q.2)
    (c.one_saying.ensures.literals text t u p.0 q.0 p.1 q.1 p.2 q.2)
