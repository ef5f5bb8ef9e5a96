use Rattle.std.proofs.Common.{refl}
use Rattle.tb_lists.proofs.batches.line_of.Goals as goal

pub returns-in_err-name-clause-no_state : goal.returns-in_err-name-clause-no_state
returns-in_err-name-clause-no_state c none = absurd (none c.in-Some.state ((c.in-Some.ensures c.in-Some.state).0 refl))

pub returns-in_err-worker-clause-no_state : goal.returns-in_err-worker-clause-no_state
returns-in_err-worker-clause-no_state c none = absurd (none c.in-Some.state ((c.in-Some.ensures c.in-Some.state).0 refl))

pub returns-clause-no_state : goal.returns-clause-no_state
returns-clause-no_state c none = absurd (none c.in-Some.state ((c.in-Some.ensures c.in-Some.state).0 refl))
