use Rattle.std.proofs.Common.{refl}
use Rattle.tb_store.proofs.stopping.reported_walk.Goals as goal

pub returns-in-Err : goal.returns-in-Err
returns-in-Err g c = rw c.in-Err.is (
  c.fault_of.result,
  refl,
  record {
    left = c.fault_of.ensures.left;
    found = c.fault_of.ensures.found;
    never_refuses = c.fault_of.ensures.never_refuses;
    output = c.fault_of.ensures.output;
    fails = c.fault_of.ensures.fails;
    cause = c.fault_of.ensures.cause;
  },
)
