use Rattle.std.proofs.Common.{lit≤}
use Rattle.sqlite.specs.Steps.{over_memory}
use Rattle.sqlite.proofs.Callers.{memory_is_clean}
use Rattle.tb_store.proofs.Beginning.{empty_is_blank, memory_left}
use Rattle.tb_store.proofs.memory.Desk+MemStore.in_memory.Goals as goal

pub returns-in-Ok-clause-represents : goal.returns-in-Ok-clause-represents
returns-in-Ok-clause-represents c = c.in-Ok.ensures.made (memory_is_clean c.in-Ok.desk.conn) (empty_is_blank over_memory c.in_ok-conn.conn c.in_ok-conn.ensures.empty)

-- a store in memory is open, and counts no fault
pub returns-clause-known : goal.returns-clause-known
returns-clause-known c =
    let blank = empty_is_blank over_memory c.in_ok-conn.conn c.in_ok-conn.ensures.empty in
    let device = c.in-Err.ensures.cause blank (memory_is_clean c.in-Err.field-0.conn) (blank.is_open, lit≤ tt, lit≤ tt) in
    memory_left c.in-Err.field-0.fault (λ is. c.in-Err.ensures.used.0 is blank.schema) device c.in-Err.ensures.known
