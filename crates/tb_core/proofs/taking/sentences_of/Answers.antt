use Rattle.std.proofs.Common.{◌∷◌, [], ◌++◌}
use Rattle.std.proofs.lemmas.Result.{err_from_is_err_and}
use Rattle.tb_core.proofs.Bodies.{Reading, read_refused, reading_wants, some_read, reported_refused, kept_more}
use Rattle.tb_core.proofs.taking.sentences_of.Goals as goal

pub returns-in_err-passage-clause-refused : goal.returns-in_err-passage-clause-refused
returns-in_err-passage-clause-refused c =
    let p = err_from_is_err_and c.from_residual.result c.from_residual.ensures.1 in
    rw (p.1, p.2) (read_refused c.args.body.now c.in_err-passage.field-0.0 (c.a_file_is_read_in_order.ensures.fault c.args.body.now c.loop-all.invariant.0 c.loop-all.unread c.in_err-passage.field-0.0 c.loop-all.invariant.1 c.in_err-passage.ensures.fault.0))

pub returns-in_err-passage-clause-memory : goal.returns-in_err-passage-clause-memory
returns-in_err-passage-clause-memory c =
    let p = err_from_is_err_and c.from_residual.result c.from_residual.ensures.1 in
    rw p.1 (reading_wants c.args.body.now c.loop-all.invariant.0 c.loop-all.unread c.in_err-passage.field-0.0 p.0 c.loop-all.invariant.1 c.in_err-passage.ensures.memory p.2)

pub returns-in-Err-clause-memory : goal.returns-in-Err-clause-memory
returns-in-Err-clause-memory c =
    let read = rw c.in-Some.is at c.in_ok-passage.ensures.next in λ memory.
    some_read c.args.body.now c.loop-all.invariant.0 c.loop-all.unread c.read_passage.new.self c.in-Some.passage.block c.loop-all.invariant.1 read

pub returns-in_err-push-clause-memory : goal.returns-in_err-push-clause-memory
returns-in_err-push-clause-memory c =
    let p = err_from_is_err_and c.from_residual-in_err-push.result c.from_residual-in_err-push.ensures.1 in
    let read = rw c.in-Some.is at c.in_ok-passage.ensures.next in
    rw p.1 (λ memory. some_read c.args.body.now c.loop-all.invariant.0 c.loop-all.unread c.read_passage.new.self c.in-Some.passage.block c.loop-all.invariant.1 read)

pub returns-in-Err-clause-refused : goal.returns-in-Err-clause-refused
returns-in-Err-clause-refused c =
    let bs = c.loop-all.invariant.0 in
    let read = rw c.in-Some.is at c.in_ok-passage.ensures.next in
    let laws : Reading = record {
      next = c.a_file_is_read_in_order.ensures.next;
      end = c.a_file_is_read_in_order.ensures.end;
      rest = c.a_file_is_read_in_order.ensures.rest;
      fault = c.a_file_is_read_in_order.ensures.fault;
    } in
    reported_refused laws c.a_fault_stays.ensures c.args.body.now bs c.loop-all.unread c.read_passage.new.self c.in-Some.passage.block c.in-Err.broken c.reported_first.result c.loop-all.invariant.1 read
    (c.in-Err.ensures.fault bs c.loop-all.invariant.2) c.reported_first.ensures

pub loop-all-preserved : goal.loop-all-preserved
loop-all-preserved c =
    let bs = c.loop-all.invariant.0 in
    let b = c.in-Some.passage.block in
    let read = rw c.in-Some.is at c.in_ok-passage.ensures.next in (
      bs ++ b ∷ [],
      c.a_file_is_read_in_order.ensures.next c.args.body.now bs c.loop-all.unread c.read_passage.new.self b c.loop-all.invariant.1 read,
      c.in_default-take.ensures.valid bs c.loop-all.invariant.2,
      kept_more c.loop-all.all.items c.push.new.self.items bs b c.kept.result c.loop-all.invariant.3 c.kept.ensures c.in_ok-push.ensures.items,
    )
