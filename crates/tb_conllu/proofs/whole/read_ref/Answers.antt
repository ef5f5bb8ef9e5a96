use Rattle.std.proofs.lemmas.Result.{err_from_is_err_and}
use Rattle.tb_conllu.proofs.Files.{read_fault, only_memory, read_all, only_these, next_shorter}
use Rattle.tb_conllu.proofs.Shortage.{next_wants, rest_wants, some_byte}
use Rattle.tb_conllu.proofs.whole.read_ref.Goals as goal

pub returns-in_err-block-clause-reported : goal.returns-in_err-block-clause-reported
returns-in_err-block-clause-reported c =
    let p = err_from_is_err_and c.from_residual.result c.from_residual.ensures.1 in
    rw (p.1, p.2) (read_fault c.args.bytes.now c.loop-all.all.items c.loop-all.left c.in_err-block.field-0.0 c.loop-all.invariant c.in_err-block.ensures.fault.0)

pub returns-in_err-block-clause-only : goal.returns-in_err-block-clause-only
returns-in_err-block-clause-only c bs file =
    let p = err_from_is_err_and c.from_residual.result c.from_residual.ensures.1 in
    rw (p.1, p.2) (only_memory c.args.bytes.now c.in_err-block.field-0.0 (read_fault c.args.bytes.now c.loop-all.all.items c.loop-all.left c.in_err-block.field-0.0 c.loop-all.invariant c.in_err-block.ensures.fault.0) bs file)

pub loop-all-smaller : goal.loop-all-smaller
loop-all-smaller c = next_shorter c.loop-all.left c.read_next.new.self c.in-Some.block (rw c.in-Some.is at c.in_ok-block.ensures.next)

pub returns-clause-only : goal.returns-clause-only
returns-clause-only c =
    let none = rw c.in_default.is at c.in_ok-block.ensures.next in
    only_these c.args.bytes.now c.loop-all.all.items (read_all c.args.bytes.now c.loop-all.all.items c.loop-all.left c.loop-all.invariant none.0)

pub returns-in_err-block-clause-memory : goal.returns-in_err-block-clause-memory
returns-in_err-block-clause-memory c =
    let p = err_from_is_err_and c.from_residual.result c.from_residual.ensures.1 in
    rw (p.1, p.2) (λ memory. rest_wants c.args.bytes.now c.loop-all.all.items c.loop-all.left.rest c.loop-all.invariant.shaped c.loop-all.invariant.whole (c.in_err-block.ensures.memory memory))

pub returns-in_err-push-clause-reported : goal.returns-in_err-push-clause-reported
returns-in_err-push-clause-reported c =
    let p = err_from_is_err_and c.from_residual-in_err-push.result c.from_residual-in_err-push.ensures.1 in
    rw (p.1, p.2) (some_byte c.args.bytes.now (rest_wants c.args.bytes.now c.loop-all.all.items c.loop-all.left.rest c.loop-all.invariant.shaped c.loop-all.invariant.whole (next_wants c.loop-all.left c.read_next.new.self c.in-Some.block (rw c.in-Some.is at c.in_ok-block.ensures.next))))

pub returns-in_err-push-clause-memory : goal.returns-in_err-push-clause-memory
returns-in_err-push-clause-memory c =
    let p = err_from_is_err_and c.from_residual-in_err-push.result c.from_residual-in_err-push.ensures.1 in
    rw p.1 (λ _. rest_wants c.args.bytes.now c.loop-all.all.items c.loop-all.left.rest c.loop-all.invariant.shaped c.loop-all.invariant.whole (next_wants c.loop-all.left c.read_next.new.self c.in-Some.block (rw c.in-Some.is at c.in_ok-block.ensures.next)))
