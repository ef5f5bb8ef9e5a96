use Rattle.std.proofs.Common.{rules, [], ◌∷◌, ◌++◌, arith}
use Rattle.std.proofs.lemmas.Result.{err_from_is_err_and}
use Rattle.tb_check.proofs.Counted.{counted_none, counted_next, counted_room, counted_smaller, counted_fault}
use Rattle.tb_check.proofs.Wanting.{counted_wants}
use Rattle.tb_check.proofs.check.survey_file.Goals as goal

pub returns-in_err-block-clause-fault : goal.returns-in_err-block-clause-fault
returns-in_err-block-clause-fault c =
    let fault = counted_fault c.fault_after_sentences.ensures c.args.file.now c.loop-checker.unread _ _ c.loop-checker.invariant.0 c.in_err-block.field-0.0 c.loop-checker.invariant.1 c.in_err-block.ensures.fault.0 in
    search (rules, fault)

pub returns-in_err-block-clause-memory : goal.returns-in_err-block-clause-memory
returns-in_err-block-clause-memory c =
    let p = err_from_is_err_and c.from_residual.result c.from_residual.ensures.1 in
    rw (p.1, p.2) (counted_wants c.args.file.now c.loop-checker.unread _ _ c.loop-checker.invariant.0 c.in_err-block.field-0.0 c.loop-checker.invariant.1 c.in_err-block.ensures.memory)

pub overflow_add-found : goal.overflow_add-found
overflow_add-found c =
    let read = rw c.in-Some.is at c.in_ok-block.ensures.next in
    let room = counted_room c.args.file.now c.loop-checker.unread c.read_next.new.self _ _ c.loop-checker.invariant.0 c.in-Some.block c.loop-checker.invariant.1 read.text in
    omega (arith, room.0)

pub overflow_add-found-in-Some : goal.overflow_add-found-in-Some
overflow_add-found-in-Some c =
    let read = rw c.in-Some.is at c.in_ok-block.ensures.next in
    let room = counted_room c.args.file.now c.loop-checker.unread c.read_next.new.self _ _ c.loop-checker.invariant.0 c.in-Some.block c.loop-checker.invariant.1 read.text in
    omega (arith, room.1, c.words.ensures)

pub loop-checker-smaller : goal.loop-checker-smaller
loop-checker-smaller c =
    let read = rw c.in-Some.is at c.in_ok-block.ensures.next in
    counted_smaller c.loop-checker.unread c.read_next.new.self c.in-Some.block read.text

pub loop-checker-init : goal.loop-checker-init
loop-checker-init c = ([], counted_none c.args.file.now c.new-unread.result c.new-unread.ensures, c.new-checker.ensures)

pub loop-checker-preserved : goal.loop-checker-preserved
loop-checker-preserved c =
    let read = rw c.in-Some.is at c.in_ok-block.ensures.next in
    (c.loop-checker.invariant.0 ++ c.in-Some.block ∷ [], counted_next c.args.file.now c.loop-checker.unread c.read_next.new.self _ _ c.loop-checker.invariant.0 c.in-Some.block c.words.result c.words.ensures c.loop-checker.invariant.1 read.shaped read.text read.place, c.ask-found.ensures.asked c.loop-checker.invariant.0 c.loop-checker.invariant.2)
