use Rattle.std.proofs.Common.{◌∷◌, ◌++◌, [], subst, sym}
use Rattle.std.proofs.lemmas.Result.{err_from_is_err_and}
use Rattle.tb_conllu.specs.Fault.{MayWantMemory}
use Rattle.tb_conllu.specs.Left.{Left}
use Rattle.tb_conllu.proofs.Files.{from_next, from_fault, next_shorter}
use Rattle.tb_conllu.proofs.Shortage.{rest_wants}
use Rattle.tb_conllu.proofs.sentences.Sentences.read_rest.Goals as goal

pub returns-in_err-block-clause-fault : goal.returns-in_err-block-clause-fault
returns-in_err-block-clause-fault c =
    let p = err_from_is_err_and c.from_residual.result c.from_residual.ensures.1 in
    rw (p.1, p.2) (from_fault c.args.self.now c.loop-block.self c.loop-block.invariant.0 c.in_err-block.field-0.0 c.loop-block.invariant.1 c.in_err-block.ensures.fault.0)

pub loop-block-smaller : goal.loop-block-smaller
loop-block-smaller c = next_shorter c.loop-block.self c.read_next.new.self c.in-Some.block (rw c.in-Some.is at c.in_ok-block.ensures.next)

pub loop-block-preserved : goal.loop-block-preserved
loop-block-preserved c =
    (c.loop-block.invariant.0 ++ c.in-Some.block ∷ [], from_next c.args.self.now c.loop-block.self c.read_next.new.self c.loop-block.invariant.0 c.in-Some.block c.loop-block.invariant.1 (rw c.in-Some.is at c.in_ok-block.ensures.next))

pub returns-in_err-block-clause-memory : goal.returns-in_err-block-clause-memory
returns-in_err-block-clause-memory c =
    let p = err_from_is_err_and c.from_residual.result c.from_residual.ensures.1 in
    rw (p.1, p.2) (λ memory. rest_wants c.args.self.now.rest c.loop-block.invariant.0 c.loop-block.self.rest c.loop-block.invariant.1.shaped c.loop-block.invariant.1.whole (c.in_err-block.ensures.memory memory))

pub returns-in_err-block-clause-sure : goal.returns-in_err-block-clause-sure
returns-in_err-block-clause-sure c =
    let p = err_from_is_err_and c.from_residual.result c.from_residual.ensures.1 in
    rw (p.1, p.2) (λ memory. subst (λ (l : Left). MayWantMemory l.rest) (sym c.in_err-block.ensures.fault.1) (c.in_err-block.ensures.memory memory))
