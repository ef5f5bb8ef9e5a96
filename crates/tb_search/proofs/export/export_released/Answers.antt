use Rattle.tb_search.specs.Released.{released}
use Rattle.tb_search.proofs.Copied.{all_copied, cut_short, copied_fault}
use Rattle.tb_search.proofs.Visiting.{if_put, if_cut}
use Rattle.tb_search.proofs.export.export_released.Goals as goal

pub returns-clause-put : goal.returns-clause-put
returns-clause-put g c clean = if_put c.visit_released.result (λ reported s desk. all_copied g.W.Sink.held (released s) _ c.args.out.now _ c.visit_released.new.filled (reported s desk)) (c.visit_released.ensures.taken clean)

pub returns-clause-part : goal.returns-clause-part
returns-clause-part g c clean = if_cut c.visit_released.result (λ e reported s desk. cut_short g.W.Sink.held (released s) _ c.args.out.now e c.visit_released.new.filled (reported s desk)) (c.visit_released.ensures.halted clean)

pub returns-clause-read : goal.returns-clause-read
returns-clause-read g c = record {
  fault = λ clean. if_cut c.visit_released.result (λ e reported s desk. copied_fault g.W.Sink.held (released s) _ c.args.out.now e c.visit_released.new.filled (reported s desk)) (c.visit_released.ensures.halted clean);
  fails = c.visit_released.ensures.fails;
  cause = c.visit_released.ensures.cause;
  read_only = c.visit_released.ensures.read_only;
}
