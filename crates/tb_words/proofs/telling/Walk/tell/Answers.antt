use Rattle.std.proofs.Common.{IfOk, subst, sym}
use Rattle.tb_check.specs.declared.fault.Fault.{Fault}
use Rattle.tb_words.proofs.ListSteps.{line_row, sentence_row}
use Rattle.tb_words.specs.Told.{TellsFault}
use Rattle.tb_words.proofs.telling.Walk.tell.Goals as goal

pub returns-in-Line-clause-told : goal.returns-in-Line-clause-told
returns-in-Line-clause-told c =
    λ file walk. subst (λ (f : Fault). IfOk c.told.result (TellsFault file c.args.self.now.lines.here.number c.args.self.now.number f))
    (sym c.in-Line.is) (line_row file c.args.self.now.lines.here.number c.args.self.now.number c.in-Line.line c.in-Line.code
    c.fault_at_line-found.result c.told.result (c.fault_at_line-found.ensures.told file walk.0) c.told.ensures.shown)

pub returns-in_ok-found-in-Rule-clause-told : goal.returns-in_ok-found-in-Rule-clause-told
returns-in_ok-found-in-Rule-clause-told c =
    λ file walk. subst (λ (f : Fault). IfOk c.told-in-Rule.result (TellsFault file c.args.self.now.lines.here.number c.args.self.now.number f))
    (sym c.in-Rule.is) (sentence_row file c.args.self.now.lines.here.number c.args.self.now.number c.in-Rule.sentence c.in-Rule.rule
    c.in-Rule.row c.in_ok-found-in-Rule.found c.told-in-Rule.result (c.in_ok-found-in-Rule.ensures.told file walk.1) c.told-in-Rule.ensures.shown)
