use Rattle.std.proofs.Common.{ap, rules, subst, sym, ◌∙◌}
use Rattle.tb_words.proofs.LineSteps.{line_told}
use Rattle.tb_words.specs.Explained.{BeginWith}
use Rattle.tb_words.specs.Shown.{finding_text}
use Rattle.tb_words.specs.declared.words.Words.{Words}
use Rattle.tb_words.proofs.telling.words_of_line.Goals as goal

pub returns-clause-said : goal.returns-clause-said
returns-clause-said c = (
  c.fault_of_line-fault.result,
  line_told c.args.file.now _ c.read_to-line.result c.args.number c.args.code c.fault_of_line-fault.result
      (c.read_to-line.ensures.at c.args.file.now c.new.ensures.at) c.read_to-line.ensures.here (search rules) c.fault_of_line-fault.ensures.line
      c.fault_of_line-fault.ensures.encoding c.fault_of_line-fault.ensures.form c.fault_of_line-fault.ensures.control
      c.fault_of_line-fault.ensures.columns c.fault_of_line-fault.ensures.id c.fault_of_line-fault.ensures.space
      c.fault_of_line-fault.ensures.head c.fault_of_line-fault.ensures.comment c.fault_of_line-fault.ensures.blank
      c.fault_of_line-fault.ensures.end,
  ap (λ (w : Words). w.sentence.now) c.on.ensures ∙ c.words.ensures.sentence,
  subst (λ (w : Words). BeginWith w (finding_text c.fault_of_line-fault.result)) (sym c.on.ensures) c.words.ensures.place,
)
