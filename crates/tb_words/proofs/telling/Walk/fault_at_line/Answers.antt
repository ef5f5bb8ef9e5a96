use Rattle.tb_words.proofs.LineSteps.{line_told}
use Rattle.tb_words.proofs.telling.Walk.fault_at_line.Goals as goal

pub returns-clause-told : goal.returns-clause-told
returns-clause-told c =
    λ file at.
    line_told file _ c.read_to-line.result _ c.args.code c.fault_of_line.result (c.read_to-line.ensures.at file at) c.read_to-line.ensures.here
    c.read_to-line.ensures.number c.fault_of_line.ensures.line c.fault_of_line.ensures.encoding c.fault_of_line.ensures.form
    c.fault_of_line.ensures.control c.fault_of_line.ensures.columns c.fault_of_line.ensures.id c.fault_of_line.ensures.space
    c.fault_of_line.ensures.head c.fault_of_line.ensures.comment c.fault_of_line.ensures.blank c.fault_of_line.ensures.end
