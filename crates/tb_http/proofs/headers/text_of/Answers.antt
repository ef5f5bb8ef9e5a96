use Rattle.std.proofs.Common.{◌∙◌}
use Rattle.tb_http.proofs.Texts.{text, no_text}
use Rattle.tb_http.proofs.headers.text_of.Goals as goal

pub returns-in-Ok : goal.returns-in-Ok
returns-in-Ok c = c.in-Ok.ensures.cases.0 ∙ text _ c.in-Ok.ensures.cases.1

pub returns-in-Err : goal.returns-in-Err
returns-in-Err c = no_text _ c.in-Err.ensures.cases.0
