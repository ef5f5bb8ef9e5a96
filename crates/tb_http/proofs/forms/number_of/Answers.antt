use Rattle.std.proofs.Common.{◌∙◌, sym, ap}
use Rattle.tb_http.specs.Forms.{is_number}
use Rattle.tb_http.proofs.Parsed.{number_is_numeral}
use Rattle.tb_http.proofs.forms.number_of.Goals as goal

pub returns : goal.returns
returns c =
    c.requests_of.ensures ∙ number_is_numeral c.args.text.now (ap is_number (sym c.as_bytes.ensures.value) ∙ sym c.if-not-is_number.ensures)
