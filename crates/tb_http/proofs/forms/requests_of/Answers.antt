use Rattle.std.proofs.Common.{◌∙◌, sym, ap, ◌&&◌, nat_lt, nat_le, length}
use Rattle.std.specs.Char.{is_ascii_digit}
use Rattle.std.specs.List.{list_all}
use Rattle.tb_http.proofs.Parsed.{numeral_read}
use Rattle.tb_http.proofs.forms.requests_of.Goals as goal

pub returns : goal.returns
returns c = c.ok.ensures.value ∙ numeral_read c.args.text.now c.parse.result
    (ap (λ t. nat_lt 0 (length t) && (nat_le (length t) 10 && list_all is_ascii_digit t)) (sym c.as_bytes.ensures.value) ∙ sym c.if-not-is_short_numeral.ensures) c.parse.ensures.value.0
