use Rattle.std.proofs.Common.{◌≡◌, ◌<◌, ◌^◌, take, true}
use Rattle.std.specs.Str.Parse.{digits_value}
use Rattle.tb_http.specs.Headers.{is_numeral}
use Rattle.tb_desk.proofs.arriving.number_of.Given as goal

abbrev pub invariant-loop-digit : goal.invariant-loop-digit
invariant-loop-digit l = is_numeral l.digits ≡ true → digits_value 10 l.digits < 2 ^ 64
    → l.number ≡ digits_value 10 (take l.digit-index l.digits)
