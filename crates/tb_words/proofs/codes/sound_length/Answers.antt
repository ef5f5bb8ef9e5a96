use Rattle.std.proofs.Common.{◌∙◌, sym, ap, length}
use Rattle.std.proofs.lemmas.Str.{utf8_valid_len-IsUtf8}
use Rattle.tb_words.proofs.codes.sound_length.Goals as goal

pub returns-in-Ok-clause-value : goal.returns-in-Ok-clause-value
returns-in-Ok-clause-value c =
    ap length c.in-Ok.ensures.cases.0 ∙ sym (utf8_valid_len-IsUtf8 c.args.raw.now c.in-Ok.ensures.cases.1)
