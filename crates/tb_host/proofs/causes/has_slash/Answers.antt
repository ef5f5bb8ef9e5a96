use Rattle.std.proofs.Common.{◌<◌, arith}
use Rattle.std.proofs.lemmas.Str.Pattern.{contains_char}
use Rattle.tb_host.proofs.causes.has_slash.Goals as goal

pub returns : goal.returns
returns c =
    let ascii : 47 < 128 = omega (arith) in
    let both = contains_char 47 c.args.text.now c.contains.result c.contains.ensures.cases ascii in (
      both.0,
      λ slash. both.1 slash.0 slash.1 slash.2,
    )
