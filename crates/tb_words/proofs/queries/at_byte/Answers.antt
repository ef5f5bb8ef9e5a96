use Rattle.std.proofs.Common.{IfSome, string_bytes, subst, sym}
use Rattle.tb_words.specs.QueryPlaces.{IsPicture}
use Rattle.tb_words.specs.declared.words.Words.{Words}
use Rattle.tb_words.proofs.queries.at_byte.Goals as goal

pub returns-clause-picture : goal.returns-clause-picture
returns-clause-picture c = λ cut.
    subst (λ (w : Words). IfSome w.picture (λ picture. IsPicture c.args.text.now c.args.at (string_bytes picture)))
    (sym c.with_picture.ensures) (c.picture.ensures cut)
