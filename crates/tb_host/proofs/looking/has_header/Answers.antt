use Rattle.std.proofs.Common.{codes, drop}
use Rattle.std.proofs.lemmas.Bool.Decides.{Decides-eqb}
use Rattle.std.proofs.lemmas.Slice.Eq.{starts_is}
use Rattle.tb_host.proofs.looking.has_header.Goals as goal

pub returns : goal.returns
returns c =
    let parts = starts_is Decides-eqb c.args.head.now (codes "SQLite format 3\0") c.starts_with.result c.starts_with.ensures.value in (
      λ yes. record { rest = drop 16 c.args.head.now; cut = parts.0 yes },
      λ begins. parts.1 begins.rest begins.cut,
    )
