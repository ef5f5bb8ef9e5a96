use Rattle.std.proofs.Common.{Decides, sym, subst}
use Rattle.tb_core.specs.Names.{AreApart}
use Rattle.tb_reads.proofs.Shown.{if_ok}
use Rattle.tb_verify.proofs.Seen.{ids_reported}
use Rattle.tb_verify.proofs.apart.are_sentences_apart.Goals as goal

pub returns-clause-apart : goal.returns-clause-apart
returns-clause-apart c =
    if_ok c.are_apart.result c.are_apart.ensures.apart (λ apart decided. subst (λ ids. Decides apart (AreApart ids)) (sym (ids_reported c.args.rows.now)) decided)
