use Rattle.std.proofs.Common.{arith}
use Rattle.tb_reads.proofs.Shown.{if_ok}
use Rattle.tb_import.proofs.Left.{left_same, stays_same}
use Rattle.tb_import.proofs.Takes.{none_standing}
use Rattle.tb_import.proofs.Looks.{look_well}
use Rattle.tb_import.proofs.new_sentences.first_standing.Goals as goal

pub returns-then-known-eq0-clause-answered : goal.returns-then-known-eq0-clause-answered
returns-then-known-eq0-clause-answered g c clean s bs desk known is =
    let none = c.if-known-eq0.true in
    let counted = known.sentences in
    none_standing s.sentences bs (omega (arith, none, counted))

pub returns-clause-answered : goal.returns-clause-answered
returns-clause-answered g c clean = if_ok c.first_taken.result (c.first_taken.ensures.answered clean) (λ found reported s bs desk known is. reported s bs desk is)

pub returns-then-known-eq0-clause-look : goal.returns-then-known-eq0-clause-look
returns-then-known-eq0-clause-look g c = look_well (left_same g.S.Store c.args.conn.now) (stays_same g.S.Store c.args.conn.now) (λ s fine. fine)

pub returns-clause-look : goal.returns-clause-look
returns-clause-look g c = c.first_taken.ensures.look
