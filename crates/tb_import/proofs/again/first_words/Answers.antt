use Rattle.tb_reads.proofs.Shown.{if_ok}
use Rattle.tb_import.proofs.Looks.{look_well, look_where}
use Rattle.tb_import.proofs.Left.{left_same, stays_same}
use Rattle.tb_import.proofs.again.first_words.Goals as goal

pub returns-clause-answered : goal.returns-clause-answered
returns-clause-answered g c clean = if_ok c.read_words.result (c.read_words.ensures.answered clean) (λ n reported s b desk work. reported s b desk work.first)

pub returns-then-one-eq1-clause-look : goal.returns-then-one-eq1-clause-look
returns-then-one-eq1-clause-look g c = look_well (left_same g.S.Store c.args.conn.now) (stays_same g.S.Store c.args.conn.now) (λ s fine b work. fine)

pub returns-clause-look : goal.returns-clause-look
returns-clause-look g c = look_where c.read_words.ensures.look (λ clean s desk fails b work. fails b work.first)
