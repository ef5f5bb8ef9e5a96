use Rattle.tb_page.proofs.Begun.{visited}
use Rattle.tb_page.proofs.visits.visit_after.Goals as goal

pub returns : goal.returns
returns c =
    visited c.args.port c.args.head.buf.now c.requires.begins.0 c.args.bytes.now c.args.head.headers.now c.args.head.spans _ c.requires.room c.requires.few c.requires.inside c.requires.head
    c.requires.begins.1 c.visit_of.ensures
