use Rattle.std.proofs.Common.{length, sym, ◌∙◌, ap}
use Rattle.std.proofs.lemmas.Bool.{ltb-true}
use Rattle.tb_replay.specs.Summaries.{RevisionRow}
use Rattle.tb_replay.proofs.Summed.{last_got}
use Rattle.tb_replay.proofs.totals.last_words.Goals as goal

pub returns-in-Some : goal.returns-in-Some
returns-in-Some c =
    let rows = c.args.revisions.now in
    let item = c.in-Some.ensures.item in
    ap (λ (r : RevisionRow). r.words) c.revision.view_is ∙ last_got rows c.in-Some.revision.now (ltb-true 0 (length rows) (sym item.0)) item.1
