use Rattle.std.proofs.Common.{Err, ◌<◌, ◌^◌, length, arith, ◌≡◌, ap, map, ◌∙◌, rules}
use Rattle.std.proofs.lemmas.List.{length-map}
use Rattle.tb_reads.proofs.Shown.{if_ok}
use Rattle.tb_refine.specs.DeskTables.{sentence_record}
use Rattle.tb_search.specs.Picked.{pick_of}
use Rattle.tb_search.proofs.Rises.{sentences_fit}
use Rattle.tb_search.proofs.Asked.{batch_asked}
use Rattle.tb_search.proofs.Ends.{tables_failed, text_made}
use Rattle.tb_search.proofs.export.batch_picks.Goals as goal

pub returns-clause-picked : goal.returns-clause-picked
returns-clause-picked g c clean = if_ok c.picks_of.result c.picks_of.ensures.picked (λ v reported s desk.
    let work : c.as_slice.result.now ≡ c.in_ok-work.work.items = search rules in
    let found = c.in_ok-work.ensures.ok clean desk.holds.schema (map sentence_record s.sentences) desk.holds.stands.sentences in
    reported ∙ ap (map pick_of) (work ∙ found) ∙ batch_asked c.args.batch 1 s.sentences)

pub returns-in_err-work-clause-read : goal.returns-in_err-work-clause-read
returns-in_err-work-clause-read g c =
    tables_failed c.from_residual.result c.in_err-work.field-0.0 c.from_residual.ensures.1 c.in_err-work.ensures.fails c.in_err-work.ensures.cause (λ clean s desk unfit.
    let readable = c.desk_rows_are_readable.ensures s desk.reachable in
    let few : length (map sentence_record s.sentences) < 2 ^ 32 = let same = length-map s.sentences sentence_record in omega (arith, same, desk.reachable.sentences) in
    c.in_err-work.ensures.form clean (ap Err unfit) desk.holds.schema (map sentence_record s.sentences) (sentences_fit (map sentence_record s.sentences) readable.sentences) few desk.holds.stands.sentences) c.in_err-work.ensures.read_only

pub returns-clause-read : goal.returns-clause-read
returns-clause-read g c = text_made c.picks_of.result c.picks_of.ensures.fault c.picks_of.ensures.fails c.picks_of.ensures.cause c.in_ok-work.ensures.read_only
