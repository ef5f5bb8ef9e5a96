use Rattle.std.proofs.Common.{◌≡◌, ◌∙◌, map, ap, rules}
use Rattle.tb_tables.specs.Values.{sentence_of}
use Rattle.tb_reads.proofs.Shown.{if_ok}
use Rattle.tb_refine.proofs.Unchanged.{desk_after}
use Rattle.tb_reads.proofs.ReadOnly.{was_clean}
use Rattle.tb_refine.proofs.DeskReads.{read_next, read_stopped}
use Rattle.tb_lists.proofs.reading.list_sentences.Goals as goal

pub returns-clause-answered : goal.returns-clause-answered
returns-clause-answered g c clean = if_ok c.sentences_of.result (c.sentences_of.ensures.answered clean) (λ v reported s desk.
    let mid = was_clean c.sentences_of.ensures.read.read_only clean in
    let first = desk_after c.in_ok-rows.ensures.read.read_only mid desk in
    let rows : c.as_slice.result.now ≡ c.in_ok-rows.rows.items = search rules in
    reported s first (ap (map sentence_of) rows ∙ c.in_ok-rows.ensures.answered mid s desk))

pub returns-in_err-rows-clause-read : goal.returns-in_err-rows-clause-read
returns-in_err-rows-clause-read g c =
    read_stopped c.from_residual.result c.in_err-rows.field-0.0 c.from_residual.ensures.1 c.in_err-rows.ensures.read (λ clean s desk fails on. on fails)

pub returns-clause-read : goal.returns-clause-read
returns-clause-read g c =
    read_next c.in_ok-rows.ensures.read.read_only c.sentences_of.ensures.read (λ mid s desk fails.
    let rows : c.as_slice.result.now ≡ c.in_ok-rows.rows.items = search rules in
    fails (ap (map sentence_of) rows ∙ c.in_ok-rows.ensures.answered mid s desk))
