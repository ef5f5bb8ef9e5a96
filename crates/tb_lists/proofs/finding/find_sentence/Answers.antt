use Rattle.tb_core.specs.Machine.{Sentence}
use Rattle.tb_refine.proofs.Names.{lacking}
use Rattle.tb_refine.proofs.Unchanged.{desk_after}
use Rattle.tb_reads.proofs.ReadOnly.{read_then, was_clean}
use Rattle.tb_lists.proofs.Located.{is_located}
use Rattle.tb_refine.proofs.DeskReads.{next_stopped, read_stopped, read_well}
use Rattle.tb_lists.proofs.finding.find_sentence.Goals as goal

pub returns-clause-answered : goal.returns-clause-answered
returns-clause-answered g c clean s desk =
    let mid = was_clean c.line_at.ensures.read.read_only clean in
    let first = desk_after c.in_ok-number.ensures.read.read_only mid desk in
    let has = rw c.in-Some.is at c.in_ok-number.ensures.answered in
    let it = has mid s desk in
    is_located s c.args.sent_id.now c.in-Some.number _ it (c.in_ok-line.ensures.answered clean s first it.0 it.2)

pub returns-in_default-clause-answered : goal.returns-in_default-clause-answered
returns-in_default-clause-answered g c clean s desk =
    let has = rw c.in_default.is at c.in_ok-number.ensures.answered in
    lacking (λ (x : Sentence). x.sent_id) c.args.sent_id.now s.sentences (has clean s desk)

pub returns-in_err-number-clause-read : goal.returns-in_err-number-clause-read
returns-in_err-number-clause-read g c =
    read_stopped c.from_residual.result c.in_err-number.field-0.0 c.from_residual.ensures.1 c.in_err-number.ensures.read (λ clean s desk fails on. on fails)

pub returns-in_err-line-clause-read : goal.returns-in_err-line-clause-read
returns-in_err-line-clause-read g c =
    next_stopped c.from_residual-in_err-line.result c.in_err-line.field-0.0 c.from_residual-in_err-line.ensures.1 c.in_ok-number.ensures.read.read_only c.in_err-line.ensures.read (λ mid s desk fails on.
    let has = rw c.in-Some.is at c.in_ok-number.ensures.answered in
    let it = has mid s desk in
    on (fails it.1 it.0 it.2))

pub returns-in_default-clause-read : goal.returns-in_default-clause-read
returns-in_default-clause-read g c = read_well c.in_ok-number.ensures.read.read_only (λ s fine. fine)

pub returns-clause-read : goal.returns-clause-read
returns-clause-read g c = read_well (read_then c.in_ok-number.ensures.read.read_only c.in_ok-line.ensures.read.read_only) (λ s fine. fine)
