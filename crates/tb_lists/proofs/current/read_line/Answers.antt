use Rattle.std.proofs.Common.{◌≡◌, ◌-◌, [], ◌∷◌, ap, ◌∙◌, string_bytes}
use Rattle.tb_conllu.specs.Text.{text_of}
use Rattle.tb_core.specs.Machine.{Revision, rev}
use Rattle.tb_tables.specs.Records.{Sentence}
use Rattle.tb_tables.specs.Values.{sentence_of}
use Rattle.tb_reads.proofs.Shown.{if_ok}
use Rattle.tb_refine.proofs.Revised.{has_current}
use Rattle.tb_refine.proofs.RowsOfState.{current_is}
use Rattle.tb_lists.proofs.ShownLines.{current_file, line_is}
use Rattle.tb_refine.proofs.DeskReads.{read_made, read_stopped}
use Rattle.tb_lists.proofs.current.read_line.Goals as goal

pub returns-clause-answered : goal.returns-clause-answered
returns-clause-answered g c clean = if_ok c.line_of.result c.line_of.ensures.line (λ line reported s desk x there row flag.
    let rev_is : c.args.row.now.rev ≡ rev x = ap (λ (r : Sentence). r.rev) row in
    let read = c.in_ok-current.ensures.answered clean s desk x there in
    let same = current_is x c.args.row.now.rev read.0 rev_is read.1 in
    let text = read.2 ∙ ap (λ (q : Revision). text_of (q.body ∷ [])) same in
    let file = current_file s (c.args.no - 1) x (string_bytes c.in_ok-current.current.body) (c.revisions_read_back.ensures s desk.reachable.reached) there text in
    reported x.current.body file ∙ line_is c.args.no (sentence_of c.args.row.now) x c.args.is_pulled (string_bytes c.in_ok-current.current.who) row flag (read.3 ∙ ap (λ (q : Revision). q.who) same))

pub returns-in_err-current-clause-read : goal.returns-in_err-current-clause-read
returns-in_err-current-clause-read g c =
    read_stopped c.from_residual.result c.in_err-current.field-0.0 c.from_residual.ensures.1 c.in_err-current.ensures.read (λ clean s desk fails on x there row.
    let rev_is : c.args.row.now.rev ≡ rev x = ap (λ (r : Sentence). r.rev) row in
    on (fails x there x.current (has_current x c.args.row.now.rev rev_is)))

pub returns-clause-read : goal.returns-clause-read
returns-clause-read g c =
    read_made c.line_of.result c.in_ok-current.ensures.read.read_only c.line_of.ensures.never_refuses c.line_of.ensures.output c.line_of.ensures.cause (λ clean unlimited s desk x there row bad.
    let rev_is : c.args.row.now.rev ≡ rev x = ap (λ (r : Sentence). r.rev) row in
    let read = c.in_ok-current.ensures.answered clean s desk x there in
    let same = current_is x c.args.row.now.rev read.0 rev_is read.1 in
    let text = read.2 ∙ ap (λ (q : Revision). text_of (q.body ∷ [])) same in
    let file = current_file s (c.args.no - 1) x (string_bytes c.in_ok-current.current.body) (c.revisions_read_back.ensures s desk.reachable.reached) there text in
    c.line_of.ensures.known bad x.current.body file)
