use Rattle.std.proofs.Common.{◌≡◌, ◌∙◌, List, None, Some, Ok, Err, ap, inl, inr, sym}
use Rattle.std.proofs.lemmas.Result.{err_from_is_err_and}
use Rattle.std.specs.Prelude.{IsTrue}
use Rattle.tb_host.proofs.Firsts.{at_said, ends_so, rows_first, rows_so, stopped_so, unread_first}
use Rattle.tb_host.specs.Looked.{IsFirstInMoves, IsMoveRow, IsRowOff, IsUnread, Said, Tells}
use Rattle.tb_host.specs.declared.misfit.Table.TheVariants.{Moves, Totals}
use Rattle.tb_tables.specs.declared.rows.MoveRow.{MoveRow}
use Rattle.tb_tables.specs.declared.rows.TotalRow.{TotalRow}
use Rattle.tb_host.proofs.misfit.look_from_moves.Goals as goal

pub returns-in_err-moves : goal.returns-in_err-moves
returns-in_err-moves g c said is xs same =
    let p = err_from_is_err_and c.from_residual.result c.from_residual.ensures.1 in
    let told = at_said _ said (λ (s : Said). Tells s.may_fail s.moves c.moves-read.result (λ rows. rows.items)) is c.moves-read.ensures.told in
    stopped_so (IsTrue said.may_fail) (λ z. (said.moves ≡ None) × IsUnread Moves (said.numbers Moves) z) (IsFirstInMoves said c.args.batches.now xs) c.from_residual.result p.0 c.in_err-moves.field-0.0 p.1 p.2
    (rows_so said.may_fail c.moves-read.result (Err c.in_err-moves.field-0.0) Moves said.moves (λ rows. rows.items) (IsUnread Moves (said.numbers Moves)) c.in_err-moves.ensures.rows (c.in_err-moves.ensures.first said (c.moves-read.ensures.still ∙ is)) told)
    (λ z h. unread_first said.moves _ _ z h)

pub returns-in_err-look_at_moves : goal.returns-in_err-look_at_moves
returns-in_err-look_at_moves g c said is xs same =
    let p = err_from_is_err_and c.from_residual-in_err-look_at_moves.result c.from_residual-in_err-look_at_moves.ensures.1 in
    let told = at_said _ said (λ (s : Said). Tells s.may_fail s.moves c.moves-read.result (λ rows. rows.items)) is c.moves-read.ensures.told in
    let kept : said.moves ≡ Some c.as_slice.result.now = rows_so said.may_fail c.moves-read.result (Ok c.in_ok-moves.moves) Moves said.moves (λ rows. rows.items) (IsUnread Moves (said.numbers Moves)) c.in_ok-moves.ensures.rows (c.in_ok-moves.ensures.first said (c.moves-read.ensures.still ∙ is)) told
    ∙ ap (λ (z : List MoveRow). Some z) (sym c.as_slice.ensures.value) in
    stopped_so (IsTrue said.may_fail) (IsRowOff Moves (λ _. IsMoveRow) c.as_slice.result.now) (IsFirstInMoves said c.args.batches.now xs) c.from_residual-in_err-look_at_moves.result p.0 c.in_err-look_at_moves.field-0.0 p.1 p.2
    (ends_so (IsTrue said.may_fail) (IsRowOff Moves (λ _. IsMoveRow) c.as_slice.result.now) c.in_err-look_at_moves.field-0.0 c.in_err-look_at_moves.ensures.wrong)
    (λ z h. rows_first said.moves _ _ z c.as_slice.result.now kept (inl h))

pub returns-in_err-totals : goal.returns-in_err-totals
returns-in_err-totals g c said is xs same =
    let p = err_from_is_err_and c.from_residual-in_err-totals.result c.from_residual-in_err-totals.ensures.1 in
    let told = at_said _ said (λ (s : Said). Tells s.may_fail s.moves c.moves-read.result (λ rows. rows.items)) is c.moves-read.ensures.told in
    let kept : said.moves ≡ Some c.as_slice.result.now = rows_so said.may_fail c.moves-read.result (Ok c.in_ok-moves.moves) Moves said.moves (λ rows. rows.items) (IsUnread Moves (said.numbers Moves)) c.in_ok-moves.ensures.rows (c.in_ok-moves.ensures.first said (c.moves-read.ensures.still ∙ is)) told
    ∙ ap (λ (z : List MoveRow). Some z) (sym c.as_slice.ensures.value) in
    let on = c.in_ok-moves.ensures.still ∙ c.moves-read.ensures.still ∙ is in
    let later = at_said _ said (λ (s : Said). Tells s.may_fail s.totals c.totals-read.result (λ rows. rows.items)) on c.totals-read.ensures.told in
    stopped_so (IsTrue said.may_fail) (λ z. (said.totals ≡ None) × IsUnread Totals (said.numbers Totals) z) (IsFirstInMoves said c.args.batches.now xs) c.from_residual-in_err-totals.result p.0 c.in_err-totals.field-0.0 p.1 p.2
    (rows_so said.may_fail c.totals-read.result (Err c.in_err-totals.field-0.0) Totals said.totals (λ rows. rows.items) (IsUnread Totals (said.numbers Totals)) c.in_err-totals.ensures.rows (c.in_err-totals.ensures.first said (c.totals-read.ensures.still ∙ on)) later)
    (λ z h. rows_first said.moves _ _ z c.as_slice.result.now kept (inr (c.in_ok-look_at_moves.ensures.right, unread_first said.totals _ _ z h)))

pub returns : goal.returns
returns g c said is xs same =
    let told = at_said _ said (λ (s : Said). Tells s.may_fail s.moves c.moves-read.result (λ rows. rows.items)) is c.moves-read.ensures.told in
    let kept : said.moves ≡ Some c.as_slice.result.now = rows_so said.may_fail c.moves-read.result (Ok c.in_ok-moves.moves) Moves said.moves (λ rows. rows.items) (IsUnread Moves (said.numbers Moves)) c.in_ok-moves.ensures.rows (c.in_ok-moves.ensures.first said (c.moves-read.ensures.still ∙ is)) told
    ∙ ap (λ (z : List MoveRow). Some z) (sym c.as_slice.ensures.value) in
    let on = c.in_ok-moves.ensures.still ∙ c.moves-read.ensures.still ∙ is in
    let later = at_said _ said (λ (s : Said). Tells s.may_fail s.totals c.totals-read.result (λ rows. rows.items)) on c.totals-read.ensures.told in
    let last : said.totals ≡ Some c.as_slice-2.result.now = rows_so said.may_fail c.totals-read.result (Ok c.in_ok-totals.totals) Totals said.totals (λ rows. rows.items) (IsUnread Totals (said.numbers Totals)) c.in_ok-totals.ensures.rows (c.in_ok-totals.ensures.first said (c.totals-read.ensures.still ∙ on)) later
    ∙ ap (λ (z : List TotalRow). Some z) (sym c.as_slice-2.ensures.value) in
    ends_so (IsTrue said.may_fail) (IsFirstInMoves said c.args.batches.now xs) c.look_at_sums.result
    (rows_first said.moves _ _ c.look_at_sums.result c.as_slice.result.now kept (inr (c.in_ok-look_at_moves.ensures.right, rows_first said.totals _ _ c.look_at_sums.result c.as_slice-2.result.now last (c.look_at_sums.ensures xs same))))
