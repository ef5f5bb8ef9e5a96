use Rattle.tb_commands.proofs.pulling.judge.Goals as goal

pub returns-in-Pull-clause-refused : goal.returns-in-Pull-clause-refused
returns-in-Pull-clause-refused c = rw c.in-Pull.is (rw c.from-moves.ensures at c.judge_pull.ensures.refused)

pub returns-in-Pull-clause-accepted : goal.returns-in-Pull-clause-accepted
returns-in-Pull-clause-accepted c = rw c.in-Pull.is (rw c.from-moves.ensures at c.judge_pull.ensures.accepted)

pub returns-in-Ok-clause-accepted : goal.returns-in-Ok-clause-accepted
returns-in-Ok-clause-accepted c = rw c.in-Restore.is (λ s found moves.
    let got = (rw c.from-moves.ensures at c.in-Ok.ensures.accepted) s found moves in
    (got.1, got.2))

pub returns-in-Err-clause-refused : goal.returns-in-Err-clause-refused
returns-in-Err-clause-refused c = rw c.in-Restore.is (rw c.from-moves.ensures at c.in-Err.ensures.refused)
