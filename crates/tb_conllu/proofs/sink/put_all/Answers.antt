use Rattle.std.proofs.Common.{refl, arith, ◌<◌, ◌+◌, ◌∷◌, [], Err, ap, subst}
use Rattle.tb_conllu.specs.Tries.{Answers, GoesOn}
use Rattle.tb_conllu.specs.declared.sink.Stop.TheVariants.{Interrupted}
use Rattle.tb_conllu.proofs.Outputs.{put_more, put_none}
use Rattle.tb_conllu.proofs.Tried.{given_up, out_of_patience, stepped_more}
use Rattle.tb_conllu.proofs.sink.put_all.Goals as goal

pub returns-in-Ok-eq0-clause-stopped : goal.returns-in-Ok-eq0-clause-stopped
returns-in-Ok-eq0-clause-stopped g c =
    given_up _ _ _ _ _ _ _ c.writes.invariant.3 c.in-Ok-eq0.ensures.counted c.in-Ok-eq0.field-0-test (λ h. omega (arith, h, c.in-Ok-eq0.field-0-test))
    c.writes-test.true c.writes.invariant.1

pub writes-preserved-in-Ok : goal.writes-preserved-in-Ok
writes-preserved-in-Ok g c =
    let some : 0 < c.in-Ok.count = omega (arith, c.in-Ok.count-test.1) in
    let put = put_more _ _ _ c.args.bytes.now _ _ _ refl c.writes.invariant.0 c.in-Ok.ensures.bound c.writes.invariant.2 c.in-Ok.ensures.bytes in
    let more = stepped_more _ _ _ c.writes.written c.writes.interruptions (c.writes.written + c.in-Ok.count) c.writes.interruptions _ c.writes.invariant.3 c.in-Ok.ensures.counted some (omega arith) (omega (arith, some)) in
    (put.0, c.writes.invariant.1, put.1, more)

pub returns-in-Err-Failed-clause-stopped : goal.returns-in-Err-Failed-clause-stopped
returns-in-Err-Failed-clause-stopped g c =
    given_up _ _ _ _ _ _ _ c.writes.invariant.3 c.in-Err-Failed.ensures.counted tt (λ h. subst GoesOn (ap Err c.in-Err-Failed.field-0-is) h) c.writes-test.true c.writes.invariant.1

pub returns-then-interruptions-eq-INTERRUPTIONS-clause-stopped :
    goal.returns-then-interruptions-eq-INTERRUPTIONS-clause-stopped
returns-then-interruptions-eq-INTERRUPTIONS-clause-stopped g c =
    let counted = subst (λ s. Answers (g.W.PartWriter.answers c.writes.out) (g.W.PartWriter.answers c.write_once.new.self) (Err s ∷ [])) c.in-Err-Interrupted.field-0-is c.in-Err-Interrupted.ensures.counted in
    out_of_patience _ _ _ _ _ _ c.writes.invariant.3 counted c.writes-test.true c.if-interruptions-eq-INTERRUPTIONS.true

pub writes-preserved : goal.writes-preserved
writes-preserved g c =
    let counted = subst (λ s. Answers (g.W.PartWriter.answers c.writes.out) (g.W.PartWriter.answers c.write_once.new.self) (Err s ∷ [])) c.in-Err-Interrupted.field-0-is c.in-Err-Interrupted.ensures.counted in
    let put = put_none _ _ _ c.args.bytes.now _ _ refl c.writes.invariant.0 c.writes.invariant.2 c.in-Err-Interrupted.ensures.bytes in
    let more = stepped_more _ _ _ c.writes.written c.writes.interruptions c.writes.written (c.writes.interruptions + 1) (Err Interrupted) c.writes.invariant.3 counted tt refl (omega arith) in
    (c.writes.invariant.0, omega (arith, c.writes.invariant.1, c.if-interruptions-eq-INTERRUPTIONS.false), put.1, more)
