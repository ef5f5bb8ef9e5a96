use Rattle.std.proofs.Common.{◌++◌, List, ℕ, Option, Some, None, IfSome, IfOk, IfErr, [], take, sym, subst, Result, Ok, Err}
use Rattle.std.specs.Io.KnownBytes.{Consumes}
use Rattle.std.proofs.KnownBytes.{Consumes-trans}
use Rattle.tb_http.specs.Faults.{IsFaultOf, IsAtMostOne, TakenAfter}
use Rattle.tb_http.specs.Faults.{AwaitsHead}
use Rattle.tb_conllu.specs.Pieces.{AskedFor}
use Rattle.tb_http.proofs.Asking.{asked_head, asked_on}
use Rattle.tb_http.proofs.Taken.{few_taken, head_taken, taken_on}
use Rattle.tb_http.specs.Head.{HasNoHead}
use Rattle.tb_http.proofs.Chains.{when_known, no_head}
use Rattle.tb_http.proofs.asks.ask_within.Goals as goal

pub returns-in-Ok-None-clause-asks : goal.returns-in-Ok-None-clause-asks
returns-in-Ok-None-clause-asks g c =
    let none : IfSome (g.R.Source.left c.args.reader.now) HasNoHead = rw c.in-Ok-None.field-0-is at c.in-Ok-None.ensures.none in
    when_known _ HasNoHead _ (no_head c.args.limit) none

-- what holds after the bytes that came holds of all
joined : {X E : Type 0} (old new : Option (List ℕ)) (came : List ℕ) (r : Result X E) (P : X → List ℕ → Type 0) → Consumes old new came
    → IfOk r (λ x. IfSome new (λ later. P x (came ++ later))) → IfOk r (λ x. IfSome old (P x))
joined old new came (Err e) P c h = tt
joined None new came (Ok x) P c h = tt
joined (Some b) None came (Ok x) P c h = absurd c
joined (Some b) (Some d) came (Ok x) P c h = subst (P x) (sym c) h

pub returns-in-Ok-Some-clause-asks : goal.returns-in-Ok-Some-clause-asks
returns-in-Ok-Some-clause-asks g c =
    let taken : Consumes (g.R.Source.left c.args.reader.now) (g.R.Source.left c.read_head.new.reader) (take c.in-Ok-Some.head.filled c.read_head.new.buf) = rw c.in-Ok-Some.field-0-is at c.in-Ok-Some.ensures.taken in
    joined _ _ _ c.ask_after.result _ taken c.ask_after.ensures.asks

-- what is wrong after the bytes that came is wrong after all of them
after : {X E : Type 0} (old mid new : Option (List ℕ)) (came : List ℕ) (r : Result X E) (P : E → List ℕ → Type 0) → Consumes old mid came
    → IfErr r (λ e. TakenAfter came mid new (P e)) → IfErr r (λ e. TakenAfter [] old new (P e))
after old mid new came (Ok x) P c h = tt
after old mid new came (Err e) P c h = (came ++ h.0, Consumes-trans old mid new came h.0 c h.1, h.2)

pub returns-in-Ok-Some-clause-fault : goal.returns-in-Ok-Some-clause-fault
returns-in-Ok-Some-clause-fault g c =
    let taken : Consumes (g.R.Source.left c.args.reader.now) (g.R.Source.left c.read_head.new.reader) (take c.in-Ok-Some.head.filled c.read_head.new.buf) = rw c.in-Ok-Some.field-0-is at c.in-Ok-Some.ensures.taken in
    after _ _ _ _ c.ask_after.result (λ e taken. IsFaultOf c.args.limit taken e) taken c.ask_after.ensures.fault

pub returns-in-Err-clause-one : goal.returns-in-Err-clause-one
returns-in-Err-clause-one g c = head_taken _ _ c.args.limit c.in-Err.ensures.broken

pub returns-in-Ok-None-clause-one : goal.returns-in-Ok-None-clause-one
returns-in-Ok-None-clause-one g c =
    few_taken _ _ c.args.limit (rw c.in-Ok-None.field-0-is at c.in-Ok-None.ensures.stopped)

pub returns-in-Ok-Some-clause-one : goal.returns-in-Ok-Some-clause-one
returns-in-Ok-Some-clause-one g c =
    let taken : Consumes (g.R.Source.left c.args.reader.now) (g.R.Source.left c.read_head.new.reader) (take c.in-Ok-Some.head.filled c.read_head.new.buf) = rw c.in-Ok-Some.field-0-is at c.in-Ok-Some.ensures.taken in
    taken_on _ _ _ _ (IsAtMostOne c.args.limit) taken c.ask_after.ensures.one

pub returns-in-Ok-None-clause-asked : goal.returns-in-Ok-None-clause-asked
returns-in-Ok-None-clause-asked g c other =
    let none : (taken : List ℕ) × AskedFor AwaitsHead [] (g.R.Source.pieces c.args.reader.now) (g.R.Source.pieces c.read_head.new.reader) taken = rw c.in-Ok-None.field-0-is at c.in-Ok-None.ensures.asked_none in
    (none.0, asked_head c.args.limit _ _ none.0 none.1)

pub returns-in-Ok-Some-clause-asked : goal.returns-in-Ok-Some-clause-asked
returns-in-Ok-Some-clause-asked g c other =
    let came = take c.in-Ok-Some.head.filled c.read_head.new.buf in
    let asked : AskedFor AwaitsHead [] (g.R.Source.pieces c.args.reader.now) (g.R.Source.pieces c.read_head.new.reader) came = rw c.in-Ok-Some.field-0-is at c.in-Ok-Some.ensures.asked in
    asked_on c.args.limit _ _ _ came asked (c.ask_after.ensures.asked other)
