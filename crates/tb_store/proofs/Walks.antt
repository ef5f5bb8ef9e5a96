-- What is known of a walk over the sentences of a desk is known of it where its early end is told as a fault.
use Rattle.std.proofs.lemmas.Result.{on_ok_weaker}
use Rattle.std.proofs.Common.{◌≡◌, ◌≢◌, ℕ, List, length, Ok, Err, None, Result, IfOk, sym, ap, subst, ◌∙◌, is_ok}
use Rattle.sqlite.specs.Store.{Ghosts}
use Rattle.sqlite.specs.Held.{Held, state}
use Rattle.sqlite.specs.State.{HasCleanDisk}
use Rattle.tb_core.specs.declared.refusals.Fault.{Fault}
use Rattle.tb_core.specs.declared.refusals.Fault.TheVariants.{NotADesk, Output, Refused}
use Rattle.tb_core.specs.declared.refusals.Refusal.{Refusal}
use Rattle.tb_core.specs.declared.refusals.Refusal.TheVariants.{TooManyHits}
use Rattle.tb_match.specs.declared.strategy.Strategy.{Strategy}
use Rattle.tb_query.specs.Search.{Asked}
use Rattle.tb_core.specs.Machine.{Machine}
use Rattle.tb_reads.specs.ReadOnly.{IsReadOnly}
use Rattle.tb_refine.specs.Calls.{KnowsDesk, Tells, TellsOnErr, TellsOnOk}
use Rattle.tb_search.specs.declared.stopped.Stopped.{Stopped}
use Rattle.tb_search.specs.declared.stopped.Stopped.TheVariants as stops
use Rattle.tb_search.specs.Ending.{IsTextRead}
use Rattle.tb_search.specs.Searched.{Occurrence}
use Rattle.tb_reads.proofs.Shown.{if_ok}
use Rattle.tb_reads.proofs.Failing.{if_err}
use Rattle.tb_store.specs.Found.{AreReleasedHits, HasTooMany, IsAbove, IsNumber}
use Rattle.tb_store.specs.Kept.{Kept}
use Rattle.tb_store.specs.Represents.{Represents}
use Rattle.tb_store.specs.Calls.{Does, Gives, GivesOnErr}
use Rattle.tb_store.specs.Blaming.{FailsWithoutDevice}
use Rattle.tb_store.specs.Questions.{IsQuestion}
use Rattle.tb_store.specs.Walked.{ReportsWalk, TellsEnd}
use Rattle.tb_store.proofs.Questions.{asked}

-- ---- on the connection

pub walk_knows : {S X : Type 0} (g : Ghosts S) (old new : Held S) (walk : Result X Stopped) (r : Result X Fault) → ReportsWalk walk r → IsTextRead g old new walk → KnowsDesk g old new r
walk_knows g old new (Ok x) r is read clean unlimited s desk bad = let was : r ≡ Ok x = is in cc
walk_knows g old new (Err e) r it read clean unlimited s desk bad =
    let same : it.0 ≡ NotADesk = let was = it.1 in cc in
    it.2.fails (read.fault clean s desk) (read.fails clean unlimited s desk) same

pub walk_blames : {S X : Type 0} (g : Ghosts S) (old new : Held S) (walk : Result X Stopped) (r : Result X Fault) → ReportsWalk walk r → IsTextRead g old new walk → FailsWithoutDevice g old new r
walk_blames g old new (Ok x) r is read = subst (FailsWithoutDevice g old new) (sym is) (λ good clean unlimited s desk. tt)
walk_blames g old new (Err e) r it read = subst (FailsWithoutDevice g old new) (sym it.1) (λ good clean unlimited s desk. it.2.cause (read.cause good clean unlimited s desk))

pub walk_reads : {S X : Type 0} (g : Ghosts S) (old new : Held S) (walk : Result X Stopped) (r : Result X Fault) → ReportsWalk walk r → IsTextRead g old new walk → IsReadOnly g old new (is_ok r)
walk_reads g old new (Ok x) r is read = subst (λ q. IsReadOnly g old new (is_ok q)) (sym is) read.read_only
walk_reads g old new (Err e) r it read = subst (λ q. IsReadOnly g old new (is_ok q)) (sym it.1) read.read_only

pub walk_tells : {S X : Type 0} (g : Ghosts S) (old new : Held S) (walk : Result X Stopped) (r : Result X Fault) (P : Machine → X → Type 0) → ReportsWalk walk r → Tells g old new walk P → Tells g old new r P
walk_tells g old new (Ok x) r P is h = subst (λ q. Tells g old new q P) (sym is) h
walk_tells g old new (Err e) r P it h = subst (λ q. Tells g old new q P) (sym it.1) (λ clean. tt)

pub walk_does : {S X : Type 0} (g : Ghosts S) (old new : Held S) (walk : Result X Stopped) (r : Result X Fault) (P : Machine → Type 0) → ReportsWalk walk r → TellsOnOk g old new walk P → TellsOnOk g old new r P
walk_does g old new (Ok x) r P is h = subst (λ q. TellsOnOk g old new q P) (sym is) h
walk_does g old new (Err e) r P it h = subst (λ q. TellsOnOk g old new q P) (sym it.1) (λ clean. tt)

pub walk_breaks : {S X : Type 0} (g : Ghosts S) (old new : Held S) (walk : Result X Stopped) (r : Result X Fault) (P : Machine → Stopped → Type 0) (Q : Machine → Fault → Type 0) → ((s : Machine) (e : Stopped) (f : Fault) → TellsEnd e f → P s e → Q s f)
    → ReportsWalk walk r → TellsOnErr g old new walk P → TellsOnErr g old new r Q
walk_breaks g old new (Ok x) r P Q turn is h = subst (λ q. TellsOnErr g old new q Q) (sym is) (λ clean. tt)
walk_breaks g old new (Err e) r P Q turn it h = subst (λ q. TellsOnErr g old new q Q) (sym it.1) (λ clean s desk. turn s e it.0 it.2 (h clean s desk))

pub walk_refuses_nothing : {X : Type 0} (walk : Result X Stopped) (r : Result X Fault) → ReportsWalk walk r → (x : Refusal) → r ≢ Err (Refused x)
walk_refuses_nothing (Ok y) r is x bad = let was : r ≡ Ok y = is in cc
walk_refuses_nothing (Err e) r it x bad = it.2.never_refuses x (let same : it.0 ≡ Refused x = let was = it.1 in cc in same)

pub walk_blames_sink : {X : Type 0} (walk : Result X Stopped) (r : Result X Fault) → ReportsWalk walk r → r ≡ Err Output → walk ≡ Err stops.Output
walk_blames_sink (Ok y) r is bad = absurd (let was : r ≡ Ok y = is in cc)
walk_blames_sink (Err e) r it bad = ap Err (it.2.output (let same : it.0 ≡ Output = let was = it.1 in cc in same))

-- ---- on the desk: `d` and `e` are the desk before the walk, and `after` is the connection after it

module _ {S X : Type 0} (g : Ghosts S) {d e : Kept S} (same : d ≡ e) (after : Held S) (walk : Result X Stopped) (r : Result X Fault) (told : ReportsWalk walk r) where
  pub walk_gives : (P : Machine → X → Type 0) → Tells g d.conn after walk P → Gives g e (record d { conn = after }) r P
  walk_gives P h = subst (λ k. Gives g k (record d { conn = after }) r P) same (λ clean. if_ok r (walk_tells g d.conn after walk r P told h clean) (λ x so s stands. so s stands.desk))

  pub walk_put : (P : Machine → Type 0) → TellsOnOk g d.conn after walk P → Does g e (record d { conn = after }) r P
  walk_put P h = subst (λ k. Does g k (record d { conn = after }) r P) same (λ clean. on_ok_weaker r (λ so s stands. so s stands.desk) (walk_does g d.conn after walk r P told h clean))

  pub walk_gives_end : (P : Machine → Stopped → Type 0) (Q : Machine → Fault → Type 0) → ((s : Machine) (e : Stopped) (f : Fault) → TellsEnd e f → P s e → Q s f) → TellsOnErr g d.conn after walk P → GivesOnErr g e (record d { conn = after }) r Q
  walk_gives_end P Q turn h =
      subst (λ k. GivesOnErr g k (record d { conn = after }) r Q) same (λ clean. if_err r (walk_breaks g d.conn after walk r P Q turn told h clean) (λ x so s stands. so s stands.desk))

  pub walk_asked : d.conn.step_limit ≡ None → IsTextRead g d.conn after walk → IsQuestion g e (record d { conn = after }) r
  walk_asked unlimited read = asked g same after r unlimited (walk_reads g d.conn after walk r told read) (walk_knows g d.conn after walk r told read) (walk_blames g d.conn after walk r told read)

-- ---- the number of hits, where it is within the limit

module _ {S : Type 0} (g : Ghosts S) {d e : Kept S} (same : d ≡ e) (after : Held S) (walk : Result ℕ Stopped) (n : ℕ) (told : ReportsWalk walk (Ok n)) (q : Asked) (strategy : Strategy)
    (h : Tells g d.conn after walk (λ s m. (found : List Occurrence) × AreReleasedHits s q strategy found × (m ≡ length found))) (r : Result ℕ Fault) where
  pub number_given : IfOk r (λ m. (m ≡ n) × (IsAbove strategy d.limits.hits m → ⊥)) → Gives g e (record d { conn = after }) r (λ s m. IsNumber s q strategy e.limits.hits m)
  number_given below = subst (λ k. Gives g k (record d { conn = after }) r (λ s m. IsNumber s q strategy k.limits.hits m)) same (λ clean. if_ok r below (λ m it s stands.
      let was = walk_tells g d.conn after walk (Ok n) (λ t m. (found : List Occurrence) × AreReleasedHits t q strategy found × (m ≡ length found)) told h clean s stands.desk in
      (was.0, was.1, it.0 ∙ was.2, it.1)))

  pub number_refused : ((x : Refusal) → r ≡ Err (Refused x) → (x ≡ TooManyHits) × IsAbove strategy d.limits.hits n) → HasCleanDisk (state g after) → (x : Refusal) → r ≡ Err (Refused x)
      → (x ≡ TooManyHits) × ((s : Machine) → Represents g e s → HasTooMany s q strategy e.limits.hits)
  number_refused above clean x is = subst (λ k. (x ≡ TooManyHits) × ((s : Machine) → Represents g k s → HasTooMany s q strategy k.limits.hits)) same (
    (above x is).0,
    λ s stands.
        let was = walk_tells g d.conn after walk (Ok n) (λ t m. (found : List Occurrence) × AreReleasedHits t q strategy found × (m ≡ length found)) told h clean s stands.desk in
        (was.0, was.1, subst (IsAbove strategy d.limits.hits) was.2 (above x is).1),
  )
