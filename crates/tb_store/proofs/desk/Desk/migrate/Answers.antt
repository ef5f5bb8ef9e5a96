use Rattle.std.proofs.Common.{◌≡◌, None, Err, sym, ap, subst, ◌∙◌}
use Rattle.sqlite.specs.State.{HasCleanDisk, Survives}
use Rattle.sqlite.specs.Held.{state}
use Rattle.tb_tables.specs.Failing.{HasMetaRowids}
use Rattle.tb_verify.specs.Version1Desk.{LooksFirst}
use Rattle.tb_store.specs.Kept.{Kept}
use Rattle.tb_store.specs.Represents.{unlimited}
use Rattle.tb_store.proofs.Adopted.{faultless_unlimited, stands_over}
use Rattle.tb_store.proofs.Migrated.{first_unlimited, first_before, LeavesDesk, survives_unlimited}
use Rattle.tb_store.proofs.desk.Desk.migrate.Goals as goal

pub returns-in-Ok-clause-migrated : goal.returns-in-Ok-clause-migrated
returns-in-Ok-clause-migrated g c clean =
    let same = ap (λ (k : Kept g.row.S.Denot). k.conn) c.over.ensures in
    let late = subst (λ h. HasCleanDisk (state g.S.Store h)) same clean in
    let reported = c.in-Ok.ensures.migrated late in (
      reported.0,
      first_before g.S.Store c.args.conn c.without_limit-conn.result c.without_limit-conn.ensures reported.0 reported.1,
      stands_over g.S.Store c.over.result c.migrate.new.conn c.args.limits c.in-Ok.summary c.over.ensures reported.0 reported.2 reported.3,
    )

pub returns-in-Ok-clause-crash : goal.returns-in-Ok-clause-crash
returns-in-Ok-clause-crash g c =
    let same = ap (λ (k : Kept g.row.S.Denot). k.conn) c.over.ensures in
    let there = survives_unlimited g.S.Store c.args.conn c.without_limit-conn.result c.migrate.new.conn c.without_limit-conn.ensures c.migrate.ensures.crash in
    let begun = subst (λ h. Survives (state g.S.Store h) (state g.S.Store c.migrate.new.conn) (LeavesDesk g.S.Store c.args.conn)) c.without_limit-conn.ensures there in
    subst (λ h. Survives (state g.S.Store (unlimited c.args.conn)) (state g.S.Store h) (LeavesDesk g.S.Store c.args.conn)) (sym same) begun

pub returns-in-Ok-clause-no_step_limit : goal.returns-in-Ok-clause-no_step_limit
returns-in-Ok-clause-no_step_limit g c =
    let same = ap (λ (k : Kept g.row.S.Denot). k.conn) c.over.ensures in
    let made : (state g.S.Store c.migrate.new.conn).step_limit ≡ None = c.migrate.ensures.crash.limit ∙ ap (λ h. (state g.S.Store h).step_limit) c.without_limit-conn.ensures in
    subst (λ h. (state g.S.Store h).step_limit ≡ None) (sym same) made

pub returns-in-Err-clause-unfit : goal.returns-in-Err-clause-unfit
returns-in-Err-clause-unfit g c clean is s desk = c.in-Err.ensures.unfit clean (ap (λ f. Err f) is) s (first_unlimited g.S.Store c.args.conn c.without_limit-conn.result c.without_limit-conn.ensures s desk)

pub returns-in-Err-clause-untouched : goal.returns-in-Err-clause-untouched
returns-in-Err-clause-untouched g c clean is = c.in-Err.ensures.untouched clean (ap (λ f. Err f) is) ∙ ap (λ h. (state g.S.Store h).now) c.without_limit-conn.ensures

pub returns-in-Err-clause-unwritten : goal.returns-in-Err-clause-unwritten
returns-in-Err-clause-unwritten g c is = subst (λ h. Survives (state g.S.Store h) (state g.S.Store c.migrate.new.conn) (λ _. ⊥)) c.without_limit-conn.ensures (c.in-Err.ensures.unwritten (ap (λ f. Err f) is))

pub returns-in-Err-clause-again : goal.returns-in-Err-clause-again
returns-in-Err-clause-again g c clean opened s desk = c.in-Err.ensures.again clean opened s (first_unlimited g.S.Store c.args.conn c.without_limit-conn.result c.without_limit-conn.ensures s desk)

pub returns-in-Err-clause-crash_on_the_way : goal.returns-in-Err-clause-crash_on_the_way
returns-in-Err-clause-crash_on_the_way g c =
    let there = survives_unlimited g.S.Store c.args.conn c.without_limit-conn.result c.migrate.new.conn c.without_limit-conn.ensures c.migrate.ensures.crash in
    subst (λ h. Survives (state g.S.Store h) (state g.S.Store c.migrate.new.conn) (LeavesDesk g.S.Store c.args.conn)) c.without_limit-conn.ensures there

pub returns-in-Err-clause-limit_off : goal.returns-in-Err-clause-limit_off
returns-in-Err-clause-limit_off g c = c.migrate.ensures.crash.limit ∙ ap (λ h. (state g.S.Store h).step_limit) c.without_limit-conn.ensures

pub returns-in-Err-clause-cause : goal.returns-in-Err-clause-cause
returns-in-Err-clause-cause g c in_range clean good =
    let is = c.without_limit-conn.ensures in
    c.in-Err.ensures.cause (λ s desk. subst (λ h. HasMetaRowids (state g.S.Store h).now.trees) (sym is) (in_range s (first_before g.S.Store c.args.conn c.without_limit-conn.result is s desk))) (ap (λ h. (state g.S.Store h).step_limit) is) clean
    (faultless_unlimited g.S.Store c.args.conn c.without_limit-conn.result c.migrate.new.conn is good)

pub returns-in-Err-clause-wants : goal.returns-in-Err-clause-wants
returns-in-Err-clause-wants g c is =
    let looks = subst (LooksFirst g.S.Store) c.without_limit-conn.ensures (c.in-Err.ensures.wants (ap (λ f. Err f) is)) in
    (looks.autocommit, looks.schema)

pub returns-in-Err-clause-only_desks : goal.returns-in-Err-clause-only_desks
returns-in-Err-clause-only_desks g c none clean =
    let is = c.without_limit-conn.ensures in
    subst (λ h. Survives (state g.S.Store h) (state g.S.Store c.migrate.new.conn) (λ _. ⊥)) is
    (c.in-Err.ensures.only_desks (λ s desk. none s (first_before g.S.Store c.args.conn c.without_limit-conn.result is s desk)) clean)

pub returns-in-Err-clause-autocommit : goal.returns-in-Err-clause-autocommit
returns-in-Err-clause-autocommit g c mode = c.migrate.ensures.autocommit (ap (λ h. h.in_transaction) c.without_limit-conn.ensures ∙ mode)
