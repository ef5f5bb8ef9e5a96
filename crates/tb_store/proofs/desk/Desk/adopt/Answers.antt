use Rattle.std.proofs.Common.{◌≡◌, None, Err, sym, ap, subst, ◌∙◌}
use Rattle.sqlite.specs.State.{HasCleanDisk, IsUnchanged, Survives}
use Rattle.sqlite.specs.Held.{state}
use Rattle.tb_refine.proofs.Unchanged.{desk_kept}
use Rattle.tb_verify.specs.Looks.{LooksLikeDesk}
use Rattle.tb_store.specs.Kept.{Kept}
use Rattle.tb_store.specs.Represents.{unlimited}
use Rattle.tb_store.proofs.Adopted.{desk_unlimited, desk_before, faultless_unlimited, stands_over, stands_again}
use Rattle.tb_store.proofs.desk.Desk.adopt.Goals as goal

pub returns-in-Ok-clause-adopted : goal.returns-in-Ok-clause-adopted
returns-in-Ok-clause-adopted g c clean =
    let same = ap (λ (k : Kept g.row.S.Denot). k.conn) c.over.ensures in
    let late = subst (λ h. HasCleanDisk (state g.S.Store h)) same clean in
    let reported = c.in-Ok.ensures.answered late in (
      reported.0,
      desk_before g.S.Store c.args.conn c.without_limit-conn.result c.without_limit-conn.ensures reported.0 reported.1,
      stands_over g.S.Store c.over.result c.read_desk.new.conn c.args.limits c.in-Ok.summary c.over.ensures reported.0 reported.2 reported.3,
    )

pub returns-in-Ok-clause-crash : goal.returns-in-Ok-clause-crash
returns-in-Ok-clause-crash g c =
    let same = ap (λ (k : Kept g.row.S.Denot). k.conn) c.over.ensures in
    let begun = subst (λ h. Survives (state g.S.Store h) (state g.S.Store c.read_desk.new.conn) (λ _. ⊥)) c.without_limit-conn.ensures c.read_desk.ensures.survives in
    subst (λ h. Survives (state g.S.Store (unlimited c.args.conn)) (state g.S.Store h) (λ _. ⊥)) (sym same) begun

pub returns-in-Ok-clause-no_step_limit : goal.returns-in-Ok-clause-no_step_limit
returns-in-Ok-clause-no_step_limit g c =
    let same = ap (λ (k : Kept g.row.S.Denot). k.conn) c.over.ensures in
    let read : (state g.S.Store c.read_desk.new.conn).step_limit ≡ None = c.read_desk.ensures.survives.limit ∙ ap (λ h. (state g.S.Store h).step_limit) c.without_limit-conn.ensures in
    subst (λ h. (state g.S.Store h).step_limit ≡ None) (sym same) read

pub returns-in-Err-clause-unfit : goal.returns-in-Err-clause-unfit
returns-in-Err-clause-unfit g c clean is s desk = c.in-Err.ensures.unfit clean (ap (λ f. Err f) is) s (desk_unlimited g.S.Store c.args.conn c.without_limit-conn.result c.without_limit-conn.ensures s desk)

pub returns-in-Err-clause-again : goal.returns-in-Err-clause-again
returns-in-Err-clause-again g c clean opened s desk =
    desk_kept g.S.Store c.without_limit-conn.result c.read_desk.new.conn (c.read_desk.ensures.keeps_records clean opened) s (desk_unlimited g.S.Store c.args.conn c.without_limit-conn.result c.without_limit-conn.ensures s desk)

pub returns-in-Err-clause-crash_on_the_way : goal.returns-in-Err-clause-crash_on_the_way
returns-in-Err-clause-crash_on_the_way g c = subst (λ h. Survives (state g.S.Store h) (state g.S.Store c.read_desk.new.conn) (λ _. ⊥)) c.without_limit-conn.ensures c.read_desk.ensures.survives

pub returns-in-Ok-clause-represents : goal.returns-in-Ok-clause-represents
returns-in-Ok-clause-represents g c clean s desk =
    let reported = returns-in-Ok-clause-adopted g c clean in
    stands_again g.S.Store c.args.conn c.over.result c.one_state_for_the_file.ensures reported.0 s reported.1 desk reported.2

pub returns-in-Ok-clause-unchanged : goal.returns-in-Ok-clause-unchanged
returns-in-Ok-clause-unchanged g c clean =
    let same = ap (λ (k : Kept g.row.S.Denot). k.conn) c.over.ensures in
    let late = subst (λ h. HasCleanDisk (state g.S.Store h)) same clean in
    let read = subst (λ h. IsUnchanged (state g.S.Store h) (state g.S.Store c.read_desk.new.conn)) c.without_limit-conn.ensures (c.in-Ok.ensures.unchanged late) in
    subst (λ h. IsUnchanged (state g.S.Store (unlimited c.args.conn)) (state g.S.Store h)) (sym same) read

pub returns-in-Err-clause-untouched : goal.returns-in-Err-clause-untouched
returns-in-Err-clause-untouched g c clean is =
    c.in-Err.ensures.untouched clean (ap (λ f. Err f) is) ∙ ap (λ h. (state g.S.Store h).now) c.without_limit-conn.ensures

pub returns-in-Err-clause-sees_same : goal.returns-in-Err-clause-sees_same
returns-in-Err-clause-sees_same g c clean opened = c.in-Err.ensures.sees clean opened ∙ ap (λ h. (state g.S.Store h).now) c.without_limit-conn.ensures

pub returns-in-Err-clause-limit_off : goal.returns-in-Err-clause-limit_off
returns-in-Err-clause-limit_off g c = c.read_desk.ensures.survives.limit ∙ ap (λ h. (state g.S.Store h).step_limit) c.without_limit-conn.ensures

pub returns-in-Err-clause-cause : goal.returns-in-Err-clause-cause
returns-in-Err-clause-cause g c clean good =
    let is = c.without_limit-conn.ensures in
    c.in-Err.ensures.cause (ap (λ h. (state g.S.Store h).step_limit) is) clean (faultless_unlimited g.S.Store c.args.conn c.without_limit-conn.result c.read_desk.new.conn is good)

pub returns-in-Err-clause-wants : goal.returns-in-Err-clause-wants
returns-in-Err-clause-wants g c is =
    let looks = subst (LooksLikeDesk g.S.Store) c.without_limit-conn.ensures (c.in-Err.ensures.wants (ap (λ f. Err f) is)) in
    (looks.autocommit, looks.schema)

pub returns-in-Err-clause-autocommit : goal.returns-in-Err-clause-autocommit
returns-in-Err-clause-autocommit g c mode = c.read_desk.ensures.autocommit (ap (λ h. h.in_transaction) c.without_limit-conn.ensures ∙ mode)
