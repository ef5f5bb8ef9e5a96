use Rattle.std.proofs.Common.{◌≡◌, None, sym, ap, subst, ◌∙◌}
use Rattle.sqlite.specs.State.{HasCleanDisk, Survives}
use Rattle.sqlite.specs.Held.{state}
use Rattle.sqlite.proofs.StateLemmas.{survives_weaker}
use Rattle.tb_tables.specs.Records.{AreStored}
use Rattle.tb_tables.specs.Making.{IsBlank, empty_tables}
use Rattle.tb_store.specs.Kept.{Kept}
use Rattle.tb_store.specs.Represents.{unlimited}
use Rattle.tb_core.specs.declared.refusals.Fault.TheVariants.{Memory}
use Rattle.tb_store.proofs.Adopted.{faultless_unlimited}
use Rattle.tb_refine.specs.Faults.{fault_of_making}
use Rattle.tb_tables.proofs.Refusing.{want_left}
use Rattle.tb_store.proofs.Beginning.{still_blank, stands_empty}
use Rattle.tb_store.proofs.desk.Desk.make.Goals as goal

pub returns-in-Ok-clause-made : goal.returns-in-Ok-clause-made
returns-in-Ok-clause-made g c clean blank =
    let same = ap (λ (k : Kept g.row.S.Denot). k.conn) c.empty.ensures in
    let late = subst (λ h. HasCleanDisk (state g.S.Store h)) same clean in
    let holds = c.in-Ok.ensures.ok late (still_blank g.S.Store c.args.conn c.without_limit-conn.result c.without_limit-conn.ensures blank) in
    stands_empty g.S.Store c.empty.result c.create.new.conn c.args.limits c.empty.ensures holds

pub returns-in-Ok-clause-crash : goal.returns-in-Ok-clause-crash
returns-in-Ok-clause-crash g c =
    let same = ap (λ (k : Kept g.row.S.Denot). k.conn) c.empty.ensures in
    let there = survives_weaker (state g.S.Store c.without_limit-conn.result) (state g.S.Store c.create.new.conn) _ (λ db. IsBlank g.S.Store c.args.conn → AreStored empty_tables db)
    (λ _ db whole blank. whole (still_blank g.S.Store c.args.conn c.without_limit-conn.result c.without_limit-conn.ensures blank)) c.create.ensures.crash in
    let begun = subst (λ h. Survives (state g.S.Store h) (state g.S.Store c.create.new.conn) (λ db. IsBlank g.S.Store c.args.conn → AreStored empty_tables db)) c.without_limit-conn.ensures there in
    subst (λ h. Survives (state g.S.Store (unlimited c.args.conn)) (state g.S.Store h) (λ db. IsBlank g.S.Store c.args.conn → AreStored empty_tables db)) (sym same) begun

pub returns-in-Err-clause-crash_on_the_way : goal.returns-in-Err-clause-crash_on_the_way
returns-in-Err-clause-crash_on_the_way g c other =
    let there = survives_weaker (state g.S.Store c.without_limit-conn.result) (state g.S.Store c.create.new.conn) _ (λ db. IsBlank g.S.Store c.args.conn → AreStored empty_tables db)
    (λ _ db whole blank. whole (still_blank g.S.Store c.args.conn c.without_limit-conn.result c.without_limit-conn.ensures blank)) c.create.ensures.crash in
    subst (λ h. Survives (state g.S.Store h) (state g.S.Store c.create.new.conn) (λ db. IsBlank g.S.Store c.args.conn → AreStored empty_tables db)) c.without_limit-conn.ensures there

pub returns-in-Ok-clause-no_step_limit : goal.returns-in-Ok-clause-no_step_limit
returns-in-Ok-clause-no_step_limit g c =
    let same = ap (λ (k : Kept g.row.S.Denot). k.conn) c.empty.ensures in
    let made : (state g.S.Store c.create.new.conn).step_limit ≡ None = c.create.ensures.crash.limit ∙ ap (λ h. (state g.S.Store h).step_limit) c.without_limit-conn.ensures in
    subst (λ h. (state g.S.Store h).step_limit ≡ None) (sym same) made

pub returns-in-Err-clause-limit_off : goal.returns-in-Err-clause-limit_off
returns-in-Err-clause-limit_off g c = c.create.ensures.crash.limit ∙ ap (λ h. (state g.S.Store h).step_limit) c.without_limit-conn.ensures

pub returns-in-Err-clause-cause : goal.returns-in-Err-clause-cause
returns-in-Err-clause-cause g c blank clean good =
    let is = c.without_limit-conn.ensures in
    let fails = c.in-Err.ensures.fails clean (ap (λ h. (state g.S.Store h).step_limit) is) (still_blank g.S.Store c.args.conn c.without_limit-conn.result is blank) in
    let none = c.in-Err.ensures.cause clean (faultless_unlimited g.S.Store c.args.conn c.without_limit-conn.result c.create.new.conn is good) in
    let wants : c.of_making.result ≡ Memory = c.of_making.ensures.value ∙ ap fault_of_making (want_left c.in-Err.error fails none) in
    λ device. absurd (let x = sym wants ∙ device in cc)
