use Rattle.std.proofs.Common.{◌≡◌, ◌≢◌, ◌∙◌, Err, arith, subst, sym}
use Rattle.std.proofs.lemmas.Result.{err_from_is_err_and}
use Rattle.sqlite.specs.State.{HasCleanDisk}
use Rattle.sqlite.specs.Held.{state}
use Rattle.sqlite.proofs.StateLemmas.{survives_weaker}
use Rattle.tb_core.specs.declared.refusals.Fault.{Fault}
use Rattle.tb_core.specs.declared.refusals.Fault.TheVariants.{Device, NotADesk}
use Rattle.sqlite.specs.Effect.{Database}
use Rattle.tb_refine.specs.DeskTables.{tables_of}
use Rattle.tb_refine.proofs.Unique.{unique_tables}
use Rattle.tb_tables.proofs.Causes.{faultless_next, handed_on}
use Rattle.tb_tables.proofs.Commands.{on_err}
use Rattle.tb_tables.specs.Failing.{HasMetaRowids}
use Rattle.tb_verify.proofs.Begun.{first_unchanged}
use Rattle.tb_verify.proofs.Version1Whole.{becomes_desk, first_stays, migration_survives}
use Rattle.tb_verify.proofs.version1_desk.migrate.Goals as goal

pub returns-clause-migrated : goal.returns-clause-migrated
returns-clause-migrated g c clean =
    let late = c.convert.ensures.crash.clean in
    let was : HasCleanDisk (state g.S.Store c.read_first_desk.new.conn) = omega (arith, clean, late) in
    let reported = c.in_ok-summary.ensures.answered was in
    (reported.0, reported.1, becomes_desk g.S.Store c.args.conn.now c.read_first_desk.new.conn c.convert.new.conn reported.0 (c.in_ok-summary.ensures.unchanged was) (c.in_ok-convert.ensures.ok clean) reported.1, reported.2)

pub returns-clause-crash : goal.returns-clause-crash
returns-clause-crash g c = migration_survives g.S.Store c.args.conn.now c.read_first_desk.new.conn c.convert.new.conn c.in_ok-summary.ensures.unchanged c.read_first_desk.ensures.survives c.convert.ensures.crash

pub returns-in_err-convert-clause-crash : goal.returns-in_err-convert-clause-crash
returns-in_err-convert-clause-crash g c = migration_survives g.S.Store c.args.conn.now c.read_first_desk.new.conn c.convert.new.conn c.in_ok-summary.ensures.unchanged c.read_first_desk.ensures.survives c.convert.ensures.crash

pub returns-in_err-convert-clause-again : goal.returns-in_err-convert-clause-again
returns-in_err-convert-clause-again g c clean opened =
    let late = c.convert.ensures.crash.clean in
    let was : HasCleanDisk (state g.S.Store c.read_first_desk.new.conn) = omega (arith, clean, late) in
    on_err c.from_residual-in_err-convert.result (λ s desk. first_stays g.S.Store c.read_first_desk.new.conn c.convert.new.conn s (c.in_err-convert.ensures.err clean opened)
    (first_stays g.S.Store c.args.conn.now c.read_first_desk.new.conn s (λ d h. first_unchanged g.S.Store c.args.conn.now c.read_first_desk.new.conn d h (c.in_ok-summary.ensures.unchanged was)) desk))

pub returns-in_err-summary-clause-again : goal.returns-in_err-summary-clause-again
returns-in_err-summary-clause-again g c clean opened =
    on_err c.from_residual.result (λ s desk. first_stays g.S.Store c.args.conn.now c.read_first_desk.new.conn s (c.read_first_desk.ensures.kept clean opened) desk)

pub returns-in_err-summary-clause-crash : goal.returns-in_err-summary-clause-crash
returns-in_err-summary-clause-crash g c = survives_weaker (state g.S.Store c.args.conn.now) (state g.S.Store c.read_first_desk.new.conn) _ _ (λ _ db none. absurd none) c.read_first_desk.ensures.survives

pub returns-in_err-summary-clause-wants : goal.returns-in_err-summary-clause-wants
returns-in_err-summary-clause-wants g c want =
    let reported = err_from_is_err_and c.from_residual.result c.from_residual.ensures.1 in
    c.read_first_desk.ensures.looks (λ bad. let was = c.in_err-summary.was in let one = reported.1 in let two = reported.2 in absurd cc)

pub returns-in_err-convert-clause-wants : goal.returns-in_err-convert-clause-wants
returns-in_err-convert-clause-wants g c want = c.read_first_desk.ensures.looks (λ bad. let was = c.in_ok-summary.was in absurd cc)

pub returns-in_err-summary-clause-cause : goal.returns-in_err-summary-clause-cause
returns-in_err-summary-clause-cause g c none unlimited clean good =
    handed_on (λ (fault : Fault). fault ≢ Device) c.from_residual.result c.in_err-summary.field-0.0 c.from_residual.ensures.1 (c.in_err-summary.ensures.cause unlimited clean good)

pub returns-in_err-convert-clause-cause : goal.returns-in_err-convert-clause-cause
returns-in_err-convert-clause-cause g c in_range unlimited clean good =
    let old = c.args.conn.now in
    let read = c.read_first_desk.new.conn in
    let new = c.convert.new.conn in
    let late = c.convert.ensures.crash.clean in
    let was : HasCleanDisk (state g.S.Store read) = omega (arith, clean, late) in
    let reported = c.in_ok-summary.ensures.answered was in
    let s = reported.0 in
    let same = c.in_ok-summary.ensures.unchanged was in
    let holds = first_unchanged g.S.Store old read (tables_of s) reported.1.holds same in
    let unique = unique_tables s (c.reached_states_are_well.ensures s reported.1.reachable.reached) in
    let numbered = subst (λ (db : Database). HasMetaRowids db.trees) (sym same.0.now_is) (in_range s reported.1) in
    let here = faultless_next (state g.S.Store old) (state g.S.Store read) (state g.S.Store new) good c.read_first_desk.ensures.survives was c.convert.ensures.crash.counts in
    let none = c.in_err-convert.ensures.cause (c.read_first_desk.ensures.survives.limit ∙ unlimited) (tables_of s) holds unique numbered clean here in
    handed_on (λ (fault : Fault). fault ≢ Device) c.from_residual-in_err-convert.result c.in_err-convert.field-0.0 c.from_residual-in_err-convert.ensures.1 none

pub returns-in_err-convert-clause-unfit : goal.returns-in_err-convert-clause-unfit
returns-in_err-convert-clause-unfit g c clean bad s desk =
    let reported = err_from_is_err_and c.from_residual-in_err-convert.result c.from_residual-in_err-convert.ensures.1 in
    let failed : c.convert.result ≡ Err NotADesk = let was = c.in_err-convert.was in let one = reported.1 in let two = reported.2 in cc in
    absurd (c.convert.ensures.no_form failed)

pub returns-in_err-convert-clause-untouched : goal.returns-in_err-convert-clause-untouched
returns-in_err-convert-clause-untouched g c clean bad =
    let reported = err_from_is_err_and c.from_residual-in_err-convert.result c.from_residual-in_err-convert.ensures.1 in
    let failed : c.convert.result ≡ Err NotADesk = let was = c.in_err-convert.was in let one = reported.1 in let two = reported.2 in cc in
    absurd (c.convert.ensures.no_form failed)

pub returns-in_err-convert-clause-unwritten : goal.returns-in_err-convert-clause-unwritten
returns-in_err-convert-clause-unwritten g c bad =
    let reported = err_from_is_err_and c.from_residual-in_err-convert.result c.from_residual-in_err-convert.ensures.1 in
    let failed : c.convert.result ≡ Err NotADesk = let was = c.in_err-convert.was in let one = reported.1 in let two = reported.2 in cc in
    absurd (c.convert.ensures.no_form failed)

pub returns-clause-only_desks : goal.returns-clause-only_desks
returns-clause-only_desks g c none clean =
    let reported = returns-clause-migrated g c clean in
    absurd (none reported.0 reported.1)

pub returns-in_err-convert-clause-only_desks : goal.returns-in_err-convert-clause-only_desks
returns-in_err-convert-clause-only_desks g c none clean =
    let late = c.convert.ensures.crash.clean in
    let was : HasCleanDisk (state g.S.Store c.read_first_desk.new.conn) = omega (arith, clean, late) in
    let reported = c.in_ok-summary.ensures.answered was in
    absurd (none reported.0 reported.1)

pub returns-in_err-summary-clause-only_desks : goal.returns-in_err-summary-clause-only_desks
returns-in_err-summary-clause-only_desks g c none clean = c.read_first_desk.ensures.survives
