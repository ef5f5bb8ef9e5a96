-- What one read tells, and several in a row.
use Rattle.std.proofs.Common.{◌≡◌, ◌≢◌, true, false, None, Result, Ok, Err, IfOk, IfErr, OnOk, is_ok, sym, ap, subst, ◌∙◌}
use Rattle.sqlite.specs.Store.{Ghosts}
use Rattle.sqlite.specs.Effect.{Database}
use Rattle.sqlite.specs.Held.{Held, state}
use Rattle.sqlite.specs.State.{HasCleanDisk, IsUnchanged}
use Rattle.sqlite.proofs.Callers.{unchanged_then}
use Rattle.sqlite_trees.specs.Tree.{Trees}
use Rattle.tb_core.specs.declared.refusals.Fault.{Fault}
use Rattle.tb_core.specs.declared.refusals.Fault.TheVariants.{Refused, Device, NotADesk, Output}
use Rattle.tb_core.specs.declared.refusals.Refusal.{Refusal}
use Rattle.tb_core.specs.Machine.{Machine}
use Rattle.tb_core.specs.Reaching.{IsReachable}
use Rattle.tb_tables.specs.Layout.{desk_schema}
use Rattle.tb_tables.specs.Records.{Tables, AreStored}
use Rattle.tb_tables.specs.Leaving.{IsFaultless, FailsOnlyAs}
use Rattle.tb_tables.proofs.Causes.{faultless_next}
use Rattle.tb_refine.specs.DeskTables.{tables_of}
use Rattle.tb_refine.specs.Faults.{reported_by}
use Rattle.tb_refine.proofs.Reported.{reported_if, reported_only}
use Rattle.tb_reads.specs.declared.error.ReadError.{ReadError}
use Rattle.tb_reads.specs.declared.error.ReadError.TheVariants.{Form}
use Rattle.tb_reads.specs.Failing.{SeesAsBefore, IsUnchangedOnForm, IsReadWant}
use Rattle.tb_reads.specs.ReadOnly.{IsReadOnly}
use Rattle.tb_reads.proofs.ReadOnly.{read_then, read_on, was_clean}
use Rattle.tb_reads.proofs.Staying.{still_settled}
use Rattle.tb_verify.specs.TableReads.{HasReadTable}
use Rattle.tb_verify.specs.Unfit.{fault_of_rows}
use Rattle.tb_verify.proofs.Results.{ok_is_no_err, err_is, both_shown, if_ok_under}

-- where the trees stand for a reachable state
abbrev pub Unstood : Trees → Type 0
Unstood trees = (s : Machine) → IsReachable s → AreStored (tables_of s) trees → ⊥

-- ---- one read

module _ {S : Type 0} (g : Ghosts S) (old new : Held S) (sees : SeesAsBefore g old new) where
  pub read_well : {X : Type 0} (x : X) (IsShown : X → Trees → Type 0) (IsHeld : X → Tables → Type 0) → (HasCleanDisk (state g new) → (state g old).now.schema ≡ desk_schema → IsShown x (state g old).now.trees)
      → (HasCleanDisk (state g new) → (state g old).now.schema ≡ desk_schema → (s : Machine) → IsReachable s → AreStored (tables_of s) (state g old).now.trees → IsHeld x (tables_of s))
      → IsReadOnly g old new true → HasReadTable g old new (Ok x) IsShown IsHeld
  read_well x IsShown IsHeld shown reported read = record {
    shown = shown;
    reported = reported;
    unfit = λ clean q. ok_is_no_err x NotADesk q;
    untouched = λ clean q. ok_is_no_err x NotADesk q;
    sees = sees;
    refused = λ r q. ok_is_no_err x (Refused r) q;
    output = λ q. ok_is_no_err x Output q;
    cause = λ good clean unlimited has. tt;
    read_only = read;
  }

  pub read_badly : {X : Type 0} (e : Fault) (IsShown : X → Trees → Type 0) (IsHeld : X → Tables → Type 0) → (HasCleanDisk (state g new) → e ≡ NotADesk → (state g old).now.schema ≡ desk_schema → Unstood (state g old).now.trees)
      → (HasCleanDisk (state g new) → e ≡ NotADesk → (state g old).now.schema ≡ desk_schema → IsUnchanged (state g old) (state g new)) → ((r : Refusal) → e ≢ Refused r) → e ≢ Output
      → (IsFaultless g old new → HasCleanDisk (state g new) → (state g old).step_limit ≡ None → (state g old).now.schema ≡ desk_schema → e ≢ Device)
      → IsReadOnly g old new false → HasReadTable g old new (Err e) IsShown IsHeld
  read_badly {X = X} e IsShown IsHeld unfit untouched refused output cause read = record {
    shown = λ clean. tt;
    reported = λ clean. tt;
    unfit = λ clean q. unfit clean (err_is X e NotADesk q);
    untouched = λ clean q. untouched clean (err_is X e NotADesk q);
    sees = sees;
    refused = λ r q. refused r (err_is X e (Refused r) q);
    output = λ q. output (err_is X e Output q);
    cause = cause;
    read_only = read;
  }

-- ---- a read, with the fault for its error

module _ {S X : Type 0} (g : Ghosts S) (old new : Held S) (r : Result X ReadError) (result : Result X Fault) (IsShown : X → Trees → Type 0) (IsHeld : X → Tables → Type 0) where
  no_device : result ≢ Err Device → IfErr result (λ (fault : Fault). fault ≢ Device)
  no_device other = by result other
    where
      by : (s : Result X Fault) → s ≢ Err Device → IfErr s (λ (fault : Fault). fault ≢ Device)
      by (Ok x) never = tt
      by (Err e) never = λ is. never (ap (λ f. Err f) is)

  pub read_reported : result ≡ reported_by fault_of_rows r → (result ≡ Err NotADesk → r ≡ Err Form) → (IfErr r IsReadWant → result ≢ Err Device) → ((q : Refusal) → result ≢ Err (Refused q)) → result ≢ Err Output → SeesAsBefore g old new
      → (HasCleanDisk (state g new) → IfOk r (λ x. (state g old).now.schema ≡ desk_schema → IsShown x (state g old).now.trees))
      → (HasCleanDisk (state g new) → IfOk r (λ x. (state g old).now.schema ≡ desk_schema → (s : Machine) → IsReachable s → AreStored (tables_of s) (state g old).now.trees → IsHeld x (tables_of s)))
      → (HasCleanDisk (state g new) → r ≡ Err Form → (state g old).now.schema ≡ desk_schema → Unstood (state g old).now.trees) → IsUnchangedOnForm g old new r
      → (IsFaultless g old new → FailsOnlyAs IsReadWant g old new r) → IsReadOnly g old new (is_ok r) → HasReadTable g old new result IsShown IsHeld
  read_reported value form want never unwritten sees shown held unfit untouched cause read = record {
    shown = λ clean. rw value (reported_if fault_of_rows _ r (shown clean));
    reported = λ clean. rw value (reported_if fault_of_rows _ r (held clean));
    unfit = λ clean failed. unfit clean (form failed);
    untouched = λ clean failed. untouched clean (form failed);
    sees = sees;
    refused = never;
    output = unwritten;
    cause = λ good clean unlimited has. no_device (want (cause good clean unlimited has));
    read_only = rw value (reported_only fault_of_rows g old new r read);
  }

-- ---- a read after another

module _ {S X Y : Type 0} (g : Ghosts S) (a b c : Held S) (x : X) (P : X → Trees → Type 0) (I : X → Tables → Type 0) (one : HasReadTable g a b (Ok x) P I) (r : Result Y Fault) (Q : Y → Trees → Type 0) (J : Y → Tables → Type 0) (two : HasReadTable g b c r Q J) where
  middle : HasCleanDisk (state g c) → HasCleanDisk (state g b)
  middle = was_clean two.read_only

  unmoved : HasCleanDisk (state g c) → (state g a).now.schema ≡ desk_schema → (state g b).now ≡ (state g a).now
  unmoved clean has = (one.read_only.unchanged (middle clean) has).0.now_is

  schema_stays : HasCleanDisk (state g c) → (state g a).now.schema ≡ desk_schema → (state g b).now.schema ≡ desk_schema
  schema_stays clean has = ap (λ (d : Database). d.schema) (unmoved clean has) ∙ has

  trees_stay : HasCleanDisk (state g c) → (state g a).now.schema ≡ desk_schema → (state g b).now.trees ≡ (state g a).now.trees
  trees_stay clean has = ap (λ (d : Database). d.trees) (unmoved clean has)

  pub read_both : HasReadTable g a c r (λ y trees. P x trees × Q y trees) (λ y d. I x d × J y d)
  read_both = record {
    shown = λ clean. if_ok_under (λ y. P x (state g a).now.trees × Q y (state g a).now.trees) r (λ has. both_shown r (schema_stays clean has) (two.shown clean) (λ y q. (one.shown (middle clean) has, subst (Q y) (trees_stay clean has) q)));
    reported = λ clean. if_ok_under (λ y. (s : Machine) → IsReachable s → AreStored (tables_of s) (state g a).now.trees → I x (tables_of s) × J y (tables_of s)) r (λ has. both_shown r (schema_stays clean has) (two.reported clean) (λ y q s reach stands. (one.reported (middle clean) has s reach stands, q s reach (subst (AreStored (tables_of s)) (sym (trees_stay clean has)) stands))));
    unfit = λ clean q has s reach stands. two.unfit clean q (schema_stays clean has) s reach (subst (AreStored (tables_of s)) (sym (trees_stay clean has)) stands);
    untouched = λ clean q has. unchanged_then (state g a) (state g b) (state g c) (one.read_only.unchanged (middle clean) has) (two.untouched clean q (schema_stays clean has));
    sees = λ clean opened has settled. two.sees clean opened (schema_stays clean has) (still_settled g a b settled (one.read_only.unchanged (middle clean) has)) ∙ unmoved clean has;
    refused = two.refused;
    output = two.output;
    cause = λ good clean unlimited has. two.cause (faultless_next (state g a) (state g b) (state g c) good one.read_only.commits_nothing (middle clean) two.read_only.commits_nothing.counts) clean (one.read_only.commits_nothing.limit ∙ unlimited) (schema_stays clean has);
    read_only = read_then one.read_only two.read_only;
  }

-- ---- what is made of it

-- a fault is passed on
pub read_failed : {S X Y : Type 0} (g : Ghosts S) (a b : Held S) (e f : Fault) (r : Result Y Fault) (P : X → Trees → Type 0) (I : X → Tables → Type 0) (Q : Y → Trees → Type 0) (J : Y → Tables → Type 0) → r ≡ Err f → f ≡ e → HasReadTable g a b (Err e) P I
    → HasReadTable g a b r Q J
read_failed {X = X} g a b e f r P I Q J made is h =
    subst (λ w. HasReadTable g a b w Q J) (sym made)
    (read_badly g a b h.sees f Q J (λ clean q. h.unfit clean (ap (λ (k : Fault). let w : Result X Fault = Err k in w) (sym is ∙ q)))
    (λ clean q. h.untouched clean (ap (λ (k : Fault). let w : Result X Fault = Err k in w) (sym is ∙ q))) (λ r q. h.refused r (ap (λ (k : Fault). let w : Result X Fault = Err k in w) (sym is ∙ q)))
    (λ q. h.output (ap (λ (k : Fault). let w : Result X Fault = Err k in w) (sym is ∙ q)))
    (λ good clean unlimited has q. h.cause good clean unlimited has (sym is ∙ q)) h.read_only)

-- it is tested, and what is no desk's does not pass
pub read_tested : {S X : Type 0} (g : Ghosts S) (a b : Held S) (x : X) (r : Result (Unit {0}) Fault) (A : Type 0) (P : X → Trees → Type 0) (I : X → Tables → Type 0) (Q : Trees → Type 0) → HasReadTable g a b (Ok x) P I → OnOk r A
    → IfErr r (λ (e : Fault). (e ≡ NotADesk) × ¬ A) → ((t : Trees) → P x t → A → Q t) → ((d : Tables) → I x d → A) → HasReadTable g a b r (λ _ t. Q t) (λ _ _. Unit {0})
read_tested g a b x (Ok done) A P I Q h right wrong shown held = read_well g a b h.sees done _ _ (λ clean has. shown (state g a).now.trees (h.shown clean has) right) (λ clean has s reach stands. tt) h.read_only
read_tested g a b x (Err e) A P I Q h right wrong shown held =
    let is = wrong.0 in
    read_badly g a b h.sees e _ _ (λ clean q has s reach stands. wrong.1 (held (tables_of s) (h.reported clean has s reach stands)))
    (λ clean q has. h.read_only.unchanged clean has) (λ r q. absurd cc) (λ q. absurd cc) (λ good clean unlimited has q. absurd cc) (read_on false h.read_only)

-- another value is made
pub read_as : {S X Y : Type 0} (g : Ghosts S) (a b : Held S) (x : X) (y : Y) (P : X → Trees → Type 0) (I : X → Tables → Type 0) (Q : Y → Trees → Type 0) (J : Y → Tables → Type 0) → ((t : Trees) → P x t → Q y t)
    → ((t : Trees) (d : Tables) → AreStored d t → P x t → I x d → J y d) → HasReadTable g a b (Ok x) P I → HasReadTable g a b (Ok y) Q J
read_as g a b x y P I Q J shown reported h =
    read_well g a b h.sees y Q J (λ clean has. shown (state g a).now.trees (h.shown clean has))
    (λ clean has s reach stands. reported (state g a).now.trees (tables_of s) stands (h.shown clean has) (h.reported clean has s reach stands)) h.read_only
