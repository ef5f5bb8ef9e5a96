-- What one read tells, and several in a row.
use Rattle.std.proofs.Common.{◌≡◌, ◌≢◌, None, List, Result, Ok, Err, IfOk, IfErr, OnOk, IsPermutation, map, sym, ap, subst, ◌∙◌, arith}
use Rattle.std.proofs.lemmas.List.Sorted.{IsPermutation-sym}
use Rattle.sqlite.specs.declared.error.Error.{Error}
use Rattle.sqlite.specs.Order.{Row}
use Rattle.sqlite.specs.Store.{Ghosts}
use Rattle.sqlite.specs.Effect.{Database}
use Rattle.sqlite.specs.Held.{Held, state}
use Rattle.sqlite.specs.State.{HasCleanDisk, IsUnchanged}
use Rattle.sqlite.proofs.StateLemmas.{survives_then}
use Rattle.sqlite.proofs.Callers.{unchanged_then}
use Rattle.sqlite_trees.specs.Tree.{Trees}
use Rattle.tb_core.specs.declared.refusals.Fault.{Fault}
use Rattle.tb_core.specs.declared.refusals.Fault.TheVariants.{Refused, Device, NotADesk, Output}
use Rattle.tb_core.specs.declared.refusals.Refusal.{Refusal}
use Rattle.tb_tables.specs.Layout.{version_one_schema}
use Rattle.tb_tables.specs.Failing.{IsWant}
use Rattle.tb_tables.specs.Records.{Shows}
use Rattle.tb_tables.specs.Leaving.{IsFaultless}
use Rattle.tb_tables.proofs.Causes.{faultless_next}
use Rattle.tb_reads.specs.declared.error.ReadError.{ReadError}
use Rattle.tb_reads.specs.declared.error.ReadError.TheVariants.{Form}
use Rattle.tb_reads.specs.Failing.{IsReadWant}
use Rattle.tb_refine.specs.Faults.{fault_of_making, reported_by}
use Rattle.tb_refine.proofs.Reported.{reported_if}
use Rattle.tb_verify.specs.Unfit.{fault_of_rows}
use Rattle.tb_verify.proofs.Version1Selected.{HasSelected}
use Rattle.tb_verify.specs.Version1Reads.{HasReadVersion1, AreOfNoState}
use Rattle.tb_verify.proofs.Begun.{first_unchanged}
use Rattle.tb_verify.proofs.Results.{ok_is_no_err, err_is, both_shown, if_ok_under, on_ok_under}

pub shows_read : (view : Row → Row) (wanted rows slice table : List Row) → slice ≡ rows → slice ≡ wanted → IsPermutation (map view table) rows → Shows view wanted table
shows_read view wanted rows slice table same is all = IsPermutation-sym (map view table) wanted (subst (IsPermutation (map view table)) (sym same ∙ is) all)

-- ---- one read

module _ {S R : Type 0} (g : Ghosts S) (old new : Held S) (selection : Result R Error) (Shown : R → Trees → Type 0) (h : HasSelected g old new selection Shown) where
  pub read_well : {X : Type 0} (x : X) (Are : X → Trees → Type 0) → (HasCleanDisk (state g new) → (state g old).now.schema ≡ version_one_schema → Are x (state g old).now.trees)
      → (HasCleanDisk (state g new) → (state g old).now.schema ≡ version_one_schema → IsUnchanged (state g old) (state g new)) → HasReadVersion1 g old new (Ok x) Are
  read_well x Are are same = record {
    are = are;
    unfit = λ clean q. ok_is_no_err x NotADesk q;
    refused = λ r q. ok_is_no_err x (Refused r) q;
    output = λ q. ok_is_no_err x Output q;
    cause = λ good clean unlimited has. tt;
    same = same;
    mode = h.mode;
    kept = h.kept;
    commits_nothing = h.commits_nothing;
  }

  pub read_badly : {X : Type 0} (e : Fault) (Are : X → Trees → Type 0)
      → (HasCleanDisk (state g new) → e ≡ NotADesk → (state g old).now.schema ≡ version_one_schema → AreOfNoState (state g old).now.trees × IsUnchanged (state g old) (state g new)) → ((r : Refusal) → e ≢ Refused r) → e ≢ Output
      → (IsFaultless g old new → HasCleanDisk (state g new) → (state g old).step_limit ≡ None → (state g old).now.schema ≡ version_one_schema → e ≢ Device) → HasReadVersion1 g old new (Err e) Are
  read_badly {X = X} e Are unfit refused output cause = record {
    are = λ clean. tt;
    unfit = λ clean q. unfit clean (err_is X e NotADesk q);
    refused = λ r q. refused r (err_is X e (Refused r) q);
    output = λ q. output (err_is X e Output q);
    cause = cause;
    same = λ clean. tt;
    mode = h.mode;
    kept = h.kept;
    commits_nothing = h.commits_nothing;
  }

  -- it is tested, and what is not of version 1 does not pass
  pub read_tested : {A N : Type 0} {Are : Unit {0} → Trees → Type 0} (r : Result (Unit {0}) Fault) → OnOk r A → IfErr r (λ (e : Fault). (e ≡ NotADesk) × N)
      → (A → HasCleanDisk (state g new) → (state g old).now.schema ≡ version_one_schema → Are tt (state g old).now.trees)
      → (N → HasCleanDisk (state g new) → (state g old).now.schema ≡ version_one_schema → AreOfNoState (state g old).now.trees)
      → (HasCleanDisk (state g new) → (state g old).now.schema ≡ version_one_schema → IsUnchanged (state g old) (state g new)) → HasReadVersion1 g old new r Are
  read_tested (Ok done) right wrong are unfit same = read_well done _ (are right) same
  read_tested (Err e) right wrong are unfit same =
      let is = wrong.0 in
      read_badly e _ (λ clean q has. (unfit wrong.1 clean has, same clean has)) (λ r q. absurd cc) (λ q. absurd cc) (λ good clean unlimited has q. absurd cc)

-- ---- a statement, with the fault for its error

answer_back : {X E : Type 0} (f : E → Fault) (r : Result X E) (x : X) → reported_by f r ≡ Ok x → r ≡ Ok x
answer_back f (Ok y) x is = let same : y ≡ x = cc in ap (λ z. Ok z) same
answer_back f (Err e) x is = absurd cc

module _ {S R : Type 0} (g : Ghosts S) (old new : Held S) (selection : Result R Error) (Shown : R → Trees → Type 0) (h : HasSelected g old new selection Shown) (answer : Result R Fault) where
  pub selected_rows : (rows : R) → answer ≡ reported_by fault_of_making selection → answer ≡ Ok rows → HasSelected g old new (Ok rows) Shown
  selected_rows rows value is = subst (λ r. HasSelected g old new r Shown) (answer_back fault_of_making selection rows (sym value ∙ is)) h

  -- its error is handed on
  pub selected_none : {X : Type 0} (e f : Fault) (r : Result X Fault) (Are : X → Trees → Type 0) → answer ≡ Err e → r ≡ Err f → f ≡ e → answer ≢ Err NotADesk → ((q : Refusal) → answer ≢ Err (Refused q)) → answer ≢ Err Output → (IfErr selection IsWant → answer ≢ Err Device)
      → HasReadVersion1 g old new r Are
  selected_none e f r Are was made is no_form never unwritten want =
      let failed : (k : Fault) → f ≡ k → answer ≡ Err k = λ k q. was ∙ ap (λ (j : Fault). let w : Result R Fault = Err j in w) (sym is ∙ q) in
      subst (λ w. HasReadVersion1 g old new w Are) (sym made)
      (read_badly g old new selection Shown h f Are (λ clean q has. absurd (no_form (failed NotADesk q))) (λ q same. never q (failed (Refused q) same)) (λ same. unwritten (failed Output same)) (λ good clean unlimited has q. want (h.cause good clean unlimited has) (failed Device q)))

-- ---- the records that its rows are, with the fault where they are none

module _ {S R : Type 0} (g : Ghosts S) (old new : Held S) (selection : Result R Error) (Shown : R → Trees → Type 0) (h : HasSelected g old new selection Shown) where
  on_ok : {X : Type 0} {A : Type 0} (r : Result X Fault) → A → OnOk r A
  on_ok (Ok x) a = a
  on_ok (Err e) a = tt

  no_device : {X : Type 0} (r : Result X Fault) → r ≢ Err Device → IfErr r (λ (fault : Fault). fault ≢ Device)
  no_device (Ok x) other = tt
  no_device {X = X} (Err e) other = λ is. other (ap (λ (j : Fault). let w : Result X Fault = Err j in w) is)

  pub read_told : {X : Type 0} (told : Result X ReadError) (result : Result X Fault) (Are : X → Trees → Type 0) → result ≡ reported_by fault_of_rows told → (result ≡ Err NotADesk → told ≡ Err Form) → (IfErr told IsReadWant → result ≢ Err Device) → ((q : Refusal) → result ≢ Err (Refused q)) → result ≢ Err Output → IfErr told IsReadWant
      → (HasCleanDisk (state g new) → IfOk told (λ x. (state g old).now.schema ≡ version_one_schema → Are x (state g old).now.trees))
      → (HasCleanDisk (state g new) → (state g old).now.schema ≡ version_one_schema → told ≡ Err Form → AreOfNoState (state g old).now.trees)
      → (HasCleanDisk (state g new) → (state g old).now.schema ≡ version_one_schema → IsUnchanged (state g old) (state g new)) → HasReadVersion1 g old new result Are
  read_told told result Are value form want never unwritten wants are unfit same = record {
    are = λ clean. rw value (reported_if fault_of_rows _ told (are clean));
    unfit = λ clean q has. (unfit clean has (form q), same clean has);
    refused = never;
    output = unwritten;
    cause = λ good clean unlimited has. no_device result (want wants);
    same = λ clean. on_ok result (same clean);
    mode = h.mode;
    kept = h.kept;
    commits_nothing = h.commits_nothing;
  }

-- ---- a read after another

module _ {S X Y : Type 0} (g : Ghosts S) (a b c : Held S) (x : X) (P : X → Trees → Type 0) (one : HasReadVersion1 g a b (Ok x) P) (r : Result Y Fault) (Q : Y → Trees → Type 0) (two : HasReadVersion1 g b c r Q) where
  middle : HasCleanDisk (state g c) → HasCleanDisk (state g b)
  middle clean = let n = two.commits_nothing.clean in omega (arith, clean, n)

  unmoved : HasCleanDisk (state g c) → (state g a).now.schema ≡ version_one_schema → (state g b).now ≡ (state g a).now
  unmoved clean has = (one.same (middle clean) has).0.now_is

  schema_stays : HasCleanDisk (state g c) → (state g a).now.schema ≡ version_one_schema → (state g b).now.schema ≡ version_one_schema
  schema_stays clean has = ap (λ (d : Database). d.schema) (unmoved clean has) ∙ has

  trees_stay : HasCleanDisk (state g c) → (state g a).now.schema ≡ version_one_schema → (state g b).now.trees ≡ (state g a).now.trees
  trees_stay clean has = ap (λ (d : Database). d.trees) (unmoved clean has)

  pub read_both : HasReadVersion1 g a c r (λ y trees. P x trees × Q y trees)
  read_both = record {
    are = λ clean. if_ok_under (λ y. P x (state g a).now.trees × Q y (state g a).now.trees) r (λ has. both_shown r (schema_stays clean has) (two.are clean) (λ y q. (one.are (middle clean) has, subst (Q y) (trees_stay clean has) q)));
    unfit = λ clean q has. let no = two.unfit clean q (schema_stays clean has) in (subst AreOfNoState (trees_stay clean has) no.0, unchanged_then (state g a) (state g b) (state g c) (one.same (middle clean) has) no.1);
    refused = two.refused;
    output = two.output;
    cause = λ good clean unlimited has. two.cause (faultless_next (state g a) (state g b) (state g c) good one.commits_nothing (middle clean) two.commits_nothing.counts) clean (one.commits_nothing.limit ∙ unlimited) (schema_stays clean has);
    same = λ clean. on_ok_under r (two.same clean) (λ more has. unchanged_then (state g a) (state g b) (state g c) (one.same (middle clean) has) (more (schema_stays clean has)));
    mode = λ m. two.mode (one.mode m);
    kept = λ clean is_open d holds. two.kept clean is_open d (first_unchanged g a b d holds (one.same (middle clean) holds.schema));
    commits_nothing = survives_then (state g a) (state g b) (state g c) _ _ _ (λ _ _ other. other) (λ clean _ other has. other (schema_stays clean has)) one.commits_nothing two.commits_nothing;
  }

-- ---- what is made of it

-- a fault is passed on
pub read_failed : {S X Y : Type 0} (g : Ghosts S) (a b : Held S) (e f : Fault) (r : Result Y Fault) (P : X → Trees → Type 0) (Q : Y → Trees → Type 0) → r ≡ Err f → f ≡ e → HasReadVersion1 g a b (Err e) P → HasReadVersion1 g a b r Q
read_failed {X = X} {Y = Y} g a b e f r P Q made is h = subst (λ w. HasReadVersion1 g a b w Q) (sym made) (record {
  are = λ clean. tt;
  unfit = λ clean q. h.unfit clean (back NotADesk q);
  refused = λ r q. h.refused r (back (Refused r) q);
  output = λ q. h.output (back Output q);
  cause = λ good clean unlimited has q. h.cause good clean unlimited has (sym is ∙ q);
  same = λ clean. tt;
  mode = h.mode;
  kept = h.kept;
  commits_nothing = h.commits_nothing;
})
  where
    back : (k : Fault) → (let w : Result Y Fault = Err f in w ≡ Err k) → let w : Result X Fault = Err e in w ≡ Err k
    back k q = ap (λ (j : Fault). let w : Result X Fault = Err j in w) (sym is ∙ err_is Y f k q)

-- another value is made
pub read_as : {S X Y : Type 0} (g : Ghosts S) (a b : Held S) (x : X) (y : Y) (P : X → Trees → Type 0) (Q : Y → Trees → Type 0) → ((t : Trees) → P x t → Q y t) → HasReadVersion1 g a b (Ok x) P → HasReadVersion1 g a b (Ok y) Q
read_as g a b x y P Q reported h = record {
  are = λ clean has. reported (state g a).now.trees (h.are clean has);
  unfit = λ clean q. ok_is_no_err y NotADesk q;
  refused = λ r q. ok_is_no_err y (Refused r) q;
  output = λ q. ok_is_no_err y Output q;
  cause = λ good clean unlimited has. tt;
  same = λ clean has. h.same clean has;
  mode = h.mode;
  kept = h.kept;
  commits_nothing = h.commits_nothing;
}
