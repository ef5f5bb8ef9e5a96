-- How a read of a desk is made: of a read of the tables, of reads in a row, and of what is computed from them.
use Rattle.std.proofs.Common.{◌≡◌, ◌≢◌, Option, None, Result, Ok, Err, IfErr, IsErrAnd, is_ok, true, false, subst, sym, ap, ◌∙◌}
use Rattle.sqlite.specs.Store.{Ghosts}
use Rattle.sqlite.specs.Held.{Held, state}
use Rattle.sqlite.specs.State.{HasCleanDisk}
use Rattle.tb_core.specs.declared.refusals.Fault.{Fault}
use Rattle.tb_core.specs.declared.refusals.Fault.TheVariants.{Memory, NotADesk, Output, Refused}
use Rattle.tb_core.specs.declared.refusals.Refusal.{Refusal}
use Rattle.tb_core.specs.Machine.{Machine}
use Rattle.tb_tables.specs.Leaving.{FailsOnlyAs, IsFaultless}
use Rattle.tb_tables.proofs.Causes.{faultless_next}
use Rattle.tb_reads.specs.declared.error.ReadError.{ReadError}
use Rattle.tb_reads.specs.declared.error.ReadError.TheVariants.{Form}
use Rattle.tb_reads.specs.Failing.{IsReadFault, IsReadWant}
use Rattle.tb_reads.specs.ReadOnly.{IsReadOnly}
use Rattle.tb_reads.proofs.ReadOnly.{read_none, read_on, read_then, schema_stays, was_clean}
use Rattle.tb_refine.specs.Calls.{KnowsDeskWhere}
use Rattle.tb_refine.specs.DeskTables.{IsDeskOf}
use Rattle.tb_refine.specs.Faults.{IsNoDevice, fault_of_read, reported_by, reported_of_row}
use Rattle.tb_refine.specs.DeskReads.{IsRead, IsReadWhere}
use Rattle.tb_refine.proofs.Faultless.{read_reported, want_reported}
use Rattle.tb_refine.proofs.Reported.{reported_clear, reported_not, reported_only, row_clear, row_known, row_only}
use Rattle.tb_refine.proofs.Unchanged.{desk_after}

-- the desk is not called no desk
abbrev pub IsKnown : {X : Type 0} → Result X Fault → Type 0
IsKnown r = r ≢ Err NotADesk

err_with : {X E : Type 0} (P : E → Type 0) (r : Result X E) (e : E) → IfErr r P → r ≡ Err e → P e
err_with P (Ok x) e h is = absurd cc
err_with P (Err y) e h is = let same : y ≡ e = cc in subst P same h

-- ---- a read of the tables, with the fault for its error

module _ {S X : Type 0} {g : Ghosts S} {old new : Held S} (result : Result X Fault) (never : (r : Refusal) → result ≢ Err (Refused r)) (output : result ≢ Err Output) where
  pub read_of : (r : Result X ReadError) → result ≡ reported_by fault_of_read r → FailsOnlyAs IsReadFault g old new r → (IsFaultless g old new → FailsOnlyAs IsReadWant g old new r) → IsReadOnly g old new (is_ok r)
      → (HasCleanDisk (state g new) → (s : Machine) → IsDeskOf g old s → r ≢ Err Form) → IsRead g old new result
  read_of r is fails cause only fits = record {
    never_refuses = never;
    output = output;
    fails = λ clean unlimited s desk bad.
        reported_not fault_of_read NotADesk r (λ e failed.
        read_reported e (err_with IsReadFault r e (fails clean unlimited desk.holds.schema) failed) (λ unfit. fits clean s desk (failed ∙ ap Err unfit)))
        (sym is ∙ bad);
    cause = λ good clean unlimited has.
        subst (λ z. IfErr z IsNoDevice) (sym is) (reported_clear fault_of_read r (λ e failed. want_reported e (err_with IsReadWant r e (cause good clean unlimited has) failed)));
    read_only = subst (λ z. IsReadOnly g old new (is_ok z)) (sym is) (reported_only fault_of_read g old new r only);
  }

  -- of one row, where those desks have it
  pub row_of : {IsSo : Machine → Type 0 → Type 0} (r : Result (Option X) ReadError) → result ≡ reported_of_row r → FailsOnlyAs IsReadFault g old new r → (IsFaultless g old new → FailsOnlyAs IsReadWant g old new r)
      → IsReadOnly g old new (is_ok r) → (HasCleanDisk (state g new) → (s : Machine) → IsDeskOf g old s → (r ≢ Ok None → r ≢ Err Form → IsKnown result) → IsSo s (IsKnown result)) → IsReadWhere g old new result IsSo
  row_of r is fails cause only there = record {
    never_refuses = never;
    output = output;
    fails = λ clean unlimited s desk. there clean s desk (λ has fits bad.
        row_known r has (λ e failed. read_reported e (err_with IsReadFault r e (fails clean unlimited desk.holds.schema) failed) (λ unfit. fits (failed ∙ ap Err unfit))) (sym is ∙ bad));
    cause = λ good clean unlimited has.
        subst (λ z. IfErr z IsNoDevice) (sym is) (row_clear r (λ e failed. want_reported e (err_with IsReadWant r e (cause good clean unlimited has) failed)));
    read_only = subst (λ z. IsReadOnly g old new (is_ok z)) (sym is) (row_only g old new r only);
  }

-- ---- reads in a row

module _ {S : Type 0} {g : Ghosts S} where
  -- nothing is read
  pub read_nothing : {X : Type 0} {a : Held S} {IsSo : Machine → Type 0 → Type 0} → ((s : Machine) → IsDeskOf g a s → IsSo s (IsKnown {X = X} (Err NotADesk))) → IsReadWhere {X = X} g a a (Err NotADesk) IsSo
  read_nothing none = record {
    never_refuses = λ r bad. absurd cc;
    output = λ bad. absurd cc;
    fails = λ clean unlimited s desk. none s desk;
    cause = λ good clean unlimited has bad. absurd cc;
    read_only = read_none;
  }

  -- reads that succeeded, and what is made of them
  pub read_made : {X : Type 0} {a b : Held S} {IsSo : Machine → Type 0 → Type 0} (r : Result X Fault) → IsReadOnly g a b true → ((q : Refusal) → r ≢ Err (Refused q)) → r ≢ Err Output → IfErr r IsNoDevice
      → KnowsDeskWhere g a b r IsSo → IsReadWhere g a b r IsSo
  read_made r only never output cause fails = record {
    never_refuses = never;
    output = output;
    fails = fails;
    cause = λ good clean unlimited has. cause;
    read_only = read_on (is_ok r) only;
  }

  -- the same, where nothing can fail in it
  pub read_well : {X : Type 0} {a b : Held S} {IsSo : Machine → Type 0 → Type 0} {x : X} → IsReadOnly g a b true → ((s : Machine) → IsKnown (Ok x) → IsSo s (IsKnown (Ok x))) → IsReadWhere g a b (Ok x) IsSo
  read_well only so = record {
    never_refuses = λ r bad. absurd cc;
    output = λ bad. absurd cc;
    fails = λ clean unlimited s desk. so s (λ bad. absurd cc);
    cause = λ good clean unlimited has. tt;
    read_only = only;
  }

  -- the same, where only memory may be wanting in it
  pub read_wanting : {X : Type 0} {a b : Held S} {IsSo : Machine → Type 0 → Type 0} (r : Result X Fault) → IsReadOnly g a b true → IfErr r (λ e. e ≡ Memory) → ((s : Machine) → IsKnown r → IsSo s (IsKnown r)) → IsReadWhere g a b r IsSo
  read_wanting (Ok x) only want so = read_well only so
  read_wanting (Err e) only want so = record {
    never_refuses = λ q bad. absurd cc;
    output = λ bad. absurd cc;
    fails = λ clean unlimited s desk. so s (λ bad. absurd cc);
    cause = λ good clean unlimited has bad. absurd cc;
    read_only = read_on false only;
  }

  -- one more read
  pub read_next : {X : Type 0} {a b c : Held S} {IsNext IsSo : Machine → Type 0 → Type 0} {r : Result X Fault} → IsReadOnly g a b true → IsReadWhere g b c r IsNext
      → (HasCleanDisk (state g b) → (s : Machine) → IsDeskOf g a s → IsNext s (IsKnown r) → IsSo s (IsKnown r)) → IsReadWhere g a c r IsSo
  read_next {a = a} {b = b} {c = c} one two so = record {
    never_refuses = two.never_refuses;
    output = two.output;
    fails = λ clean unlimited s desk.
        let mid = was_clean two.read_only clean in
        so mid s desk (two.fails clean (one.commits_nothing.limit ∙ unlimited) s (desk_after one mid desk));
    cause = λ good clean unlimited has.
        let mid = was_clean two.read_only clean in
        let here = faultless_next (state g a) (state g b) (state g c) good one.commits_nothing mid two.read_only.commits_nothing.counts in
        two.cause here clean (one.commits_nothing.limit ∙ unlimited) (schema_stays g a b (one.unchanged mid has) has);
    read_only = read_then one two.read_only;
  }

  -- the error of a read is handed on
  pub read_stopped : {T X : Type 0} {a b : Held S} {IsFirst IsSo : Machine → Type 0 → Type 0} (r : Result X Fault) (e : Fault) → IsErrAnd r (λ x. x ≡ e) → IsReadWhere {X = T} g a b (Err e) IsFirst
      → (HasCleanDisk (state g b) → (s : Machine) → IsDeskOf g a s → IsFirst s (IsKnown {X = T} (Err e)) → (IsKnown {X = T} (Err e) → IsKnown r) → IsSo s (IsKnown r)) → IsReadWhere g a b r IsSo
  read_stopped (Ok x) e failed one so = absurd failed
  read_stopped (Err y) e failed one so = record {
    never_refuses = λ q bad. one.never_refuses q (let same : y ≡ Refused q = cc in ap Err (sym failed ∙ same));
    output = λ bad. one.output (let same : y ≡ Output = cc in ap Err (sym failed ∙ same));
    fails = λ clean unlimited s desk. so clean s desk (one.fails clean unlimited s desk) (λ known bad. known (let same : y ≡ NotADesk = cc in ap Err (sym failed ∙ same)));
    cause = λ good clean unlimited has. subst IsNoDevice (sym failed) (one.cause good clean unlimited has);
    read_only = one.read_only;
  }

  -- the same of one more read
  pub next_stopped : {T X : Type 0} {a b c : Held S} {IsNext IsSo : Machine → Type 0 → Type 0} (r : Result X Fault) (e : Fault) → IsErrAnd r (λ x. x ≡ e) → IsReadOnly g a b true → IsReadWhere {X = T} g b c (Err e) IsNext
      → (HasCleanDisk (state g b) → (s : Machine) → IsDeskOf g a s → IsNext s (IsKnown {X = T} (Err e)) → (IsKnown {X = T} (Err e) → IsKnown r) → IsSo s (IsKnown r)) → IsReadWhere g a c r IsSo
  next_stopped {T = T} {IsNext = IsNext} r e failed one two so =
      read_stopped {T = T} {IsFirst = IsNext} r e failed (read_next {X = T} {IsSo = IsNext} one two (λ mid s desk fails. fails)) (λ clean s desk fails on. so (was_clean two.read_only clean) s desk fails on)
