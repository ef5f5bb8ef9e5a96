-- What holds of an answer of the database holds of it with the fault for its error.
use Rattle.std.proofs.Common.{◌≡◌, ◌≢◌, Option, Some, None, Result, Ok, Err, IfOk, IfErr, OnOk, OnErr, is_ok, true, refl}
use Rattle.sqlite.specs.Store.{Ghosts}
use Rattle.sqlite.specs.Held.{Held}
use Rattle.tb_core.specs.declared.refusals.Fault.{Fault}
use Rattle.tb_core.specs.declared.refusals.Fault.TheVariants.{Device, NotADesk}
use Rattle.tb_reads.specs.declared.error.ReadError.{ReadError}
use Rattle.tb_reads.specs.ReadOnly.{IsReadOnly}
use Rattle.tb_reads.proofs.ReadOnly.{read_on}
use Rattle.tb_refine.specs.Faults.{IsNoDevice, fault_of_read, reported_by, reported_of_row}

module _ {X E : Type 0} (f : E → Fault) where
  pub reported_if : (P : X → Type 0) (r : Result X E) → IfOk r P → IfOk (reported_by f r) P
  reported_if P (Ok x) h = h
  reported_if P (Err e) h = tt

  pub reported_on : {A B : Type 0} (r : Result X E) → OnOk r A → (A → B) → OnOk (reported_by f r) B
  reported_on (Ok x) h g = g h
  reported_on (Err e) h g = tt

  pub reported_err : (A : Type 0) (r : Result X E) → OnErr r A → OnErr (reported_by f r) A
  reported_err A (Ok x) h = tt
  reported_err A (Err e) h = h

  pub reported_not : (y : Fault) (r : Result X E) → ((e : E) → r ≡ Err e → f e ≢ y) → reported_by f r ≢ Err y
  reported_not y (Ok x) h bad = absurd cc
  reported_not y (Err e) h bad = let same : f e ≡ y = cc in h e refl same

  pub reported_clear : (r : Result X E) → ((e : E) → r ≡ Err e → f e ≢ Device) → IfErr (reported_by f r) IsNoDevice
  reported_clear (Ok x) h = tt
  reported_clear (Err e) h = h e refl

  pub reported_only : {S : Type 0} (g : Ghosts S) (old new : Held S) (r : Result X E) → IsReadOnly g old new (is_ok r) → IsReadOnly g old new (is_ok (reported_by f r))
  reported_only g old new (Ok x) only = only
  reported_only g old new (Err e) only = only

-- ---- a read of one row

module _ {X : Type 0} where
  pub row_if : (P : X → Type 0) (r : Result (Option X) ReadError) → ((row : X) → r ≡ Ok (Some row) → P row) → IfOk (reported_of_row r) P
  row_if P (Ok (Some row)) h = h row refl
  row_if P (Ok None) h = tt
  row_if P (Err e) h = tt

  pub row_stays : (A : Type 0) (r : Result (Option X) ReadError) → (is_ok r ≡ true → A) → OnOk (reported_of_row r) A
  row_stays A (Ok (Some row)) h = h refl
  row_stays A (Ok None) h = tt
  row_stays A (Err e) h = tt

  pub row_known : (r : Result (Option X) ReadError) → (r ≡ Ok None → ⊥) → ((e : ReadError) → r ≡ Err e → fault_of_read e ≢ NotADesk) → reported_of_row r ≢ Err NotADesk
  row_known (Ok (Some row)) there fits bad = absurd cc
  row_known (Ok None) there fits bad = there refl
  row_known (Err e) there fits bad = let same : fault_of_read e ≡ NotADesk = cc in fits e refl same

  pub row_clear : (r : Result (Option X) ReadError) → ((e : ReadError) → r ≡ Err e → fault_of_read e ≢ Device) → IfErr (reported_of_row r) IsNoDevice
  row_clear (Ok (Some row)) clear = tt
  row_clear (Ok None) clear = λ bad. absurd cc
  row_clear (Err e) clear = clear e refl

  pub row_only : {S : Type 0} (g : Ghosts S) (old new : Held S) (r : Result (Option X) ReadError) → IsReadOnly g old new (is_ok r) → IsReadOnly g old new (is_ok (reported_of_row r))
  row_only g old new (Ok (Some row)) only = only
  row_only g old new (Ok None) only = read_on _ only
  row_only g old new (Err e) only = only
