-- What a statement leaves that is compiled and not run.
use Rattle.std.proofs.Common.{◌≡◌, ◌⊎◌, ◌<◌, ◌≤◌, ◌-◌, ◌^◌, ℕ, List, [], Bool, true, false, refl, sym, ap, subst, ◌∙◌, IsTrue, inl, inr, codes, Result, Ok, Err}
use Rattle.sqlite_trees.specs.declared.error.StoreError.{StoreError}
use Rattle.sqlite_trees.specs.declared.error.StoreError.TheVariants.{OutOfMemory, Io, Corrupt, Full, Broken, Unstorable}
use Rattle.sqlite.specs.State.{State, Fails, IsNotRun, IsUnchanged, store_error}
use Rattle.sqlite.specs.declared.error.Error.{Error}
use Rattle.sqlite.specs.Listing.{understood}
use Rattle.sqlite.specs.Schema.{Schema}
use Rattle.sqlite_tied.specs.Compute.{everything}
use Rattle.tb_tables.proofs.Causes.{failed_wants}
use Rattle.tb_core.specs.declared.refusals.Fault.TheVariants.{Memory}
use Rattle.tb_store.specs.Handing.{reported_of_error, WantsToTell}

pub not_run : (old new : State) (sql : List ℕ) (e : Error) → IsNotRun old new sql [] e → Fails old new ⊥ e ⊎ IsUnchanged old new
unfolding IsNotRun
not_run old new sql e (inl refused) = inr refused.1
not_run old new sql e (inr failed) = inl failed

pub was_open_before : (old new : State) (e : Error) → Fails old new ⊥ e ⊎ IsUnchanged old new → IsTrue new.is_open → IsTrue old.is_open
was_open_before old new e (inl failed) opened = failed.3.was_open opened
was_open_before old new e (inr same) opened = same.0.was_open

-- ---- what is told of the store

pub reported_once : {E : Type 0} (reported : Result Bool E) → reported ≡ Ok true → reported ≡ Ok false → ⊥
reported_once reported is also = absurd cc

pub reported_or_not : {E : Type 0} (reported : Result Bool E) (b : Bool) (e : E) → reported ≡ Ok b → reported ≡ Err e → ⊥
reported_or_not reported b e is also = absurd cc

no_store_opens : (cause : StoreError) → reported_of_error (store_error cause) ≡ Ok true → ⊥
no_store_opens OutOfMemory is = reported_or_not _ true Memory is refl
no_store_opens Io is = reported_once _ is refl
no_store_opens Corrupt is = reported_once _ is refl
no_store_opens Full is = reported_once _ is refl
no_store_opens Broken is = reported_once _ is refl
no_store_opens Unstorable is = reported_once _ is refl

-- only a store that is open finds a text at fault
pub open_where_reported : (old new : State) (e : Error) → reported_of_error e ≡ Ok true → Fails old new ⊥ e ⊎ IsUnchanged old new → IsTrue new.is_open
open_where_reported old new e is (inl failed) = absurd (no_store_opens failed.0 (ap reported_of_error (sym failed.1) ∙ is))
open_where_reported old new e is (inr same) = same.0.is_open

-- ---- the text that is no statement

abbrev IsRefused : {X E : Type 0} → Result X E → Type 0
IsRefused (Ok x) = ⊥
IsRefused (Err e) = Unit {0}

no_statement : (schema : Schema) → IsRefused (understood schema (codes "unknown"))
unfolding understood everything
no_statement schema = tt

-- the store was open, and no fault was counted
abbrev NoFault : State → State → Type 0
NoFault old new = IsTrue old.is_open × (new.faults ≤ old.faults) × (old.faults < 2 ^ 64 - 1)

-- where no disk fails, an open store finds the text at fault, or memory is wanting
pub open_where_asked : (old new : State) (sql : List ℕ) (e : Error) → sql ≡ codes "unknown" → NoFault old new
    → IsNotRun old new sql [] e → reported_of_error e ≡ Ok false → ⊥
unfolding IsNotRun
open_where_asked old new sql e is good (inl (inl (fault, failed, reported), same)) shut = reported_once _ (ap reported_of_error reported) shut
open_where_asked old new sql e is good (inl (inr (c, made, more), same)) shut =
    subst IsRefused made (subst (λ (text : List ℕ). IsRefused (understood old.now.schema text)) (sym is) (no_statement old.now.schema))
open_where_asked old new sql e is good (inr failed) shut =
    let want = failed_wants old new good e failed in
    reported_or_not _ false Memory shut (ap reported_of_error want)

no_store_wants : (cause : StoreError) → reported_of_error (store_error cause) ≡ Err Memory → cause ≡ OutOfMemory
no_store_wants OutOfMemory is = refl
no_store_wants Io is = absurd (reported_or_not _ false Memory refl is)
no_store_wants Corrupt is = absurd (reported_or_not _ false Memory refl is)
no_store_wants Full is = absurd (reported_or_not _ false Memory refl is)
no_store_wants Broken is = absurd (reported_or_not _ false Memory refl is)
no_store_wants Unstorable is = absurd (reported_or_not _ false Memory refl is)

-- want of memory is told of no other error than that
pub wants_where_asked : (old new : State) (sql : List ℕ) (e : Error) → sql ≡ codes "unknown"
    → IsNotRun old new sql [] e → reported_of_error e ≡ Err Memory → WantsToTell old new
unfolding IsNotRun
wants_where_asked old new sql e is (inl (inl (fault, failed, reported), same)) want =
    absurd (reported_or_not _ true Memory (ap reported_of_error reported) want)
wants_where_asked old new sql e is (inl (inr (c, made, more), same)) want =
    absurd (subst IsRefused made (subst (λ (text : List ℕ). IsRefused (understood old.now.schema text)) (sym is) (no_statement old.now.schema)))
wants_where_asked old new sql e is (inr failed) want =
    let named = failed.1 ∙ ap store_error (no_store_wants failed.0 (ap reported_of_error (sym failed.1) ∙ want)) in
    inr (subst (λ x. Fails old new ⊥ x) named failed)
