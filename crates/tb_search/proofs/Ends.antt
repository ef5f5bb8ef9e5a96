-- How a read of a desk's sentences is made: of reads of the tables, and of what is computed from them.
use Rattle.std.proofs.Common.{◌≡◌, Result, Ok, Err, IfErr, IsErrAnd, is_ok, None, true, false, subst, sym, ◌∙◌}
use Rattle.sqlite.specs.Store.{Ghosts}
use Rattle.sqlite.specs.Held.{Held, state}
use Rattle.sqlite.specs.State.{HasCleanDisk}
use Rattle.tb_core.specs.Machine.{Machine}
use Rattle.tb_tables.specs.Layout.{desk_schema}
use Rattle.tb_tables.specs.Leaving.{IsFaultless}
use Rattle.tb_tables.proofs.Causes.{faultless_next}
use Rattle.tb_reads.specs.declared.error.ReadError.{ReadError}
use Rattle.tb_reads.specs.declared.error.ReadError.TheVariants.{Form}
use Rattle.tb_reads.specs.Failing.{IsReadFault, IsReadWant}
use Rattle.tb_reads.specs.ReadOnly.{IsReadOnly}
use Rattle.tb_reads.proofs.ReadOnly.{read_on, read_then, was_clean}
use Rattle.tb_refine.specs.DeskTables.{IsDeskOf}
use Rattle.tb_refine.proofs.Unchanged.{desk_after}
use Rattle.tb_search.specs.declared.stopped.Stopped.{Stopped}
use Rattle.tb_search.specs.declared.stopped.Stopped.TheVariants.{Read}
use Rattle.tb_search.specs.Ending.{IsTextRead}
use Rattle.tb_search.specs.Visited.{IsFault, IsStopFault, IsStopWant}
use Rattle.tb_search.proofs.Visiting.{if_err}
use Rattle.tb_search.proofs.Walking.{not_form}

module _ {S : Type 0} {g : Ghosts S} where
  -- the call ends with this error
  pub text_failed : {X : Type 0} {a b : Held S} (r : Result X Stopped) (e : Stopped) → IsErrAnd r (λ x. x ≡ e) → (HasCleanDisk (state g b) → (s : Machine) → IsDeskOf g a s → IsFault e)
      → (HasCleanDisk (state g b) → (state g a).step_limit ≡ None → (s : Machine) → IsDeskOf g a s → IsStopFault e) → (IsFaultless g a b → HasCleanDisk (state g b) → (state g a).step_limit ≡ None → (s : Machine) → IsDeskOf g a s → IsStopWant e)
      → IsReadOnly g a b false → IsTextRead g a b r
  text_failed (Ok x) e failed fault fails cause only = absurd failed
  text_failed (Err y) e failed fault fails cause only = record {
    fault = λ clean s desk. subst IsFault (sym failed) (fault clean s desk);
    fails = λ clean unlimited s desk. subst IsStopFault (sym failed) (fails clean unlimited s desk);
    cause = λ good clean unlimited s desk. subst IsStopWant (sym failed) (cause good clean unlimited s desk);
    read_only = only;
  }

  -- the error of a read of the tables is handed on
  pub tables_failed : {X : Type 0} {a b : Held S} (r : Result X Stopped) (y : ReadError) → IsErrAnd r (λ x. x ≡ Read y) → (HasCleanDisk (state g b) → (state g a).step_limit ≡ None → (state g a).now.schema ≡ desk_schema → IsReadFault y)
      → (IsFaultless g a b → HasCleanDisk (state g b) → (state g a).step_limit ≡ None → (state g a).now.schema ≡ desk_schema → IsReadWant y) → (HasCleanDisk (state g b) → (s : Machine) → IsDeskOf g a s → y ≡ Form → ⊥) → IsReadOnly g a b false
      → IsTextRead g a b r
  tables_failed r y failed fails cause fits only =
      text_failed r (Read y) failed (λ clean s desk. not_form y (fits clean s desk)) (λ clean unlimited s desk. fails clean unlimited desk.holds.schema) (λ good clean unlimited s desk. cause good clean unlimited desk.holds.schema) only

  -- that of such a read is handed on
  pub text_stopped : {T X : Type 0} {a b : Held S} (r : Result X Stopped) (e : Stopped) → IsErrAnd r (λ x. x ≡ e) → IsTextRead {X = T} g a b (Err e) → IsTextRead g a b r
  text_stopped r e failed one = text_failed r e failed one.fault one.fails one.cause one.read_only

  -- what is made of what was read
  pub text_made : {X : Type 0} {a b : Held S} (r : Result X Stopped) → IfErr r IsFault → IfErr r IsStopFault → IfErr r IsStopWant → IsReadOnly g a b true → IsTextRead g a b r
  text_made r fault fails cause only = record {
    fault = λ clean. if_err r (λ e h s desk. h) fault;
    fails = λ clean unlimited. if_err r (λ e h s desk. h) fails;
    cause = λ good clean unlimited. if_err r (λ e h s desk. h) cause;
    read_only = read_on (is_ok r) only;
  }

  -- and nothing fails
  pub text_read : {X : Type 0} {a b : Held S} {x : X} → IsReadOnly g a b true → IsTextRead g a b (Ok x)
  text_read {x = x} only = text_made (Ok x) tt tt tt only

  -- one more read
  pub text_next : {X : Type 0} {a b c : Held S} (r : Result X Stopped) → IsReadOnly g a b true → IsTextRead g b c r → IsTextRead g a c r
  text_next {a = a} {b = b} {c = c} r one two = record {
    fault = λ clean. if_err r (λ e h s desk. h s (desk_after one (was_clean two.read_only clean) desk)) (two.fault clean);
    fails = λ clean unlimited. if_err r (λ e h s desk. h s (desk_after one (was_clean two.read_only clean) desk)) (two.fails clean (one.commits_nothing.limit ∙ unlimited));
    cause = λ good clean unlimited.
        let mid = was_clean two.read_only clean in
        let here = faultless_next (state g a) (state g b) (state g c) good one.commits_nothing mid two.read_only.commits_nothing.counts in
        if_err r (λ e h s desk. h s (desk_after one mid desk)) (two.cause here clean (one.commits_nothing.limit ∙ unlimited));
    read_only = read_then one two.read_only;
  }
