-- Whatever a read answers, the records stay.
use Rattle.std.proofs.Common.{◌≡◌, ◌≢◌, ◌⊎◌, ℕ, List, Result, Ok, Err, IfOk, IfErr, OnErr, IsTrue, inl, inr, sym, ap, subst, ◌∙◌}
use Rattle.sqlite.specs.Order.{Row}
use Rattle.sqlite.specs.Listing.{understood}
use Rattle.sqlite.specs.Clock.{timed}
use Rattle.sqlite.specs.Store.{Ghosts}
use Rattle.sqlite.specs.Effect.{Database}
use Rattle.sqlite.specs.Held.{Held, state}
use Rattle.sqlite.specs.State.{State, HasCleanDisk, Shown, Fails, FailsToQuery, FailsToShow, IsNotRun, IsUnchanged, IsRolledBack, Survives, CommitsShowing}
use Rattle.sqlite.specs.Given.{IsRefused}
use Rattle.sqlite.specs.declared.error.Error.{Error}
use Rattle.sqlite.proofs.Callers.{IsPlain, never_commits}
use Rattle.sqlite.proofs.StateLemmas.{survives_weaker}
use Rattle.tb_tables.specs.Layout.{desk_schema}
use Rattle.tb_tables.specs.Records.{Tables, AreStored}
use Rattle.tb_tables.specs.Changes.{Holds}
use Rattle.tb_reads.specs.Failing.{IsSettled}
use Rattle.tb_reads.proofs.Shown.{shown_same}

pub either_way : {T E X : Type 0} {P : T → Type 0} {Q : E → Type 0} (r : Result T E) → IfOk r P → IfErr r Q → ((x : T) → P x → X) → ((e : E) → Q e → X) → X
either_way (Ok x) h k f g = f x h
either_way (Err e) h k f g = g e k

module _ {S : Type 0} (g : Ghosts S) where
  pub unchanged_holds : (old new : Held S) (d : Tables) → Holds g old d → IsUnchanged (state g old) (state g new) → Holds g new d
  unchanged_holds old new d h same = record {
    autocommit = same.0.mode ∙ h.autocommit;
    is_open = same.0.is_open;
    schema = ap (λ (b : Database). b.schema) same.0.now_is ∙ h.schema;
    settled = same.0.committed_is ∙ h.settled ∙ sym same.0.now_is;
    stands = subst (λ (b : Database). AreStored d b.trees) (sym same.0.now_is) h.stands;
  }

  undone_holds : (old new : Held S) (d : Tables) → Holds g old d → IsTrue (state g new).is_open → IsRolledBack (state g old) (state g new) → Holds g new d
  undone_holds old new d h opened back =
      let before = back.undone opened in record {
        autocommit = back.autocommit;
        is_open = opened;
        schema = ap (λ (b : Database). b.schema) (before.0 ∙ h.settled) ∙ h.schema;
        settled = before.1 ∙ sym before.0;
        stands = subst (λ (b : Database). AreStored d b.trees) (sym (before.0 ∙ h.settled)) h.stands;
      }

  pub shown_stays : (sql : List ℕ) (params : Row) (old new : Held S) (d : Tables) (rows : List Row) → IsPlain (understood desk_schema sql) → Holds g old d → Shown sql params (state g old) (state g new) rows → Holds g new d
  shown_stays sql params old new d rows plain h shown =
      unchanged_holds old new d h (shown_same sql params (state g old) (state g new) desk_schema rows plain h.schema shown)

  not_run_stays : (sql : List ℕ) (params : Row) (old new : Held S) (d : Tables) (e : Error) → Holds g old d → IsTrue (state g new).is_open → IsNotRun (state g old) (state g new) sql params e → Holds g new d
  unfolding IsNotRun
  not_run_stays sql params old new d e h opened (inl refused) = unchanged_holds old new d h refused.1
  not_run_stays sql params old new d e h opened (inr failed) = undone_holds old new d h opened failed.3

  pub failed_stays : (sql : List ℕ) (params : Row) (old new : Held S) (d : Tables) (e : Error) → IsPlain (understood desk_schema sql) → Holds g old d → IsTrue (state g new).is_open
      → FailsToQuery sql params (state g old) (state g new) e → Holds g new d
  unfolding FailsToQuery
  failed_stays sql params old new d e plain h opened (inl stopped) = not_run_stays sql params old new d e h opened stopped
  failed_stays sql params old new d e plain h opened (inr ran) =
      let here = subst (λ s. IsPlain (understood s sql)) (sym h.schema) plain in
      let none = (subst IsPlain ran.1.is here).0 in
      unchanged_holds old new d h (subst (FailsToShow (state g old) (state g new) sql ran.0 (timed params ran.0.formats ran.1.now) e) none ran.2).3

  -- one row at a time
  pub stopped_stays : (old new : Held S) (d : Tables) (e : Error) → Holds g old d → IsTrue (state g new).is_open → Fails (state g old) (state g new) ⊥ e ⊎ IsUnchanged (state g old) (state g new) → Holds g new d
  stopped_stays old new d e h opened (inl failed) = undone_holds old new d h opened failed.3
  stopped_stays old new d e h opened (inr same) = unchanged_holds old new d h same

-- Whatever a read answers, the connection sees what it saw.
module _ {S : Type 0} (g : Ghosts S) (old new : Held S) (opened : IsTrue (state g new).is_open) (settled : IsSettled g old) where
  undone_sees : IsRolledBack (state g old) (state g new) → (state g new).now ≡ (state g old).now
  undone_sees back = (back.undone opened).0 ∙ sym (settled (back.was_open opened))

  not_run_sees : (sql : List ℕ) (params : Row) (e : Error) → IsNotRun (state g old) (state g new) sql params e → (state g new).now ≡ (state g old).now
  unfolding IsNotRun
  not_run_sees sql params e (inl refused) = refused.1.0.now_is
  not_run_sees sql params e (inr failed) = undone_sees failed.3

  pub stopped_sees : (e : Error) → Fails (state g old) (state g new) ⊥ e ⊎ IsUnchanged (state g old) (state g new) → (state g new).now ≡ (state g old).now
  stopped_sees e (inl failed) = undone_sees failed.3
  stopped_sees e (inr same) = same.0.now_is

  module _ (sql : List ℕ) (params : Row) (plain : IsPlain (understood desk_schema sql)) (has : (state g old).now.schema ≡ desk_schema) where
    pub failed_sees : (e : Error) → FailsToQuery sql params (state g old) (state g new) e → (state g new).now ≡ (state g old).now
    unfolding FailsToQuery
    failed_sees e (inl stopped) = not_run_sees sql params e stopped
    failed_sees e (inr ran) =
        let here = subst (λ s. IsPlain (understood s sql)) (sym has) plain in
        let none = (subst IsPlain ran.1.is here).0 in
        (subst (FailsToShow (state g old) (state g new) sql ran.0 (timed params ran.0.formats ran.1.now) e) none ran.2).3.0.now_is

    pub answered_sees : {T : Type 0} (rows_of : T → List Row) (r : Result T Error) → IfOk r (λ x. Shown sql params (state g old) (state g new) (rows_of x))
        → IfErr r (λ e. FailsToQuery sql params (state g old) (state g new) e) → (state g new).now ≡ (state g old).now
    answered_sees rows_of (Ok x) shown failed = (shown_same sql params (state g old) (state g new) desk_schema (rows_of x) plain has shown).0.now_is
    answered_sees rows_of (Err e) shown failed = failed_sees e failed

pub refused_sees : {S : Type 0} (g : Ghosts S) (sql : List ℕ) (params : Row) (old new : Held S) {X : Type 0} (result : Result X Error) → IsPlain (understood desk_schema sql) → OnErr result (IsRefused g sql params old result new)
    → OnErr result (HasCleanDisk (state g new) → IsTrue (state g new).is_open → (state g old).now.schema ≡ desk_schema → IsSettled g old → (state g new).now ≡ (state g old).now)
refused_sees g sql params old new (Ok rows) plain h = tt
refused_sees g sql params old new (Err e) plain refused = λ clean opened has settled. failed_sees g old new opened settled sql params plain has e (refused.err clean)

-- it is settled still after a read that changed nothing
pub still_settled : {S : Type 0} (g : Ghosts S) (old new : Held S) → IsSettled g old → IsUnchanged (state g old) (state g new) → IsSettled g new
still_settled g old new settled same opened = same.0.now_is ∙ settled same.0.was_open ∙ sym same.0.committed_is

-- On the tables of a desk a read commits nothing; on others its text may mean something else.
pub nothing_committed : (sql : List ℕ) (params : Row) (old new : State) → IsPlain (understood desk_schema sql) → Survives old new (CommitsShowing sql params old) → Survives old new (λ _. old.now.schema ≢ desk_schema)
nothing_committed sql params old new plain = survives_weaker old new _ _ (λ _ db commits has. never_commits sql params old db (subst (λ s. IsPlain (understood s sql)) (sym has) plain) commits)
