-- From the calls inside a transaction to the command.
use Rattle.std.proofs.Common.{◌≡◌, true, false, IsTrue, refl, sym, ap, subst, ◌∙◌, Result, Ok, Err, OnErr, IfOk, List, ℕ, inl, inr}
use Rattle.sqlite.specs.Order.{Row}
use Rattle.sqlite.specs.Listing.{understood}
use Rattle.sqlite.specs.Clock.{timed}
use Rattle.sqlite.proofs.Callers.{IsPlain}
use Rattle.sqlite.specs.State.{Shown, ShowsRows, IsUnchanged, State, KeepsCommit, IsRolledBack, Shows}
use Rattle.sqlite.specs.Store.{Ghosts}
use Rattle.sqlite.specs.Effect.{Database}
use Rattle.sqlite.specs.Held.{Held, state}
use Rattle.sqlite.specs.Steps.{FailsToCommit}
use Rattle.sqlite.specs.declared.error.Error.{Error}
use Rattle.tb_tables.specs.Records.{Tables, AreStored}
use Rattle.tb_tables.specs.Changes.{IsInside, Changes, Holds}
use Rattle.tb_tables.specs.Making.{no_schema, IsBlank, IsBare}

pub on_err : {T E : Type 0} {X : Type 0} (r : Result T E) → X → OnErr r X
on_err (Ok t) x = tt
on_err (Err e) x = x

pub if_ok : {T E : Type 0} {P Q : T → Type 0} (r : Result T E) → IfOk r P → ((x : T) → P x → Q x) → IfOk r Q
if_ok (Ok x) h f = f x h
if_ok (Err e) h f = tt

pub shown_same : (sql : List ℕ) (params : Row) (old new : State) (rows : List Row) → IsPlain (understood old.now.schema sql) → Shown sql params old new rows → IsUnchanged old new
unfolding Shown
shown_same sql params old new rows plain h =
    let none = (subst IsPlain h.1.is plain).0 in
    (subst (ShowsRows old new sql h.0 (timed params h.0.formats h.1.now) rows) none h.2).3

pub kept_then : (a b c : State) → KeepsCommit a b → KeepsCommit b c → KeepsCommit a c
kept_then a b c p q = record {
  was_open = λ h. p.was_open (q.was_open h);
  committed = λ h. q.committed h ∙ p.committed (q.was_open h);
}

pub changes_then : (a b c : State) (d e f : Tables) → Changes a b d e → Changes b c e f → Changes a c d f
changes_then a b c d e f p q = record { inside = q.inside; committed = q.committed ∙ p.committed; stands = λ s. q.stands (p.stands s); rowids = λ n h. q.rowids n (p.rowids n h) }

module _ {S : Type 0} (g : Ghosts S) where
  -- as `transaction` leaves it
  pub begins_inside : (old begun : Held S) (d : Tables) → begun ≡ record old { in_transaction = true } → Holds g old d → IsInside (state g begun) × AreStored d (state g begun).now.trees
  begins_inside old begun d is h = rw is (record { begun = refl; schema = h.schema }, h.stands)

  pub begins_kept : (old begun last : Held S) → begun ≡ record old { in_transaction = true } → KeepsCommit (state g begun) (state g last) → KeepsCommit (state g old) (state g last)
  begins_kept old begun last is h =
      let k = rw is at h in
      record { was_open = k.was_open; committed = k.committed }

  pub committed_holds : (last end : Held S) (after : Tables) → IsInside (state g last) → AreStored after (state g last).now.trees → end.in_transaction ≡ false
      → Shows (state g last) (state g end) (state g last).now (state g last).now false → Holds g end after
  committed_holds last end after inside stands ended shows = record {
    autocommit = ended;
    is_open = shows.is_open;
    schema = ap (λ (d : Database). d.schema) shows.now_is ∙ inside.schema;
    settled = shows.committed_is ∙ sym shows.now_is;
    stands = subst (λ (d : Database). AreStored after d.trees) (sym shows.now_is) stands;
  }

  pub undone_holds : (old last end : Held S) (d : Tables) → Holds g old d → KeepsCommit (state g old) (state g last) → end.in_transaction ≡ false → IsTrue (state g end).is_open
      → IsRolledBack (state g last) (state g end) → Holds g end d
  undone_holds old last end d h kept ended opened back =
      let before = back.undone opened in
      let same : (state g last).committed ≡ (state g old).now = kept.committed (back.was_open opened) ∙ h.settled in
      record {
        autocommit = ended;
        is_open = opened;
        schema = ap (λ (b : Database). b.schema) (before.0 ∙ same) ∙ h.schema;
        settled = before.1 ∙ sym before.0;
        stands = subst (λ (b : Database). AreStored d b.trees) (sym (before.0 ∙ same)) h.stands;
      }

  pub failed_back : (last end : Held S) (e : Error) → IsTrue (state g last).in_transaction → FailsToCommit (state g last) (state g end) e → IsRolledBack (state g last) (state g end)
  failed_back last end e begun (inl fails) = fails.3
  failed_back last end e begun (inr late) = absurd (let x = begun in let y = late.1 in cc)

  pub same_holds : (old new : Held S) (d : Tables) → Holds g old d → IsUnchanged (state g old) (state g new) → Holds g new d
  same_holds old new d h same = record {
    autocommit = same.0.mode ∙ h.autocommit;
    is_open = same.0.is_open;
    schema = ap (λ (b : Database). b.schema) same.0.now_is ∙ h.schema;
    settled = same.0.committed_is ∙ h.settled ∙ sym same.0.now_is;
    stands = subst (λ (b : Database). AreStored d b.trees) (sym same.0.now_is) h.stands;
  }

  -- ---- the same of a database that is still blank

  pub blank_begins : (old begun : Held S) → begun ≡ record old { in_transaction = true } → IsBlank g old → IsBare (state g begun) no_schema
  blank_begins old begun is h = rw is (record { begun = refl; is = h.schema; empty = tt })

  pub blank_again : (old last end : Held S) → IsBlank g old → KeepsCommit (state g old) (state g last) → end.in_transaction ≡ false → IsTrue (state g end).is_open
      → IsRolledBack (state g last) (state g end) → IsBlank g end
  blank_again old last end h kept ended opened back =
      let before = back.undone opened in
      let same : (state g last).committed ≡ (state g old).now = kept.committed (back.was_open opened) ∙ h.settled in
      record { autocommit = ended; is_open = opened; schema = ap (λ (b : Database). b.schema) (before.0 ∙ same) ∙ h.schema; settled = before.1 ∙ sym before.0 }
