-- Calls that only read, one after another.
use Rattle.std.proofs.Common.{◌≡◌, Bool, true, false, MatchBool, ℕ, List, Result, Ok, Err, IfOk, OnOk, OnErr, is_ok, IsErrAnd, arith, [], inl, refl, sym, ap, subst, ◌∙◌}
use Rattle.sqlite.specs.Order.{Row}
use Rattle.sqlite.specs.Listing.{understood}
use Rattle.sqlite.specs.Store.{Ghosts}
use Rattle.sqlite.specs.Effect.{Database}
use Rattle.sqlite.specs.Held.{Held, state}
use Rattle.sqlite.specs.Given.{HasBegun, IsRefused}
use Rattle.sqlite.specs.State.{HasCleanDisk, IsUnchanged, Survives, CommitsShowing}
use Rattle.sqlite.specs.declared.error.Error.{Error}
use Rattle.sqlite.proofs.Callers.{IsPlain, begun_plain, unchanged_then}
use Rattle.sqlite.proofs.StateLemmas.{survives_then, survives_weaker}
use Rattle.tb_tables.specs.Layout.{desk_schema}
use Rattle.tb_tables.specs.Leaving.{CommitsNothing, KeepsRecords}
use Rattle.tb_reads.specs.ReadOnly.{IsReadOnly}
use Rattle.tb_reads.proofs.Staying.{unchanged_holds, failed_stays, nothing_committed}

-- ---- what is said of success

when : (s : Bool) {P Q : Type 0} → MatchBool s P (Unit {0}) → (P → Q) → MatchBool s Q (Unit {0})
when true p f = f p
when false p f = tt

in_any : (s : Bool) {P : Type 0} → P → MatchBool s P (Unit {0})
in_any true p = p
in_any false p = tt

in_error : {T E : Type 0} (r : Result T E) (P : E → Type 0) (Q : Type 0) → IsErrAnd r P → MatchBool (is_ok r) Q (Unit {0})
in_error (Ok x) P Q failed = absurd failed
in_error (Err e) P Q failed = tt

-- what holds of the value holds of success
pub if_succeeds : {T E X : Type 0} {P : T → Type 0} (r : Result T E) → IfOk r P → ((x : T) → P x → X) → MatchBool (is_ok r) X (Unit {0})
if_succeeds (Ok x) h f = f x h
if_succeeds (Err e) h f = tt

pub on_success : {T E X Y : Type 0} (r : Result T E) → MatchBool (is_ok r) X (Unit {0}) → (X → Y) → OnOk r Y
on_success (Ok x) h f = f h
on_success (Err e) h f = tt

-- ---- one call

-- the disk kept before what it took, where it does after the call
pub was_clean : {S : Type 0} {g : Ghosts S} {a b : Held S} {s : Bool} → IsReadOnly g a b s → HasCleanDisk (state g b) → HasCleanDisk (state g a)
was_clean one clean = let n = one.commits_nothing.clean in omega (arith, clean, n)

pub schema_stays : {S : Type 0} (g : Ghosts S) (a b : Held S) → IsUnchanged (state g a) (state g b) → (state g a).now.schema ≡ desk_schema → (state g b).now.schema ≡ desk_schema
schema_stays g a b same has = ap (λ (d : Database). d.schema) same.0.now_is ∙ has

-- none at all
pub read_none : {S : Type 0} {g : Ghosts S} {a : Held S} → IsReadOnly g a a false
read_none = record {
  unchanged = λ clean. tt;
  autocommit = λ outside. outside;
  keeps_records = λ clean opened d holds. holds;
  commits_nothing = record { clean = omega arith; shield = λ h. h; counts = omega arith; limit = refl; closes = λ clean h. inl h; crash = λ clean db h. inl h };
}

-- after a success whatever comes that reads nothing
pub read_on : {S : Type 0} {g : Ghosts S} {a b : Held S} (s : Bool) → IsReadOnly g a b true → IsReadOnly g a b s
read_on s one = record {
  unchanged = λ clean. in_any s (one.unchanged clean);
  autocommit = one.autocommit;
  keeps_records = one.keeps_records;
  commits_nothing = one.commits_nothing;
}

-- the error is handed on
pub read_failed : {T E : Type 0} {S : Type 0} {g : Ghosts S} {a b : Held S} {s : Bool} (r : Result T E) (P : E → Type 0) → IsErrAnd r P → IsReadOnly g a b s → IsReadOnly g a b (is_ok r)
read_failed r P failed one = record {
  unchanged = λ clean. in_error r P _ failed;
  autocommit = one.autocommit;
  keeps_records = one.keeps_records;
  commits_nothing = one.commits_nothing;
}

-- what changes nothing keeps the records
pub read_so : {S : Type 0} (g : Ghosts S) (a b : Held S) → (HasCleanDisk (state g b) → (state g a).now.schema ≡ desk_schema → IsUnchanged (state g a) (state g b)) → (a.in_transaction ≡ false → b.in_transaction ≡ false)
    → CommitsNothing g a b → IsReadOnly g a b true
read_so g a b same mode kept = record {
  unchanged = same;
  autocommit = mode;
  keeps_records = λ clean opened d holds. unchanged_holds g a b d holds (same clean holds.schema);
  commits_nothing = kept;
}

-- ---- one call after another

pub read_then : {S : Type 0} {g : Ghosts S} {a b c : Held S} {s : Bool} → IsReadOnly g a b true → IsReadOnly g b c s → IsReadOnly g a c s
read_then {g = g} {a = a} {b = b} {c = c} {s = s} one two = record {
  unchanged = λ clean. when s (two.unchanged clean) (λ more has.
      let first = one.unchanged (was_clean two clean) has in
      unchanged_then (state g a) (state g b) (state g c) first (more (schema_stays g a b first has)));
  autocommit = λ outside. two.autocommit (one.autocommit outside);
  keeps_records = λ clean opened d holds. two.keeps_records clean opened d (unchanged_holds g a b d holds (one.unchanged (was_clean two clean) holds.schema));
  commits_nothing = survives_then (state g a) (state g b) (state g c) _ _ _ (λ _ _ other. other) (λ clean _ other has. other (schema_stays g a b (one.unchanged (was_clean two clean) has) has)) one.commits_nothing two.commits_nothing;
}

-- ---- a cursor

-- a row is given
pub row_given : {S : Type 0} (g : Ghosts S) (a b : Held S) → (HasCleanDisk (state g b) → IsUnchanged (state g a) (state g b)) → (a.in_transaction ≡ false → b.in_transaction ≡ false) → Survives (state g a) (state g b) (λ _. ⊥)
    → IsReadOnly g a b true
row_given g a b same mode kept = read_so g a b (λ clean has. same clean) mode (survives_weaker (state g a) (state g b) _ _ (λ _ _ none. absurd none) kept)

-- no row can be given
pub row_refused : {S : Type 0} (g : Ghosts S) (a b : Held S) → (a.in_transaction ≡ false → b.in_transaction ≡ false) → KeepsRecords g a b → Survives (state g a) (state g b) (λ _. ⊥) → IsReadOnly g a b false
row_refused g a b mode records kept = record {
  unchanged = λ clean. tt;
  autocommit = mode;
  keeps_records = records;
  commits_nothing = survives_weaker (state g a) (state g b) _ _ (λ _ _ none. absurd none) kept;
}

-- a cursor is made
pub cursor_begun : {S : Type 0} (g : Ghosts S) (sql : List ℕ) (old new : Held S) → IsPlain (understood desk_schema sql) → (HasCleanDisk (state g new) → HasBegun g sql [] old new) → (old.in_transaction ≡ false → new.in_transaction ≡ false)
    → Survives (state g old) (state g new) (CommitsShowing sql [] (state g old)) → IsReadOnly g old new true
cursor_begun g sql old new plain begun mode kept =
    read_so g old new (λ clean has. (begun_plain g sql [] old new (subst (λ s. IsPlain (understood s sql)) (sym has) plain) (begun clean)).1) mode
    (nothing_committed sql [] (state g old) (state g new) plain kept)

-- no cursor can be made
pub cursor_refused : {S : Type 0} (g : Ghosts S) (sql : List ℕ) (params : Row) (old new : Held S) {X : Type 0} (result : Result X Error) → IsPlain (understood desk_schema sql) → OnErr result (IsRefused g sql params old result new)
    → OnErr result (IsReadOnly g old new false)
cursor_refused g sql params old new (Ok rows) plain h = tt
cursor_refused g sql params old new (Err e) plain refused = record {
  unchanged = λ clean. tt;
  autocommit = refused.mode;
  keeps_records = λ clean opened d holds. failed_stays g sql params old new d e plain holds opened (refused.err clean);
  commits_nothing = nothing_committed sql params (state g old) (state g new) plain refused.survives;
}
