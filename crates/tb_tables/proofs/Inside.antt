-- What a statement inside a transaction leaves of the connection.
use Rattle.std.proofs.Common.{◌≡◌, ℕ, List, false, Ok, Err, Result, refl, IsTrue, inl, inr}
use Rattle.std.proofs.lemmas.Bool.{cases_Bool}
use Rattle.sqlite.specs.Order.{Row}
use Rattle.sqlite.specs.Store.{Ghosts}
use Rattle.sqlite.specs.Held.{Held, state}
use Rattle.sqlite.specs.declared.error.Error.{Error}
use Rattle.sqlite.specs.State.{State, ExecutesInside, KeepsCommit}

kept_inside : (sql : List ℕ) (params : Row) (old new : State) (r : Result ℕ Error) → ExecutesInside 0 sql params old new r → KeepsCommit old new
kept_inside sql params old new (Ok count) h = record { was_open = λ _. h.1.was_open; committed = λ _. h.1.committed_is }
kept_inside sql params old new (Err e) (inl h) = elim h.1 [
  | inl same ↦ record { was_open = λ _. same.0.was_open; committed = λ _. same.0.committed_is }
  | inr back ↦ record { was_open = back.was_open; committed = λ opened. (back.undone opened).1 }
]
kept_inside sql params old new (Err e) (inr h) = record { was_open = λ _. h.2.0.was_open; committed = λ _. h.2.0.committed_is }

pub kept_by : {S : Type 0} (g : Ghosts S) (sql : List ℕ) (params : Row) {r : Result ℕ Error} {e : Error} (old new : Held S) → ((state g old).in_transaction ≡ false → (r ≡ Err e) × (new ≡ old))
    → (IsTrue (state g old).in_transaction → ExecutesInside 0 sql params (state g old) (state g new) r) → KeepsCommit (state g old) (state g new)
kept_by g sql params {r} {e} old new ended runs = elim (cases_Bool old.in_transaction) [
  | inl is ↦ kept_inside sql params (state g old) (state g new) r (runs is)
  | inr not ↦ rw ((ended not).1) (record { was_open = λ h. h; committed = λ _. refl })
]
