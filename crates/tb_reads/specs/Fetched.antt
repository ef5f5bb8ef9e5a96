-- Inner: no contract beyond this crate cites a definition of this module.
-- What a statement that reads a desk returns.
use Rattle.std.specs.Prelude.{ℕ, List, Result, IfOk}
use Rattle.sqlite.specs.Store.{Ghosts}
use Rattle.sqlite.specs.Held.{Held, state}
use Rattle.sqlite.specs.Order.{Row}
use Rattle.sqlite.specs.State.{HasCleanDisk, Shown}

-- its answer shows the rows of the statement, with these parameters
abbrev pub ShowsRows : {S X E : Type 0} → Ghosts S → Held S → Held S → (sql : List ℕ) → (params : Row) → Result X E
    → (X → List Row) → Type 0
ShowsRows g old new sql params result rows_of =
    HasCleanDisk (state g new) → IfOk result (λ x. Shown sql params (state g old) (state g new) (rows_of x))
