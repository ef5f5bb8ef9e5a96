-- A desk in memory that represents a state: its store is open, and counts no fault.
use Rattle.std.proofs.Common.{◌≡◌, Result, Err, IfErr, lit≤, subst}
use Rattle.sqlite_trees.specs.declared.memory.MemStore.{MemStore}
use Rattle.sqlite.specs.Steps.{over_memory}
use Rattle.tb_core.specs.Machine.{Machine}
use Rattle.tb_tables.specs.Leaving.{IsFaultless}
use Rattle.tb_store.specs.Kept.{Kept}
use Rattle.tb_store.specs.Represents.{Represents}

pub faultless : (d e : Kept MemStore) (s : Machine) → Represents over_memory d s → IsFaultless over_memory d.conn e.conn
faultless d e s stands = (stands.desk.holds.is_open, lit≤ tt, lit≤ tt)

-- what holds of an error holds of this one
pub of_error : {X E : Type 0} (P : E → Type 0) (r : Result X E) (e : E) → IfErr r P → r ≡ Err e → P e
of_error P r e holds is = subst (λ x. IfErr x P) is holds
