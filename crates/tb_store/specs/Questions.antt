-- What each question of a desk leaves of it, and how it fails. Facts of tables assume a disk that kept what it took
-- (`HasCleanDisk`).
use Rattle.std.specs.Prelude.{◌≡◌, Result}
use Rattle.sqlite.specs.Store.{Ghosts}
use Rattle.tb_core.specs.declared.refusals.Fault.{Fault}
use Rattle.tb_tables.specs.Leaving.{CommitsNothing}
use Rattle.tb_store.specs.Kept.{Kept}
use Rattle.tb_store.specs.Represents.{Represents}
use Rattle.tb_store.specs.Calls.{Does, KeepsState, KnowsItself, WritesNothing}
use Rattle.tb_store.specs.Blaming.{BlamesNoDevice}

-- A question only reads. `old` is the desk before it, `new` the desk after it.
pub record IsQuestion {S X : Type 0} (g : Ghosts S) (old new : Kept S) (result : Result X Fault) : Type 0 where
  -- the desk is never called no desk
  pub fails : KnowsItself g old new result
  -- the device is blamed only where the store was shut, or its disk failed
  pub cause : BlamesNoDevice g old new result
  -- after an answer the desk represents the same state
  pub stays : Does g old new result (λ s. Represents g new s)
  -- after a fault too, while the store is open
  pub keeps_state : KeepsState g old new
  -- a crash leaves what it could leave before
  pub crash : WritesNothing g old new
  -- the same, whatever state the tables of a desk are of
  pub commits_nothing : CommitsNothing g old.conn new.conn
  -- the limits stay, and whether the desk is in doubt
  pub limits : new.limits ≡ old.limits
  pub doubt : new.in_doubt ≡ old.in_doubt
