-- The desk whose rows were read.
use Rattle.std.proofs.Common.{◌≡◌, sym, subst}
use Rattle.sqlite.specs.Store.{Ghosts}
use Rattle.sqlite.specs.Held.{Held, state}
use Rattle.sqlite.specs.State.{IsUnchanged}
use Rattle.tb_core.specs.Machine.{Machine}
use Rattle.tb_core.specs.Reaching.{IsReachable}
use Rattle.tb_tables.specs.Records.{AreStored}
use Rattle.tb_refine.specs.DeskTables.{tables_of, IsDeskOf}
use Rattle.tb_verify.specs.Summary.{tables_in}
use Rattle.tb_verify.specs.Looks.{LooksLikeDesk}
use Rattle.tb_verify.specs.declared.summary.TableRows.{TableRows}

pub desk_of_rows : {S : Type 0} (g : Ghosts S) (old new : Held S) (r : TableRows) (s : Machine) → LooksLikeDesk g old → IsUnchanged (state g old) (state g new) → AreStored (tables_in r) (state g old).now.trees → IsReachable s
    → tables_in r ≡ tables_of s → IsDeskOf g old s
desk_of_rows g old new r s looks same stored reach is = record {
  reachable = reach;
  holds = record {
    autocommit = looks.autocommit;
    is_open = same.0.was_open;
    schema = looks.schema;
    settled = sym (looks.settled same.0.was_open);
    stands = subst (λ d. AreStored d (state g old).now.trees) is stored;
  };
}
