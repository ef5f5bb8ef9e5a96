-- A read of a desk whose rows are computed with, where that fails with `NotADesk` alone.
use Rattle.std.proofs.Common.{◌≡◌, Result, Ok, Err, IfErr, true}
use Rattle.sqlite.specs.Store.{Ghosts}
use Rattle.sqlite.specs.Held.{Held}
use Rattle.tb_core.specs.declared.refusals.Fault.{Fault}
use Rattle.tb_core.specs.declared.refusals.Fault.TheVariants.{NotADesk}
use Rattle.tb_core.specs.Machine.{Machine}
use Rattle.tb_reads.specs.ReadOnly.{IsReadOnly}
use Rattle.tb_refine.specs.Calls.{KnowsDeskWhere}
use Rattle.tb_refine.specs.DeskReads.{IsReadWhere}
use Rattle.tb_refine.proofs.DeskReads.{read_made}

pub read_fit : {S X : Type 0} {g : Ghosts S} {a b : Held S} {IsSo : Machine → Type 0 → Type 0} (r : Result X Fault) → IsReadOnly g a b true → IfErr r (λ e. e ≡ NotADesk) → KnowsDeskWhere g a b r IsSo → IsReadWhere g a b r IsSo
read_fit (Ok x) only fault fails = read_made (Ok x) only (λ q bad. absurd cc) (λ bad. absurd cc) tt fails
read_fit (Err e) only fault fails = read_made (Err e) only (λ q bad. absurd cc) (λ bad. absurd cc) (λ bad. absurd cc) fails
