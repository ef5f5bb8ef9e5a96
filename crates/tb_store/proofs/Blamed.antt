-- A command failed, and then the store was asked whether it is open: what the device is blamed for.
use Rattle.std.proofs.Common.{◌≡◌, ◌≢◌, ◌∙◌, refl, ap, subst, arith, inl, inr, Bool, Result, Err, IsTrue}
use Rattle.sqlite.specs.Store.{Ghosts}
use Rattle.sqlite.specs.Held.{Held, state}
use Rattle.sqlite.specs.State.{HasCleanDisk, Survives}
use Rattle.sqlite.specs.Tree.{Trees}
use Rattle.tb_core.specs.declared.refusals.Fault.{Fault}
use Rattle.tb_core.specs.declared.refusals.Refusal.{Refusal}
use Rattle.tb_core.specs.declared.refusals.Fault.TheVariants.{Device, Memory, NotADesk, Output, Refused}
use Rattle.tb_core.specs.Machine.{Machine}
use Rattle.tb_core.specs.Commands.{Command, Reply}
use Rattle.tb_tables.specs.Leaving.{IsFaultless}
use Rattle.tb_tables.proofs.Causes.{faultless_first, faultless_next}
use Rattle.tb_store.specs.Kept.{Kept}
use Rattle.tb_store.specs.Calls.{CommandEnds, IsDurable}
use Rattle.tb_store.specs.Handing.{BlamesForWant}

-- the connection before the command, between it and the question, and after that
module _ {S : Type 0} (g : Ghosts S) (a b c : Held S) {One Two : Trees → Type 0} (one : Survives (state g a) (state g b) One)
    (two : Survives (state g b) (state g c) Two) (good : IsFaultless g a c) (clean : HasCleanDisk (state g c)) where
  -- the disk failed at nothing in either
  pub command_calm : IsFaultless g a b
  command_calm = faultless_first (state g a) (state g b) (state g c) good two.counts

  pub question_calm : IsFaultless g b c
  question_calm = let mid : HasCleanDisk (state g b) = omega (arith, clean, two.clean) in faultless_next (state g a) (state g b) (state g c) good one mid two.counts

  pub stays_open : IsTrue (state g c).is_open
  stays_open = let here = question_calm in elim (two.closes clean here.0) [ inl opened ↦ opened | inr more ↦ absurd (omega (arith, more, here.1, here.2)) ]

  pub doubted : {T : Type 0} (r : Result T Fault) (given reported : Fault) (in_doubt : Bool) → r ≡ Err given → r ≢ Err Device
      → (given ≢ Device → BlamesForWant g b c in_doubt reported) → reported ≡ Device → IsTrue in_doubt
  doubted r given reported in_doubt is fine asked same = (asked (λ bad. fine (is ∙ ap Err bad)) clean question_calm same).0

pub as_before : {S X : Type 0} (g : Ghosts S) (old new : Kept S) (command : Command) (reply : X → Reply) (s : Machine) (fault : Fault)
    → CommandEnds {X = X} g old new command reply s (Err fault) → fault ≡ Device → IsTrue (state g new.conn).is_open → IsDurable g new s
as_before {X = X} g old new command reply s fault ended is opened = subst (λ f. CommandEnds {X = X} g old new command reply s (Err f)) is ended opened

-- a fault that is no failure is a refusal
pub only_refused : (fault : Fault) → fault ≢ Memory → fault ≢ Device → fault ≢ NotADesk → fault ≢ Output → (r : Refusal) × (fault ≡ Refused r)
only_refused (Refused r) m d n o = (r, refl)
only_refused Memory m d n o = absurd (m refl)
only_refused Device m d n o = absurd (d refl)
only_refused NotADesk m d n o = absurd (n refl)
only_refused Output m d n o = absurd (o refl)
