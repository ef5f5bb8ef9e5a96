-- The texts that an accepted command writes are short enough to be stored.
use Rattle.std.proofs.Common.{◌≡◌, ℕ, true, List, [], ◌∷◌, Some, slice_get, arith}
use Rattle.std.specs.List.{AllByRecursion}
use Rattle.tb_core.specs.declared.kinds.Event.{Event}
use Rattle.tb_core.specs.declared.kinds.Worker.{Worker}
use Rattle.tb_core.specs.declared.kinds.Worker.TheVariants.{Keep, Caller, Cleared}
use Rattle.tb_core.specs.Names.{is_name}
use Rattle.tb_core.specs.Events.{makes_worker}
use Rattle.tb_core.specs.Machine.{Machine, Batch}
use Rattle.tb_core.specs.Acts.{importing, stepping, correcting, pulling, restoring, new_batch, moved, with_worker}
use Rattle.tb_core.specs.Reaching.{Reached, begun, further}
use Rattle.tb_core.specs.Keeping.{IsWell}
use Rattle.tb_core.proofs.Weights.{all_append, all_changed, all_there}
use Rattle.tb_tables.specs.Failing.{IsShort}
pub use Rattle.tb_refine.proofs.Short.{short_name, short_mover, short_id, never_reported}

-- ---- workers

short_with : (makes : Worker) (user old : List ℕ) → IsShort user → IsShort old → IsShort (with_worker makes user old)
short_with Keep user old new kept = kept
short_with Caller user old new kept = new
short_with Cleared user old new kept = omega arith

pub short_workers : (s : Machine) → Reached s → AllByRecursion (λ (b : Batch). IsShort b.worker) s.batches
short_workers _ begun = tt
short_workers _ (further s (importing name user bodies) reached allowed) = all_append (λ (b : Batch). IsShort b.worker) s.batches (new_batch name ∷ []) (short_workers s reached) (omega arith, tt)
short_workers _ (further s (stepping place event user) reached allowed) =
    all_changed (λ (b : Batch). IsShort b.worker) (moved event user) (λ b h. short_with (makes_worker event) user b.worker (short_name user allowed.by) h) s.batches place (short_workers s reached)
short_workers _ (further s (correcting place user body) reached allowed) = short_workers s reached
short_workers _ (further s (pulling place user) reached allowed) = short_workers s reached
short_workers _ (further s (restoring place user) reached allowed) = short_workers s reached

-- whoever works on the batch after an event
pub short_worker : (s : Machine) (place : ℕ) (event : Event) (user : List ℕ) (b : Batch) → Reached s → slice_get s.batches place ≡ Some b → is_name user ≡ true → IsShort (with_worker (makes_worker event) user b.worker)
short_worker s place event user b reached there named =
    short_with (makes_worker event) user b.worker (short_name user named) (all_there (λ (b : Batch). IsShort b.worker) s.batches place b there (short_workers s reached))

pub short_batch : (s : Machine) (place : ℕ) (b : Batch) → IsWell s → slice_get s.batches place ≡ Some b → IsShort b.name
short_batch s place b well there = short_name b.name (all_there (λ (b : Batch). is_name b.name ≡ true) s.batches place b there well.named)
