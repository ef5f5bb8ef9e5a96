-- Inner: no contract beyond this crate cites a definition of this module.
-- What a connection has sent so far, and how that goes on.
use Rattle.std.specs.Prelude.{◌≡◌, ◌≢◌, ◌⊎◌, ◌≤◌, ◌<◌, ◌+◌, ◌-◌, ◌^◌, List, ℕ, max, min, take, true, vec_len}
use Rattle.std.specs.Duration.{as_nanos}
use Rattle.tb_host.specs.Patience.{seconds}
use Rattle.tb_desk.specs.Arriving.{IsAwaited, awaited_at, next_size}
use Rattle.tb_desk.specs.declared.arriving.Awaited.{Awaited}
use Rattle.tb_desk.specs.declared.arriving.Awaited.TheVariants.{Head, Nothing}
use Rattle.tb_desk.specs.declared.callers.Caller.{Caller}

-- the bytes that a connection has sent
abbrev pub said_by : Caller → List ℕ
said_by caller = take caller.filled caller.room.items

-- all of them are in the buffer
abbrev pub IsWithin : Caller → Type 0
IsWithin caller = caller.filled ≤ vec_len caller.room

-- It is the same connection, and the bytes that it sent before come first.
abbrev pub GoesOn : (old new : Caller) → Type 0
GoesOn old new = (new.stream ≡ old.stream)
    × (IsWithin old → IsWithin new × (old.filled ≤ new.filled) × (take old.filled new.room.items ≡ said_by old))

-- what is awaited is what the bytes say that it has sent
abbrev pub AwaitsBySaid : Caller → Type 0
AwaitsBySaid caller = (now : Awaited) × IsAwaited (said_by caller) now × (caller.awaited ≡ awaited_at now caller.filled)

-- More has come. Where the head was awaited, all bytes say what follows. After it only their number does.
abbrev pub Hears : (old new : Caller) → Type 0
Hears old new = (old.awaited ≡ Head → AwaitsBySaid new)
    × (old.awaited ≢ Head → new.awaited ≡ awaited_at old.awaited new.filled)

-- How long the desk still waits. The time for a body begins when the head has come, and none begins anew while the same
-- part is awaited. Once the head has come, or nothing is awaited, that stays.
pub record KeepsTime (old new : Caller) : Type 0 where
  pub came : old.awaited ≢ Head → new.awaited ≢ Head
  pub whole : old.awaited ≡ Nothing → new.awaited ≡ Nothing
  pub same : (old.awaited ≢ Head) ⊎ (new.awaited ≡ Head) → new.left ≡ old.left
  pub begun : old.awaited ≡ Head → new.awaited ≢ Head → new.awaited ≢ Nothing → as_nanos new.left ≡ seconds 10

-- how large its buffer becomes where it is full
abbrev pub wanted_size : Caller → ℕ
wanted_size caller = max (next_size (vec_len caller.room) caller.awaited) caller.filled

-- its buffer has room for more bytes, or becomes larger
abbrev pub HasRoom : Caller → Type 0
HasRoom caller = caller.filled < max (vec_len caller.room) (next_size (vec_len caller.room) caller.awaited)

-- it was read once more at least; the count ends at its greatest number
abbrev pub HasReadOnceMore : (old new : Caller) → Type 0
HasReadOnceMore old new = min (old.reads.count + 1) (2 ^ 64 - 1) ≤ new.reads.count

-- A connection that has to send more is read, where there is room for that. Else it is held, for want of room within
-- `most` bytes, or its buffer is full and memory is wanting for a larger one.
abbrev pub IsHeard : (most : ℕ) → (old new : Caller) → Type 0
IsHeard most old new = old.awaited ≢ Nothing → HasRoom old → HasReadOnceMore old new
    ⊎ ((new.is_held ≡ true) × (most < wanted_size old))
    ⊎ ((new.awaited ≡ Nothing) × (vec_len old.room ≤ old.filled))
