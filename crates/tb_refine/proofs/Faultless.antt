-- On the tables of a desk nothing that is read is unfit, and the database refuses nothing: no fault of the store is `NotADesk`.
use Rattle.std.proofs.Common.{◌≡◌, ◌≢◌, ℕ, ◌<◌, List, [], ◌∷◌, length, length-append, sym, ap, refl, ◌∙◌, inl, inr, arith}
use Rattle.std.specs.List.{All}
use Rattle.std.proofs.lemmas.List.Elements.{All-from_recursion, recursion_from_All}
use Rattle.sqlite.specs.declared.error.Error.{Error}
use Rattle.sqlite.specs.State.{store_error}
use Rattle.sqlite_trees.specs.declared.error.StoreError.{StoreError}
use Rattle.sqlite_trees.specs.declared.error.StoreError.TheVariants.{OutOfMemory, Io, Corrupt, Full, Broken, Unstorable}
use Rattle.tb_core.specs.declared.refusals.Fault.TheVariants.{Memory, Device, NotADesk}
use Rattle.tb_core.specs.Machine.{Machine}
use Rattle.tb_core.specs.Acts.{Act, after, move_of}
use Rattle.tb_core.specs.Reaching.{IsReachable}
use Rattle.tb_core.proofs.Weights.{all_mapped}
use Rattle.tb_tables.specs.Failing.{IsStoreFault, IsRoomFault, IsWant}
use Rattle.tb_reads.specs.declared.error.ReadError.{ReadError}
use Rattle.tb_reads.specs.declared.error.ReadError.TheVariants.{Store, Form}
use Rattle.tb_reads.specs.Failing.{IsReadFault, IsReadWant}
use Rattle.tb_refine.specs.Faults.{fault_of_error, fault_of_read}

store_reported : (cause : StoreError) → fault_of_error (store_error cause) ≢ NotADesk
store_reported OutOfMemory e = let is : Memory ≡ NotADesk = e in absurd cc
store_reported Io e = let is : Device ≡ NotADesk = e in absurd cc
store_reported Corrupt e = let is : Device ≡ NotADesk = e in absurd cc
store_reported Full e = let is : Device ≡ NotADesk = e in absurd cc
store_reported Broken e = let is : Device ≡ NotADesk = e in absurd cc
store_reported Unstorable e = let is : Device ≡ NotADesk = e in absurd cc

pub error_reported : (e : Error) → IsStoreFault e → fault_of_error e ≢ NotADesk
error_reported e h reported = store_reported h.0 (ap fault_of_error (sym h.1) ∙ reported)

-- want of memory is not the device's
pub memory_reported : (e : Error) → IsWant e → fault_of_error e ≢ Device
memory_reported e want reported = let is : Memory ≡ Device = ap fault_of_error (sym want) ∙ reported in absurd cc

pub room_reported : (e : Error) → IsRoomFault e → fault_of_error e ≢ NotADesk
room_reported e h reported = elim h [
  | inl fault ↦ error_reported e fault reported
  | inr full ↦ let is : Device ≡ NotADesk = ap fault_of_error (sym full) ∙ reported in absurd cc
]

pub read_reported : (e : ReadError) → IsReadFault e → e ≢ Form → fault_of_read e ≢ NotADesk
read_reported (Store e) h fits reported = error_reported e h reported
read_reported Form h fits reported = absurd (fits refl)

-- want of memory, and rows that are no records, are not the device's
pub want_reported : (e : ReadError) → IsReadWant e → fault_of_read e ≢ Device
want_reported (Store e) want reported = let is : Memory ≡ Device = ap fault_of_error (sym want) ∙ reported in absurd cc
want_reported Form want reported = let is : NotADesk ≡ Device = reported in absurd cc

pub fit : {X : Type 0} (P Q : X → Type 0) → ((x : X) → P x → Q x) → (xs : List X) → All P xs → All Q xs
fit P Q f xs h = All-from_recursion Q xs (all_mapped P Q f xs (recursion_from_All P xs h))

-- where one more act keeps within the largest limits, its move has a number
pub move_left : (s : Machine) (a : Act) (k : ℕ) → IsReachable (after s a) → k ≡ length s.moves → k < 1000000000
move_left s a k next is =
    let many = next.moves in
    let longer = length-append s.moves (move_of s a ∷ []) in
    omega (arith, many, longer, is)
