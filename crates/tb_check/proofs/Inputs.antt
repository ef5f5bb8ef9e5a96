-- What was read of an input, against the input itself.
use Rattle.std.proofs.Common.{◌≤◌, ◌<◌, ℕ, ◌+◌, List, ◌++◌, length, length-append, Option, arith}
use Rattle.std.specs.Io.KnownBytes.{Consumes}
use Rattle.std.proofs.KnownBytes.{Consumes-trans}
use Rattle.tb_check.specs.Input.{TakenSome}

-- so much was taken, and no more than the limit and one byte
pub record IsTaking (old new : Option (List ℕ)) (all : List ℕ) (limit : ℕ) : Type 0 where
  pub within : length all ≤ limit + 1
  pub taken : Consumes old new all

pub taking_more : (old mid new : Option (List ℕ)) (all part : List ℕ) (limit : ℕ) → IsTaking old mid all limit → length all + length part ≤ limit + 1 → Consumes mid new part
    → IsTaking old new (all ++ part) limit
taking_more old mid new all part limit h few read =
    let long = length-append all part in
    record { within = omega (arith, long, few); taken = Consumes-trans old mid new all part h.taken read }

-- what a read gave found no room
pub taking_full : (old mid new : Option (List ℕ)) (all part : List ℕ) (limit : ℕ) → IsTaking old mid all limit
    → length all + length part ≤ limit + 1 → Consumes mid new part → 0 < length part → TakenSome old new (λ n. (0 < n) × (n ≤ limit + 1))
taking_full old mid new all part limit h few read some =
    let long = length-append all part in
    (all ++ part, Consumes-trans old mid new all part h.taken read, (omega (arith, long, some), omega (arith, long, few)))
