-- Between crates: no contract of a front door cites a definition of this module.
-- The room that a source is handed at each call.
use Rattle.std.specs.Prelude.{◌≡◌, ◌-◌, min, ℕ, List, [], ◌∷◌, ◌++◌, length, take, Option, Some, None, Result, Ok, Err}
use Rattle.std.specs.Prelude.{⊤}

-- a call: the room that the source was handed, and what it gave
pub record Fill : Type 0 where
  pub room : ℕ
  pub part : List ℕ

-- what a call gave
abbrev pub given : {E : Type 0} → Result ℕ E → (buf : List ℕ) → List ℕ
given (Ok n) buf = take n buf
given (Err e) buf = []

-- these calls were added to the noted ones
abbrev pub Notes : (old new : Option (List Fill)) → List Fill → Type 0
Notes None new fs = ⊤
Notes (Some xs) None fs = ⊥
Notes (Some xs) (Some ys) fs = ys ≡ xs ++ fs

-- each call was handed the room that is wanted after the bytes before it
abbrev pub AllHanded : (wanted : List ℕ → ℕ) → (before : List ℕ) → List Fill → Type 0
AllHanded wanted before [] = ⊤
AllHanded wanted before (f ∷ fs) = (f.room ≡ wanted before) × AllHanded wanted (before ++ f.part) fs

-- after these bytes, each call was handed the room that is wanted
abbrev pub IsHanded : (wanted : List ℕ → ℕ) → (before : List ℕ) → (old new : Option (List Fill)) → Type 0
IsHanded wanted before old new = (fs : List Fill) × Notes old new fs × AllHanded wanted before fs

-- the room for the rest of a head
abbrev pub head_room : (came : List ℕ) → ℕ
head_room came = 8192 - length came

-- the room for the rest of a body of n bytes, at most 4,096 at once
abbrev pub body_room : (n : ℕ) → (came : List ℕ) → ℕ
body_room n came = min (n - length came) 4096
