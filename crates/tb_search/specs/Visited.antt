-- Texts that are visited one after another.
use Rattle.std.specs.Prelude.{◌≡◌, ◌≢◌, ℕ, List, [], ◌∷◌, ◌⊎◌, map, ⊤}
use Rattle.tb_conllu.specs.Text.{text_of}
use Rattle.tb_core.specs.Machine.{Sentence}
use Rattle.tb_reads.specs.declared.error.ReadError.TheVariants.{Form}
use Rattle.tb_reads.specs.Failing.{IsReadFault, IsReadWant}
use Rattle.tb_search.specs.declared.stopped.Stopped.{Stopped}
use Rattle.tb_search.specs.declared.stopped.Stopped.TheVariants.{Read, Output}

-- the texts of the current revisions of sentences
abbrev pub texts : List Sentence → List (List ℕ)
texts xs = map (λ (x : Sentence). text_of (x.current.body ∷ [])) xs

-- the cause is a store, memory or a sink, not rows or texts that are not a desk's
abbrev pub IsFault : Stopped → Type 0
IsFault e = e ≢ Read Form

-- an error of the database is a fault of the store
abbrev pub IsStopFault : Stopped → Type 0
IsStopFault (Read e) = IsReadFault e
IsStopFault Output = ⊤

-- an error of the database is want of memory
abbrev pub IsStopWant : Stopped → Type 0
IsStopWant (Read e) = IsReadWant e
IsStopWant Output = ⊤

-- a sink refused a piece, for a reason with this property
abbrev pub HasReason : {Reason : Type 0} → (Reason → Type 0) → Type 0
HasReason {Reason} is_refusal = (reason : Reason) × is_refusal reason

-- what a text changes in a visitor and in what it fills
abbrev pub Taking : Type 0 → Type 0 → Type 1
Taking V O = V → O → List ℕ → V → O → Type 0

-- what is filled where the walk stops at a text
abbrev pub Stopping : Type 0 → Type 0 → Type 1
Stopping V O = V → O → List ℕ → Stopped → O → Type 0

-- all of them were taken
abbrev pub AllTaken : {V O : Type 0} → Taking V O → V → O → List (List ℕ) → V → O → Type 0
AllTaken takes v o [] w q = (w ≡ v) × (q ≡ o)
AllTaken {V} {O} takes v o (t ∷ ts) w q = (u : V) × (p : O) × takes v o t u p × AllTaken takes u p ts w q

-- the walk ended before the first text, at it, or later
abbrev pub Halted : {V O : Type 0} → Taking V O → Stopping V O → V → O → List (List ℕ) → Stopped → O
    → Type 0
Halted takes stops v o [] e q = IsFault e × (q ≡ o)
Halted {V} {O} takes stops v o (t ∷ ts) e q = (IsFault e × (q ≡ o)) ⊎ stops v o t e q ⊎ ((u : V) × (p : O)
    × takes v o t u p × Halted takes stops u p ts e q)
