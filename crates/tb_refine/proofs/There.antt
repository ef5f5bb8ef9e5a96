-- Sentences that stand.
use Rattle.std.proofs.Common.{◌≡◌, ℕ, zero, suc, ◌-◌, ◌<◌, ◌≤◌, List, [], ◌∷◌, length, Some, slice_get, refl, arith, Result, Ok, Err, IfOk}
use Rattle.tb_core.specs.Machine.{Machine, Sentence}
use Rattle.tb_core.specs.Commands.{HasSentence}

pub element : {X : Type 0} (xs : List X) (i : ℕ) → i < length xs → (x : X) × (slice_get xs i ≡ Some x)
element [] i low = absurd (omega (arith, low))
element (x ∷ xs) zero low = (x, refl)
element (x ∷ xs) (suc i) low = element xs i (omega (arith, low))

pub sentence_there : (s : Machine) (number n : ℕ) → n ≡ number → 0 < n → n ≤ length s.sentences → (x : Sentence) × (slice_get s.sentences (n - 1) ≡ Some x) × HasSentence s number (n - 1) x
sentence_there s number n is above within =
    let it = element s.sentences (n - 1) (omega (arith, above, within)) in
    (it.0, it.1, record { counted = omega (arith, is, above); there = it.1 })

pub both_ok : {T E : Type 0} {P Q R : T → Type 0} (r : Result T E) → IfOk r P → IfOk r Q → ((x : T) → P x → Q x → R x) → IfOk r R
both_ok (Ok x) p q f = f x p q
both_ok (Err e) p q f = tt
