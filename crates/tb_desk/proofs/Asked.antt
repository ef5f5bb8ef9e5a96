-- Whether a listener was asked for a connection since a moment, by counts of connections that wait and of questions.
use Rattle.std.proofs.Common.{◌≡◌, ◌⊎◌, ◌≤◌, ◌<◌, ◌+◌, ◌-◌, ◌^◌, ℕ, min, inl, inr, arith}

-- nothing has changed yet, or it was asked where there was room at first
abbrev pub IsAskedSince : (first_count first_asked count asked : ℕ) → Type 0
IsAskedSince c0 a0 c a = ((c ≡ c0) × (a ≡ a0)) ⊎ (c0 < 256 → min (a0 + 1) 18446744073709551615 ≤ a)

pub asked_now : (c0 a0 c a b : ℕ) → IsAskedSince c0 a0 c a → (c < 256 → min (a + 1) 18446744073709551615 ≤ b) → min a 18446744073709551615 ≤ b
    → c0 < 256 → min (a0 + 1) 18446744073709551615 ≤ b
asked_now c0 a0 c a b (inl same) asks kept few =
    let now = asks (omega (arith, few, same.0)) in omega (arith, now, same.1)
asked_now c0 a0 c a b (inr asked) asks kept few =
    let before = asked few in omega (arith, before, kept)
