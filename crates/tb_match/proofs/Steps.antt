-- How many unions a pattern may cost.
use Rattle.std.proofs.Common.{◌≡◌, ◌+◌, ◌*◌, ◌/◌, ◌^◌, ◌<◌, ◌≤◌, ℕ, zero, suc, ap, arith}
use Rattle.std.proofs.Math.Nat.{mul-le-mul_right}
use Rattle.tb_match.specs.Bits.{triangle}

twice_triangle : (n : ℕ) → 2 * triangle n ≡ n * (n + 1)
twice_triangle zero = omega arith
twice_triangle (suc n) = omega (arith, twice_triangle n)

pub steps_limit : (weight words steps : ℕ) → steps ≤ 0 + weight * triangle (words + 1) → steps ≤ weight * (words + 1) * (words + 2) / 2
steps_limit weight words steps h =
    let twice : weight * (2 * triangle (words + 1)) ≡ weight * ((words + 1) * (words + 1 + 1)) = ap (λ n. weight * n) (twice_triangle (words + 1)) in
    omega arith

pub steps_countable : (weight words : ℕ) → weight ≤ 1000000 → words ≤ 1000 → 0 + weight * triangle (words + 1) < 2 ^ 64
steps_countable weight words light short =
    let T = triangle (words + 1) in
    let most : words + 1 ≤ 1001 = omega arith in
    let rows = mul-le-mul_right (words + 2) most in
    let twice : 2 * T ≡ (words + 1) * (words + 1 + 1) = twice_triangle (words + 1) in
    let few : T ≤ 501501 = omega arith in
    let all = mul-le-mul_right T light in
    omega arith
