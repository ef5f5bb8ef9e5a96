-- No two keys share a number.
use Rattle.std.proofs.Common.{◌≡◌, ℕ, suc, ◌+◌, ◌*◌, ◌^◌, ◌<◌, ◌≤◌, List, [], ◌∷◌, get_or, length, drop, refl, sym, ap, arith, drop-cons}
use Rattle.std.proofs.Math.Nat.{pow-suc, pow-le-pow_right}
use Rattle.std.specs.List.{AllByRecursion}
use Rattle.std.proofs.lemmas.List.{drop_all}
use Rattle.tb_report.specs.Kept.{number_after, number_of}

abbrev AreBytes : List ℕ → Type 0
AreBytes bytes = AllByRecursion (λ byte. byte < 256) bytes

grows : (bytes : List ℕ) (n : ℕ) → n ≤ number_after n bytes
grows [] n = omega arith
grows (b ∷ bs) n = let more = grows bs (n * 256 + b) in omega (arith, more)

-- two numbers of one length differ by less than their double
longer : (bytes : List ℕ) (b n m : ℕ) → n < 2 * m → number_after m (b ∷ bytes) ≡ n → ⊥
longer bytes b n m near same = let more = grows bytes (m * 256 + b) in omega (arith, more, near, same)

same_after : (xs ys : List ℕ) (n m : ℕ) → n < 2 * m → m < 2 * n → AreBytes xs → AreBytes ys → number_after n xs ≡ number_after m ys → (n ≡ m) × (xs ≡ ys)
same_after [] [] n m near near' p q same = (same, refl)
same_after [] (y ∷ ys) n m near near' p q same = absurd (longer ys y n m near (sym same))
same_after (x ∷ xs) [] n m near near' p q same = absurd (longer xs x m n near' same)
same_after (x ∷ xs) (y ∷ ys) n m near near' p q same =
    let small = p.0 in
    let small' = q.0 in
    let rest = same_after xs ys (n * 256 + x) (m * 256 + y) (omega (arith, near, small, small')) (omega (arith, near', small, small')) p.1 q.1 same in
    let both = rest.0 in
    let head : x ≡ y = omega (arith, both, small, small') in
    let tail : xs ≡ ys = rest.1 in
    (omega (arith, both, small, small'), λ i. head i ∷ tail i)

pub same_key : (key other : List ℕ) → AreBytes key → AreBytes other → number_of key ≡ number_of other → key ≡ other
same_key key other p q same = (same_after key other 1 1 (omega arith) (omega arith) p q same).1

-- the bytes of a text
pub are_bytes : (bytes : List ℕ) → ((i : ℕ) → get_or bytes i 0 < 256) → AreBytes bytes
are_bytes [] all = tt
are_bytes (b ∷ bs) all = (all 0, are_bytes bs (λ i. all (suc i)))

-- one byte further
pub next_after : (number i : ℕ) (bytes : List ℕ) → i < length bytes → number_after number (drop i bytes) ≡ number_after (number * 256 + get_or bytes i 0) (drop (suc i) bytes)
next_after number i bytes inside = ap (number_after number) (drop-cons bytes i 0 inside)

pub all_taken : (number i : ℕ) (bytes : List ℕ) → length bytes ≤ i → number_after number (drop i bytes) ≡ number
all_taken number i bytes over = ap (number_after number) (drop_all i bytes over)

-- after fewer than fifteen bytes there is room for one more
pub room_after : (i number byte : ℕ) → i < 15 → number < 2 * 256 ^ i → byte < 256 → number * 256 + byte < 2 ^ 121
room_after i number byte few small one =
    let most : 256 ^ i ≤ 256 ^ 14 = pow-le-pow_right {n = 256} (omega arith) {i = i} {j = 14} (omega (arith, few)) in
    omega (arith, most, small, one)

pub one_more : (i number byte : ℕ) → number < 2 * 256 ^ i → byte < 256 → number * 256 + byte < 2 * 256 ^ (suc i)
one_more i number byte small one = let next : 256 ^ (suc i) ≡ 256 ^ i * 256 = pow-suc 256 i in omega (arith, next, small, one)
