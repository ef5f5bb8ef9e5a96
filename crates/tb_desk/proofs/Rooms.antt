-- How many bytes the bodies of all connections have together, after one of them was read.
use Rattle.std.proofs.Common.{false, nat_eq, ◌≡◌, ◌≤◌, ◌<◌, ◌+◌, ◌-◌, ◌^◌, ℕ, List, vec_len, take, drop, set, get_or, length, max, min, sym, ◌∙◌, ap, subst, arith, refl, zero, suc}
use Rattle.std.specs.List.{sum_by}
use Rattle.std.proofs.lemmas.Bool.Decides.{nat_tests}
use Rattle.std.proofs.lemmas.List.{take-set-le, take_more_set, drop-set-lt, drop-set-add, get_or-drop, length-drop}
use Rattle.std.proofs.lemmas.List.Sums.{sum_by_push, sum_by_more, sum_by-set, sum_by-take-drop, get_or-le-sum_by}
use Rattle.tb_desk.specs.Arriving.{most_size}
use Rattle.tb_desk.specs.Waiting.{KeepsRoom, kept_by, kept_of}
use Rattle.tb_desk.specs.declared.callers.Caller.{Caller}

-- how large the buffer of the oldest may be, and that of another
room_of_oldest : (others at : ℕ) → at ≡ 0 → most_size others (nat_eq at 0) ≡ 8192 + 4194304
room_of_oldest others at first = subst (λ n. most_size others (nat_eq n 0) ≡ 8192 + 4194304) (sym first) refl

room_of_other : (others at : ℕ) → 0 < at → most_size others (nat_eq at 0) ≡ 8192 + (12582912 - others)
room_of_other others at later =
    let other : nat_eq at 0 ≡ false = grind (arith, nat_tests, later) in
    ap (most_size others) other

module _ {X : Type 0} (f : X → ℕ) (d : X) where
  -- the first may grow up to `most` only
  oldest_kept : (most b : ℕ) (xs : List X) (i : ℕ) (y : X) → i < length xs → (i ≡ 0 → f y ≤ max (f (get_or xs i d)) most)
      → sum_by f (take 1 xs) ≤ max b most → sum_by f (take 1 (set xs i y)) ≤ max b most
  oldest_kept most b xs zero y l grows h =
      let now = ap (sum_by f) (take_more_set xs 0 y l) ∙ sum_by_push f (take 0 xs) y in
      let before = sum_by_more f xs 0 d l in
      let none : sum_by f (take 0 xs) ≡ 0 = refl in
      let small = grows refl in
      omega (arith, now, before, none, small, h)
  oldest_kept most b xs (suc j) y l grows h =
      let same : sum_by f (take 1 (set xs (suc j) y)) ≡ sum_by f (take 1 xs) = ap (sum_by f) (take-set-le 1 xs (suc j) y (omega arith)) in
      omega (arith, same, h)

  -- another may grow up to what is left of `most` only
  others_kept : (most b : ℕ) (xs : List X) (i : ℕ) (y : X) → i < length xs
      → (0 < i → f y ≤ max (f (get_or xs i d)) (most - (sum_by f xs - f (get_or xs i d))))
      → sum_by f (drop 1 xs) ≤ max b most → sum_by f (drop 1 (set xs i y)) ≤ max b most
  others_kept most b xs zero y l grows h =
      let same : sum_by f (drop 1 (set xs 0 y)) ≡ sum_by f (drop 1 xs) = ap (sum_by f) (drop-set-lt 1 xs 0 y (omega arith)) in
      omega (arith, same, h)
  others_kept most b xs (suc j) y l grows h =
      let next : 1 + j ≡ suc j = omega arith in
      let cut : sum_by f (drop 1 (set xs (suc j) y)) ≡ sum_by f (set (drop 1 xs) j y) = subst (λ k. sum_by f (drop 1 (set xs k y)) ≡ sum_by f (set (drop 1 xs) j y)) next (ap (sum_by f) (drop-set-add 1 xs j y)) in
      let here : f (get_or (drop 1 xs) j d) ≡ f (get_or xs (suc j) d) = ap f (get_or-drop 1 xs j d) ∙ ap (λ k. f (get_or xs k d)) next in
      let shorter : length (drop 1 xs) ≡ length xs - 1 = length-drop 1 xs in
      let inside : j < length (drop 1 xs) = omega (arith, shorter, l) in
      let changed = sum_by-set f (drop 1 xs) j y d inside in
      let all = sum_by-take-drop f xs 1 in
      let part = get_or-le-sum_by f (drop 1 xs) j d inside in
      let small = grows (omega arith) in
      omega (arith, cut, here, changed, all, part, small, h)

-- the first and the others are within their bounds, and this is what all have together
abbrev pub AreKept : (olds xs : List Caller) (kept : ℕ) → Type 0
AreKept olds xs kept = KeepsRoom olds xs × (kept_by olds < 2 ^ 63 → kept ≡ kept_by xs)

module _ (olds xs : List Caller) (i kept others most : ℕ) (before after : Caller) (inside : i < length xs) (here : before ≡ get_or xs i before)
    (grows : vec_len after.room ≤ max (vec_len before.room) most) (most_is : most ≡ most_size others (nat_eq i 0)) (others_is : others ≡ kept - kept_of before)
    (h : AreKept olds xs kept) where
  same : kept_of before ≡ kept_of (get_or xs i before)
  same = ap kept_of here

  oldest_now : kept_by (take 1 (set xs i after)) ≤ max (kept_by (take 1 olds)) 4194304
  oldest_now = oldest_kept kept_of before 4194304 (kept_by (take 1 olds)) xs i after inside
      (λ first. omega (arith, grows, most_is, room_of_oldest others i first, same)) h.0.0

  others_now : kept_by olds < 2 ^ 63 → kept_by (drop 1 (set xs i after)) ≤ max (kept_by (drop 1 olds)) 12582912
  others_now few = others_kept kept_of before 12582912 (kept_by (drop 1 olds)) xs i after inside
      (λ later. let total = h.1 few in omega (arith, grows, most_is, room_of_other others i later, others_is, total, same)) (h.0.1 few)

  pub one_read : KeepsRoom olds (set xs i after)
  one_read = (oldest_now, others_now)

  pub all_after_one : (n now : ℕ) → n ≡ kept_of after → now ≡ min (others + n) 18446744073709551615 → AreKept olds (set xs i after) now
  all_after_one n now n_is now_is = (
    one_read,
    λ few.
        let total = h.1 few in
        let first = oldest_now in
        let rest = others_now few in
        let changed = sum_by-set kept_of xs i after before inside in
        let part = get_or-le-sum_by kept_of xs i before inside in
        let all = sum_by-take-drop kept_of (set xs i after) 1 in
        let old = sum_by-take-drop kept_of olds 1 in
        omega (arith, few, total, first, rest, changed, part, all, old, same, others_is, n_is, now_is),
  )
