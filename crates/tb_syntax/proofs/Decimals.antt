-- Digits read one by one in a number that stops at 255.
use Rattle.std.proofs.Common.{◌≡◌, ℕ, suc, ◌+◌, ◌*◌, ◌-◌, ◌<◌, ◌≤◌, min, List, [], ◌∷◌, length, drop, get_or, sym, ap, ◌∙◌, arith, add-one, drop-cons}
use Rattle.std.proofs.lemmas.List.{drop_all}
use Rattle.tb_syntax.specs.Spelling.{decimal_from}

-- what stops on the way ends there
stops : (s : List ℕ) (v : ℕ) → min 255 (decimal_from (min 255 v) s) ≡ min 255 (decimal_from v s)
stops [] v = omega arith
stops (c ∷ cs) v =
    let d = c - 48 in
    let e : min 255 (10 * min 255 v + d) ≡ min 255 (10 * v + d) = omega arith in
    sym (stops cs (10 * min 255 v + d)) ∙ ap (λ n. min 255 (decimal_from n cs)) e ∙ stops cs (10 * v + d)

-- one digit more
pub one_digit : (s : List ℕ) (i v n d : ℕ) → i < length s → n ≡ min 255 (min 255 (v * 10) + (get_or s i d - 48)) →
    min 255 (decimal_from n (drop (i + 1) s)) ≡ min 255 (decimal_from v (drop i s))
one_digit s i v n d lt e =
    let x = get_or s i d - 48 in
    let m : n ≡ min 255 (10 * v + x) = omega arith in
    rw (add-one, drop-cons s i d lt) (ap (λ k. min 255 (decimal_from k (drop (suc i) s))) m ∙ stops (drop (suc i) s) (10 * v + x))

pub at_end : (s : List ℕ) (i v : ℕ) → length s ≤ i → v ≤ 255 → min 255 (decimal_from v (drop i s)) ≡ v
at_end s i v le small = rw (drop_all i s le) (omega arith)
