-- One more slash.
use Rattle.std.proofs.Common.{◌≡◌, ℕ, suc, ◌+◌, ◌-◌, ◌<◌, List, sym, ◌∙◌, ap, arith}
use Rattle.tb_http.specs.Forms.{segment_of, is_slash}
use Rattle.std.specs.List.{after_first, before_first}

-- after one more slash the same segment is one nearer
pub nearer : (n i : ℕ) (rest text : List ℕ) → i < n → segment_of (n - i) rest ≡ text → segment_of (n - (i + 1)) (after_first is_slash rest) ≡ text
nearer n i rest text l e =
    let s : n - i ≡ suc (n - (i + 1)) = omega arith in
    ap (λ k. segment_of k rest) (sym s) ∙ e

pub last : (n i : ℕ) (rest text : List ℕ) → n ≡ i → segment_of (n - i) rest ≡ text → before_first is_slash rest ≡ text
last n i rest text l e =
    let s : n - i ≡ 0 = omega (arith, l) in
    ap (λ k. segment_of k rest) (sym s) ∙ e
