-- Words of 64 bits, united eight at a time.
use Rattle.std.proofs.Common.{◌≡◌, ◌+◌, ◌<◌, ◌≤◌, ℕ, length, List, bit_or, get_or, arith, ◌∙◌, sym}
use Rattle.std.specs.Simd.Lanes.{zip2}
use Rattle.std.proofs.lemmas.Simd.{length-zip2, length-chunk, get_or-chunk, get_or-zip2, get_or-put_chunk_below, get_or-put_chunk_at, get_or-put_chunk_above}
use Rattle.std.proofs.lemmas.List.{ext_get_or}
use lib.Lanes.{chunk, put_chunk}

module _ (xs ys : List ℕ) (at : ℕ) (same : length xs ≡ length ys) (room : at + 8 ≤ length xs) where
  united_length : length (zip2 bit_or (chunk at 8 xs) (chunk at 8 ys)) ≡ 8
  united_length =
      let a : length (chunk at 8 xs) ≡ 8 = length-chunk at 8 xs room in
      let b : length (chunk at 8 ys) ≡ 8 = length-chunk at 8 ys (omega arith) in
      length-zip2 bit_or (chunk at 8 xs) (chunk at 8 ys) (a ∙ sym b) ∙ a

  pub united_before : (k : ℕ) → k < at → get_or (put_chunk at xs (zip2 bit_or (chunk at 8 xs) (chunk at 8 ys))) k 0 ≡ get_or xs k 0
  united_before k h = get_or-put_chunk_below at xs _ k 0 h

  pub united_after : (k : ℕ) → at + 8 ≤ k → get_or (put_chunk at xs (zip2 bit_or (chunk at 8 xs) (chunk at 8 ys))) k 0 ≡ get_or xs k 0
  united_after k h = get_or-put_chunk_above at xs _ k 0 (omega (arith, united_length))

  pub united_within : (k : ℕ) → k < 8 → get_or (put_chunk at xs (zip2 bit_or (chunk at 8 xs) (chunk at 8 ys))) (at + k) 0 ≡ bit_or (get_or xs (at + k) 0) (get_or ys (at + k) 0)
  united_within k h =
      let a : length (chunk at 8 xs) ≡ 8 = length-chunk at 8 xs room in
      let b : length (chunk at 8 ys) ≡ 8 = length-chunk at 8 ys (omega arith) in
      let p : get_or (chunk at 8 xs) k 0 ≡ get_or xs (at + k) 0 = get_or-chunk at 8 xs k 0 h in
      let q : get_or (chunk at 8 ys) k 0 ≡ get_or ys (at + k) 0 = get_or-chunk at 8 ys k 0 h in
      let r : get_or (zip2 bit_or (chunk at 8 xs) (chunk at 8 ys)) k 0 ≡ bit_or (get_or (chunk at 8 xs) k 0) (get_or (chunk at 8 ys) k 0) = get_or-zip2 bit_or _ _ k 0 0 0 (omega arith) (omega arith) in
      let s : get_or (put_chunk at xs (zip2 bit_or (chunk at 8 xs) (chunk at 8 ys))) (at + k) 0 ≡ get_or (zip2 bit_or (chunk at 8 xs) (chunk at 8 ys)) k 0 = get_or-put_chunk_at at xs _ k 0 (omega (arith, united_length)) (omega (arith, united_length)) in
      cc

pub united_list : (xs ys zs : List ℕ) → length xs ≡ length ys → length zs ≡ length xs → ((k : ℕ) → k < length xs → get_or zs k 0 ≡ bit_or (get_or xs k 0) (get_or ys k 0)) → zs ≡ zip2 bit_or xs ys
united_list xs ys zs same long each =
    ext_get_or 0 zs (zip2 bit_or xs ys) (long ∙ sym (length-zip2 bit_or xs ys same))
    (λ k h. each k (omega arith) ∙ sym (get_or-zip2 bit_or xs ys k 0 0 0 (omega arith) (omega arith)))
