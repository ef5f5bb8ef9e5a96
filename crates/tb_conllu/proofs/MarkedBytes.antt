-- Bytes cut at the first tab or line feed.
use Rattle.std.proofs.Common.{◌≡◌, ◌↔◌, ℕ, ◌+◌, ◌-◌, ◌<◌, ◌≤◌, List, [], ◌∷◌, ◌++◌, length, Bool, true, false, refl, sym, ap, subst, arith, take, drop, zero, suc, get_or, add-one, inl, inr, ◌∙◌, replicate, ⊎_elim}
use Rattle.std.specs.Int.{bit_at}
use Rattle.std.specs.List.{list_any}
use Rattle.std.proofs.lemmas.Bool.{cases_Bool, cases_lt}
use Rattle.std.proofs.lemmas.Bool.Decides.{nat_tests}
use Rattle.std.proofs.lemmas.List.{drop-drop, get_or-drop, length-drop, take_all}
use Rattle.std.proofs.lemmas.Nat.Bits.{bit_at-zero}
use Rattle.std.proofs.lemmas.Str.{lead_after_ascii}
use Rattle.std.proofs.Math.ListN.{get_or-eq_default}
use Rattle.tb_conllu.specs.Marks.{AreMarks, IsCutAt, is_mark}
use Rattle.tb_conllu.proofs.MarkBits.{true_is_no_false}

-- no place holds a mark
pub no_mark : (bs : List ℕ) → ((k : ℕ) → k < length bs → is_mark (get_or bs k 0) ≡ true → ⊥) → list_any is_mark bs ≡ false
no_mark [] h = refl
no_mark (b ∷ bs) h =
    elim (cases_Bool (is_mark b)) [
      | inl hit ↦ absurd (h 0 (omega arith) hit)
      | inr miss ↦ rw (miss, no_mark bs (λ k l e. h (suc k) (omega arith) e)) refl
    ]

-- the part before the first mark, the mark, and the part after it
marked_at : (bs : List ℕ) (end : ℕ) → end < length bs → ((k : ℕ) → k < end → is_mark (get_or bs k 0) ≡ true → ⊥) → is_mark (get_or bs end 0) ≡ true → (list_any is_mark (take end bs) ≡ false) × ((mark : ℕ) × (is_mark mark ≡ true) × (bs ≡ take end bs ++ mark ∷ drop (end + 1) bs))
marked_at [] end l h hit = absurd (omega arith)
marked_at (b ∷ bs) zero l h hit = (refl, (b, hit, refl))
marked_at (b ∷ bs) (suc end) l h hit =
    let rest = marked_at bs end (omega arith) (λ k m e. h (suc k) (omega arith) e) hit in
    elim (cases_Bool (is_mark b)) [
      | inl first ↦ absurd (h 0 (omega arith) first)
      | inr miss ↦ (rw (miss, rest.0) refl, (rest.1.0, rest.1.1, rw add-one (ap (λ x. b ∷ x) (rest.1.2 ∙ rw add-one refl))))
    ]

mark_is_ascii : (b : ℕ) → is_mark b ≡ true → b < 128
mark_is_ascii b h = grind (arith, nat_tests)

not_so : (b : Bool) → (b ≡ true → ⊥) → b ≡ false
not_so true h = absurd (h refl)
not_so false h = refl

no_zero : (n k : ℕ) → ◌≡◌ {A = ℕ} (get_or (replicate n 0) k 0) 0
no_zero zero k = refl
no_zero (suc n) zero = refl
no_zero (suc n) (suc k) = no_zero n k

after_bytes : (bs zeros : List ℕ) → ((k : ℕ) → ◌≡◌ {A = ℕ} (get_or zeros k 0) 0) → (k : ℕ) → get_or (bs ++ zeros) k 0 ≡ get_or bs k 0
after_bytes [] zeros h k = h k
after_bytes (b ∷ bs) zeros h zero = refl
after_bytes (b ∷ bs) zeros h (suc k) = after_bytes bs zeros h k

-- zeros after the bytes are read as what is past their end
pub padded : (bs : List ℕ) (n k : ℕ) → get_or (bs ++ drop (length bs) (replicate n 0)) k 0 ≡ get_or bs k 0
padded bs n k = after_bytes bs (drop (length bs) (replicate n 0)) (λ i. get_or-drop (length bs) (replicate n 0) i 0 ∙ no_zero n (length bs + i)) k

-- what follows a place, read from the beginning
pub read_after : (bs : List ℕ) (at k : ℕ) → get_or (take (length bs - at) (drop at bs)) k 0 ≡ get_or bs (at + k) 0
read_after bs at k = ap (λ rest. get_or rest k 0) (take_all (length bs - at) (drop at bs) (omega (arith, length-drop at bs))) ∙ get_or-drop at bs k 0

module _ (text : List ℕ) where
  -- a mask of the 64 bytes from here on
  pub begun : (base marks : ℕ) (bytes : List ℕ) → base ≤ length text → ((k : ℕ) → (bit_at marks k ≡ 1) ↔ ((k < 64) × (is_mark (get_or bytes k 0) ≡ true))) → ((k : ℕ) → k < 64 → get_or bytes k 0 ≡ get_or text (base + k) 0) → AreMarks text base base marks
  begun base marks bytes within bits same = record {
    within = within;
    near = omega arith;
    passed = λ k l h. absurd (omega (arith, l, h));
    bits = λ k. (
      λ set.
          let r = (bits k).0 set in
          (r.0, omega arith, subst (λ b. is_mark b ≡ true) (same k r.0) r.1),
      λ h. (bits k).1 (h.0, subst (λ b. is_mark b ≡ true) (sym (same k h.0)) h.2),
    );
  }

  -- nothing is known yet of what follows 64 bytes
  pub none_yet : (base : ℕ) → base ≤ length text → AreMarks text (base + 64) base 0
  none_yet base within = record {
    within = within;
    near = omega arith;
    passed = λ k l h. absurd (omega (arith, l, h));
    bits = λ k. (λ set. absurd (omega (arith, bit_at-zero k, set)), λ h. absurd (omega (arith, h.0, h.1)));
  }

  -- where no bit is left, no mark is left before the end of the 64 bytes
  quiet : (start base : ℕ) → AreMarks text start base 0 → (k : ℕ) → start ≤ k → k < base + 64 → is_mark (get_or text k 0) ≡ false
  quiet start base known k low high =
      ⊎_elim (λ l. known.passed k low l) (λ ge.
      let at : base + (k - base) ≡ k = omega (arith, ge) in
      not_so (is_mark (get_or text k 0)) (λ hit.
      let set = (known.bits (k - base)).1 (omega (arith, ge, high), omega (arith, ge, low), subst (λ i. is_mark (get_or text i 0) ≡ true) (sym at) hit) in
      omega (arith, bit_at-zero (k - base), set))) (cases_lt k base)

  -- on from 64 bytes that have no mark to 64 others
  pub moved : (start base next marks : ℕ) → AreMarks text start base 0 → AreMarks text (base + 64) next marks → AreMarks text start next marks
  moved start base next marks old new = record {
    within = new.within;
    near = omega (arith, old.near, new.near);
    passed = λ k low high. ⊎_elim (λ l. quiet start base old k low l) (λ ge. new.passed k ge high) (cases_lt k (base + 64));
    bits = λ k. (
      λ set.
          let r = (new.bits k).0 set in
          (r.0, omega (arith, old.near, r.1), r.2),
      λ h. (new.bits k).1 (h.0, ⊎_elim (λ l. absurd (true_is_no_false (sym h.2 ∙ quiet start base old (next + k) h.1 l))) (λ ge. ge) (cases_lt (next + k) (base + 64)), h.2),
    );
  }

  -- past the last mark
  pub none_left : (start base : ℕ) → AreMarks text start base 0 → length text ≤ base + 64 → list_any is_mark (drop start text) ≡ false
  none_left start base known ended =
      no_mark (drop start text) (λ k l hit.
      let read : get_or (drop start text) k 0 ≡ get_or text (start + k) 0 = get_or-drop start text k 0 in
      true_is_no_false (sym hit ∙ ap is_mark read ∙ quiet start base known (start + k) (omega arith) (omega (arith, l, ended, length-drop start text))))

  module _ (start base marks low : ℕ) (known : AreMarks text start base marks) (set : bit_at marks low ≡ 1) (below : (i : ℕ) → i < low → bit_at marks i ≡ 0) where
    pub from_start : start ≤ base + low
    from_start = ((known.bits low).0 set).1

    hit_there : is_mark (get_or text (base + low) 0) ≡ true
    hit_there = ((known.bits low).0 set).2

    pub in_text : base + low < length text
    in_text = ⊎_elim (λ l. l) (λ ge. absurd (true_is_no_false (sym hit_there ∙ ap is_mark (get_or-eq_default text 0 ge)))) (cases_lt (base + low) (length text))

    before_it : (k : ℕ) → start ≤ k → k < base + low → is_mark (get_or text k 0) ≡ true → ⊥
    before_it k from to hit =
        ⊎_elim (λ l. true_is_no_false (sym hit ∙ known.passed k from l)) (λ ge.
        let at : base + (k - base) ≡ k = omega (arith, ge) in
        let one = (known.bits (k - base)).1 (omega (arith, ge, to, ((known.bits low).0 set).0), omega (arith, ge, from), subst (λ i. is_mark (get_or text i 0) ≡ true) (sym at) hit) in
        omega (arith, one, below (k - base) (omega (arith, ge, to)))) (cases_lt k base)

    -- what stands before the lowest bit's mark, that mark, and what is left
    pub cut_there : (list_any is_mark (take (base + low - start) (drop start text)) ≡ false) × ((mark : ℕ) × (is_mark mark ≡ true) × (drop start text ≡ take (base + low - start) (drop start text) ++ mark ∷ drop (base + low + 1) text))
    cut_there =
        let end = base + low - start in
        let here : start + end ≡ base + low = omega (arith, from_start) in
        let parts = marked_at (drop start text) end (omega (arith, in_text, from_start, length-drop start text)) (λ k l hit. before_it (start + k) (omega arith) (omega (arith, l, here)) (ap is_mark (sym (get_or-drop start text k 0)) ∙ hit)) (ap is_mark (get_or-drop start text end 0 ∙ ap (λ i. get_or text i 0) here) ∙ hit_there) in
        let after : drop (end + 1) (drop start text) ≡ drop (base + low + 1) text = drop-drop (end + 1) start text ∙ ap (λ i. drop i text) (omega (arith, here)) in
        (parts.0, (parts.1.0, parts.1.1, subst (λ rest. drop start text ≡ take end (drop start text) ++ parts.1.0 ∷ rest) after parts.1.2))

    -- the marks but that one
    pub one_less : (left : ℕ) → ((k : ℕ) → (bit_at left k ≡ 1) ↔ ((low < k) × (bit_at marks k ≡ 1))) → AreMarks text (base + low + 1) base left
    one_less left others = record {
      within = known.within;
      near = omega (arith, ((known.bits low).0 set).0);
      passed = λ k from to. absurd (omega (arith, from, to));
      bits = λ k. (
        λ one.
            let r = (others k).0 one in
            let s = (known.bits k).0 r.1 in
            (s.0, omega (arith, r.0), s.2),
        λ h. (others k).1 (omega (arith, h.1), (known.bits k).1 (h.0, omega (arith, from_start, h.1), h.2)),
      );
    }

    -- and where they begin
    pub cut_after : IsCutAt text start → IsCutAt text (base + low + 1)
    cut_after old = record {
      utf8 = old.utf8;
      within = omega (arith, in_text);
      whole = λ some l high. lead_after_ascii text (base + low) old.utf8 (mark_is_ascii (get_or text (base + low) 0) hit_there) l high;
    }

    -- a mark is a character
    pub whole_there : 128 ≤ get_or text (base + low) 0 → 192 ≤ get_or text (base + low) 0
    whole_there high = absurd (omega (arith, high, mark_is_ascii (get_or text (base + low) 0) hit_there))
