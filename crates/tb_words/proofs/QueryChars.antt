-- What `char_indices` gives: the characters of a text with their places.
use Rattle.std.proofs.Common.{◌≡◌, ◌∙◌, ◌+◌, ◌++◌, ◌∷◌, [], ℕ, Bool, true, false, List, ap, append-nil, chars, cond, drop, encode_utf8, filter, fold}
use Rattle.std.proofs.Common.{if◌then◌else◌, IsCharBoundary, IsUtf8, length, refl, subst, sym}
use Rattle.std.proofs.lemmas.List.{nil_from_length}
use Rattle.std.proofs.lemmas.List.Elements.{filter-append}
use Rattle.std.proofs.lemmas.List.Sums.{fold_push}
use Rattle.std.proofs.lemmas.Str.{IsCharBoundary-past_char, IsCharBoundary-start, IsUtf8-past_char, chars-nil, chars_past_char}
use Rattle.std.proofs.lemmas.Str.{drop_past_char, length-encode}
use Rattle.std.specs.Char.{len_utf8}
use Rattle.std.specs.Iterator.{Yields}
use Rattle.std.specs.Str.Iter.{char_indices_offset, char_indices_rest, char_indices_steps}
use Rattle.tb_words.specs.QueryLiterals.{HasChar, placed}

-- the characters before an offset have been seen, and this is left
pub record Reached (text : List ℕ) (seen : List (ℕ × ℕ)) (rest : List ℕ) (offset : ℕ) : Type 0 where
  pub utf8 : IsUtf8 rest
  pub cut : IsCharBoundary text offset
  pub left : rest ≡ drop offset text
  pub parts : placed 0 (chars text) ≡ seen ++ placed offset (chars rest)

-- one character further
pub one_further : (text rest more : List ℕ) (offset next c : ℕ) → IsUtf8 rest → IsCharBoundary text offset → rest ≡ drop offset text
    → rest ≡ encode_utf8 c ++ more → next ≡ offset + length (encode_utf8 c)
    → IsUtf8 more × IsCharBoundary text next × (more ≡ drop next text)
    × (placed offset (chars rest) ≡ (offset, c) ∷ placed next (chars more))
one_further text rest more offset next c utf8 cut left is next_is =
    let here : drop offset text ≡ encode_utf8 c ++ more = sym left ∙ is in
    let after : next ≡ offset + len_utf8 c = next_is ∙ ap (λ (k : ℕ). offset + k) (length-encode c) in (
      IsUtf8-past_char rest more c utf8 is,
      subst (λ (k : ℕ). IsCharBoundary text k) (sym after)
          (IsCharBoundary-past_char text more offset c cut.0 (subst IsUtf8 left utf8) here),
      sym (drop_past_char text more offset c here) ∙ ap (λ (k : ℕ). drop k text) (sym after),
      ap (λ (cs : List ℕ). placed offset cs) (chars_past_char rest more c utf8 is)
          ∙ ap (λ (k : ℕ). (offset, c) ∷ placed k (chars more)) (sym next_is),
    )

walked : (text : List ℕ) (xs : List (ℕ × ℕ)) (s t : _) → IsUtf8 (char_indices_rest s) → IsCharBoundary text (char_indices_offset s)
    → char_indices_rest s ≡ drop (char_indices_offset s) text → Yields char_indices_steps s xs t
    → IsUtf8 (char_indices_rest t) × IsCharBoundary text (char_indices_offset t)
    × (char_indices_rest t ≡ drop (char_indices_offset t) text)
    × (placed (char_indices_offset s) (chars (char_indices_rest s))
    ≡ xs ++ placed (char_indices_offset t) (chars (char_indices_rest t)))
walked text [] s t utf8 cut left same = rw (← same) (utf8, cut, left, refl)
walked text (x ∷ xs) s t utf8 cut left (j, step, more) =
    let next = one_further text (char_indices_rest s) (char_indices_rest j) (char_indices_offset s) (char_indices_offset j) x.1
    utf8 cut left step.1 step.2 in
    let rest = walked text xs j t next.0 next.1 next.2 more in (
      rest.0,
      rest.1,
      rest.2,
      next.3 ∙ (ap (λ (ys : List (ℕ × ℕ)). (char_indices_offset s, x.1) ∷ ys) rest.3
          ∙ ap (λ (k : ℕ). (k, x.1) ∷ (xs ++ placed (char_indices_offset t) (chars (char_indices_rest t)))) (sym step.0)),
    )

pub reached : (text : List ℕ) (xs : List (ℕ × ℕ)) (s t : _) → IsUtf8 text → char_indices_rest s ≡ text → char_indices_offset s ≡ 0
    → Yields char_indices_steps s xs t → Reached text xs (char_indices_rest t) (char_indices_offset t)
reached text xs s t utf8 rest_is offset_is yields =
    let w = walked text xs s t (subst IsUtf8 (sym rest_is) utf8)
    (subst (λ (k : ℕ). IsCharBoundary text k) (sym offset_is) (IsCharBoundary-start text utf8))
    (rest_is ∙ ap (λ (k : ℕ). drop k text) (sym offset_is)) yields in
    record {
      utf8 = w.0;
      cut = w.1;
      left = w.2;
      parts = ap (λ (k : ℕ). placed k (chars text)) (sym offset_is)
          ∙ (ap (λ (bs : List ℕ). placed (char_indices_offset s) (chars bs)) (sym rest_is) ∙ w.3);
    }

-- the next character is at its place, and more follow
pub next_place : (text : List ℕ) (seen : List (ℕ × ℕ)) (rest more : List ℕ) (offset next at c : ℕ) → Reached text seen rest offset
    → at ≡ offset → rest ≡ encode_utf8 c ++ more → next ≡ offset + length (encode_utf8 c)
    → HasChar text at c × (placed 0 (chars text) ≡ seen ++ (at, c) ∷ placed next (chars more))
next_place text seen rest more offset next at c r at_is is next_is =
    let further = one_further text rest more offset next c r.utf8 r.cut r.left is next_is in (
      (
        subst (λ (k : ℕ). IsCharBoundary text k) (sym at_is) r.cut,
        (more, ap (λ (k : ℕ). drop k text) at_is ∙ (sym r.left ∙ is)),
      ),
      r.parts ∙ ap (λ (ys : List (ℕ × ℕ)). seen ++ ys)
          (further.3 ∙ ap (λ (k : ℕ). (k, c) ∷ placed next (chars more)) (sym at_is)),
    )

-- all characters have been seen
pub all_places : (text : List ℕ) (seen : List (ℕ × ℕ)) (rest : List ℕ) (offset : ℕ) → Reached text seen rest offset
    → length rest ≡ 0 → placed 0 (chars text) ≡ seen
all_places text seen rest offset r none =
    r.parts ∙ (ap (λ (bs : List ℕ). seen ++ placed offset (chars bs)) (nil_from_length rest none)
    ∙ (ap (λ (cs : List ℕ). seen ++ placed offset cs) chars-nil ∙ append-nil seen))

-- ---- a count of those that pass a test

by_test : (f : ℕ → ℕ × ℕ → ℕ) (x : ℕ × ℕ) (b : Bool) (ys : List (ℕ × ℕ))
    → (if b then f (fold f 0 ys) x else fold f 0 ys) ≡ fold f 0 (ys ++ cond b (x ∷ []) [])
by_test f x true ys = sym (fold_push f 0 ys x)
by_test f x false ys = ap (λ (zs : List (ℕ × ℕ)). fold f 0 zs) (sym (append-nil ys))

pub counted_more : (f : ℕ → ℕ × ℕ → ℕ) (t : ℕ × ℕ → Bool) (xs : List (ℕ × ℕ)) (x : ℕ × ℕ) (count next : ℕ)
    → count ≡ fold f 0 (filter t xs) → next ≡ (if t x then f count x else count)
    → next ≡ fold f 0 (filter t (xs ++ x ∷ []))
counted_more f t xs x count next count_is next_is =
    next_is ∙ (ap (λ (n : ℕ). if t x then f n x else n) count_is
    ∙ (by_test f x (t x) (filter t xs) ∙ ap (λ (zs : List (ℕ × ℕ)). fold f 0 zs) (sym (filter-append t xs (x ∷ [])))))
