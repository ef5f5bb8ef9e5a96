-- A text written piece by piece.
use Rattle.std.proofs.Common.{◌≡◌, ◌≤◌, ℕ, ◌+◌, ◌-◌, List, length, take, drop, Option, sym, ◌∙◌, ap, subst, arith, take_all}
use Rattle.std.specs.Io.KnownBytes.{Appends, Keeps}
use Rattle.std.proofs.KnownBytes.{Appends-trans, Appends-kept}
use Rattle.std.proofs.lemmas.List.{length-drop}
use Rattle.std.proofs.Math.Seq.{take-add}

-- what follows the first w bytes, as the code cuts it
abbrev left : List ℕ → ℕ → List ℕ
left text w = take (length text - w) (drop w text)

left_is : (text : List ℕ) (w : ℕ) → left text w ≡ drop w text
left_is text w = take_all (length text - w) (drop w text) (omega (arith, length-drop w text))

pub put_more : (a b c : Option (List ℕ)) (text : List ℕ) (w n m : ℕ) → m ≡ w + n → w ≤ length text → n ≤ length (take (length text - w) (drop w text))
    → Appends a b (take w text) → Appends b c (take n (take (length text - w) (drop w text))) → (m ≤ length text) × Appends a c (take m text)
put_more a b c text w n m e h k first second =
    let size = ap length (left_is text w) ∙ length-drop w text in
    let more : Appends b c (take n (drop w text)) = subst (Appends b c) (ap (take n) (left_is text w)) second in
    let all = subst (Appends a c) (sym (take-add w n text) ∙ ap (λ i. take i text) (sym e)) (Appends-trans a b c _ _ first more) in
    (omega (arith, size, k), all)

pub put_none : (a b c : Option (List ℕ)) (text : List ℕ) (w m : ℕ) → m ≡ w → w ≤ length text → Appends a b (take w text) → Keeps b c
    → (m ≤ length text) × Appends a c (take m text)
put_none a b c text w m e h first kept =
    let all = subst (Appends a c) (ap (λ i. take i text) (sym e)) (Appends-kept a b c _ first kept) in
    (omega (arith, e, h), all)
