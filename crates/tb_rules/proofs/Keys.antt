-- A comment that gives a value to a key begins with the key, but for the hash and spaces.
use Rattle.std.proofs.Common.{◌≡◌, ◌≢◌, ℕ, suc, ◌+◌, List, [], ◌∷◌, ◌++◌, take, drop, reverse, false, None, refl, sym, ◌∙◌, ap, eqb, inl, inr, append_assoc, arith}
use Rattle.std.specs.List.{list_any, before_first, position_or_len}
use Rattle.std.specs.Str.{bytes_eq}
use Rattle.std.proofs.lemmas.Bool.{cases_Bool}
use Rattle.std.proofs.lemmas.List.{reverse-append, reverse-reverse, take-append-drop}
use Rattle.std.proofs.lemmas.Slice.Eq.{bytes_eq-Decides}
use Rattle.tb_rules.specs.Comments.{drop_spaces, trimmed, value_under}
use Rattle.tb_fields.specs.Feats.{is_equals}

-- without the spaces in front the end is left
ends : (bs : List ℕ) → (front : List ℕ) × (bs ≡ front ++ drop_spaces bs)
ends [] = ([], refl)
ends (b ∷ bs) =
    elim (cases_Bool (eqb b 32)) [
      | inl space ↦ (let more = ends bs in (b ∷ more.0, rw space (ap (λ (xs : List ℕ). b ∷ xs) more.1)))
      | inr other ↦ ([], rw other refl)
    ]

-- and without those at the end the front
begins : (bs : List ℕ) → (back : List ℕ) × (bs ≡ reverse (drop_spaces (reverse bs)) ++ back)
begins bs =
    let cut = ends (reverse bs) in
    (reverse cut.0, sym (reverse-reverse bs) ∙ (ap reverse cut.1 ∙ reverse-append cut.0 (drop_spaces (reverse bs))))

-- no `=` comes first
cut_later : (b : ℕ) (bs : List ℕ) → eqb b 61 ≡ false → before_first is_equals (b ∷ bs) ≡ b ∷ before_first is_equals bs
cut_later b bs other =
    let n = position_or_len is_equals bs in
    let one : 1 + n ≡ suc n = omega arith in
    rw other (ap (λ k. take k (b ∷ bs)) one)

-- what stands before the first `=` comes first
comes_first : (bs : List ℕ) → (back : List ℕ) × (drop_spaces bs ≡ drop_spaces (before_first is_equals bs) ++ back)
comes_first [] = ([], refl)
comes_first (b ∷ bs) =
    elim (cases_Bool (eqb b 61)) [
      | inl equals ↦ (drop_spaces (b ∷ bs), rw equals refl)
      | inr other ↦ elim (cases_Bool (eqb b 32)) [
        | inl space ↦ (let more = comes_first bs in (more.0, rw (cut_later b bs other, space) more.1))
        | inr black ↦ (drop (position_or_len is_equals bs) bs, rw (cut_later b bs other, black) (ap (λ (xs : List ℕ). b ∷ xs) (sym (take-append-drop (position_or_len is_equals bs) bs))))
      ]
    ]

-- another key stands there
other_key : (key rest : List ℕ) → ((back : List ℕ) → drop_spaces rest ≢ key ++ back) → bytes_eq (trimmed (before_first is_equals rest)) key ≡ false
other_key key rest h =
    let name = before_first is_equals rest in
    elim (cases_Bool (bytes_eq (trimmed name) key)) [
      | inl same ↦
          (let is : trimmed name ≡ key = (bytes_eq-Decides (trimmed name) key).0 same in
          let all = comes_first rest in
          let front = begins (drop_spaces name) in
          absurd (h (front.0 ++ all.0) (all.1 ∙ (ap (λ (xs : List ℕ). xs ++ all.0) front.1 ∙ (append_assoc (trimmed name) front.0 all.0 ∙ ap (λ (xs : List ℕ). xs ++ (front.0 ++ all.0)) is)))))
      | inr other ↦ other
    ]

pub value_under-other_key : (key bs rest : List ℕ) → bs ≡ 35 ∷ rest → ((back : List ℕ) → drop_spaces rest ≢ key ++ back) → value_under key bs ≡ None
value_under-other_key key bs rest e h =
    let other : bytes_eq (trimmed (before_first is_equals rest)) key ≡ false = other_key key rest h in
    ap (value_under key) e ∙
    elim (cases_Bool (list_any is_equals rest)) [
      | inl some ↦ rw (some, other) refl
      | inr none ↦ rw none refl
    ]
