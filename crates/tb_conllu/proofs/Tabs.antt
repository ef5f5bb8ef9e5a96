-- A tab stands alone in every normal form.
use Rattle.std.proofs.Common.{◌≡◌, ℕ, ◌≤◌, List, [], ◌∷◌, ◌++◌, length, false, refl, sym, ◌∙◌, ap, arith, append_assoc, append-nil, length-append, None, inl, inr, lit<}
use Rattle.std.specs.Prelude.{◌==◌, ◌↔◌}
use Rattle.std.specs.List.{list_any}
use Rattle.std.proofs.lemmas.Bool.{or_parts, both_ways, cases_lt}
use Rattle.unicode_normalization.proofs.ComposeLemmas.{cases_Option}
use Rattle.ucd_normal.specs.CanonicalCombiningClass.{canonical_combining_class as ccc}
use Rattle.ucd_table.specs.Rows.{value_in}
use Rattle.ucd_normal.specs.Compositions.{compositions, compositions_rows}
use Rattle.ucd_normal.specs.Composition.{paired_with}
use Rattle.ucd_normal.proofs.CompositionLemmas.{composite-paired_with, IsCompositeOf-composite}
use Rattle.unicode_normalization.specs.Forms.{IsInForm, Nfc, Nfd, normalize, decomposed, nfd}
use Rattle.unicode_normalization.specs.Compose.{compose, compose_after, primary_composite}
use Rattle.unicode_normalization.proofs.ComposeLemmas.{joined-none, compose-starter, compose-mark, compose-nil, compose_after-starter, compose_after-kept, compose_after-nil}
use Rattle.unicode_normalization.proofs.DecomposeLemmas.{primary_composite-some}
use Rattle.unicode_normalization.proofs.FormsLemmas.{normalize-ascii_boundary, normalize-Nfc, nfc_idem, decomposed-Nfc, decomposed-passing, is_final-Nfd, quick_check-ascii, class-latin}
use Rattle.tb_conllu.specs.Shape.{is_tab}

no_compositions : compositions 9 ≡ []
unfolding compositions compositions_rows value_in
no_compositions = refl

nothing : (c : ℕ) → paired_with c [] ≡ None
unfolding paired_with
nothing c = refl

-- a tab composes with nothing after it
tab_alone : (c : ℕ) → primary_composite 9 c ≡ None
tab_alone c = elim (cases_Option (primary_composite 9 c)) [
  | inl none ↦ none
  | inr some ↦ elim (primary_composite-some 9 c some.0 some.1) [
    | inl hangul ↦ elim hangul [ inl lv ↦ absurd (omega arith) | inr lvt ↦ absurd (omega arith) ]
    | inr table ↦
        let found = sym (composite-paired_with 9 c) ∙ IsCompositeOf-composite 9 c some.0 table in
        let none : paired_with c (compositions 9) ≡ None = ap (paired_with c) no_compositions ∙ nothing c in
        absurd (let e = sym none ∙ found in cc)
  ]
]

after_tab : (bs cs : List ℕ) → compose_after 9 bs cs ≡ 9 ∷ (bs ++ compose cs)
after_tab bs [] = compose_after-nil 9 bs ∙ ap (λ l. 9 ∷ l) (sym (append-nil bs) ∙ ap (λ l. bs ++ l) (sym compose-nil))
after_tab bs (c ∷ cs) =
    let apart = joined-none 9 bs c (tab_alone c) in
    elim (cases_lt 0 (ccc c)) [
      | inl mark ↦
          compose_after-kept 9 bs c cs apart mark ∙ after_tab (bs ++ c ∷ []) cs
          ∙ ap (λ l. 9 ∷ l) (append_assoc bs (c ∷ []) (compose cs) ∙ ap (λ l. bs ++ l) (sym (compose-mark c cs mark)))
      | inr starter ↦
          compose_after-starter 9 bs c cs apart starter ∙ ap (λ l. 9 ∷ (bs ++ l)) (sym (compose-starter c cs starter))
    ]

tab_class : ccc 9 ≤ 0
tab_class = omega (arith, class-latin 9 (lit< tt))

nfd_tab : (ys : List ℕ) → nfd (9 ∷ ys) ≡ 9 ∷ nfd ys
unfolding normalize
nfd_tab ys = decomposed-passing Nfd 9 ys (is_final-Nfd 9 (quick_check-ascii Nfd 9 (lit< tt))) tab_class

tab_decomposed : (ys : List ℕ) → decomposed Nfc (9 ∷ ys) ≡ 9 ∷ decomposed Nfc ys
tab_decomposed ys =
    decomposed-Nfc (9 ∷ ys) ∙ nfd_tab ys ∙ ap (λ l. 9 ∷ l) (sym (decomposed-Nfc ys))

normal_tab : (ys : List ℕ) → normalize Nfc (9 ∷ ys) ≡ 9 ∷ normalize Nfc ys
normal_tab ys =
    normalize-Nfc (9 ∷ ys) ∙ ap compose (tab_decomposed ys) ∙ compose-starter 9 (decomposed Nfc ys) tab_class ∙ after_tab [] (decomposed Nfc ys)
    ∙ ap (λ l. 9 ∷ l) (sym (normalize-Nfc ys))

pub parted : (xs ys : List ℕ) → normalize Nfc (xs ++ 9 ∷ ys) ≡ normalize Nfc xs ++ 9 ∷ normalize Nfc ys
parted xs ys = normalize-ascii_boundary Nfc xs 9 ys (lit< tt) ∙ ap (λ l. normalize Nfc xs ++ l) (normal_tab ys)

-- two lists that are cut at a tab, where the second has none before it
data Side (a x r s : List ℕ) : Type 0 where
  even : a ≡ x → r ≡ s → Side a x r s
  long : (m : List ℕ) → a ≡ x ++ 9 ∷ m → Side a x r s

side : (a x r s : List ℕ) → list_any is_tab x ≡ false → a ++ 9 ∷ r ≡ x ++ 9 ∷ s → Side a x r s
side [] [] r s h e = even refl cc
side [] (y ∷ x) r s h e =
    let parts = or_parts (y == 9) _ h in
    let same : 9 ≡ y = cc in
    absurd (both_ways (y == 9) parts.0 (ap (λ z. z == 9) (sym same)))
side (b ∷ a) [] r s h e = long a (let e1 : b ≡ 9 = cc in ap (λ z. z ∷ a) e1)
side (b ∷ a) (y ∷ x) r s h e =
    let parts = or_parts (y == 9) _ h in
    let heads : b ≡ y = cc in
    let tails : a ++ 9 ∷ r ≡ x ++ 9 ∷ s = cc in
    elim (side a x r s parts.1 tails) [
      | even p q ↦ even (let p0 = p in cc) q
      | long m p ↦ long m (let p0 = p in cc)
    ]

-- a text is NFC exactly where its parts on both sides of a tab are
pub tab_parts : (xs ys : List ℕ) → list_any is_tab xs ≡ false → IsInForm Nfc (xs ++ 9 ∷ ys) ↔ (IsInForm Nfc xs × IsInForm Nfc ys)
tab_parts xs ys h = (
  λ whole. elim (side (normalize Nfc xs) xs (normalize Nfc ys) ys h (sym (parted xs ys) ∙ whole)) [
    | even p q ↦ (p, q)
    | long m p ↦
        -- the form of xs would be longer than its own form
        let again : normalize Nfc xs ≡ normalize Nfc xs ++ 9 ∷ normalize Nfc m = sym (nfc_idem xs) ∙ ap (normalize Nfc) p ∙ parted xs m in
        absurd (omega (arith, ap length again, length-append (normalize Nfc xs) (9 ∷ normalize Nfc m)))
  ],
  λ each. parted xs ys ∙ ap (λ l. l ++ 9 ∷ normalize Nfc ys) each.0 ∙ ap (λ l. xs ++ 9 ∷ l) each.1,
)
