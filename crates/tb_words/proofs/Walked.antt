-- One field more in a walk over the fields of a line, and a comment without its hash.
use Rattle.std.proofs.Common.{◌≡◌, ℕ, ◌+◌, ◌<◌, List, [], ◌∷◌, Option, Some, None, drop, length, refl, sym, ◌∙◌, ap, arith, below_more, get_or}
use Rattle.std.proofs.Common.{Bor, eqb, if◌then◌else◌, slice_index, subst, unwrap_or, MatchOption, ◌==◌}
use Rattle.std.proofs.Common.{Bool, IsTrue, chars, false, true, ◌↔◌}
use Rattle.unicode_normalization.specs.Forms.{IsInForm, Nfc}
use Rattle.std.proofs.lemmas.Bool.{cond-false, ne_eqb, true≢false}
use Rattle.std.proofs.lemmas.List.{get_or_default}
use Rattle.std.proofs.lemmas.List.FromFn.{get_or-enumerate_from, length-enumerate_from}
use Rattle.std.specs.List.{enumerate_from}
use Rattle.tb_conllu.specs.Lines.{field, fields}
use Rattle.tb_words.specs.LineFaults.{IsComposed}

-- the item of a turn is the next field, with its number
pub next_field : (line : List ℕ) (column n : ℕ) (value : List ℕ) → n < length (enumerate_from 0 (fields line))
    → (column, value) ≡ get_or (enumerate_from 0 (fields line)) n (column, value)
    → (column ≡ n) × (value ≡ field column line)
next_field line column n value within is =
    let small : n < length (fields line) = subst (λ (k : ℕ). n < k) (length-enumerate_from 0 (fields line)) within in
    let e = is ∙ get_or-enumerate_from 0 (fields line) n (column, value) small in
    let number : column ≡ 0 + n = ap (λ (p : ℕ × List ℕ). p.0) e in
    let here : column ≡ n = omega (arith, number) in
    (here, ap (λ (p : ℕ × List ℕ). p.1) e ∙ (get_or_default (fields line) n value [] small ∙ ap (λ (k : ℕ). field k line) (sym here)))

-- each field before the next one is composed
pub one_more_composed : (line : List ℕ) (column n : ℕ) → column ≡ n → ((k : ℕ) → k < n → IsComposed line k)
    → IsComposed line column → (k : ℕ) → k < n + 1 → IsComposed line k
one_more_composed line column n is before here k less =
    below_more (λ (k : ℕ). IsComposed line k) n before (subst (λ (k : ℕ). IsComposed line k) is here) k less

-- without its hash, if it has one
pub hash_taken : (line : List ℕ) (r : Option (Bor (List ℕ))) (whole : Bor (List ℕ)) → whole.now ≡ line
    → MatchOption r ((rest : List ℕ) → line ≡ 35 ∷ rest → ⊥) (λ x. line ≡ 35 ∷ x.now)
    → (unwrap_or r whole).now ≡ (if slice_index line 0 == 35 then drop 1 line else line)
hash_taken [] None whole is none = is
hash_taken (b ∷ bs) None whole is none =
    is ∙ sym (cond-false (eqb b 35) bs (b ∷ bs) (ne_eqb b 35 (λ e. none bs (ap (λ x. x ∷ bs) e))))
hash_taken line (Some x) whole is some = rw some refl

-- what the test of a field tells of it
pub is_composed_at : (line : List ℕ) (column : ℕ) (value : List ℕ) (b : Bool) → value ≡ field column line
    → (IsTrue b ↔ IsInForm Nfc (chars value)) → b ≡ true → IsComposed line column
is_composed_at line column value b is tells sure =
    subst (λ (v : List ℕ). IsInForm Nfc (chars v)) is (tells.0 sure)

pub is_uncomposed_at : (line : List ℕ) (column : ℕ) (value : List ℕ) (b : Bool) → value ≡ field column line
    → (IsTrue b ↔ IsInForm Nfc (chars value)) → b ≡ false → IsComposed line column → ⊥
is_uncomposed_at line column value b is tells other composed =
    true≢false (sym (tells.1 (subst (λ (v : List ℕ). IsInForm Nfc (chars v)) (sym is) composed)) ∙ other)
