-- What a head spells, and the ID that is written so.
use Rattle.std.proofs.Common.{◌≡◌, ℕ, zero, suc, ◌+◌, ◌<◌, ◌^◌, List, [], ◌∷◌, ◌++◌, length, take, get_or, Bool, true, false, not, ◌||◌, ◌&&◌, cond, eqb, Option, Some, None, refl, sym, ◌∙◌, ap, arith, ◌⊎◌, inl, inr, eq-eqb, length-append}
use Rattle.std.specs.List.{list_any, position_or_len, before_first, after_first}
use Rattle.std.specs.Str.{bytes_eq}
use Rattle.std.specs.Fmt.{decimal}
use Rattle.std.specs.Str.Parse.{digits_value}
use Rattle.std.proofs.Math.Seq.{get_or-append_seam, take-append_seam}
use Rattle.std.proofs.lemmas.Bool.{true≢false, cases_Bool, or_parts, and_parts, and_from, eqb-true, ne_eqb}
use Rattle.std.proofs.lemmas.Bool.Decides.{nat_tests}
use Rattle.std.proofs.lemmas.Fmt.{decimal_digit}
use Rattle.std.proofs.lemmas.List.{append_cancel_left}
use Rattle.std.proofs.lemmas.List.Sums.{position_or_len_is, split_at_first, passes_at_first}
use Rattle.std.proofs.lemmas.Slice.Eq.{bytes_eq-Decides}
use Rattle.tb_conllu.specs.declared.id.LineId.{LineId}
use Rattle.tb_conllu.specs.declared.id.LineId.TheVariants.{Word, Span, Empty}
use Rattle.tb_chars.specs.Digits.{is_digit}
use Rattle.tb_rules.specs.Deps.{is_root_text, is_written}
use Rattle.tb_rules.specs.Places.{number_of, is_dot, word_place, node_place, place_of}
use Rattle.tb_rules.proofs.Numerals.{is_numeral, number_of-numeral, numeral-decimal, numeral_digits, decimal-numeral, digits_lack}

-- ---- numbers

number_is : (t : List ℕ) (n : ℕ) (b : Bool) → is_numeral t ≡ b → cond b (Some (digits_value 10 t)) None ≡ Some n → decimal n ≡ t
number_is t n true h e = let same : digits_value 10 t ≡ n = cc in ap decimal (sym same) ∙ decimal-numeral t h
number_is t n false h e = absurd (let f : None ≡ Some n = e in cc)

spelt_number : (t : List ℕ) (n : ℕ) → number_of t ≡ Some n → t ≡ decimal n
spelt_number t n e = sym (number_is t n (is_numeral t) refl (sym (number_of-numeral t) ∙ e))

number_read : (n : ℕ) → n < 10 ^ 19 → number_of (decimal n) ≡ Some n
number_read n h = let d = numeral-decimal n h in number_of-numeral (decimal n) ∙ ap (λ b. cond b (Some (digits_value 10 (decimal n))) None) d.0 ∙ ap (λ x. Some x) d.1

not_dot : (b : ℕ) → is_digit b ≡ true → is_dot b ≡ false
not_dot b h = grind (arith, nat_tests)

no_dot : (n : ℕ) → n < 10 ^ 19 → list_any is_dot (decimal n) ≡ false
no_dot n h = digits_lack is_dot not_dot (decimal n) (numeral_digits (decimal n) (numeral-decimal n h).0)

-- ---- a text cut at its first dot

dot_place : (b rest : Bool) (place end : ℕ) → (rest ≡ true → place < end) → (b || rest) ≡ true → cond (not b) (1 + place) 0 < suc end
dot_place true rest place end h e = omega arith
dot_place false rest place end h e = omega (arith, h e)

dot_within : (t : List ℕ) → list_any is_dot t ≡ true → position_or_len is_dot t < length t
dot_within [] h = absurd (true≢false (sym h))
dot_within (c ∷ cs) h = dot_place (is_dot c) (list_any is_dot cs) (position_or_len is_dot cs) (length cs) (dot_within cs) h

cut_at_dot : (t : List ℕ) → list_any is_dot t ≡ true → t ≡ before_first is_dot t ++ 46 ∷ after_first is_dot t
cut_at_dot t h =
    let within = dot_within t h in
    let dot : get_or t (position_or_len is_dot t) 0 ≡ 46 = eqb-true (get_or t (position_or_len is_dot t) 0) 46 (passes_at_first is_dot t 0 within) in
    split_at_first is_dot t 0 within ∙ ap (λ b. before_first is_dot t ++ b ∷ after_first is_dot t) dot

lacks_at : (a more : List ℕ) (k d : ℕ) → list_any is_dot a ≡ false → k < length a → is_dot (get_or (a ++ more) k d) ≡ false
lacks_at [] more k d h l = absurd (omega arith)
lacks_at (c ∷ a) more zero d h l = (or_parts (is_dot c) (list_any is_dot a) h).0
lacks_at (c ∷ a) more (suc k) d h l = lacks_at a more k d (or_parts (is_dot c) (list_any is_dot a) h).1 (omega arith)

has_dot : (a b : List ℕ) → list_any is_dot (a ++ 46 ∷ b) ≡ true
has_dot [] b = refl
has_dot (c ∷ a) b = ap (λ t. is_dot c || t) (has_dot a b) ∙ or_true (is_dot c)
  where
    or_true : (t : Bool) → (t || true) ≡ true
    or_true true = refl
    or_true false = refl

dot_at : (a b : List ℕ) → list_any is_dot a ≡ false → position_or_len is_dot (a ++ 46 ∷ b) ≡ length a
dot_at a b h =
    let l : length (a ++ 46 ∷ b) ≡ length a + length (46 ∷ b) = length-append a (46 ∷ b) in
    position_or_len_is is_dot (a ++ 46 ∷ b) (length a) 0 (omega (arith, l)) (λ k less. lacks_at a (46 ∷ b) k 0 h less) (λ less. ap is_dot (get_or-append_seam a 46 b 0))

dot_before : (a b : List ℕ) → list_any is_dot a ≡ false → before_first is_dot (a ++ 46 ∷ b) ≡ a
dot_before a b h = ap (λ n. take n (a ++ 46 ∷ b)) (dot_at a b h) ∙ take-append_seam a (46 ∷ b)

tail_is : (x y : ℕ) (xs ys : List ℕ) → x ∷ xs ≡ y ∷ ys → xs ≡ ys
tail_is x y xs ys e = cc

dot_after : (a b : List ℕ) → list_any is_dot a ≡ false → after_first is_dot (a ++ 46 ∷ b) ≡ b
dot_after a b h =
    let t = a ++ 46 ∷ b in
    let whole = cut_at_dot t (has_dot a b) ∙ ap (λ (x : List ℕ). x ++ 46 ∷ after_first is_dot t) (dot_before a b h) in
    sym (tail_is 46 46 b (after_first is_dot t) (append_cancel_left a (46 ∷ b) (46 ∷ after_first is_dot t) whole))

-- ---- what is read of a place that is written

pub word_read : (n : ℕ) → n < 10 ^ 19 → place_of (decimal n) ≡ Some (n, 0)
word_read n h =
    ap (λ b. cond b (node_place (number_of (before_first is_dot (decimal n))) (number_of (after_first is_dot (decimal n)))) (word_place (number_of (decimal n)))) (no_dot n h) ∙ ap word_place (number_read n h)

some_node : (i k : ℕ) → 0 < k → node_place (Some i) (Some k) ≡ Some (i, k)
some_node i k h = ap (λ b. cond b None (Some (i, k))) (ne_eqb k 0 (λ e. omega (arith, e, h)))

pub node_read : (i k : ℕ) → i < 10 ^ 19 → k < 10 ^ 19 → 0 < k → place_of (decimal i ++ 46 ∷ decimal k) ≡ Some (i, k)
node_read i k hi hk some =
    let t = decimal i ++ 46 ∷ decimal k in
    let front : number_of (before_first is_dot t) ≡ Some i = ap number_of (dot_before (decimal i) (decimal k) (no_dot i hi)) ∙ number_read i hi in
    let back : number_of (after_first is_dot t) ≡ Some k = ap number_of (dot_after (decimal i) (decimal k) (no_dot i hi)) ∙ number_read k hk in
    ap (λ b. cond b (node_place (number_of (before_first is_dot t)) (number_of (after_first is_dot t))) (word_place (number_of t))) (has_dot (decimal i) (decimal k)) ∙
    (ap (λ o. node_place o (number_of (after_first is_dot t))) front ∙ (ap (node_place (Some i)) back ∙ some_node i k some))

-- ---- how a place that is read is written

abbrev word_in : Option (ℕ × ℕ) → ℕ
word_in None = 0
word_in (Some p) = p.0

abbrev node_in : Option (ℕ × ℕ) → ℕ
node_in None = 0
node_in (Some p) = p.1

same_place : (p q : ℕ × ℕ) → Some p ≡ Some q → (p.0 ≡ q.0) × (p.1 ≡ q.1)
same_place p q e = (ap word_in e, ap node_in e)

-- the text of the root or a word, or of an empty node
abbrev pub Spells : List ℕ → ℕ → ℕ → Type 0
Spells t i k = ((k ≡ 0) × (t ≡ decimal i)) ⊎ ((0 < k) × (t ≡ decimal i ++ 46 ∷ decimal k))

word_spelt : (t : List ℕ) (i k : ℕ) (o : Option ℕ) → number_of t ≡ o → word_place o ≡ Some (i, k) → Spells t i k
word_spelt t i k None h e = absurd (let f : None ≡ Some (i, k) = e in cc)
word_spelt t i k (Some n) h e =
    let same = same_place (n, 0) (i, k) e in
    inl (sym same.1, spelt_number t n h ∙ ap decimal same.0)

node_spelt : (t a b : List ℕ) (i k : ℕ) (o p : Option ℕ) → t ≡ a ++ 46 ∷ b → number_of a ≡ o → number_of b ≡ p → node_place o p ≡ Some (i, k) → Spells t i k
node_spelt t a b i k None p whole h g e = absurd (let f : None ≡ Some (i, k) = e in cc)
node_spelt t a b i k (Some m) None whole h g e = absurd (let f : None ≡ Some (i, k) = e in cc)
node_spelt t a b i k (Some m) (Some n) whole h g e = by_node (eqb n 0) refl e where
  by_node : (z : Bool) → eqb n 0 ≡ z → cond {A = Option (ℕ × ℕ)} z None (Some (m, n)) ≡ Some (i, k) → Spells t i k
  by_node true zero_is f = absurd (let f' : None ≡ Some (i, k) = f in cc)
  by_node false zero_is f =
      let same = same_place (m, n) (i, k) f in
      let node : n ≡ k = same.1 in
      let some : 0 < k = grind (arith, nat_tests) in
      inr (some, whole ∙ (ap (λ (x : List ℕ). x ++ 46 ∷ b) (spelt_number a m h ∙ ap decimal same.0) ∙ ap (λ (x : List ℕ). decimal i ++ 46 ∷ x) (spelt_number b n g ∙ ap decimal node)))

spelt_by : (t : List ℕ) (i k : ℕ) (b : Bool) → list_any is_dot t ≡ b → cond b (node_place (number_of (before_first is_dot t)) (number_of (after_first is_dot t))) (word_place (number_of t)) ≡ Some (i, k) → Spells t i k
spelt_by t i k true h e = node_spelt t (before_first is_dot t) (after_first is_dot t) i k (number_of (before_first is_dot t)) (number_of (after_first is_dot t)) (cut_at_dot t h) refl refl e
spelt_by t i k false h e = word_spelt t i k (number_of t) refl e

pub spelt : (t : List ℕ) (i k : ℕ) → place_of t ≡ Some (i, k) → Spells t i k
spelt t i k e = spelt_by t i k (list_any is_dot t) refl e

-- ---- texts of IDs

-- the numbers that rows in their places have
abbrev pub IsSmall : LineId → Type 0
IsSmall (Word n) = (0 < n) × (n < 10 ^ 19)
IsSmall (Span a b) = Unit {0}
IsSmall (Empty i k) = (i < 10 ^ 19) × (0 < k) × (k < 10 ^ 19)

-- the ID of a word or an empty node by its place
abbrev pub is_at : ℕ → ℕ → LineId → Bool
is_at i k (Word n) = eqb n i && eqb k 0
is_at i k (Span a b) = false
is_at i k (Empty j l) = eqb j i && eqb l k

same_bool : (a b : Bool) → (a ≡ true → b ≡ true) → (b ≡ true → a ≡ true) → a ≡ b
same_bool true b f g = sym (f refl)
same_bool false true f g = g refl
same_bool false false f g = refl

word_at : (t : List ℕ) (i k n : ℕ) → place_of t ≡ Some (i, k) → 0 < n → n < 10 ^ 19 → bytes_eq t (decimal n) ≡ (eqb n i && eqb k 0)
word_at t i k n e some small = same_bool (bytes_eq t (decimal n)) (eqb n i && eqb k 0)
    (λ h. let same = same_place (i, k) (n, 0) (sym e ∙ (ap place_of ((bytes_eq-Decides t (decimal n)).0 h) ∙ word_read n small)) in and_from (eqb n i) (eqb k 0) (eq-eqb n i (sym same.0)) (eq-eqb k 0 same.1))
    (λ h.
    let parts = and_parts (eqb n i) (eqb k 0) h in
    let none : k ≡ 0 = eqb-true k 0 parts.1 in
    elim (spelt t i k e) [
      | inl word ↦ (bytes_eq-Decides t (decimal n)).1 (word.1 ∙ ap decimal (sym (eqb-true n i parts.0)))
      | inr node ↦ absurd (omega (arith, none, node.0))
    ])

node_at : (t : List ℕ) (i k j l : ℕ) → place_of t ≡ Some (i, k) → j < 10 ^ 19 → 0 < l → l < 10 ^ 19 → bytes_eq t (decimal j ++ 46 ∷ decimal l) ≡ (eqb j i && eqb l k)
node_at t i k j l e hj some hl = same_bool (bytes_eq t (decimal j ++ 46 ∷ decimal l)) (eqb j i && eqb l k)
    (λ h. let same = same_place (i, k) (j, l) (sym e ∙ (ap place_of ((bytes_eq-Decides t (decimal j ++ 46 ∷ decimal l)).0 h) ∙ node_read j l hj hl some)) in and_from (eqb j i) (eqb l k) (eq-eqb j i (sym same.0)) (eq-eqb l k (sym same.1)))
    (λ h.
    let parts = and_parts (eqb j i) (eqb l k) h in
    let first : j ≡ i = eqb-true j i parts.0 in
    let second : l ≡ k = eqb-true l k parts.1 in
    elim (spelt t i k e) [
      | inl word ↦ absurd (omega (arith, second, word.0, some))
      | inr node ↦ (bytes_eq-Decides t (decimal j ++ 46 ∷ decimal l)).1 (node.1 ∙ (ap (λ x. decimal x ++ 46 ∷ decimal k) (sym first) ∙ ap (λ x. decimal j ++ 46 ∷ decimal x) (sym second)))
    ])

-- a head that spells a place is written as the ID there
pub written_at : (t : List ℕ) (i k : ℕ) (id : LineId) → place_of t ≡ Some (i, k) → IsSmall id → is_written t id ≡ is_at i k id
written_at t i k (Word n) e small = word_at t i k n e small.0 small.1
written_at t i k (Span a b) e small = refl
written_at t i k (Empty j l) e small = node_at t i k j l e small.0 small.1 small.2

not_some : (t s : List ℕ) (i k : ℕ) → place_of t ≡ None → place_of s ≡ Some (i, k) → bytes_eq t s ≡ false
not_some t s i k none e = elim (cases_Bool (bytes_eq t s)) [
  | inl same ↦ absurd (let f : None ≡ Some (i, k) = sym none ∙ (ap place_of ((bytes_eq-Decides t s).0 same) ∙ e) in cc)
  | inr other ↦ other
]

-- a head that spells nothing is no ID
pub not_written : (t : List ℕ) (id : LineId) → place_of t ≡ None → IsSmall id → is_written t id ≡ false
not_written t (Word n) none small = not_some t (decimal n) n 0 none (word_read n small.1)
not_written t (Span a b) none small = refl
not_written t (Empty j l) none small = not_some t (decimal j ++ 46 ∷ decimal l) j l none (node_read j l small.0 small.2 small.1)

root_is : decimal 0 ≡ 48 ∷ []
root_is = decimal_digit 0 (omega arith)

root_read : place_of (48 ∷ []) ≡ Some (0, 0)
root_read = ap place_of (sym root_is) ∙ word_read 0 (omega arith)

pub root_at : (t : List ℕ) (i k : ℕ) → place_of t ≡ Some (i, k) → is_root_text t ≡ (eqb k 0 && eqb i 0)
root_at t i k e = same_bool (is_root_text t) (eqb k 0 && eqb i 0)
    (λ h. let same = same_place (i, k) (0, 0) (sym e ∙ (ap place_of ((bytes_eq-Decides t (48 ∷ [])).0 h) ∙ root_read)) in and_from (eqb k 0) (eqb i 0) (eq-eqb k 0 same.1) (eq-eqb i 0 same.0))
    (λ h.
    let parts = and_parts (eqb k 0) (eqb i 0) h in
    let none : k ≡ 0 = eqb-true k 0 parts.0 in
    elim (spelt t i k e) [
      | inl word ↦ (bytes_eq-Decides t (48 ∷ [])).1 (word.1 ∙ (ap decimal (eqb-true i 0 parts.1) ∙ root_is))
      | inr node ↦ absurd (omega (arith, none, node.0))
    ])

pub not_root : (t : List ℕ) → place_of t ≡ None → is_root_text t ≡ false
not_root t none = not_some t (48 ∷ []) 0 0 none root_read
