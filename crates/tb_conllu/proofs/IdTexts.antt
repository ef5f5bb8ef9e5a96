-- The texts of numbers and of IDs.
use Rattle.std.proofs.Common.{◌≡◌, ℕ, ◌<◌, ◌≤◌, List, [], ◌∷◌, ◌++◌, Bool, true, false, ◌&&◌, refl, sym, ◌∙◌, ap, arith}
use Rattle.std.specs.Prelude.{◌==◌}
use Rattle.std.specs.List.{slice_split, join_with_byte}
use Rattle.std.specs.Fmt.{decimal}
use Rattle.std.proofs.lemmas.Bool.{and_from, and_parts}
use Rattle.std.proofs.lemmas.Bool.Decides.{nat_tests}
use Rattle.std.proofs.lemmas.Fmt.{decimal_digit}
use Rattle.std.proofs.lemmas.List.Splits.{join_with_byte-slice_split}
use Rattle.tb_conllu.specs.Lines.{is_number, is_positive, are_two}
use Rattle.tb_conllu.specs.Shape.{IsShort}
use Rattle.tb_conllu.proofs.Decimals.{is_positive-decimal, number_digits, digits_lack}
use Rattle.tb_conllu.proofs.Cuts.{Lacks}
use Rattle.tb_conllu.proofs.Parts.{split_at, split_last}

pub positive_is : (t : List ℕ) (n : ℕ) → decimal n ≡ t → IsShort n → 1 ≤ n → is_positive t ≡ true
positive_is t n e short some = ap is_positive (sym e) ∙ is_positive-decimal n some short

pub zero_isnt : (t : List ℕ) (n : ℕ) → decimal n ≡ t → n ≡ 0 → is_positive t ≡ false
zero_isnt t n e z =
    let d : t ≡ 48 ∷ [] = sym e ∙ ap decimal z ∙ decimal_digit 0 (omega arith) in
    ap is_positive d

-- ---- two parts

pub one_part : (p q : List ℕ → Bool) (mark : ℕ) (t : List ℕ) → Lacks mark t → are_two p q (slice_split (λ b. b == mark) t) ≡ false
one_part p q mark t h = ap (are_two p q) (split_last mark t h)

bad_first : (p q : List ℕ → Bool) (a : List ℕ) (parts : List (List ℕ)) → p a ≡ false → are_two p q (a ∷ parts) ≡ false
bad_first p q a [] h = refl
bad_first p q a (b ∷ []) h = rw h refl
bad_first p q a (b ∷ c ∷ rest) h = refl

and_false : (x y : Bool) → y ≡ false → (x && y) ≡ false
and_false true y h = h
and_false false y h = refl

bad_second : (p q : List ℕ → Bool) (mark : ℕ) (a b : List ℕ) (parts : List (List ℕ)) → join_with_byte mark parts ≡ b → q b ≡ false → are_two p q (a ∷ parts) ≡ false
bad_second p q mark a b [] e h = refl
bad_second p q mark a b (x ∷ []) e h = and_false (p a) (q x) (ap q e ∙ h)
bad_second p q mark a b (x ∷ y ∷ rest) e h = refl

cut_parts : (mark : ℕ) (t a b : List ℕ) → Lacks mark a → t ≡ a ++ mark ∷ b → slice_split (λ c. c == mark) t ≡ a ∷ slice_split (λ c. c == mark) b
cut_parts mark t a b h e = ap (slice_split (λ c. c == mark)) e ∙ split_at mark a b h

pub first_fails : (p q : List ℕ → Bool) (mark : ℕ) (t a b : List ℕ) → Lacks mark a → t ≡ a ++ mark ∷ b → p a ≡ false → are_two p q (slice_split (λ c. c == mark) t) ≡ false
first_fails p q mark t a b h e f = ap (are_two p q) (cut_parts mark t a b h e) ∙ bad_first p q a _ f

pub second_fails : (p q : List ℕ → Bool) (mark : ℕ) (t a b : List ℕ) → Lacks mark a → t ≡ a ++ mark ∷ b → q b ≡ false → are_two p q (slice_split (λ c. c == mark) t) ≡ false
second_fails p q mark t a b h e f = ap (are_two p q) (cut_parts mark t a b h e) ∙ bad_second p q mark a b (slice_split (λ c. c == mark) b) (join_with_byte-slice_split mark b) f

pub both_pass : (p q : List ℕ → Bool) (mark : ℕ) (t a b : List ℕ) → Lacks mark a → t ≡ a ++ mark ∷ b → p a ≡ true → q b ≡ true → Lacks mark b → are_two p q (slice_split (λ c. c == mark) t) ≡ true
both_pass p q mark t a b h e f g l =
    ap (are_two p q) (cut_parts mark t a b h e ∙ ap (λ parts. a ∷ parts) (split_last mark b l)) ∙ and_from _ _ f g

-- no number holds a mark that isn't a digit
pub number_lacks : (mark : ℕ) (t : List ℕ) → mark < 48 → is_positive t ≡ true → Lacks mark t
number_lacks mark t low h =
    let parts = and_parts (is_number t) _ h in
    let d = number_digits t parts.0 in
    digits_lack (λ b. b == mark) (λ b k. grind (arith, nat_tests)) t d.0

pub spelled : (mark n m : ℕ) (t a b : List ℕ) → t ≡ a ++ mark ∷ b → decimal n ≡ a → decimal m ≡ b → decimal n ++ mark ∷ decimal m ≡ t
spelled mark n m t a b e f g = ap (λ x. x ++ mark ∷ decimal m) f ∙ ap (λ x. a ++ mark ∷ x) g ∙ sym e
