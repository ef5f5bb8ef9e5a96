-- A text cut at a place, and the end of its first word.
use Rattle.std.proofs.Common.{◌≡◌, ℕ, zero, suc, ◌-◌, ◌<◌, ◌≤◌, List, [], Option, Some, None, false}
use Rattle.std.proofs.Common.{take, drop, length, sym, ◌∙◌, ap, subst, arith, cond, nat_lt, Bor, unwrap_or}
use Rattle.std.proofs.lemmas.Bool.Decides.{nat_tests}
use Rattle.std.proofs.lemmas.List.{drop_all, length-take-le, take_all, take_rest}
use Rattle.std.proofs.lemmas.List.Sums.{fails_before_first}
use Rattle.std.proofs.lemmas.Str.{IsCharBoundary-after_ascii, IsCharBoundary-end, IsCharBoundary-start}
use Rattle.std.specs.List.{position, position_or_len}
use Rattle.std.specs.Str.{IsCharBoundary, IsUtf8}
use Rattle.std.specs.Str.Pattern.{GetsRange}
use Rattle.tb_words.specs.QueryWords.{first_word, is_no_letter}

-- what is before a place at which the text may be cut, and what is after it
pub front_got : (text : List ℕ) (n : ℕ) (r : Option (Bor (List ℕ))) (none : Bor (List ℕ)) → IsUtf8 text → IsCharBoundary text n
    → GetsRange text 0 n r → (unwrap_or r none).now ≡ take n text
front_got text n None none is at got = absurd (got (omega arith) (IsCharBoundary-start text is) at)
front_got text n (Some x) none is at got = got.0 ∙ ap (λ (k : ℕ). take k text) (omega arith)

pub back_got : (text : List ℕ) (n : ℕ) (r : Option (Bor (List ℕ))) (none : Bor (List ℕ)) → IsCharBoundary text n
    → GetsRange text n (length text) r → (unwrap_or r none).now ≡ drop n text
back_got text n None none at got = absurd (got at.0 at (IsCharBoundary-end text))
back_got text n (Some x) none at got = got.0 ∙ take_rest text n

pub part_got : (text : List ℕ) (m n : ℕ) (r : Option (Bor (List ℕ))) (none : Bor (List ℕ)) → m ≤ n → IsCharBoundary text m
    → IsCharBoundary text n → GetsRange text m n r → (unwrap_or r none).now ≡ take (n - m) (drop m text)
part_got text m n None none within start end got = absurd (got within start end)
part_got text m n (Some x) none within start end got = got.0

-- a letter, a digit or an underscore is one byte
one_byte : (b : ℕ) → is_no_letter b ≡ false → b < 128
one_byte b is = grind (arith, nat_tests)

pub word_cut : (text : List ℕ) (n : ℕ) → IsUtf8 text → n ≡ position_or_len is_no_letter text → n ≤ length text → IsCharBoundary text n
word_cut text zero utf8 is small = IsCharBoundary-start text utf8
word_cut text (suc k) utf8 is small =
    subst (λ (n : ℕ). IsCharBoundary text n) (omega arith)
    (IsCharBoundary-after_ascii text k utf8 (omega arith) (one_byte _ (fails_before_first is_no_letter text k 0 (omega arith))))

some_place : (n l end : ℕ) → cond (nat_lt n l) (Some n) None ≡ Some end → (n ≡ end) × (n < l)
some_place n l end is = grind (arith, nat_tests)

pub word_got : (text : List ℕ) (n : ℕ) (r : Option (Bor (List ℕ))) (none : Bor (List ℕ)) → IsUtf8 text
    → Some n ≡ position is_no_letter text → GetsRange text 0 n r → (unwrap_or r none).now ≡ first_word text
word_got text n r none utf8 is got =
    let h = some_place (position_or_len is_no_letter text) (length text) n (sym is) in
    front_got text n r none utf8 (word_cut text n utf8 (sym h.0) (omega arith)) got ∙ ap (λ (k : ℕ). take k text) (sym h.0)

pub after_word : (text : List ℕ) (n : ℕ) (r : Option (Bor (List ℕ))) (none : Bor (List ℕ)) → IsUtf8 text
    → Some n ≡ position is_no_letter text → GetsRange text n (length text) r
    → (unwrap_or r none).now ≡ drop (length (first_word text)) text
after_word text n r none utf8 is got =
    let h = some_place (position_or_len is_no_letter text) (length text) n (sym is) in
    back_got text n r none (word_cut text n utf8 (sym h.0) (omega arith)) got
    ∙ ap (λ (k : ℕ). drop k text) (sym h.0 ∙ sym (length-take-le (position_or_len is_no_letter text) text (omega arith)))

no_place : (n l : ℕ) → cond (nat_lt n l) (Some n) None ≡ None → l ≤ n
no_place n l is = grind (arith, nat_tests)

-- all of it is a word
pub only_word : (text : List ℕ) → None ≡ position is_no_letter text → [] ≡ drop (length (first_word text)) text
only_word text is =
    let far = no_place (position_or_len is_no_letter text) (length text) (sym is) in
    sym (ap (λ (ts : List ℕ). drop (length ts) text) (take_all (position_or_len is_no_letter text) text far) ∙ drop_all (length text) text (omega arith))
