-- The line of a shaped row, or of a comment, has no fault.
use Rattle.std.proofs.Common.{◌≡◌, ℕ, ◌<◌, List, [], ◌∷◌, ◌++◌, length, Bool, true, false, ◌||◌, ◌&&◌, not, refl, sym, ◌∙◌, ap, subst, arith, append_assoc, Option, Some, None, cond, length-append}
use Rattle.std.specs.Prelude.{◌==◌, bytes_eq, take, IfSome, slice_index_or, nat_le, nat_lt}
use Rattle.std.specs.List.{list_any, list_all, AllByRecursion, slice_split}
use Rattle.std.specs.Str.{is_utf8, IsAscii, chars}
use Rattle.std.specs.Char.{is_whitespace}
use Rattle.std.specs.Fmt.{decimal}
use Rattle.std.proofs.lemmas.Bool.{cond-true, cond-false, or_parts, or_from, or_left, or_right, and_from, and_parts}
use Rattle.std.proofs.lemmas.Bool.Decides.{nat_tests}
use Rattle.std.proofs.lemmas.Str.{is_utf8-from_IsUtf8, IsUtf8-from_ascii, chars-IsAscii}
use Rattle.std.proofs.lemmas.Str.Ascii.{IsAscii-nil, IsAscii-cons, All-from_ascii}
use Rattle.std.proofs.lemmas.List.Folds.{list_all-append}
use Rattle.unicode_normalization.specs.Forms.{IsInForm, Nfc}
use Rattle.unicode_normalization.proofs.FormsLemmas.{normalize-ascii, is_in_form_from}
use Rattle.tb_chars.specs.Spaces.{has_space}
use Rattle.tb_chars.specs.Digits.{is_digit}
use Rattle.tb_conllu.specs.declared.id.LineId.{LineId}
use Rattle.tb_conllu.specs.declared.id.LineId.TheVariants.{Word, Span, Empty}
use Rattle.tb_conllu.specs.Text.{RowText, row_line, fields_of, id_text, head_text}
use Rattle.tb_conllu.specs.Shape.{IsRowShaped, IsLineText, IsFieldText, IsTightText, IsIdShaped, IsCommentText, IsShort, is_control, is_tab}
use Rattle.tb_conllu.specs.Lines.{line_code, word_code, came_after, is_nfc_text, is_number, is_positive, are_two, is_id, is_head, is_empty, is_comment, fields, field, has_ten_fields, has_spaced_field}
use Rattle.tb_conllu.specs.Reported.{IsLine}
use Rattle.tb_conllu.proofs.Cuts.{Lacks}
use Rattle.tb_conllu.proofs.Parts.{HasNoTab, split_at, split_last, split_join, line_from_parts}
use Rattle.tb_conllu.proofs.Decimals.{is_number-decimal, is_positive-decimal, number_digits, digits_lack, digits_have, begins_word}

-- ---- a text without control characters lacks line feeds

pub control_cut : (bs : List ℕ) → list_any is_control bs ≡ false → IsLine bs
control_cut [] h = refl
control_cut (b ∷ bs) h =
    let parts = or_parts (is_control b) _ h in
    let e : (b == 10) ≡ false = grind (arith, nat_tests) in
    rw (e, control_cut bs parts.1) refl

-- ---- texts of ASCII marks and digits

-- from `-` on to the last ASCII character
abbrev is_plain : ℕ → Bool
is_plain b = nat_le 45 b && nat_lt b 127

plain_lacks : (p : ℕ → Bool) → ((b : ℕ) → is_plain b ≡ true → p b ≡ false) → (bs : List ℕ) → list_all is_plain bs ≡ true → list_any p bs ≡ false
plain_lacks p f [] h = refl
plain_lacks p f (b ∷ bs) h =
    let parts = and_parts (is_plain b) _ h in
    or_from _ _ (f b parts.0) (plain_lacks p f bs parts.1)

plain_ascii : (bs : List ℕ) → list_all is_plain bs ≡ true → IsAscii bs
plain_ascii [] h = IsAscii-nil
plain_ascii (b ∷ bs) h =
    let parts = and_parts (is_plain b) _ h in
    IsAscii-cons b bs (grind (arith, nat_tests)) (plain_ascii bs parts.1)

plain_control : (b : ℕ) → is_plain b ≡ true → is_control b ≡ false
plain_control b h = grind (arith, nat_tests)

plain_tab : (b : ℕ) → is_plain b ≡ true → is_tab b ≡ false
plain_tab b h = grind (arith, nat_tests)

plain_space : (b : ℕ) → is_plain b ≡ true → is_whitespace b ≡ false
plain_space b h = grind (arith, nat_tests)

plain_text : (bs : List ℕ) → list_all is_plain bs ≡ true → 0 < length bs → IsTightText bs
plain_text bs h n =
    let a = plain_ascii bs h in
    let e = chars-IsAscii bs a in
    let P : List ℕ → Type 0 = IsInForm Nfc in
    record {
      field = record {
        text = record {
          utf8 = IsUtf8-from_ascii bs a;
          nfc = subst P (sym e) (normalize-ascii Nfc bs (All-from_ascii bs a));
          clean = plain_lacks is_control plain_control bs h;
        };
        nonempty = n;
        no_tab = plain_lacks is_tab plain_tab bs h;
      };
      no_space = ap (list_any is_whitespace) e ∙ plain_lacks is_whitespace plain_space bs h;
    }

digit_plain : (b : ℕ) → is_digit b ≡ true → is_plain b ≡ true
digit_plain b h = grind (arith, nat_tests)

decimal_plain : (n : ℕ) → IsShort n → list_all is_plain (decimal n) ≡ true
decimal_plain n h = digits_have is_plain digit_plain (decimal n) (number_digits (decimal n) (is_number-decimal n h)).0

-- two numbers with a mark between them
pair_plain : (n m mark : ℕ) → is_plain mark ≡ true → IsShort n → IsShort m → list_all is_plain (decimal n ++ mark ∷ decimal m) ≡ true
pair_plain n m mark k hn hm = list_all-append is_plain (decimal n) (mark ∷ decimal m) ∙ and_from _ _ (decimal_plain n hn) (and_from _ _ k (decimal_plain m hm))

pair_some : (n m mark : ℕ) → 0 < length (decimal n ++ mark ∷ decimal m)
pair_some n m mark = let e = length-append (decimal n) (mark ∷ decimal m) in omega (arith, e)

-- ---- fields

decimal_text : (n : ℕ) → IsShort n → IsTightText (decimal n)
decimal_text n h = plain_text (decimal n) (decimal_plain n h) (number_digits (decimal n) (is_number-decimal n h)).1

pub id_field : (id : LineId) → IsIdShaped id → IsTightText (id_text id)
id_field (Word n) h = decimal_text n h.1
id_field (Span n m) h = plain_text (decimal n ++ 45 ∷ decimal m) (pair_plain n m 45 refl h.0.1 h.1.1) (pair_some n m 45)
id_field (Empty i k) h = plain_text (decimal i ++ 46 ∷ decimal k) (pair_plain i k 46 refl h.0 h.1.1) (pair_some i k 46)

pub head_field : (h : Option ℕ) → IfSome h IsShort → IsTightText (head_text h)
head_field None k = plain_text (95 ∷ []) refl (omega arith)
head_field (Some n) k = decimal_text n k

pub row_fields_text : (r : RowText) → IsRowShaped r → AllByRecursion IsFieldText (fields_of r)
row_fields_text r h = ((id_field r.id h.id).field, (h.form, (h.lemma, (h.upos.field, (h.xpos.field, (h.feats.field, ((head_field r.head h.head).field, (h.deprel.field, (h.deps.field, (h.misc, tt))))))))))

pub each : {P Q : List ℕ → Type 0} → ((f : List ℕ) → P f → Q f) → (fs : List (List ℕ)) → AllByRecursion P fs → AllByRecursion Q fs
each f [] h = tt
each f (x ∷ xs) h = (f x h.0, each f xs h.1)

pub row_text : (r : RowText) → IsRowShaped r → IsLineText (row_line r)
row_text r h =
    let all = row_fields_text r h in
    line_from_parts (fields_of r) (each {P = IsFieldText} {Q = HasNoTab} (λ f k. k.no_tab) (fields_of r) all) (each {P = IsFieldText} {Q = IsLineText} (λ f k. k.text) (fields_of r) all)

pub row_cut : (r : RowText) → IsRowShaped r → IsLine (row_line r)
row_cut r h = control_cut (row_line r) (row_text r h).clean

pub comment_cut : (l : List ℕ) → IsCommentText l → IsLine l
comment_cut l h = control_cut l h.text.clean

pub row_fields : (r : RowText) → IsRowShaped r → fields (row_line r) ≡ fields_of r
row_fields r h = let all = each {P = IsFieldText} {Q = HasNoTab} (λ f k. k.no_tab) (fields_of r) (row_fields_text r h) in split_join (id_text r.id) _ all

-- ---- no fault

-- the codes of a text that may stand in a line are those of its place and its fields
pub text_code : (came : Bool) (l : List ℕ) → IsLineText l → line_code came l ≡ cond (is_empty l) (cond came 0 9) (cond (is_comment l) (cond came 8 0) (word_code l))
text_code came l h =
    cond-false (not (is_utf8 l)) _ _ (ap not (is_utf8-from_IsUtf8 l h.utf8)) ∙ cond-false (not (is_nfc_text l)) _ _ (ap not (is_in_form_from Nfc (chars l) h.nfc))
    ∙ cond-false (list_any is_control l) _ _ h.clean

pub hash_is : (l : List ℕ) → take 1 l ≡ 35 ∷ [] → (is_empty l ≡ false) × (is_comment l ≡ true)
hash_is [] e = absurd cc
hash_is (x ∷ l) e = (refl, ap (λ t. bytes_eq t (35 ∷ [])) e)

pub comment_clean : (l : List ℕ) → IsCommentText l → (line_code false l ≡ 0) × (came_after false l ≡ false)
comment_clean l h =
    let k = hash_is l h.hash in (
      text_code false l h.text ∙ cond-false (is_empty l) _ _ k.0 ∙ cond-true (is_comment l) _ _ k.1,
      cond-false (is_empty l) _ _ k.0 ∙ cond-true (is_comment l) _ _ k.1,
    )

-- a number lacks the marks
pub decimal_lacks : (n mark : ℕ) → IsShort n → is_digit mark ≡ false → Lacks mark (decimal n)
decimal_lacks n mark h k = digits_lack (λ b. b == mark) (λ b d. grind (arith, nat_tests)) (decimal n) (number_digits (decimal n) (is_number-decimal n h)).0

pair_split : (n m mark : ℕ) → IsShort n → IsShort m → is_digit mark ≡ false → slice_split (λ b. b == mark) (decimal n ++ mark ∷ decimal m) ≡ decimal n ∷ decimal m ∷ []
pair_split n m mark hn hm k = split_at mark (decimal n) (decimal m) (decimal_lacks n mark hn k) ∙ ap (λ l. decimal n ∷ l) (split_last mark (decimal m) (decimal_lacks m mark hm k))

pub id_passes : (id : LineId) → IsIdShaped id → is_id (id_text id) ≡ true
id_passes (Word n) h = or_left _ _ (or_left _ _ (is_positive-decimal n h.0 h.1))
id_passes (Span n m) h =
    let parts = ap (are_two is_positive is_positive) (pair_split n m 45 h.0.1 h.1.1 refl) in
    or_left _ _ (or_right _ _ (parts ∙ and_from _ _ (is_positive-decimal n h.0.0 h.0.1) (is_positive-decimal m h.1.0 h.1.1)))
id_passes (Empty i k) h =
    let parts = ap (are_two is_number is_positive) (pair_split i k 46 h.0 h.1.1 refl) in
    or_right _ _ (parts ∙ and_from _ _ (is_number-decimal i h.0) (is_positive-decimal k h.1.0 h.1.1))

pub head_passes : (h : Option ℕ) → IfSome h IsShort → is_head (head_text h) ≡ true
head_passes None k = refl
head_passes (Some n) k = or_right (bytes_eq (decimal n) (95 ∷ [])) (is_number (decimal n)) (is_number-decimal n k)

none_empty : (fs : List (List ℕ)) → AllByRecursion IsFieldText fs → list_any is_empty fs ≡ false
none_empty [] h = refl
none_empty (f ∷ fs) h = or_from _ _ (some f h.0.nonempty) (none_empty fs h.1)
  where
    some : (f : List ℕ) → 0 < length f → is_empty f ≡ false
    some [] n = absurd (omega arith)
    some (b ∷ bs) n = refl

-- whether one of the fields other than FORM, LEMMA and MISC holds white space
abbrev spaced : List (List ℕ) → Bool
spaced fs = has_space (slice_index_or fs 3 []) || has_space (slice_index_or fs 4 []) || has_space (slice_index_or fs 5 []) || has_space (slice_index_or fs 6 []) || has_space (slice_index_or fs 7 []) || has_space (slice_index_or fs 8 [])

none_spaced : (r : RowText) → IsRowShaped r → spaced (fields_of r) ≡ false
none_spaced r h = rw (h.upos.no_space, h.xpos.no_space, h.feats.no_space, (head_field r.head h.head).no_space, h.deprel.no_space, h.deps.no_space) refl

word_passes : (r : RowText) → IsRowShaped r → word_code (row_line r) ≡ 0
word_passes r h =
    let same = row_fields r h in
    let full = none_empty (fields_of r) (row_fields_text r h) in
    let id = id_passes r.id h.id in
    let head = head_passes r.head h.head in
    let ten : has_ten_fields (row_line r) ≡ true = ap (λ fs. length fs == 10 && not (list_any is_empty fs)) same ∙ ap not full in
    let first : is_id (field 0 (row_line r)) ≡ true = ap (λ fs. is_id (slice_index_or fs 0 [])) same ∙ id in
    let tight : has_spaced_field (row_line r) ≡ false = ap spaced same ∙ none_spaced r h in
    let seventh : is_head (field 6 (row_line r)) ≡ true = ap (λ fs. is_head (slice_index_or fs 6 [])) same ∙ head in
    cond-false _ _ _ (ap not ten) ∙ cond-false _ _ _ (ap not first) ∙ cond-false _ _ _ tight ∙ cond-false _ _ _ (ap not seventh)

number_begins : (n : ℕ) (rest : List ℕ) → IsShort n → (is_empty (decimal n ++ rest) ≡ false) × (is_comment (decimal n ++ rest) ≡ false)
number_begins n rest h = let d = number_digits (decimal n) (is_number-decimal n h) in begins_word (decimal n) rest d.0 d.1

pair_begins : (n m mark : ℕ) (rest : List ℕ) → IsShort n → (is_empty ((decimal n ++ mark ∷ decimal m) ++ rest) ≡ false) × (is_comment ((decimal n ++ mark ∷ decimal m) ++ rest) ≡ false)
pair_begins n m mark rest h =
    let P : List ℕ → Type 0 = λ l. (is_empty l ≡ false) × (is_comment l ≡ false) in
    subst P (sym (append_assoc (decimal n) (mark ∷ decimal m) rest)) (number_begins n (mark ∷ (decimal m ++ rest)) h)

-- a row's line begins with a digit
pub word_begins : (id : LineId) (rest : List ℕ) → IsIdShaped id → (is_empty (id_text id ++ rest) ≡ false) × (is_comment (id_text id ++ rest) ≡ false)
word_begins (Word n) rest h = number_begins n rest h.1
word_begins (Span n m) rest h = pair_begins n m 45 rest h.0.1
word_begins (Empty i k) rest h = pair_begins i k 46 rest h.0

pub row_begins : (r : RowText) → IsRowShaped r → (is_empty (row_line r) ≡ false) × (is_comment (row_line r) ≡ false)
row_begins r h = word_begins r.id _ h.id

pub row_clean : (came : Bool) (r : RowText) → IsRowShaped r → (line_code came (row_line r) ≡ 0) × (came_after came (row_line r) ≡ true)
row_clean came r h =
    let k = row_begins r h in (
      text_code came (row_line r) (row_text r h) ∙ cond-false (is_empty (row_line r)) _ _ k.0 ∙ cond-false (is_comment (row_line r)) _ _ k.1 ∙ word_passes r h,
      cond-false (is_empty (row_line r)) _ _ k.0 ∙ cond-false (is_comment (row_line r)) _ _ k.1,
    )
