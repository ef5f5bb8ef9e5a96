-- The chain of tests of a line, and its nine conditions.
use Rattle.std.proofs.Common.{◌≡◌, ℕ, ◌<◌, ◌≤◌, ◌⊎◌, inl, inr, zero, suc, List, [], ◌∷◌, ◌++◌, length, take, Bool, true, false, ◌||◌, not, Some, None, refl, sym, ◌∙◌, ap, subst, arith, ⊎_elim}
use Rattle.std.specs.Prelude.{◌==◌, ◌≢◌, ◌↔◌, nat_lt, Any, bytes_eq, chars, if◌then◌else◌}
use Rattle.std.specs.Bool.{Decides}
use Rattle.std.specs.List.{list_any, slice_split, join_with_byte}
use Rattle.std.specs.Str.{IsUtf8, is_utf8}
use Rattle.std.specs.Fmt.{decimal}
use Rattle.std.proofs.lemmas.Bool.{and_parts, cases_lt, true≢false}
use Rattle.std.proofs.lemmas.Bool.Decides.{Decides-and, Decides-eqb, Decides-ltb, Decides-not, Decides-or, not_from_Decides}
use Rattle.std.proofs.lemmas.List.Folds.{Any-from_list_any, list_any-from_Any}
use Rattle.std.proofs.lemmas.List.Splits.{join_with_byte-slice_split}
use Rattle.std.proofs.lemmas.Slice.Eq.{bytes_eq-Decides}
use Rattle.std.proofs.lemmas.Str.{IsUtf8-from_is_utf8, is_utf8-from_IsUtf8}
use Rattle.unicode_normalization.specs.Forms.{IsInForm, Nfc, nfc}
use Rattle.tb_chars.specs.Spaces.{has_space}
use Rattle.tb_conllu.specs.declared.id.LineId.TheVariants.{Word, Span, Empty}
use Rattle.tb_conllu.specs.Shape.{IsShort, is_control}
use Rattle.tb_conllu.specs.Lines.{are_two, fields, field, has_spaced_field, has_ten_fields, is_comment, is_empty, is_head, is_id, is_nfc_text, is_node, is_number, is_positive, is_span, line_code, word_code}
use Rattle.tb_conllu.specs.NineCodes.{HasCode, HasLeastCode, HasNoCode, HasNoHead, HasNoId, HasOtherColumns, HasTenFields, HoldsControl, HoldsSpace, IsBlank, IsComment, IsControlled, IsEarlyBlank, IsHeadText, IsIdText, IsLateComment, IsNotNfc, IsNotUtf8, IsSpaced, IsWordLine}
use Rattle.tb_conllu.proofs.Decimals.{decimal-is_number}
use Rattle.tb_conllu.proofs.IdTexts.{zero_isnt}
use Rattle.tb_conllu.proofs.RowLines.{head_passes, id_field, id_passes}

-- ---- what each test decides

itself : (b : Bool) → Decides b (b ≡ true)
itself b = (λ e. e, λ e. e)

either_true : (x y : Bool) → (x || y) ≡ true → (x ≡ true) ⊎ (y ≡ true)
either_true x y = (Decides-or x y (itself x) (itself y)).0

held : (P : Type 0) (b : Bool) → Decides b P → not b ≡ false → P
held P true d e = d.0 refl
held P false d e = absurd (true≢false e)

broken : (P : Type 0) (b : Bool) → Decides b P → not b ≡ true → P → ⊥
broken P b d e = (Decides-not b d).0 e

utf8_decides : (line : List ℕ) → Decides (is_utf8 line) (IsUtf8 line)
utf8_decides line = (IsUtf8-from_is_utf8 line, is_utf8-from_IsUtf8 line)

nfc_decides : (line : List ℕ) → Decides (is_nfc_text line) (IsInForm Nfc (chars line))
nfc_decides line = bytes_eq-Decides (nfc (chars line)) (chars line)

any_decides : {X : Type 0} (p : X → Bool) (P : X → Type 0) → ((x : X) → Decides (p x) (P x)) → (xs : List X) → Decides (list_any p xs) (Any P xs)
any_decides p P each xs = (
  λ e. let m = Any-from_list_any p xs e in (m.0, m.1, m.2, m.3, (each m.1).0 m.4),
  λ h. list_any-from_Any p xs (h.0, h.1, h.2, h.3, (each h.1).1 h.4),
)

control_decides : (line : List ℕ) → Decides (list_any is_control line) (HoldsControl line)
control_decides line =
    any_decides is_control (λ b. (b < 32) × (b ≢ 9)) (λ b. Decides-and (nat_lt b 32) (not (b == 9)) (Decides-ltb b 32) (Decides-not (b == 9) (Decides-eqb b 9))) line

blank_decides : (line : List ℕ) → Decides (is_empty line) (IsBlank line)
blank_decides [] = (λ e. refl, λ h. refl)
blank_decides (b ∷ bs) = (λ e. absurd (true≢false (sym e)), λ h. absurd cc)

comment_decides : (line : List ℕ) → Decides (is_comment line) (IsComment line)
comment_decides line = bytes_eq-Decides (take 1 line) (35 ∷ [])

ten_decides : (line : List ℕ) → Decides (has_ten_fields line) (HasTenFields line)
ten_decides line =
    Decides-and (length (fields line) == 10) (not (list_any is_empty (fields line))) (Decides-eqb (length (fields line)) 10)
    (Decides-not (list_any is_empty (fields line)) (any_decides is_empty IsBlank blank_decides (fields line)))

-- a number
number_text : (t : List ℕ) → is_number t ≡ true → (n : ℕ) × IsShort n × (t ≡ decimal n)
number_text t h = let number = decimal-is_number t h in (_, number.1, sym number.0)

-- a number from 1
positive_text : (t : List ℕ) → is_positive t ≡ true → (n : ℕ) × (1 ≤ n) × IsShort n × (t ≡ decimal n)
positive_text t h =
    let number = decimal-is_number t (and_parts _ _ h).0 in
    elim (cases_lt 0 _) [
      | inl some ↦ (_, some, number.1, sym number.0)
      | inr none ↦ absurd (true≢false (sym h ∙ zero_isnt t _ number.0 (omega (arith, none))))
    ]

-- two parts, and the text that has them
two_texts : (p q : List ℕ → Bool) (mark : ℕ) (parts : List (List ℕ)) → are_two p q parts ≡ true
    → (a b : List ℕ) × (join_with_byte mark parts ≡ a ++ mark ∷ b) × (p a ≡ true) × (q b ≡ true)
two_texts p q mark [] h = absurd (true≢false (sym h))
two_texts p q mark (a ∷ []) h = absurd (true≢false (sym h))
two_texts p q mark (a ∷ b ∷ []) h = let both = and_parts (p a) (q b) h in (a, b, refl, both.0, both.1)
two_texts p q mark (a ∷ b ∷ c ∷ rest) h = absurd (true≢false (sym h))

pub id_text_is : (t : List ℕ) → is_id t ≡ true → IsIdText t
id_text_is t h = elim (either_true (is_positive t || is_span t) (is_node t) h) [
  | inl first ↦ elim (either_true (is_positive t) (is_span t) first) [
    | inl word ↦ let n = positive_text t word in (Word n.0, (n.1, n.2), n.3)
    | inr span ↦
        let two = two_texts is_positive is_positive 45 (slice_split (λ b. b == 45) t) span in
        let n = positive_text two.0 two.3 in
        let m = positive_text two.1 two.4 in
        (Span n.0 m.0, ((n.1, n.2), (m.1, m.2)), sym (join_with_byte-slice_split 45 t) ∙ two.2 ∙ ap (λ x. x ++ 45 ∷ two.1) n.3 ∙ ap (λ x. decimal n.0 ++ 45 ∷ x) m.3)
  ]
  | inr node ↦
      let two = two_texts is_number is_positive 46 (slice_split (λ b. b == 46) t) node in
      let i = number_text two.0 two.3 in
      let k = positive_text two.1 two.4 in
      (Empty i.0 k.0, (i.1, (k.1, k.2)), sym (join_with_byte-slice_split 46 t) ∙ two.2 ∙ ap (λ x. x ++ 46 ∷ two.1) i.2 ∙ ap (λ x. decimal i.0 ++ 46 ∷ x) k.3)
]

id_decides : (t : List ℕ) → Decides (is_id t) (IsIdText t)
id_decides t = (id_text_is t, λ h. ap is_id h.2 ∙ id_passes h.0 h.1)

pub head_text_is : (t : List ℕ) → is_head t ≡ true → IsHeadText t
head_text_is t h = elim (either_true (bytes_eq t (95 ∷ [])) (is_number t) h) [
  | inl none ↦ (None, tt, (bytes_eq-Decides t (95 ∷ [])).0 none)
  | inr some ↦ let n = decimal-is_number t some in (Some _, n.1, sym n.0)
]

head_decides : (t : List ℕ) → Decides (is_head t) (IsHeadText t)
head_decides t = (head_text_is t, λ h. ap is_head h.2 ∙ head_passes h.0 h.1)

-- ---- white space

or_left : (x y : Bool) → x ≡ true → (x || y) ≡ true
or_left x y e = (Decides-or x y (itself x) (itself y)).1 (inl e)

or_right : (x y : Bool) → y ≡ true → (x || y) ≡ true
or_right x y e = (Decides-or x y (itself x) (itself y)).1 (inr e)

six : (a b c d e f : Bool) → (a || b || c || d || e || f) ≡ true → (a ≡ true) ⊎ (b ≡ true) ⊎ (c ≡ true) ⊎ (d ≡ true) ⊎ (e ≡ true) ⊎ (f ≡ true)
six true b c d e f h = inl refl
six false true c d e f h = inr (inl refl)
six false false true d e f h = inr (inr (inl refl))
six false false false true e f h = inr (inr (inr (inl refl)))
six false false false false true f h = inr (inr (inr (inr (inl refl))))
six false false false false false f h = inr (inr (inr (inr (inr h))))

any_of_six : (a b c d e f : Bool) → (a ≡ true) ⊎ (b ≡ true) ⊎ (c ≡ true) ⊎ (d ≡ true) ⊎ (e ≡ true) ⊎ (f ≡ true) → (a || b || c || d || e || f) ≡ true
any_of_six true b c d e f h = refl
any_of_six false true c d e f h = refl
any_of_six false false true d e f h = refl
any_of_six false false false true e f h = refl
any_of_six false false false false true f h = refl
any_of_six false false false false false true h = refl
any_of_six false false false false false false h = ⊎_elim no_truth (⊎_elim no_truth (⊎_elim no_truth (⊎_elim no_truth (⊎_elim no_truth no_truth)))) h
  where
    no_truth : false ≡ true → false ≡ true
    no_truth e = e

space_found : (line : List ℕ) → has_spaced_field line ≡ true → HoldsSpace line
space_found line h =
    ⊎_elim (λ e. at 3 (omega arith) (omega arith) (omega arith) (omega arith) e) (
    ⊎_elim (λ e. at 4 (omega arith) (omega arith) (omega arith) (omega arith) e) (
    ⊎_elim (λ e. at 5 (omega arith) (omega arith) (omega arith) (omega arith) e) (
    ⊎_elim (λ e. at 6 (omega arith) (omega arith) (omega arith) (omega arith) e) (
    ⊎_elim (λ e. at 7 (omega arith) (omega arith) (omega arith) (omega arith) e) (λ e. at 8 (omega arith) (omega arith) (omega arith) (omega arith) e)
    )
    )
    )
    ) (six (has_space (field 3 line)) (has_space (field 4 line)) (has_space (field 5 line)) (has_space (field 6 line)) (has_space (field 7 line)) (has_space (field 8 line)) h)
  where
    at : (k : ℕ) → k < 10 → k ≢ 1 → k ≢ 2 → k ≢ 9 → has_space (field k line) ≡ true → HoldsSpace line
    at k a b c d e = (k, a, b, c, d, e)

one_spaced : (line : List ℕ)
    → (has_space (field 3 line) ≡ true) ⊎ (has_space (field 4 line) ≡ true) ⊎ (has_space (field 5 line) ≡ true) ⊎ (has_space (field 6 line) ≡ true) ⊎ (has_space (field 7 line) ≡ true) ⊎ (has_space (field 8 line) ≡ true)
    → has_spaced_field line ≡ true
one_spaced line h = any_of_six (has_space (field 3 line)) (has_space (field 4 line)) (has_space (field 5 line)) (has_space (field 6 line)) (has_space (field 7 line)) (has_space (field 8 line)) h

-- a field that holds white space is the ID, or one of the six
space_at : (line : List ℕ) (k : ℕ) → k < 10 → k ≢ 1 → k ≢ 2 → k ≢ 9 → has_space (field k line) ≡ true → (has_space (field 0 line) ≡ true) ⊎ (has_spaced_field line ≡ true)
space_at line zero a b c d e = inl e
space_at line (suc zero) a b c d e = absurd (b refl)
space_at line (suc (suc zero)) a b c d e = absurd (c refl)
space_at line (suc (suc (suc zero))) a b c d e = inr (one_spaced line (inl e))
space_at line (suc (suc (suc (suc zero)))) a b c d e = inr (one_spaced line (inr (inl e)))
space_at line (suc (suc (suc (suc (suc zero))))) a b c d e = inr (one_spaced line (inr (inr (inl e))))
space_at line (suc (suc (suc (suc (suc (suc zero)))))) a b c d e = inr (one_spaced line (inr (inr (inr (inl e)))))
space_at line (suc (suc (suc (suc (suc (suc (suc zero))))))) a b c d e = inr (one_spaced line (inr (inr (inr (inr (inl e))))))
space_at line (suc (suc (suc (suc (suc (suc (suc (suc zero)))))))) a b c d e = inr (one_spaced line (inr (inr (inr (inr (inr e))))))
space_at line (suc (suc (suc (suc (suc (suc (suc (suc (suc zero))))))))) a b c d e = absurd (d refl)
space_at line (suc (suc (suc (suc (suc (suc (suc (suc (suc (suc k)))))))))) a b c d e = absurd (omega (arith, a))

-- an ID holds none
id_tight : (line : List ℕ) → IsIdText (field 0 line) → has_space (field 0 line) ≡ true → ⊥
id_tight line h e = true≢false (sym e ∙ ap has_space h.2 ∙ (id_field h.0 h.1).no_space)

-- ---- the chain

pick : (b : Bool) (x y : ℕ) (P : ℕ → Type 0) → (b ≡ true → P x) → (b ≡ false → P y) → P (if b then x else y)
pick true x y P p q = p refl
pick false x y P p q = q refl

-- the code that is answered is one that the line has
abbrev Own : Bool → List ℕ → ℕ → Type 0
Own came line code = 0 < code → HasCode came line code

own_word : (came : Bool) (line : List ℕ) → IsWordLine line → Own came line (word_code line)
own_word came line word =
    pick (not (has_ten_fields line)) _ _ (Own came line) (λ e _. inr (inr (inr (inl (refl, (word, broken _ _ (ten_decides line) e)))))) (λ t.
    pick (not (is_id (field 0 line))) _ _ (Own came line) (λ e _. inr (inr (inr (inr (inl (refl, (word, held _ _ (ten_decides line) t, broken _ _ (id_decides (field 0 line)) e))))))) (λ _.
    pick (has_spaced_field line) _ _ (Own came line) (λ e _. inr (inr (inr (inr (inr (inl (refl, (word, held _ _ (ten_decides line) t, space_found line e)))))))) (λ _.
    pick (not (is_head (field 6 line))) _ _ (Own came line) (λ e _. inr (inr (inr (inr (inr (inr (inl (refl, (word, held _ _ (ten_decides line) t, broken _ _ (head_decides (field 6 line)) e))))))))) (λ _ z. absurd (omega (arith, z))))))

own_code : (came : Bool) (line : List ℕ) → Own came line (line_code came line)
own_code came line =
    pick (not (is_utf8 line)) _ _ (Own came line) (λ e _. inl (refl, broken _ _ (utf8_decides line) e)) (λ u.
    pick (not (is_nfc_text line)) _ _ (Own came line) (λ e _. inr (inl (refl, (held _ _ (utf8_decides line) u, broken _ _ (nfc_decides line) e)))) (λ _.
    pick (list_any is_control line) _ _ (Own came line) (λ e _. inr (inr (inl (refl, (held _ _ (utf8_decides line) u, (control_decides line).0 e))))) (λ _.
    pick (is_empty line) _ _ (Own came line) (λ e. pick came _ _ (Own came line) (λ _ z. absurd (omega (arith, z))) (λ c _. inr (inr (inr (inr (inr (inr (inr (inr (refl, ((blank_decides line).0 e, c))))))))))) (λ e.
    pick (is_comment line) _ _ (Own came line) (λ m. pick came _ _ (Own came line) (λ c _. inr (inr (inr (inr (inr (inr (inr (inl (refl, ((comment_decides line).0 m, c)))))))))) (λ _ z. absurd (omega (arith, z)))) (λ m.
    own_word came line (not_from_Decides (is_empty line) (blank_decides line) e, not_from_Decides (is_comment line) (comment_decides line) m))))))

-- ---- no code that the line has is less

abbrev Within : ℕ → ℕ → Type 0
Within code n = (0 < n) × (n ≤ code)

text_first : (line : List ℕ) (code n : ℕ) → 3 ≤ code → Within code n
    → Within code (if not (is_utf8 line) then 1 else if not (is_nfc_text line) then 2 else if list_any is_control line then 3 else n)
text_first line code n large w =
    pick (not (is_utf8 line)) _ _ (Within code) (λ _. (omega arith, omega (arith, large))) (λ _.
    pick (not (is_nfc_text line)) _ _ (Within code) (λ _. (omega arith, omega (arith, large))) (λ _.
    pick (list_any is_control line) _ _ (Within code) (λ _. (omega arith, large)) (λ _. w)))

word_first : (came : Bool) (line : List ℕ) (code n : ℕ) → 3 ≤ code → IsWordLine line → Within code (word_code line) → Within code (line_code came line)
word_first came line code n large word w =
    text_first line code _ large (
    pick (is_empty line) _ _ (Within code) (λ e. absurd (word.0 ((blank_decides line).0 e))) (λ _.
    pick (is_comment line) _ _ (Within code) (λ m. absurd (word.1 ((comment_decides line).0 m))) (λ _. w)))

least_utf8 : (came : Bool) (line : List ℕ) → IsNotUtf8 line → Within 1 (line_code came line)
least_utf8 came line h =
    pick (not (is_utf8 line)) _ _ (Within 1) (λ _. (omega arith, omega arith)) (λ u. absurd (h (held _ _ (utf8_decides line) u)))

least_nfc : (came : Bool) (line : List ℕ) → IsNotNfc line → Within 2 (line_code came line)
least_nfc came line h =
    pick (not (is_utf8 line)) _ _ (Within 2) (λ _. (omega arith, omega arith)) (λ _.
    pick (not (is_nfc_text line)) _ _ (Within 2) (λ _. (omega arith, omega arith)) (λ n. absurd (h.1 (held _ _ (nfc_decides line) n))))

least_control : (came : Bool) (line : List ℕ) → IsControlled line → Within 3 (line_code came line)
least_control came line h =
    pick (not (is_utf8 line)) _ _ (Within 3) (λ _. (omega arith, omega arith)) (λ _.
    pick (not (is_nfc_text line)) _ _ (Within 3) (λ _. (omega arith, omega arith)) (λ _.
    pick (list_any is_control line) _ _ (Within 3) (λ _. (omega arith, omega arith)) (λ c. absurd (not_from_Decides _ (control_decides line) c h.1))))

least_columns : (came : Bool) (line : List ℕ) → HasOtherColumns line → Within 4 (line_code came line)
least_columns came line h =
    word_first came line 4 0 (omega arith) h.0 (
    pick (not (has_ten_fields line)) _ _ (Within 4) (λ _. (omega arith, omega arith)) (λ t. absurd (h.1 (held _ _ (ten_decides line) t))))

least_id : (came : Bool) (line : List ℕ) → HasNoId line → Within 5 (line_code came line)
least_id came line h =
    word_first came line 5 0 (omega arith) h.0 (
    pick (not (has_ten_fields line)) _ _ (Within 5) (λ _. (omega arith, omega arith)) (λ _.
    pick (not (is_id (field 0 line))) _ _ (Within 5) (λ _. (omega arith, omega arith)) (λ i. absurd (h.2 (held _ _ (id_decides (field 0 line)) i)))))

least_space : (came : Bool) (line : List ℕ) → IsSpaced line → Within 6 (line_code came line)
least_space came line h =
    let space = h.2 in
    word_first came line 6 0 (omega arith) h.0 (
    pick (not (has_ten_fields line)) _ _ (Within 6) (λ _. (omega arith, omega arith)) (λ _.
    pick (not (is_id (field 0 line))) _ _ (Within 6) (λ _. (omega arith, omega arith)) (λ i.
    pick (has_spaced_field line) _ _ (Within 6) (λ _. (omega arith, omega arith)) (λ s.
    absurd (⊎_elim (λ first. id_tight line (held _ _ (id_decides (field 0 line)) i) first) (λ other. true≢false (sym other ∙ s)) (space_at line space.0 space.1 space.2 space.3 space.4 space.5))))))

least_head : (came : Bool) (line : List ℕ) → HasNoHead line → Within 7 (line_code came line)
least_head came line h =
    word_first came line 7 0 (omega arith) h.0 (
    pick (not (has_ten_fields line)) _ _ (Within 7) (λ _. (omega arith, omega arith)) (λ _.
    pick (not (is_id (field 0 line))) _ _ (Within 7) (λ _. (omega arith, omega arith)) (λ _.
    pick (has_spaced_field line) _ _ (Within 7) (λ _. (omega arith, omega arith)) (λ _.
    pick (not (is_head (field 6 line))) _ _ (Within 7) (λ _. (omega arith, omega arith)) (λ d. absurd (h.2 (held _ _ (head_decides (field 6 line)) d)))))))

comment_filled : (line : List ℕ) → IsComment line → IsBlank line → ⊥
comment_filled [] h e = absurd cc
comment_filled (b ∷ bs) h e = absurd cc

least_comment : (came : Bool) (line : List ℕ) → IsLateComment came line → Within 8 (line_code came line)
least_comment came line h =
    text_first line 8 _ (omega arith) (
    pick (is_empty line) _ _ (Within 8) (λ e. absurd (comment_filled line h.0 ((blank_decides line).0 e))) (λ _.
    pick (is_comment line) _ _ (Within 8)
    (λ _. pick came _ _ (Within 8) (λ _. (omega arith, omega arith)) (λ c. absurd (true≢false (sym h.1 ∙ c))))
    (λ m. absurd (not_from_Decides _ (comment_decides line) m h.0))))

least_blank : (came : Bool) (line : List ℕ) → IsEarlyBlank came line → Within 9 (line_code came line)
least_blank came line h =
    text_first line 9 _ (omega arith) (
    pick (is_empty line) _ _ (Within 9)
    (λ _. pick came _ _ (Within 9) (λ c. absurd (true≢false (sym c ∙ h.1))) (λ _. (omega arith, omega arith)))
    (λ e. absurd (not_from_Decides _ (blank_decides line) e h.0)))

least_code : (came : Bool) (line : List ℕ) (code : ℕ) → HasCode came line code → Within code (line_code came line)
least_code came line code (inl h) = subst (λ d. Within d (line_code came line)) (sym h.0) (least_utf8 came line h.1)
least_code came line code (inr (inl h)) = subst (λ d. Within d (line_code came line)) (sym h.0) (least_nfc came line h.1)
least_code came line code (inr (inr (inl h))) = subst (λ d. Within d (line_code came line)) (sym h.0) (least_control came line h.1)
least_code came line code (inr (inr (inr (inl h)))) = subst (λ d. Within d (line_code came line)) (sym h.0) (least_columns came line h.1)
least_code came line code (inr (inr (inr (inr (inl h))))) = subst (λ d. Within d (line_code came line)) (sym h.0) (least_id came line h.1)
least_code came line code (inr (inr (inr (inr (inr (inl h)))))) = subst (λ d. Within d (line_code came line)) (sym h.0) (least_space came line h.1)
least_code came line code (inr (inr (inr (inr (inr (inr (inl h))))))) = subst (λ d. Within d (line_code came line)) (sym h.0) (least_head came line h.1)
least_code came line code (inr (inr (inr (inr (inr (inr (inr (inl h)))))))) = subst (λ d. Within d (line_code came line)) (sym h.0) (least_comment came line h.1)
least_code came line code (inr (inr (inr (inr (inr (inr (inr (inr h)))))))) = subst (λ d. Within d (line_code came line)) (sym h.0) (least_blank came line h.1)

-- ---- the law

pub none_of_nine : (came : Bool) (line : List ℕ) → line_code came line ≡ 0 ↔ HasNoCode came line
none_of_nine came line = (
  λ e code h. let w = least_code came line code h in absurd (omega (arith, e, w.0)),
  λ none. elim (cases_lt 0 (line_code came line)) [
    | inl some ↦ absurd (none _ (own_code came line some))
    | inr few ↦ omega (arith, few)
  ],
)

pub least_of_nine : (came : Bool) (line : List ℕ) (code : ℕ) → 0 < code → (line_code came line ≡ code) ↔ HasLeastCode came line code
least_of_nine came line code some = (
  λ e. (subst (HasCode came line) e (own_code came line (omega (arith, e, some))), λ lower less h. let w = least_code came line lower h in absurd (omega (arith, e, less, w.1))),
  λ h. let w = least_code came line code h.0 in elim (cases_lt (line_code came line) code) [
    | inl less ↦ absurd (h.1 _ less (own_code came line w.0))
    | inr above ↦ omega (arith, above, w.1)
  ],
)
