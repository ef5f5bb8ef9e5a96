-- Texts joined by tabs: what may stand in the line may stand in its parts, and the other way round.
use Rattle.std.proofs.Common.{◌≡◌, ℕ, ◌+◌, ◌<◌, List, [], ◌∷◌, ◌++◌, length, true, false, ◌||◌, refl, sym, ◌∙◌, ap, subst, arith, take, drop, length-append, get_or, inl, inr, lit<, suc, add-one}
use Rattle.std.specs.Prelude.{◌==◌}
use Rattle.std.specs.List.{list_any, AllByRecursion, slice_split, onto_first, join_with_byte}
use Rattle.std.specs.Str.{IsUtf8, chars}
use Rattle.std.proofs.lemmas.Bool.{or_parts, or_from, cond-true, cond-false, both_ways, cases_Bool, eqb-true}
use Rattle.std.proofs.lemmas.Str.{IsUtf8-append, IsUtf8-nil, IsUtf8-take, IsUtf8-drop, IsCharBoundary-before_ascii, IsCharBoundary-after_ascii, chars-append, chars-nil, encodes-chars, encode_ascii}
use Rattle.std.proofs.lemmas.List.Folds.{list_any-append}
use Rattle.std.proofs.lemmas.List.Splits.{join_with_byte-slice_split}
use Rattle.unicode_normalization.specs.Forms.{IsInForm, Nfc}
use Rattle.unicode_normalization.proofs.FormsLemmas.{normalize-nil}
use Rattle.tb_conllu.specs.Shape.{IsLineText, is_control, is_tab}
use Rattle.tb_conllu.specs.Lines.{fields}
use Rattle.tb_conllu.proofs.Cuts.{Lacks}
use Rattle.tb_conllu.proofs.Tabs.{tab_parts}
use lib.Utf8.{encodes, encode}

-- ---- cut at a byte

pub split_at : (c : ℕ) (f rest : List ℕ) → Lacks c f → slice_split (λ b. b == c) (f ++ c ∷ rest) ≡ f ∷ slice_split (λ b. b == c) rest
split_at c [] rest h = let e : (c == c) ≡ true = grind arith in cond-true (c == c) _ _ e
split_at c (x ∷ f) rest h =
    let parts = or_parts (x == c) _ h in
    cond-false (x == c) _ _ parts.0 ∙ ap (onto_first x) (split_at c f rest parts.1)

pub split_last : (c : ℕ) (f : List ℕ) → Lacks c f → slice_split (λ b. b == c) f ≡ f ∷ []
split_last c [] h = refl
split_last c (x ∷ f) h =
    let parts = or_parts (x == c) _ h in
    cond-false (x == c) _ _ parts.0 ∙ ap (onto_first x) (split_last c f parts.1)

-- a text that holds no tab
abbrev pub HasNoTab : List ℕ → Type 0
HasNoTab f = list_any is_tab f ≡ false

-- the fields of joined texts are these texts
pub split_join : (f : List ℕ) (fs : List (List ℕ)) → AllByRecursion HasNoTab (f ∷ fs) → fields (join_with_byte 9 (f ∷ fs)) ≡ f ∷ fs
split_join f [] h = split_last 9 f h.0
split_join f (g ∷ fs) h = split_at 9 f (join_with_byte 9 (g ∷ fs)) h.0 ∙ ap (λ l. f ∷ l) (split_join g fs h.1)

-- the fields of a line, joined, are the line
pub join_split : (line : List ℕ) → join_with_byte 9 (fields line) ≡ line
join_split line = join_with_byte-slice_split 9 line

onto_lacks : (x : ℕ) (fs : List (List ℕ)) → is_tab x ≡ false → AllByRecursion HasNoTab fs → AllByRecursion HasNoTab (onto_first x fs)
onto_lacks x [] t h = (or_from (is_tab x) false t refl, tt)
onto_lacks x (f ∷ fs) t h = (or_from (is_tab x) (list_any is_tab f) t h.0, h.1)

-- no field of a line holds a tab
pub fields_lack : (line : List ℕ) → AllByRecursion HasNoTab (fields line)
fields_lack [] = (refl, tt)
fields_lack (x ∷ line) =
    let P : List (List ℕ) → Type 0 = AllByRecursion HasNoTab in
    elim (cases_Bool (is_tab x)) [
      | inl hit ↦ subst P (sym (cond-true (is_tab x) _ _ hit)) (refl, fields_lack line)
      | inr miss ↦ subst P (sym (cond-false (is_tab x) _ _ miss)) (onto_lacks x (fields line) miss (fields_lack line))
    ]

-- ---- what a tab parts

tab_utf8 : IsUtf8 (9 ∷ [])
unfolding lib.Utf8.encode
tab_utf8 = (9 ∷ [], (refl, refl))

tab_chars : chars (9 ∷ []) ≡ 9 ∷ []
unfolding chars
tab_chars = refl

take_front : (f rest : List ℕ) → take (length f) (f ++ rest) ≡ f
take_front [] rest = refl
take_front (x ∷ f) rest = ap (λ l. x ∷ l) (take_front f rest)

drop_front : (f rest : List ℕ) (c : ℕ) → drop (length f + 1) (f ++ c ∷ rest) ≡ rest
drop_front f rest c = rw add-one (drop_more f)
  where
    drop_more : (f : List ℕ) → drop (suc (length f)) (f ++ c ∷ rest) ≡ rest
    drop_more [] = refl
    drop_more (x ∷ f) = drop_more f

at_front : (f rest : List ℕ) (c : ℕ) → get_or (f ++ c ∷ rest) (length f) 0 ≡ c
at_front [] rest c = refl
at_front (x ∷ f) rest c = at_front f rest c

utf8_parts : (f rest : List ℕ) → IsUtf8 (f ++ 9 ∷ rest) → IsUtf8 f × IsUtf8 rest
utf8_parts f rest h =
    let whole : List ℕ = f ++ 9 ∷ rest in
    let here = at_front f rest 9 in
    let n = length-append f (9 ∷ rest) in
    let inside : length f < length (f ++ 9 ∷ rest) = omega (arith, n) in
    let low : get_or (f ++ 9 ∷ rest) (length f) 0 < 128 = omega (arith, here) in
    let P : List ℕ → Type 0 = IsUtf8 in (
      subst P (take_front f (9 ∷ rest)) (IsUtf8-take (f ++ 9 ∷ rest) (length f) h (IsCharBoundary-before_ascii (f ++ 9 ∷ rest) (length f) inside low)),
      subst P (drop_front f rest 9) (IsUtf8-drop (f ++ 9 ∷ rest) (length f + 1) h (IsCharBoundary-after_ascii (f ++ 9 ∷ rest) (length f) h inside low)),
    )

utf8_joined : (f rest : List ℕ) → IsUtf8 f → IsUtf8 rest → IsUtf8 (f ++ 9 ∷ rest)
utf8_joined f rest hf hr = IsUtf8-append f (9 ∷ rest) hf (IsUtf8-append (9 ∷ []) rest tab_utf8 hr)

chars_parts : (f rest : List ℕ) → IsUtf8 f → chars (f ++ 9 ∷ rest) ≡ chars f ++ 9 ∷ chars rest
chars_parts f rest h = chars-append f (9 ∷ rest) h ∙ ap (λ l. chars f ++ l) (chars-append (9 ∷ []) rest tab_utf8 ∙ ap (λ l. l ++ chars rest) tab_chars)

-- a character below 128 that passes a test is a byte that does
chars_tab : (cs : List ℕ) → list_any is_tab (encodes cs) ≡ false → list_any is_tab cs ≡ false
chars_tab [] h = refl
chars_tab (c ∷ cs) h =
    let parts = or_parts (list_any is_tab (encode c)) (list_any is_tab (encodes cs)) (sym (list_any-append is_tab (encode c) (encodes cs)) ∙ h) in
    or_from (is_tab c) (list_any is_tab cs) (elim (cases_Bool (is_tab c)) [
      | inr miss ↦ miss
      | inl hit ↦
          let same : c ≡ 9 = eqb-true c 9 hit in
          let one : encode c ≡ 9 ∷ [] = ap encode same ∙ encode_ascii 9 (lit< tt) in
          absurd (both_ways (list_any is_tab (encode c)) parts.0 (ap (list_any is_tab) one))
    ]) (chars_tab cs parts.1)

pub chars_no_tab : (f : List ℕ) → IsUtf8 f → HasNoTab f → list_any is_tab (chars f) ≡ false
chars_no_tab f u h = chars_tab (chars f) (ap (list_any is_tab) (encodes-chars f u) ∙ h)

clean_parts : (f rest : List ℕ) → list_any is_control (f ++ 9 ∷ rest) ≡ (list_any is_control f || list_any is_control rest)
clean_parts f rest = list_any-append is_control f (9 ∷ rest)

-- a text with a tab may stand in a line where its parts on both sides may
pub line_joined : (f rest : List ℕ) → HasNoTab f → IsLineText f → IsLineText rest → IsLineText (f ++ 9 ∷ rest)
line_joined f rest t hf hr =
    let P : List ℕ → Type 0 = IsInForm Nfc in
    record {
      utf8 = utf8_joined f rest hf.utf8 hr.utf8;
      nfc = subst P (sym (chars_parts f rest hf.utf8)) ((tab_parts (chars f) (chars rest) (chars_no_tab f hf.utf8 t)).1 (hf.nfc, hr.nfc));
      clean = clean_parts f rest ∙ or_from _ _ hf.clean hr.clean;
    }

-- and only there
pub line_parts : (f rest : List ℕ) → HasNoTab f → IsLineText (f ++ 9 ∷ rest) → IsLineText f × IsLineText rest
line_parts f rest t h =
    let P : List ℕ → Type 0 = IsInForm Nfc in
    let u = utf8_parts f rest h.utf8 in
    let n = (tab_parts (chars f) (chars rest) (chars_no_tab f u.0 t)).0 (subst P (chars_parts f rest u.0) h.nfc) in
    let c = or_parts (list_any is_control f) (list_any is_control rest) (sym (clean_parts f rest) ∙ h.clean) in
    (record { utf8 = u.0; nfc = n.0; clean = c.0 }, record { utf8 = u.1; nfc = n.1; clean = c.1 })

-- ---- the whole line

pub nil_text : IsLineText []
nil_text =
    let P : List ℕ → Type 0 = IsInForm Nfc in
    record { utf8 = IsUtf8-nil; nfc = subst P (sym chars-nil) (normalize-nil Nfc); clean = refl }

-- texts with no tab that may each stand in a line may stand there joined by tabs
pub line_from_parts : (fs : List (List ℕ)) → AllByRecursion HasNoTab fs → AllByRecursion IsLineText fs → IsLineText (join_with_byte 9 fs)
line_from_parts [] t h = nil_text
line_from_parts (f ∷ []) t h = h.0
line_from_parts (f ∷ g ∷ fs) t h = line_joined f (join_with_byte 9 (g ∷ fs)) t.0 h.0 (line_from_parts (g ∷ fs) t.1 h.1)

-- and the other way round
pub parts_from_line : (fs : List (List ℕ)) → AllByRecursion HasNoTab fs → IsLineText (join_with_byte 9 fs) → AllByRecursion IsLineText fs
parts_from_line [] t h = tt
parts_from_line (f ∷ []) t h = (h, tt)
parts_from_line (f ∷ g ∷ fs) t h =
    let p = line_parts f (join_with_byte 9 (g ∷ fs)) t.0 h in
    (p.0, parts_from_line (g ∷ fs) t.1 p.1)

-- each field of a line that may stand in a file may stand there
pub fields_text : (line : List ℕ) → IsLineText line → AllByRecursion IsLineText (fields line)
fields_text line h =
    let P : List ℕ → Type 0 = IsLineText in
    parts_from_line (fields line) (fields_lack line) (subst P (sym (join_split line)) h)

utf8_from_line : (fs : List (List ℕ)) → IsUtf8 (join_with_byte 9 fs) → AllByRecursion IsUtf8 fs
utf8_from_line [] h = tt
utf8_from_line (f ∷ []) h = (h, tt)
utf8_from_line (f ∷ g ∷ fs) h =
    let p = utf8_parts f (join_with_byte 9 (g ∷ fs)) h in
    (p.0, utf8_from_line (g ∷ fs) p.1)

-- each field of a line that is UTF-8 is
pub fields_utf8 : (line : List ℕ) → IsUtf8 line → AllByRecursion IsUtf8 (fields line)
fields_utf8 line h =
    let P : List ℕ → Type 0 = IsUtf8 in
    utf8_from_line (fields line) (subst P (sym (join_split line)) h)
