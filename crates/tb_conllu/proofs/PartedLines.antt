-- Lines whose fields were parted by marks, and the rows taken of them one after another.
use Rattle.std.proofs.Common.{◌≡◌, ℕ, ◌+◌, ◌-◌, ◌≤◌, List, [], ◌∷◌, ◌++◌, length, take, map, Bool, true, false, ◌&&◌, not, zero, suc, refl, sym, ◌∙◌, ap, subst, arith, append_assoc, append-nil, length-append}
use Rattle.std.specs.Prelude.{◌==◌}
use Rattle.std.specs.List.{list_any, AllByRecursion, join_with_byte}
use Rattle.std.specs.Str.{IsUtf8, chars}
use Rattle.std.proofs.lemmas.Slice.Eq.{bytes_eq-Decides}
use Rattle.unicode_normalization.specs.Forms.{nfc}
use Rattle.std.proofs.Math.Seq.{take-append_seam}
use Rattle.std.proofs.lemmas.Bool.{or_parts, or_from}
use Rattle.std.proofs.lemmas.Bool.Decides.{nat_tests}
use Rattle.std.proofs.lemmas.List.Folds.{list_any-append}
use Rattle.tb_conllu.specs.declared.linetext.Tested.{Tested}
use Rattle.tb_conllu.specs.Lines.{fields, has_ten_fields, is_empty, is_nfc_text}
use Rattle.tb_conllu.specs.Marks.{is_mark}
use Rattle.tb_conllu.specs.Plain.{is_loose, is_wide}
use Rattle.tb_conllu.specs.Refusal.{lines_begun}
use Rattle.tb_conllu.specs.Shape.{IsLineText, IsRowShaped, is_control, is_tab}
use Rattle.tb_conllu.specs.TenFields.{IsParted}
use Rattle.tb_conllu.specs.Tested.{HoldsOf}
use Rattle.tb_conllu.specs.Text.{RowText, BlockText, ended, row_line}
use Rattle.tb_conllu.proofs.Cuts.{Lacks}
use Rattle.tb_conllu.proofs.Held.{after_holds}
use Rattle.tb_conllu.proofs.Parts.{HasNoTab, split_join}
use Rattle.tb_conllu.proofs.Reading.{IsRead, line_read, more_lines}
use Rattle.tb_conllu.proofs.RowLines.{each}
use Rattle.tb_conllu.proofs.Splits.{ten_with}
use Rattle.tb_conllu.proofs.Reported.{all_append, map_append}

-- ---- one line

no_tab : (f : List ℕ) → list_any is_mark f ≡ false → list_any is_tab f ≡ false
no_tab [] h = refl
no_tab (b ∷ f) h =
    let both = or_parts (is_mark b) _ h in
    let here : is_tab b ≡ false = grind (arith, nat_tests) in
    or_from _ _ here (no_tab f both.1)

no_feed : (f : List ℕ) → list_any is_mark f ≡ false → Lacks 10 f
no_feed [] h = refl
no_feed (b ∷ f) h =
    let both = or_parts (is_mark b) _ h in
    let here : (b == 10) ≡ false = grind (arith, nat_tests) in
    or_from _ _ here (no_feed f both.1)

no_feeds : (fs : List (List ℕ)) → AllByRecursion IsParted fs → Lacks 10 (join_with_byte 9 fs)
no_feeds [] h = refl
no_feeds (f ∷ []) h = no_feed f h.0.0
no_feeds (f ∷ g ∷ fs) h =
    list_any-append (λ b. b == 10) f (9 ∷ join_with_byte 9 (g ∷ fs)) ∙ or_from _ _ (no_feed f h.0.0) (no_feeds (g ∷ fs) h.1)

none_empty : (fs : List (List ℕ)) → AllByRecursion IsParted fs → list_any is_empty fs ≡ false
none_empty [] h = refl
none_empty (f ∷ fs) h = or_from _ _ h.0.1 (none_empty fs h.1)

-- a line of ten parted fields has these fields
pub parted : (line a b c d e f g h k l : List ℕ) → AllByRecursion IsParted (a ∷ b ∷ c ∷ d ∷ e ∷ f ∷ g ∷ h ∷ k ∷ l ∷ []) → line ≡ join_with_byte 9 (a ∷ b ∷ c ∷ d ∷ e ∷ f ∷ g ∷ h ∷ k ∷ l ∷ [])
    → Lacks 10 line × (has_ten_fields line ≡ true) × (fields line ≡ a ∷ b ∷ c ∷ d ∷ e ∷ f ∷ g ∷ h ∷ k ∷ l ∷ [])
parted line a b c d e f g h k l all same =
    let fs : List (List ℕ) = a ∷ b ∷ c ∷ d ∷ e ∷ f ∷ g ∷ h ∷ k ∷ l ∷ [] in
    let apart : fields line ≡ fs = ap fields same ∙ split_join a (b ∷ c ∷ d ∷ e ∷ f ∷ g ∷ h ∷ k ∷ l ∷ []) (each {P = IsParted} {Q = HasNoTab} (λ x p. no_tab x p.0) fs all) in (
      ap (list_any (λ x. x == 10)) same ∙ no_feeds fs all,
      ten_with line a b c d e f g h k l apart ∙ ap not (none_empty fs all),
      apart,
    )

-- what stands before the line feed of a line that was passed by
pub passed_line : (old unread left new line cut : List ℕ) → unread ≡ old → left ≡ new → old ≡ line ++ 10 ∷ new → cut ≡ take ((length unread - length left) - 1) unread → cut ≡ line
passed_line old unread left new line cut e f whole is =
    let all : unread ≡ line ++ 10 ∷ new = e ∙ whole in
    let n : (length unread - length left) - 1 ≡ length line = omega (arith, ap length all, length-append line (10 ∷ new), ap length f) in
    is ∙ ap (λ k. take k unread) n ∙ ap (take (length line)) all ∙ take-append_seam line (10 ∷ new)

-- a text that is composed and has no control characters may stand in a line
pub quiet_text : (line : List ℕ) → IsUtf8 line → is_nfc_text line ≡ true → list_any is_control line ≡ false → IsLineText line
quiet_text line u n h = record { utf8 = u; nfc = (bytes_eq-Decides (nfc (chars line)) (chars line)).0 n; clean = h }

front_passes : (p : ℕ → Bool) (xs ys : List ℕ) (n : ℕ) → length xs ≤ n → list_any p (take n (xs ++ ys)) ≡ false → list_any p xs ≡ false
front_passes p [] ys n l h = refl
front_passes p (x ∷ xs) ys zero l h = absurd (omega (arith, l))
front_passes p (x ∷ xs) ys (suc n) l h =
    let both = or_parts (p x) _ h in
    or_from _ _ both.0 (front_passes p xs ys n (omega (arith, l)) both.1)

narrow : (line : List ℕ) → Lacks 10 line → list_any is_wide line ≡ false → list_any is_loose line ≡ false
narrow [] k h = refl
narrow (b ∷ line) k h =
    let feeds = or_parts (b == 10) _ k in
    let both = or_parts (is_wide b) _ h in
    let here : is_loose b ≡ false = and_not (is_loose b) (b == 10) both.0 feeds.0 in
    or_from _ _ here (narrow line feeds.1 both.1)
  where
    and_not : (loose feed : Bool) → (loose && not feed) ≡ false → feed ≡ false → loose ≡ false
    and_not false feed h k = refl
    and_not true false h k = h
    and_not true true h k = k

-- a line has no byte that white space may begin with, where what it stands in has none so far
pub tight_near : (unread line rest : List ℕ) (n : ℕ) → unread ≡ line ++ 10 ∷ rest → Lacks 10 line → length line ≤ n → list_any is_wide (take n unread) ≡ false → list_any is_loose line ≡ false
tight_near unread line rest n whole cut l h = narrow line cut (front_passes is_wide line (10 ∷ rest) n l (ap (λ x. list_any is_wide (take n x)) (sym whole) ∙ h))

-- ---- rows one after another

-- these rows, and what follows their lines, are the text; the sentence has them
abbrev pub AreTaken : BlockText → BlockText → List ℕ → List ℕ → Type 0
AreTaken old new text left = (rs : List RowText) × AllByRecursion IsRowShaped rs × (new ≡ record { comments = old.comments; rows = old.rows ++ rs }) × (text ≡ ended (map row_line rs) ++ left)

with_none : (block : BlockText) → record { comments = block.comments; rows = block.rows ++ [] } ≡ block
with_none block = let with_rows : List RowText → BlockText = λ xs. record { comments = block.comments; rows = xs } in ap with_rows (append-nil block.rows)

pub none_taken : (block : BlockText) (text : List ℕ) → AreTaken block block text text
none_taken block text = ([], tt, sym (with_none block), refl)

pub one_taken : (old now new : BlockText) (text left after : List ℕ) (r : RowText) → AreTaken old now text left → IsRowShaped r → new ≡ record { comments = now.comments; rows = now.rows ++ r ∷ [] } → left ≡ row_line r ++ 10 ∷ after → AreTaken old new text after
one_taken old now new text left after r taken shaped made cut =
    let rs : List RowText = taken.0 in
    let with_row : BlockText → BlockText = λ b. record { comments = b.comments; rows = b.rows ++ r ∷ [] } in
    let with_rows : List RowText → BlockText = λ xs. record { comments = old.comments; rows = xs } in (
      rs ++ r ∷ [],
      all_append IsRowShaped rs (r ∷ []) taken.1 (shaped, tt),
      made ∙ ap with_row taken.2 ∙ ap with_rows (append_assoc old.rows rs (r ∷ [])),
      taken.3 ∙ ap (λ x. ended (map row_line rs) ++ x) cut ∙ sym (more_lines (map row_line rs) (row_line r) after) ∙ ap (λ ls. ended ls ++ after) (sym (map_append row_line rs (r ∷ []))),
    )

-- what was told of all bytes holds of what follows rows
pub rows_hold : (t : Tested) (rs : List RowText) (text left : List ℕ) → HoldsOf t text → text ≡ ended (map row_line rs) ++ left → HoldsOf t left
rows_hold t [] text left h e = subst (HoldsOf t) e h
rows_hold t (r ∷ rs) text left h e =
    let more : List ℕ = ended (map row_line rs) ++ left in
    let cut : text ≡ row_line r ++ 10 ∷ more = e ∙ simp append_assoc in
    rows_hold t rs more left (after_holds t text (row_line r) more h cut) refl

-- a sentence of which rows were taken that follow its lines
pub rows_read : (bytes : List ℕ) (line : ℕ) (old new : BlockText) (text left : List ℕ) (at : ℕ) (rs : List RowText) → IsRead bytes line old text at → AllByRecursion IsRowShaped rs → new ≡ record { comments = old.comments; rows = old.rows ++ rs } → text ≡ ended (map row_line rs) ++ left
    → IsRead bytes line new left (at + (length new.rows - length old.rows))
rows_read bytes line old new text left at [] read shaped made cut =
    let same : new ≡ old = made ∙ with_none old in
    let none : at + (length new.rows - length old.rows) ≡ at = omega (arith, ap (λ (b : BlockText). length b.rows) same) in
    let P : BlockText → Type 0 = λ b. IsRead bytes line b left at in
    let Q : ℕ → Type 0 = λ n. IsRead bytes line new left n in
    subst Q (sym none) (subst P (sym same) (subst (λ x. IsRead bytes line old x at) cut read))
rows_read bytes line old new text left at (r ∷ rs) read shaped made cut =
    let more : List ℕ = ended (map row_line rs) ++ left in
    let next : BlockText = record { comments = old.comments; rows = old.rows ++ r ∷ [] } in
    let first : text ≡ row_line r ++ 10 ∷ more = cut ∙ simp append_assoc in
    let lines : lines_begun next ≡ lines_begun old ++ row_line r ∷ [] = ap (λ ls. old.comments ++ ls) (map_append row_line old.rows (r ∷ [])) ∙ sym (append_assoc old.comments (map row_line old.rows) (row_line r ∷ [])) in
    let one = line_read bytes line old next text (row_line r) more at read first lines (λ s. record { done = s.done; comments = s.comments; rows = all_append IsRowShaped old.rows (r ∷ []) s.rows (shaped.0, tt) }) in
    let with_rows : List RowText → BlockText = λ xs. record { comments = old.comments; rows = xs } in
    let all = rows_read bytes line next new more left (at + 1) rs one shaped.1 (made ∙ ap with_rows (sym (append_assoc old.rows (r ∷ []) rs))) refl in
    let long = ap (λ (b : BlockText). length b.rows) made ∙ length-append old.rows (r ∷ rs) in
    let step : (at + 1) + (length new.rows - length (old.rows ++ r ∷ [])) ≡ at + (length new.rows - length old.rows) = omega (arith, long, length-append old.rows (r ∷ [])) in
    let Q : ℕ → Type 0 = λ n. IsRead bytes line new left n in
    subst Q step all
