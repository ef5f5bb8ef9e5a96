-- Lines without a code are those of sentences and of a sentence begun; the first line with a code is the one reported.
use Rattle.std.proofs.Common.{◌≡◌, ◌⊎◌, inl, inr, ℕ, ◌+◌, ◌<◌, List, [], ◌∷◌, ◌++◌, length, Bool, true, false, not, cond, map, refl, sym, ◌∙◌, ap, subst, arith, append_assoc, append-nil}
use Rattle.std.specs.Prelude.{◌==◌, chars, slice_index_or}
use Rattle.std.specs.List.{list_any, AllByRecursion}
use Rattle.std.specs.Str.{is_utf8}
use Rattle.std.proofs.lemmas.Bool.{and_parts, cond-false, cond-true, eqb-true}
use Rattle.std.proofs.lemmas.Bool.Decides.{nat_tests}
use Rattle.std.proofs.lemmas.List.Concat.{flat_map-append}
use Rattle.std.proofs.lemmas.Slice.Eq.{bytes_eq-Decides}
use Rattle.std.proofs.lemmas.Str.{IsUtf8-from_is_utf8}
use Rattle.unicode_normalization.specs.Forms.{nfc}
use Rattle.tb_conllu.specs.Text.{RowText, BlockText, block_lines, ended, lines_of, row_line}
use Rattle.tb_conllu.specs.Shape.{IsCommentText, IsLineText, IsRowShaped, IsShaped, is_control}
use Rattle.tb_conllu.specs.Lines.{came_after, came_through, fields, field, has_spaced_field, has_ten_fields, is_comment, is_empty, is_head, is_id, is_nfc_text, line_code, word_code}
use Rattle.tb_conllu.specs.Begun.{BegunText, IsSound, has_rows, lines_so_far}
use Rattle.tb_conllu.specs.Reported.{IsFile, IsLine, AreLines, IsReported}
use Rattle.tb_conllu.specs.FaultyLines.{AreFaultyLines, end_code, fault_at, is_closed, line_faults}
use Rattle.tb_conllu.specs.declared.faulty.FaultyLine.{FaultyLine}
use Rattle.tb_conllu.proofs.Ends.{begun_filled, end_reported, line_reported}
use Rattle.tb_conllu.proofs.Faults.{ended_more}
use Rattle.tb_conllu.proofs.Nine.{head_text_is, id_text_is}
use Rattle.tb_conllu.proofs.Reported.{all_append, came_so_far, map_append}
use Rattle.tb_conllu.proofs.RowCodes.{row_fits, row_ok}
use Rattle.tb_conllu.proofs.RowLines.{text_code}
use Rattle.tb_conllu.proofs.Told.{closed_last}

-- ---- a line without a code

passed : (b : Bool) (n m : ℕ) → 0 < n → cond b n m ≡ 0 → (b ≡ false) × (m ≡ 0)
passed true n m some e = absurd (let d : n ≡ 0 = e in omega (arith, some, d))
passed false n m some e = (refl, e)

holds : (b : Bool) → not b ≡ false → b ≡ true
holds true e = refl
holds false e = absurd (let d : true ≡ false = e in cc)

-- a line without a code is a text that a line may have
clean_text : (came : Bool) (l : List ℕ) → line_code came l ≡ 0 → IsLineText l
clean_text came l e =
    let utf8 = passed (not (is_utf8 l)) 1 _ (omega arith) e in
    let composed = passed (not (is_nfc_text l)) 2 _ (omega arith) utf8.1 in
    let quiet = passed (list_any is_control l) 3 _ (omega arith) composed.1 in
    record {
      utf8 = IsUtf8-from_is_utf8 l (holds (is_utf8 l) utf8.0);
      nfc = (bytes_eq-Decides (nfc (chars l)) (chars l)).0 (holds (is_nfc_text l) composed.0);
      clean = quiet.0;
    }

at : List (List ℕ) → ℕ → List ℕ
at fs k = slice_index_or fs k []

ten : (fs : List (List ℕ)) → length fs ≡ 10
    → fs ≡ at fs 0 ∷ at fs 1 ∷ at fs 2 ∷ at fs 3 ∷ at fs 4 ∷ at fs 5 ∷ at fs 6 ∷ at fs 7 ∷ at fs 8 ∷ at fs 9 ∷ []
unfolding at
ten [] e = absurd (omega (arith, e))
ten (a ∷ []) e = absurd (omega (arith, e))
ten (a ∷ b ∷ []) e = absurd (omega (arith, e))
ten (a ∷ b ∷ c ∷ []) e = absurd (omega (arith, e))
ten (a ∷ b ∷ c ∷ d ∷ []) e = absurd (omega (arith, e))
ten (a ∷ b ∷ c ∷ d ∷ f ∷ []) e = absurd (omega (arith, e))
ten (a ∷ b ∷ c ∷ d ∷ f ∷ g ∷ []) e = absurd (omega (arith, e))
ten (a ∷ b ∷ c ∷ d ∷ f ∷ g ∷ h ∷ []) e = absurd (omega (arith, e))
ten (a ∷ b ∷ c ∷ d ∷ f ∷ g ∷ h ∷ i ∷ []) e = absurd (omega (arith, e))
ten (a ∷ b ∷ c ∷ d ∷ f ∷ g ∷ h ∷ i ∷ j ∷ []) e = absurd (omega (arith, e))
ten (a ∷ b ∷ c ∷ d ∷ f ∷ g ∷ h ∷ i ∷ j ∷ k ∷ []) e = refl
ten (a ∷ b ∷ c ∷ d ∷ f ∷ g ∷ h ∷ i ∷ j ∷ k ∷ l ∷ ls) e = absurd (omega (arith, e))

-- the row of a word line without a code
row_spelled : (l : List ℕ) → IsLineText l → word_code l ≡ 0 → (r : RowText) × IsRowShaped r × (row_line r ≡ l)
unfolding at
row_spelled l text e =
    let columns = passed (not (has_ten_fields l)) 4 _ (omega arith) e in
    let number = passed (not (is_id (field 0 l))) 5 _ (omega arith) columns.1 in
    let space = passed (has_spaced_field l) 6 _ (omega arith) number.1 in
    let above = passed (not (is_head (field 6 l))) 7 0 (omega arith) space.1 in
    let full = holds (has_ten_fields l) columns.0 in
    let fs = ten (fields l) (eqb-true _ 10 (and_parts _ _ full).0) in
    let first = holds (is_id (field 0 l)) number.0 in
    let seventh = holds (is_head (field 6 l)) above.0 in
    let id = id_text_is (field 0 l) first in
    let head = head_text_is (field 6 l) seventh in
    let same = row_ok l (field 0 l) (field 1 l) (field 2 l) (field 3 l) (field 4 l) (field 5 l) (field 6 l) (field 7 l) (field 8 l) (field 9 l) id.0 head.0 full fs first (sym id.2) space.0 seventh (sym head.2) in
    let shaped = row_fits l (field 0 l) (field 1 l) (field 2 l) (field 3 l) (field 4 l) (field 5 l) (field 6 l) (field 7 l) (field 8 l) (field 9 l) id.0 head.0 full fs (sym id.2) id.1 space.0 (sym head.2) head.1 text in
    (record { id = id.0; form = field 1 l; lemma = field 2 l; upos = field 3 l; xpos = field 4 l; feats = field 5 l; head = head.0; deprel = field 7 l; deps = field 8 l; misc = field 9 l }, shaped, same.1)

-- ---- one more line without a code

-- the lines so far with one more
record Grows (b : BegunText) (l : List ℕ) : Type 0 where
  pub next : BegunText
  pub sound : IsSound next
  pub lines : lines_so_far next ≡ lines_so_far b ++ l ∷ []
  pub came : has_rows next.rows ≡ came_after (has_rows b.rows) l

-- a blank line ends a sentence
grows_blank : (done : List BlockText) (cs : List (List ℕ)) (rs : List RowText) → IsSound (record { done = done; comments = cs; rows = rs }) → cond {A = ℕ} (has_rows rs) 0 9 ≡ 0
    → Grows (record { done = done; comments = cs; rows = rs }) []
grows_blank done cs [] h e = absurd (let d : 9 ≡ 0 = e in omega (arith, d))
grows_blank done cs (r ∷ rs) h e =
    let block : BlockText = record { comments = cs; rows = r ∷ rs } in
    let last : lines_of (block ∷ []) ≡ cs ++ (map row_line (r ∷ rs) ++ [] ∷ []) = append-nil (block_lines block) in
    record {
      next = record { done = done ++ block ∷ []; comments = []; rows = [] };
      sound = record { done = all_append IsShaped done (block ∷ []) h.done (record { comments = h.comments; rows = h.rows; nonempty = omega arith }, tt); comments = tt; rows = tt };
      lines = append-nil (lines_of (done ++ block ∷ [])) ∙ flat_map-append block_lines done (block ∷ []) ∙ ap (λ (ls : List (List ℕ)). lines_of done ++ ls) last
          ∙ ap (λ (ls : List (List ℕ)). lines_of done ++ ls) (sym (append_assoc cs (map row_line (r ∷ rs)) ([] ∷ []))) ∙ sym (append_assoc (lines_of done) (cs ++ map row_line (r ∷ rs)) ([] ∷ []));
      came = refl;
    }

hash : (l : List ℕ) → IsLineText l → is_comment l ≡ true → IsCommentText l
hash l text e = record { text = text; hash = (bytes_eq-Decides _ (35 ∷ [])).0 e }

-- a comment comes before the rows
grows_comment : (done : List BlockText) (cs : List (List ℕ)) (rs : List RowText) (l : List ℕ) → IsSound (record { done = done; comments = cs; rows = rs }) → IsCommentText l → cond {A = ℕ} (has_rows rs) 8 0 ≡ 0
    → came_after (has_rows rs) l ≡ has_rows rs → Grows (record { done = done; comments = cs; rows = rs }) l
grows_comment done cs (r ∷ rs) l h text e same = absurd (let d : 8 ≡ 0 = e in omega (arith, d))
grows_comment done cs [] l h text e same = record {
  next = record { done = done; comments = cs ++ l ∷ []; rows = [] };
  sound = record { done = h.done; comments = all_append IsCommentText cs (l ∷ []) h.comments (text, tt); rows = tt };
  lines = ap (λ (ls : List (List ℕ)). lines_of done ++ ls) (append-nil (cs ++ l ∷ []) ∙ ap (λ (ls : List (List ℕ)). ls ++ l ∷ []) (sym (append-nil cs))) ∙ sym (append_assoc (lines_of done) (cs ++ []) (l ∷ []));
  came = sym same;
}

more_rows : (rs : List RowText) (r : RowText) → has_rows (rs ++ r ∷ []) ≡ true
more_rows [] r = refl
more_rows (q ∷ rs) r = refl

grows_row : (b : BegunText) (l : List ℕ) (r : RowText) → IsSound b → IsRowShaped r → row_line r ≡ l → came_after (has_rows b.rows) l ≡ true → Grows b l
grows_row b l r h shaped same came = record {
  next = record { done = b.done; comments = b.comments; rows = b.rows ++ r ∷ [] };
  sound = record { done = h.done; comments = h.comments; rows = all_append IsRowShaped b.rows (r ∷ []) h.rows (shaped, tt) };
  lines = ap (λ (ls : List (List ℕ)). lines_of b.done ++ (b.comments ++ ls)) (map_append row_line b.rows (r ∷ []) ∙ ap (λ (t : List ℕ). map row_line b.rows ++ t ∷ []) same)
      ∙ ap (λ (ls : List (List ℕ)). lines_of b.done ++ ls) (sym (append_assoc b.comments (map row_line b.rows) (l ∷ []))) ∙ sym (append_assoc (lines_of b.done) (b.comments ++ map row_line b.rows) (l ∷ []));
  came = more_rows b.rows r ∙ sym came;
}

empty_is : (l : List ℕ) → is_empty l ≡ true → l ≡ []
empty_is [] e = refl
empty_is (x ∷ l) e = absurd (let d : false ≡ true = e in cc)

grows_by : (b : BegunText) (l : List ℕ) (blank hashed : Bool) → IsSound b → IsLineText l → is_empty l ≡ blank → is_comment l ≡ hashed
    → cond {A = ℕ} blank (cond (has_rows b.rows) 0 9) (cond hashed (cond (has_rows b.rows) 8 0) (word_code l)) ≡ 0 → Grows b l
grows_by b l true hashed h text blank is e =
    let P : List ℕ → Type 0 = Grows b in
    subst P (sym (empty_is l blank)) (grows_blank b.done b.comments b.rows h e)
grows_by b l false true h text blank is e =
    let same : came_after (has_rows b.rows) l ≡ has_rows b.rows = cond-false (is_empty l) _ _ blank ∙ cond-true (is_comment l) _ _ is in
    grows_comment b.done b.comments b.rows l h (hash l text is) e same
grows_by b l false false h text blank is e =
    let r = row_spelled l text e in
    let came : came_after (has_rows b.rows) l ≡ true = cond-false (is_empty l) _ _ blank ∙ cond-false (is_comment l) _ _ is in
    grows_row b l r.0 h r.1 r.2 came

grows : (b : BegunText) (l : List ℕ) → IsSound b → line_code (has_rows b.rows) l ≡ 0 → Grows b l
grows b l h e =
    let text = clean_text (has_rows b.rows) l e in
    grows_by b l (is_empty l) (is_comment l) h text refl refl (sym (text_code (has_rows b.rows) l text) ∙ e)

-- ---- lines without a fault

no_fault : (line code : ℕ) (rest : List FaultyLine) (none : Bool) → (code == 0) ≡ none → cond none [] (record { line = line; code = code } ∷ []) ++ rest ≡ [] → (code ≡ 0) × (rest ≡ [])
no_fault line code rest true is e = (eqb-true code 0 is, e)
no_fault line code rest false is e = absurd cc

-- sentences, and a sentence begun, that have these lines
record AreGrown (b : BegunText) (ls : List (List ℕ)) : Type 0 where
  pub next : BegunText
  pub sound : IsSound next
  pub lines : lines_so_far next ≡ lines_so_far b ++ ls

grown : (n : ℕ) (b : BegunText) (ls : List (List ℕ)) → IsSound b → line_faults n (has_rows b.rows) ls ≡ [] → AreGrown b ls
grown n b [] h e = record { next = b; sound = h; lines = sym (append-nil (lines_so_far b)) }
grown n b (l ∷ ls) h e =
    let here = no_fault (n + 1) (line_code (has_rows b.rows) l) (line_faults (n + 1) (came_after (has_rows b.rows) l) ls) (line_code (has_rows b.rows) l == 0) refl e in
    let one = grows b l h here.0 in
    let P : Bool → Type 0 = λ c. line_faults (n + 1) c ls ≡ [] in
    let all = grown (n + 1) one.next ls one.sound (subst P (sym one.came) here.1) in
    record {
      next = all.next;
      sound = all.sound;
      lines = all.lines ∙ ap (λ (xs : List (List ℕ)). xs ++ ls) one.lines ∙ append_assoc (lines_so_far b) (l ∷ []) ls;
    }

nothing : BegunText
nothing = record { done = []; comments = []; rows = [] }

-- these lines have no fault, so they are those of sentences and of one begun
clean_grown : (ls : List (List ℕ)) → line_faults 0 false ls ≡ [] → (b : BegunText) × IsSound b × (lines_so_far b ≡ ls)
unfolding nothing
clean_grown ls e = let all = grown 0 nothing ls (record { done = tt; comments = tt; rows = tt }) e in (all.next, all.sound, all.lines)

-- ---- the first fault

record IsFirst (n : ℕ) (came : Bool) (ls : List (List ℕ)) (f : FaultyLine) : Type 0 where
  pub before : List (List ℕ)
  pub reported : List ℕ
  pub after : List (List ℕ)
  pub whole : ls ≡ (before ++ reported ∷ []) ++ after
  pub clean : line_faults n came before ≡ []
  pub line : f.line ≡ n + length before + 1
  pub code : f.code ≡ line_code (came_through came before) reported
  pub some : 0 < f.code

nonzero : (code : ℕ) → (code == 0) ≡ false → 0 < code
nonzero code e = grind (arith, nat_tests)

first_here : (n line code : ℕ) (came : Bool) (l : List ℕ) (ls : List (List ℕ)) (rest more : List FaultyLine) (f : FaultyLine) → line ≡ n + 1 → code ≡ line_code came l → (code == 0) ≡ false
    → record { line = line; code = code } ∷ rest ≡ f ∷ more → IsFirst n came (l ∷ ls) f
first_here n line code came l ls rest more f at is some e =
    let same : record { line = line; code = code } ≡ f = cc in
    let there : f.line ≡ line = ap (λ (x : FaultyLine). x.line) (sym same) in
    let least : f.code ≡ code = ap (λ (x : FaultyLine). x.code) (sym same) in
    let more_than : 0 < code = nonzero code some in
    record { before = []; reported = l; after = ls; whole = refl; clean = refl; line = omega (arith, there, at); code = least ∙ is; some = omega (arith, least, more_than) }

first_later : (n : ℕ) (came : Bool) (l : List ℕ) (ls : List (List ℕ)) (f : FaultyLine) → fault_at (n + 1) (line_code came l) ≡ [] → IsFirst (n + 1) (came_after came l) ls f → IsFirst n came (l ∷ ls) f
first_later n came l ls f none h =
    let at = h.line in
    record {
      before = l ∷ h.before;
      reported = h.reported;
      after = h.after;
      whole = ap (λ (x : List (List ℕ)). l ∷ x) h.whole;
      clean = ap (λ (x : List FaultyLine). x ++ line_faults (n + 1) (came_after came l) h.before) none ∙ h.clean;
      line = omega (arith, at);
      code = h.code;
      some = h.some;
    }

-- the first line has no fault, or it has the first one
first_step : (n : ℕ) (came : Bool) (l : List ℕ) (ls : List (List ℕ)) (tail more : List FaultyLine) (f : FaultyLine) (none : Bool) → (line_code came l == 0) ≡ none
    → line_faults n came (l ∷ ls) ++ tail ≡ f ∷ more
    → (line_faults (n + 1) (came_after came l) ls ++ tail ≡ f ∷ more → IsFirst (n + 1) (came_after came l) ls f ⊎ ((line_faults (n + 1) (came_after came l) ls ≡ []) × (tail ≡ f ∷ more)))
    → IsFirst n came (l ∷ ls) f ⊎ ((line_faults n came (l ∷ ls) ≡ []) × (tail ≡ f ∷ more))
first_step n came l ls tail more f true is e rest =
    let later = line_faults (n + 1) (came_after came l) ls in
    let none : fault_at (n + 1) (line_code came l) ≡ [] = cond-true (line_code came l == 0) _ _ is in
    let all : later ++ tail ≡ f ∷ more = sym (ap (λ (x : List FaultyLine). (x ++ later) ++ tail) none) ∙ e in
    elim (rest all) [
      | inl h ↦ inl (first_later n came l ls f none h)
      | inr h ↦ inr (ap (λ (x : List FaultyLine). x ++ later) none ∙ h.0, h.1)
    ]
first_step n came l ls tail more f false is e rest =
    let later = line_faults (n + 1) (came_after came l) ls in
    let one : fault_at (n + 1) (line_code came l) ≡ record { line = n + 1; code = line_code came l } ∷ [] = cond-false (line_code came l == 0) _ _ is in
    let all : record { line = n + 1; code = line_code came l } ∷ (later ++ tail) ≡ f ∷ more = sym (ap (λ (x : List FaultyLine). (x ++ later) ++ tail) one) ∙ e in
    inl (first_here n (n + 1) (line_code came l) came l ls (later ++ tail) more f refl refl is all)

first_of : (n : ℕ) (came : Bool) (ls : List (List ℕ)) (tail more : List FaultyLine) (f : FaultyLine) → line_faults n came ls ++ tail ≡ f ∷ more
    → IsFirst n came ls f ⊎ ((line_faults n came ls ≡ []) × (tail ≡ f ∷ more))
first_of n came [] tail more f e = inr (refl, e)
first_of n came (l ∷ ls) tail more f e = first_step n came l ls tail more f (line_code came l == 0) refl e (first_of (n + 1) (came_after came l) ls tail more f)

-- ---- the end

closed_both : (xs ys : List (List ℕ)) → is_closed xs ≡ true → is_closed ys ≡ true → is_closed (xs ++ ys) ≡ true
closed_both [] ys h k = k
closed_both (x ∷ []) [] h k = h
closed_both (x ∷ []) (y ∷ ys) h k = k
closed_both (x ∷ z ∷ xs) ys h k = closed_both (z ∷ xs) ys h k

-- whole sentences end with a blank line
sentences_closed : (bs : List BlockText) → is_closed (lines_of bs) ≡ true
sentences_closed [] = refl
sentences_closed (b ∷ bs) =
    let one : is_closed (block_lines b) ≡ true = ap is_closed (sym (append_assoc b.comments (map row_line b.rows) ([] ∷ []))) ∙ closed_last (b.comments ++ map row_line b.rows) [] in
    closed_both (block_lines b) (lines_of bs) one (sentences_closed bs)

filled_closed : (ys : List (List ℕ)) → AllByRecursion (λ l. is_empty l ≡ false) ys → is_closed ys ≡ true → ys ≡ []
filled_closed [] h e = refl
filled_closed (y ∷ []) h e = absurd (let d : true ≡ false = sym e ∙ h.0 in cc)
filled_closed (y ∷ z ∷ ys) h e = absurd (let none = filled_closed (z ∷ ys) h.1 e in cc)

closed_tail : (xs ys : List (List ℕ)) → AllByRecursion (λ l. is_empty l ≡ false) ys → is_closed (xs ++ ys) ≡ true → ys ≡ []
closed_tail [] ys h e = filled_closed ys h e
closed_tail (x ∷ []) [] h e = refl
closed_tail (x ∷ []) (y ∷ ys) h e = filled_closed (y ∷ ys) h e
closed_tail (x ∷ z ∷ xs) ys h e = closed_tail (z ∷ xs) ys h e

ended_well : (closed : Bool) (rest : List ℕ) → end_code closed rest ≡ 0 → (closed ≡ true) × (rest ≡ [])
ended_well true [] e = (refl, refl)
ended_well true (x ∷ rest) e = absurd (let d : 10 ≡ 0 = e in omega (arith, d))
ended_well false rest e = absurd (let d : 10 ≡ 0 = e in omega (arith, d))

-- something follows the last blank line
some_left : (done : List BlockText) (cs : List (List ℕ)) (rs : List RowText) (rest : List ℕ) → 0 < end_code (is_closed (lines_of done ++ (cs ++ map row_line rs))) rest → 0 < length cs + length rs + length rest
some_left done (c ∷ cs) rs rest h = omega arith
some_left done [] (r ∷ rs) rest h = omega arith
some_left done [] [] (x ∷ rest) h = omega arith
some_left done [] [] [] h =
    let closed : is_closed (lines_of done ++ []) ≡ true = ap is_closed (append-nil (lines_of done)) ∙ sentences_closed done in
    let none : end_code (is_closed (lines_of done ++ [])) [] ≡ 0 = ap (λ (c : Bool). end_code c []) closed in
    let some : 0 < end_code (is_closed (lines_of done ++ [])) [] = h in
    absurd (omega (arith, some, none))

ten_or_none : (closed : Bool) (rest : List ℕ) → 0 < end_code closed rest → end_code closed rest ≡ 10
ten_or_none true [] h = absurd (let d : 0 < 0 = h in omega (arith, d))
ten_or_none true (x ∷ rest) h = refl
ten_or_none false rest h = refl

one_told : (line code : ℕ) (more : List FaultyLine) (f : FaultyLine) (none : Bool) → (code == 0) ≡ none → cond none [] (record { line = line; code = code } ∷ []) ≡ f ∷ more
    → (0 < code) × (f.line ≡ line) × (f.code ≡ code)
one_told line code more f true is e = absurd cc
one_told line code more f false is e =
    let same : record { line = line; code = code } ≡ f = cc in
    (nonzero code is, ap (λ (x : FaultyLine). x.line) (sym same), ap (λ (x : FaultyLine). x.code) (sym same))

cut_first : (xs ys : List (List ℕ)) → AreLines (xs ++ ys) → AreLines xs
cut_first [] ys h = tt
cut_first (x ∷ xs) ys h = (h.0, cut_first xs ys h.1)

cut_last : (xs : List (List ℕ)) (x : List ℕ) → AreLines (xs ++ x ∷ []) → IsLine x
cut_last [] x h = h.0
cut_last (y ∷ xs) x h = cut_last xs x h.1

-- the first of the faulty lines is the fault that is reported
at_line : (f : List ℕ) (all : List FaultyLine) (x : FaultyLine) (h : AreFaultyLines f all) → IsFirst 0 false h.lines x → IsReported f x.line x.code
at_line f all x h first =
    let b = clean_grown first.before first.clean in
    let came : has_rows b.0.rows ≡ came_through false first.before = sym (came_so_far b.0 b.1) ∙ ap (came_through false) b.2 in
    let C : List (List ℕ) → Type 0 = AreLines in
    let lines : AreLines ((first.before ++ first.reported ∷ []) ++ first.after) = subst C first.whole h.cut in
    let one : IsLine first.reported = cut_last first.before first.reported (cut_first (first.before ++ first.reported ∷ []) first.after lines) in
    let parted : ended h.lines ++ h.rest ≡ ended first.before ++ (first.reported ++ 10 ∷ (ended first.after ++ h.rest)) =
    ap (λ (ls : List (List ℕ)). ended ls ++ h.rest) (first.whole ∙ append_assoc first.before (first.reported ∷ []) first.after)
    ∙ ended_more first.before (first.reported ∷ first.after) h.rest
    ∙ ap (λ (t : List ℕ). ended first.before ++ t) (append_assoc (first.reported ++ 10 ∷ []) (ended first.after) h.rest ∙ append_assoc first.reported (10 ∷ []) (ended first.after ++ h.rest)) in
    let whole : f ≡ ended (lines_so_far b.0) ++ (first.reported ++ 10 ∷ (ended first.after ++ h.rest)) =
    h.whole ∙ parted ∙ ap (λ (ls : List (List ℕ)). ended ls ++ (first.reported ++ 10 ∷ (ended first.after ++ h.rest))) (sym b.2) in
    let told = line_reported f b.0 first.reported (ended first.after ++ h.rest) x.code b.1 one whole (ap (λ (c : Bool). line_code c first.reported) came ∙ sym first.code) first.some in
    let count = ap length b.2 in
    let place = first.line in
    let Q : ℕ → Type 0 = λ n. IsReported f n x.code in
    let same : length (lines_so_far b.0) + 1 ≡ x.line = omega (arith, count, place) in
    subst Q same told

at_end : (f : List ℕ) (all : List FaultyLine) (x : FaultyLine) (more : List FaultyLine) (h : AreFaultyLines f all) → line_faults 0 false h.lines ≡ []
    → fault_at (length h.lines + 1) (end_code (is_closed h.lines) h.rest) ≡ x ∷ more → IsReported f x.line x.code
at_end f all x more h clean e =
    let b = clean_grown h.lines clean in
    let code = end_code (is_closed h.lines) h.rest in
    let told = one_told (length h.lines + 1) code more x (code == 0) refl e in
    let whole : f ≡ ended (lines_so_far b.0) ++ h.rest = h.whole ∙ ap (λ (ls : List (List ℕ)). ended ls ++ h.rest) (sym b.2) in
    let left : 0 < end_code (is_closed (lines_so_far b.0)) h.rest = let same = ap (λ (ls : List (List ℕ)). end_code (is_closed ls) h.rest) b.2 in omega (arith, told.0, same) in
    let some = some_left b.0.done b.0.comments b.0.rows h.rest left in
    let reported = end_reported f b.0 h.rest b.1 h.cut_rest whole some in
    let last : 10 ≡ x.code = sym (ten_or_none (is_closed h.lines) h.rest told.0) ∙ sym told.2 in
    let count = ap length b.2 in
    let place = told.1 in
    let same : length (lines_so_far b.0) + 1 ≡ x.line = omega (arith, count, place) in
    let Q : ℕ → Type 0 = λ n. IsReported f n 10 in
    let R : ℕ → Type 0 = IsReported f x.line in
    subst R last (subst Q same reported)

pub first_reported : (f : List ℕ) (x : FaultyLine) (more : List FaultyLine) → AreFaultyLines f (x ∷ more) → IsReported f x.line x.code
first_reported f x more h =
    elim (first_of 0 false h.lines (fault_at (length h.lines + 1) (end_code (is_closed h.lines) h.rest)) more x (sym h.all)) [
      | inl first ↦ at_line f (x ∷ more) x h first
      | inr last ↦ at_end f (x ∷ more) x more h last.0 last.1
    ]

-- ---- bytes without a fault

both_none : (xs ys : List FaultyLine) → xs ++ ys ≡ [] → (xs ≡ []) × (ys ≡ [])
both_none [] ys e = (refl, e)
both_none (x ∷ xs) ys e = absurd cc

-- bytes without a faulty line are a file
pub no_fault_file : (f : List ℕ) → AreFaultyLines f [] → (bs : List BlockText) × IsFile f bs
no_fault_file f h =
    let parts = both_none (line_faults 0 false h.lines) (fault_at (length h.lines + 1) (end_code (is_closed h.lines) h.rest)) (sym h.all) in
    let code = end_code (is_closed h.lines) h.rest in
    let none = no_fault (length h.lines + 1) code [] (code == 0) refl (append-nil (fault_at (length h.lines + 1) code) ∙ parts.1) in
    let well = ended_well (is_closed h.lines) h.rest none.0 in
    let b = clean_grown h.lines parts.0 in
    let tail = b.0.comments ++ map row_line b.0.rows in
    let empty : tail ≡ [] = closed_tail (lines_of b.0.done) tail (begun_filled b.0.comments b.0.rows b.1.comments b.1.rows) (ap is_closed b.2 ∙ well.0) in
    let lines : h.lines ≡ lines_of b.0.done = sym b.2 ∙ ap (λ (ls : List (List ℕ)). lines_of b.0.done ++ ls) empty ∙ append-nil (lines_of b.0.done) in (
      b.0.done,
      record {
        shaped = b.1.done;
        text = h.whole ∙ ap (λ (t : List ℕ). ended h.lines ++ t) well.1 ∙ append-nil (ended h.lines) ∙ ap ended lines;
      },
    )
