-- A sentence that is read line by line: what has been read, and the faults that are told.
use Rattle.std.proofs.Common.{◌≡◌, ℕ, ◌+◌, ◌<◌, ◌≤◌, List, [], ◌∷◌, ◌++◌, length, Bool, true, false, map, refl, sym, ◌∙◌, ap, subst, arith, append_assoc, length-append, inl, inr}
use Rattle.std.specs.Prelude.{◌==◌}
use Rattle.std.specs.List.{list_any, AllByRecursion}
use Rattle.std.proofs.lemmas.Bool.{or_parts, or_from}
use Rattle.std.proofs.lemmas.Bool.Decides.{nat_tests}
use Rattle.std.proofs.lemmas.List.Folds.{list_any-append}
use Rattle.tb_conllu.specs.declared.fault.ReadFault.{ReadFault}
use Rattle.tb_conllu.specs.declared.fault.ReadFault.TheVariants.{At, Memory}
use Rattle.tb_conllu.specs.Text.{RowText, BlockText, row_line, block_lines, lines_of, ended, text_of}
use Rattle.tb_conllu.specs.Shape.{is_control, IsLineText, IsRowShaped, IsCommentText}
use Rattle.tb_conllu.specs.Lines.{line_code, is_empty, came_through}
use Rattle.tb_conllu.specs.Reported.{IsLine, AreLines, IsNoFile}
use Rattle.tb_conllu.specs.Begun.{IsSound, has_rows}
use Rattle.tb_conllu.specs.Fault.{IsFaultAfter}
use Rattle.tb_conllu.specs.Plain.{is_stray}
use Rattle.tb_conllu.specs.Refusal.{IsRefusal, begun, lines_begun}
use Rattle.tb_conllu.proofs.Cuts.{Lacks, lacks_not, ended-cons, ended_prefix}
use Rattle.tb_conllu.proofs.RowLines.{text_code, hash_is, row_begins}
use Rattle.tb_conllu.proofs.Reported.{lines_cut, begun_cut, dead, alive, all_append, came_so_far}
use Rattle.std.proofs.lemmas.Bool.{cond-true, cond-false}

-- the lines of a sentence that were read from bytes that come after so many lines, and what is left
pub record IsRead (bytes : List ℕ) (line : ℕ) (block : BlockText) (rest : List ℕ) (at : ℕ) : Type 0 where
  pub whole : bytes ≡ ended (lines_begun block) ++ rest
  pub sound : IsSound (begun block)
  pub place : at ≡ line + length (lines_begun block)
  pub room : at + length rest ≤ line + length bytes

pub more_lines : (ls : List (List ℕ)) (raw after : List ℕ) → ended (ls ++ raw ∷ []) ++ after ≡ ended ls ++ (raw ++ 10 ∷ after)
more_lines [] raw after = ended-cons raw [] after
more_lines (l ∷ ls) raw after =
    ended-cons l (ls ++ raw ∷ []) after ∙ ap (λ x. l ++ 10 ∷ x) (more_lines ls raw after) ∙ sym (ended-cons l ls (raw ++ 10 ∷ after))

shorter : (rest raw after : List ℕ) → rest ≡ raw ++ 10 ∷ after → length after + 1 ≤ length rest
shorter rest raw after e = omega (arith, ap length e, length-append raw (10 ∷ after))

pub nothing_read : (bytes : List ℕ) (line : ℕ) (block : BlockText) → block ≡ record { comments = []; rows = [] } → IsRead bytes line block bytes line
nothing_read bytes line block e =
    let P : BlockText → Type 0 = λ b. IsRead bytes line b bytes line in
    subst P (sym e) (record { whole = refl; sound = record { done = tt; comments = tt; rows = tt }; place = omega arith; room = omega arith })

-- one more line
pub line_read : (bytes : List ℕ) (line : ℕ) (old new : BlockText) (rest raw after : List ℕ) (at : ℕ) → IsRead bytes line old rest at → rest ≡ raw ++ 10 ∷ after → lines_begun new ≡ lines_begun old ++ raw ∷ [] → (IsSound (begun old) → IsSound (begun new)) → IsRead bytes line new after (at + 1)
line_read bytes line old new rest raw after at h e lines sound =
    let n = ap length lines ∙ length-append (lines_begun old) (raw ∷ []) in
    let short = shorter rest raw after e in
    let place = h.place in
    let room = h.room in
    record {
      whole = h.whole ∙ ap (λ x. ended (lines_begun old) ++ x) e ∙ sym (more_lines (lines_begun old) raw after) ∙ ap (λ ls. ended ls ++ after) (sym lines);
      sound = sound h.sound;
      place = omega (arith, n);
      room = omega arith;
    }

-- ---- control characters

stray_control : (b : ℕ) → is_stray b ≡ false → (b == 10) ≡ false → is_control b ≡ false
stray_control b h k = grind (arith, nat_tests)

quiet_line : (raw : List ℕ) → list_any is_stray raw ≡ false → Lacks 10 raw → list_any is_control raw ≡ false
quiet_line [] h k = refl
quiet_line (b ∷ raw) h k =
    let p = or_parts (is_stray b) (list_any is_stray raw) h in
    let q = or_parts (b == 10) (list_any (λ c. c == 10) raw) k in
    or_from (is_control b) (list_any is_control raw) (stray_control b p.0 q.0) (quiet_line raw p.1 q.1)

pub quiet_parts : (rest raw after : List ℕ) → list_any is_stray rest ≡ false → rest ≡ raw ++ 10 ∷ after → (list_any is_stray raw ≡ false) × (list_any is_stray after ≡ false)
quiet_parts rest raw after h e = or_parts (list_any is_stray raw) (list_any is_stray after) (sym (list_any-append is_stray raw (10 ∷ after)) ∙ ap (list_any is_stray) (sym e) ∙ h)

pub quiet_raw : (rest raw after : List ℕ) → list_any is_stray rest ≡ false → rest ≡ raw ++ 10 ∷ after → Lacks 10 raw → list_any is_control raw ≡ false
quiet_raw rest raw after h e k = quiet_line raw (quiet_parts rest raw after h e).0 k

-- ---- a line at fault

pub line_reported : (bytes : List ℕ) (line : ℕ) (block : BlockText) (rest raw after : List ℕ) (at : ℕ) (e : ReadFault) → IsRead bytes line block rest at → rest ≡ raw ++ 10 ∷ after → Lacks 10 raw → IsRefusal (at + 1) (has_rows block.rows) raw e → IsFaultAfter line bytes e
line_reported bytes line block rest raw after at Memory h same cut refused =
    omega (arith, ap length h.whole, length-append (ended (lines_begun block)) rest, shorter rest raw after same)
line_reported bytes line block rest raw after at (At l code) h same cut refused =
    let before : List (List ℕ) = lines_begun block in
    let came : came_through false before ≡ has_rows block.rows = came_so_far (begun block) h.sound in
    let least : line_code (came_through false before) raw ≡ code = ap (λ c. line_code c raw) came ∙ refused.1 in
    let lines : AreLines (before ++ raw ∷ []) = all_append IsLine before (raw ∷ []) (begun_cut (begun block) h.sound) (cut, tt) in
    let bad : 0 < line_code (came_through false before) raw = omega (arith, refused.2, least) in
    let place = h.place in
    let here = refused.0 in (
      length before + 1,
      omega (arith, place, here),
      inl (record {
        before = before;
        reported = raw;
        rest = after;
        whole = h.whole ∙ ap (λ x. ended before ++ x) same ∙ sym (more_lines before raw after);
        cut = lines;
        place = refl;
        dead = dead before raw lines bad;
        alive = alive (begun block) h.sound;
        least = least;
      }),
    )

-- a blank line before any row
pub blank_refused : (n : ℕ) (came : Bool) (raw : List ℕ) → IsLineText raw → is_empty raw ≡ true → came ≡ false → IsRefusal n came raw (At n 9)
blank_refused n came raw h blank none = (refl, text_code came raw h ∙ cond-true _ _ _ blank ∙ cond-false _ _ _ none, omega arith)

-- ---- the end of a sentence

is_nil : (raw : List ℕ) → is_empty raw ≡ true → raw ≡ []
is_nil [] h = refl
is_nil (b ∷ raw) h = absurd cc

pub lines_done : (block : BlockText) → block_lines block ≡ lines_begun block ++ [] ∷ []
lines_done block = sym (append_assoc block.comments (map row_line block.rows) ([] ∷ []))

pub no_more : (block : BlockText) → lines_of (block ∷ []) ≡ block_lines block
no_more block = append_nil (block_lines block)
  where
    append_nil : (ls : List (List ℕ)) → ls ++ [] ≡ ls
    append_nil [] = refl
    append_nil (l ∷ ls) = ap (λ x. l ∷ x) (append_nil ls)

pub sentence_text : (bytes : List ℕ) (line : ℕ) (block : BlockText) (rest raw after : List ℕ) (at : ℕ) → IsRead bytes line block rest at → rest ≡ raw ++ 10 ∷ after → is_empty raw ≡ true → bytes ≡ text_of (block ∷ []) ++ after
sentence_text bytes line block rest raw after at h same blank =
    h.whole ∙ ap (λ x. ended (lines_begun block) ++ x) (same ∙ ap (λ x. x ++ 10 ∷ after) (is_nil raw blank))
    ∙ sym (more_lines (lines_begun block) [] after) ∙ ap (λ ls. ended ls ++ after) (sym (no_more block ∙ lines_done block))

-- ---- the end of the bytes inside a sentence

pub IsFilled : List ℕ → Type 0
IsFilled l = is_empty l ≡ false

comments_filled : (cs : List (List ℕ)) → AllByRecursion IsCommentText cs → AllByRecursion IsFilled cs
unfolding IsFilled
comments_filled [] h = tt
comments_filled (c ∷ cs) h = ((hash_is c h.0.hash).0, comments_filled cs h.1)

rows_filled : (rs : List RowText) → AllByRecursion IsRowShaped rs → AllByRecursion IsFilled (map row_line rs)
unfolding IsFilled
rows_filled [] h = tt
rows_filled (r ∷ rs) h = ((row_begins r h.0).0, rows_filled rs h.1)

pub begun_filled : (block : BlockText) → IsSound (begun block) → AllByRecursion IsFilled (lines_begun block)
begun_filled block h = all_append IsFilled block.comments (map row_line block.rows) (comments_filled block.comments h.comments) (rows_filled block.rows h.rows)

-- the blank line of a sentence stands among its lines
pub not_filled : (xs ys : List (List ℕ)) → AllByRecursion IsFilled (xs ++ [] ∷ ys) → ⊥
unfolding IsFilled
not_filled [] ys h = let e = h.0 in cc
not_filled (x ∷ xs) ys h = not_filled xs ys h.1

no_sentence : (bs : List BlockText) → AllByRecursion IsFilled (lines_of bs) → bs ≡ []
no_sentence [] h = refl
no_sentence (b ∷ bs) h =
    let P : List (List ℕ) → Type 0 = AllByRecursion IsFilled in
    let e : lines_of (b ∷ bs) ≡ lines_begun b ++ [] ∷ lines_of bs = ap (λ ls. ls ++ lines_of bs) (lines_done b) ∙ append_assoc (lines_begun b) ([] ∷ []) (lines_of bs) in
    absurd (not_filled (lines_begun b) (lines_of bs) (subst P e h))

-- bytes with no line feed are no lines
no_lines : (zs : List (List ℕ)) (rest : List ℕ) → Lacks 10 rest → ended zs ≡ rest → zs ≡ []
no_lines [] rest h e = refl
no_lines (z ∷ zs) rest h e = absurd (lacks_not 10 rest z (ended zs) h (sym e ∙ append_assoc z (10 ∷ []) (ended zs)))

append_none : (ls zs : List (List ℕ)) → zs ≡ [] → ls ++ zs ≡ ls
append_none [] zs e = e
append_none (l ∷ ls) zs e = ap (λ x. l ∷ x) (append_none ls zs e)

pub unended_no_file : (bytes : List ℕ) (block : BlockText) (rest : List ℕ) → IsSound (begun block) → bytes ≡ ended (lines_begun block) ++ rest → Lacks 10 rest → 0 < length bytes → IsNoFile bytes
unended_no_file bytes block rest h whole cut some bs shaped same =
    let found = ended_prefix (lines_of bs) (lines_begun block) rest (lines_cut bs shaped) (begun_cut (begun block) h) (sym same ∙ whole) in
    let none = no_lines found.0 rest cut found.2 in
    let lines : lines_of bs ≡ lines_begun block = found.1 ∙ append_none (lines_begun block) found.0 none in
    let P : List (List ℕ) → Type 0 = AllByRecursion IsFilled in
    let empty : bs ≡ [] = no_sentence bs (subst P (sym lines) (begun_filled block h)) in
    let nil = ap length (same ∙ ap text_of empty) in
    absurd (omega (arith, nil))

pub end_reported : (bytes : List ℕ) (line : ℕ) (block : BlockText) (rest : List ℕ) (at : ℕ) → IsRead bytes line block rest at → Lacks 10 rest → 0 < length bytes → IsFaultAfter line bytes (At (at + 1) 10)
end_reported bytes line block rest at h cut some =
    let before : List (List ℕ) = lines_begun block in
    let place = h.place in (
      length before + 1,
      omega arith,
      inr (
        record {
          before = before;
          rest = rest;
          whole = h.whole;
          cut = begun_cut (begun block) h.sound;
          cut_rest = cut;
          place = refl;
          alive = alive (begun block) h.sound;
          no_file = unended_no_file bytes block rest h.sound h.whole cut some;
        },
        refl,
      ),
    )

-- a sentence has some text
pub sentence_some : (block : BlockText) → 0 < length (text_of (block ∷ []))
sentence_some block =
    let e : text_of (block ∷ []) ++ [] ≡ ended (lines_begun block) ++ 10 ∷ [] = ap (λ ls. ended ls ++ []) (no_more block ∙ lines_done block) ∙ more_lines (lines_begun block) [] [] in
    omega (arith, ap length e, length-append (text_of (block ∷ [])) [], length-append (ended (lines_begun block)) (10 ∷ []))
