-- Bytes that begin with no sentence: a line of the first is at fault, or the bytes end before its blank line.
use Rattle.std.proofs.Common.{◌≡◌, ◌≢◌, ℕ, ◌+◌, ◌<◌, ◌≤◌, List, [], ◌∷◌, ◌++◌, length, false, refl, sym, ◌∙◌, ap, subst, arith, append_assoc, inl, inr}
use Rattle.std.specs.List.{AllByRecursion}
use Rattle.std.proofs.lemmas.Bool.{cases_order}
use Rattle.tb_conllu.specs.declared.fault.ReadFault.{ReadFault}
use Rattle.tb_conllu.specs.declared.fault.ReadFault.TheVariants.{At, Memory}
use Rattle.tb_conllu.specs.Begun.{IsSound, has_rows}
use Rattle.tb_conllu.specs.Left.{BeginsNoSentence}
use Rattle.tb_conllu.specs.Lines.{line_code, came_through}
use Rattle.tb_conllu.specs.Refusal.{IsRefusal, begun, lines_begun}
use Rattle.tb_conllu.specs.Reported.{AreLines, IsLine}
use Rattle.tb_conllu.specs.Shape.{IsShaped}
use Rattle.tb_conllu.specs.Text.{BlockText, ended, lines_of, text_of}
use Rattle.tb_conllu.proofs.Cuts.{Lacks, all_lines, begin_same}
use Rattle.tb_conllu.proofs.Faults.{ended-append, push_length}
use Rattle.tb_conllu.proofs.Reading.{IsFilled, IsRead, begun_filled, lines_done, more_lines, no_more, not_filled}
use Rattle.tb_conllu.proofs.Reported.{all_append, begun_cut, came_so_far, dead, lines_cut}

-- A sentence ends with a blank line, and no line that was read is one. So the sentence has more lines than were read.
has_more : (block b : BlockText) (rest more : List ℕ) → IsSound (begun block) → IsShaped b → ended (lines_begun block) ++ rest ≡ text_of (b ∷ []) ++ more → length (lines_of (b ∷ [])) ≤ length (lines_begun block) → ⊥
has_more block b rest more sound shaped same short =
    let found = begin_same (lines_of (b ∷ [])) (lines_begun block) more rest (lines_cut (b ∷ []) (shaped, tt)) (begun_cut (begun block) sound) short (sym same) in
    let P : List (List ℕ) → Type 0 = AllByRecursion IsFilled in
    let lines : lines_begun block ≡ lines_begun b ++ [] ∷ found.0 = found.1 ∙ ap (λ ls. ls ++ found.0) (no_more b ∙ lines_done b) ∙ append_assoc (lines_begun b) ([] ∷ []) found.0 in
    not_filled (lines_begun b) found.0 (subst P lines (begun_filled block sound))

-- the bytes end inside the sentence
pub none_at_end : (bytes : List ℕ) (line : ℕ) (block : BlockText) (rest : List ℕ) (at : ℕ) → IsRead bytes line block rest at → Lacks 10 rest → BeginsNoSentence bytes
none_at_end bytes line block rest at h cut b more shaped e =
    let same = sym h.whole ∙ e in
    let all = all_lines (lines_of (b ∷ [])) (lines_begun block) more rest (lines_cut (b ∷ []) (shaped, tt)) (begun_cut (begun block) h.sound) cut (sym same) in
    has_more block b rest more h.sound shaped same all

-- a line is at fault
none_at_line : (bytes : List ℕ) (line : ℕ) (block : BlockText) (rest raw after : List ℕ) (at : ℕ) → IsRead bytes line block rest at → rest ≡ raw ++ 10 ∷ after → Lacks 10 raw → 0 < line_code (has_rows block.rows) raw → BeginsNoSentence bytes
none_at_line bytes line block rest raw after at h same cut bad b more shaped e =
    let before : List (List ℕ) = lines_begun block in
    let came : came_through false before ≡ has_rows block.rows = came_so_far (begun block) h.sound in
    let code = ap (λ c. line_code c raw) came in
    let lines : AreLines (before ++ raw ∷ []) = all_append IsLine before (raw ∷ []) (begun_cut (begun block) h.sound) (cut, tt) in
    let whole : ended (before ++ raw ∷ []) ++ after ≡ text_of (b ∷ []) ++ more = more_lines before raw after ∙ ap (λ x. ended before ++ x) (sym same) ∙ sym h.whole ∙ e in
    let within = λ (short : length (before ++ raw ∷ []) ≤ length (lines_of (b ∷ []))). (
    let found = begin_same (before ++ raw ∷ []) (lines_of (b ∷ [])) after more lines (lines_cut (b ∷ []) (shaped, tt)) short whole in
    dead before raw lines (omega (arith, bad, code)) (b ∷ []) (ended found.0) (shaped, tt) (ap ended found.1 ∙ ended-append (before ++ raw ∷ []) found.0)
    ) in
    let one = push_length before raw in
    elim (cases_order (length (lines_of (b ∷ []))) (length (before ++ raw ∷ []))) [
      | inl as_many ↦ within (omega (arith, as_many))
      | inr apart ↦ elim apart [
        | inl less ↦ has_more block b rest more h.sound shaped (sym h.whole ∙ e) (omega (arith, one, less))
        | inr more ↦ within (omega (arith, more))
      ]
    ]

-- a line is refused
pub none_refused : (bytes : List ℕ) (line : ℕ) (block : BlockText) (rest raw after : List ℕ) (at : ℕ) (e : ReadFault) → IsRead bytes line block rest at → rest ≡ raw ++ 10 ∷ after → Lacks 10 raw → IsRefusal (at + 1) (has_rows block.rows) raw e → e ≢ Memory → BeginsNoSentence bytes
none_refused bytes line block rest raw after at Memory h same cut refused other = absurd (other refl)
none_refused bytes line block rest raw after at (At l code) h same cut refused other =
    let here = refused.1 in
    none_at_line bytes line block rest raw after at h same cut (omega (arith, refused.2, here))
