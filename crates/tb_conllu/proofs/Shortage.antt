-- Where memory may be wanted while a file is read.
use Rattle.std.proofs.Common.{◌≡◌, ℕ, ◌<◌, List, [], ◌∷◌, ◌++◌, length, true, false, map, sym, ap, subst, arith, inl, length-append, append-nil, ◌∙◌}
use Rattle.std.specs.Prelude.{◌⊎◌}
use Rattle.std.specs.List.{AllByRecursion, list_any}
use Rattle.tb_conllu.specs.Begun.{has_rows}
use Rattle.tb_conllu.specs.Fault.{MayWantMemory}
use Rattle.tb_conllu.specs.Left.{Left, IsNext}
use Rattle.tb_conllu.specs.Lines.{line_code}
use Rattle.tb_conllu.specs.Plain.{is_beyond_latin}
use Rattle.tb_conllu.specs.Reported.{IsLine}
use Rattle.tb_conllu.specs.Shape.{AllShaped, IsCommentText, IsRowShaped, IsShaped}
use Rattle.tb_conllu.specs.Text.{BlockText, RowText, ended, lines_of, row_line, text_of}
use Rattle.tb_conllu.proofs.Cuts.{Lacks, ended-cons}
use Rattle.tb_conllu.proofs.Reading.{IsRead}
use Rattle.tb_conllu.proofs.RowLines.{comment_clean, comment_cut, row_clean, row_cut}

-- a first line without a fault
clean_first : (l : List ℕ) (ls : List (List ℕ)) (rest : List ℕ) → IsLine l → line_code false l ≡ 0 → MayWantMemory (ended (l ∷ ls) ++ rest)
clean_first l ls rest cut clean = record { first = l; rest = ended ls ++ rest; whole = ended-cons l ls rest; cut = cut; kept = inl clean }

-- ---- a sentence of which some lines were read

begun_wants : (cs : List (List ℕ)) (rs : List RowText) (rest raw after : List ℕ) → AllByRecursion IsCommentText cs → AllByRecursion IsRowShaped rs → rest ≡ raw ++ 10 ∷ after → Lacks 10 raw → (line_code (has_rows rs) raw ≡ 0) ⊎ (list_any is_beyond_latin raw ≡ true) → MayWantMemory (ended (cs ++ map row_line rs) ++ rest)
begun_wants [] [] rest raw after hc hr same cut kept = record { first = raw; rest = after; whole = same; cut = cut; kept = kept }
begun_wants [] (r ∷ rs) rest raw after hc hr same cut kept = clean_first (row_line r) (map row_line rs) rest (row_cut r hr.0) (row_clean false r hr.0).0
begun_wants (c ∷ cs) rs rest raw after hc hr same cut kept = clean_first c (cs ++ map row_line rs) rest (comment_cut c hc.0) (comment_clean c hc.0).0

pub line_wants : (bytes : List ℕ) (line : ℕ) (block : BlockText) (rest raw after : List ℕ) (at : ℕ) → IsRead bytes line block rest at → rest ≡ raw ++ 10 ∷ after → Lacks 10 raw → (line_code (has_rows block.rows) raw ≡ 0) ⊎ (list_any is_beyond_latin raw ≡ true) → MayWantMemory bytes
line_wants bytes line block rest raw after at h same cut kept =
    subst MayWantMemory (sym h.whole) (begun_wants block.comments block.rows rest raw after h.sound.comments h.sound.rows same cut kept)

-- ---- whole sentences

lines_want : (cs : List (List ℕ)) (rs : List RowText) (more : List (List ℕ)) (rest : List ℕ) → AllByRecursion IsCommentText cs → AllByRecursion IsRowShaped rs → 0 < length rs → MayWantMemory (ended ((cs ++ (map row_line rs ++ [] ∷ [])) ++ more) ++ rest)
lines_want [] [] more rest hc hr some = absurd (omega (arith, some))
lines_want [] (r ∷ rs) more rest hc hr some = clean_first (row_line r) ((map row_line rs ++ [] ∷ []) ++ more) rest (row_cut r hr.0) (row_clean false r hr.0).0
lines_want (c ∷ cs) rs more rest hc hr some = clean_first c ((cs ++ (map row_line rs ++ [] ∷ [])) ++ more) rest (comment_cut c hc.0) (comment_clean c hc.0).0

block_wants : (b : BlockText) (more : List BlockText) (rest : List ℕ) → IsShaped b → MayWantMemory (text_of (b ∷ more) ++ rest)
block_wants b more rest h = lines_want b.comments b.rows (lines_of more) rest h.comments h.rows h.nonempty

-- a sentence was read
pub next_wants : (old new : Left) (block : BlockText) → IsNext old new block → MayWantMemory old.rest
next_wants old new block h = subst MayWantMemory (sym h.text) (block_wants block [] new.rest h.shaped)

-- memory was wanting after some sentences
pub rest_wants : (bytes : List ℕ) (done : List BlockText) (rest : List ℕ) → AllShaped done → bytes ≡ text_of done ++ rest → MayWantMemory rest → MayWantMemory bytes
rest_wants bytes [] rest shaped whole wants = subst MayWantMemory (sym whole) wants
rest_wants bytes (b ∷ bs) rest shaped whole wants = subst MayWantMemory (sym whole) (block_wants b bs rest shaped.0)

-- a file with a byte
pub file_wants : (f : List ℕ) (bs : List BlockText) → AllShaped bs → f ≡ text_of bs → 0 < length f → MayWantMemory f
file_wants f [] shaped whole some = absurd (omega (arith, ap length whole, some))
file_wants f (b ∷ bs) shaped whole some = subst MayWantMemory (append-nil (text_of (b ∷ bs)) ∙ sym whole) (block_wants b bs [] shaped.0)

pub some_byte : (f : List ℕ) → MayWantMemory f → 0 < length f
some_byte f h = omega (arith, ap length h.whole, length-append h.first (10 ∷ h.rest))
