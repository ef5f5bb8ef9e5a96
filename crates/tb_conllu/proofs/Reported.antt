-- Texts of shaped sentences have no line at fault, and lines without a fault can become such a text.
use Rattle.std.proofs.Common.{◌≡◌, ℕ, ◌+◌, ◌<◌, List, [], ◌∷◌, ◌++◌, length, Bool, true, false, refl, sym, ◌∙◌, ap, subst, arith, append_assoc, append-nil, length-append, map, None}
use Rattle.std.specs.List.{AllByRecursion}
use Rattle.std.proofs.lemmas.List.Concat.{flat_map-append}
use Rattle.tb_conllu.specs.declared.id.LineId.TheVariants.{Word}
use Rattle.tb_conllu.specs.Text.{RowText, BlockText, lines_of, block_lines, row_line, ended}
use Rattle.tb_conllu.specs.Shape.{IsRowShaped, IsCommentText, IsTightText, IsShaped, AllShaped}
use Rattle.tb_conllu.specs.Lines.{line_code, came_after, came_through}
use Rattle.tb_conllu.specs.Begun.{BegunText, lines_so_far, IsSound, has_rows}
use Rattle.tb_conllu.specs.Reported.{AreLines, IsDead}
use Rattle.tb_conllu.proofs.Cuts.{ended_prefix}
use Rattle.tb_conllu.proofs.Parts.{nil_text}
use Rattle.tb_conllu.proofs.RowLines.{row_clean, comment_clean, row_cut, comment_cut, text_code, head_field}

-- no line has a fault
abbrev pub AreClean : Bool → List (List ℕ) → Type 0
AreClean came [] = Unit {0}
AreClean came (l ∷ ls) = (line_code came l ≡ 0) × AreClean (came_after came l) ls

pub blank_clean : line_code true [] ≡ 0
blank_clean = text_code true [] nil_text

rows_clean : (came : Bool) (rs : List RowText) (rest : List (List ℕ)) → AllByRecursion IsRowShaped rs → (came ≡ true) → AreClean false rest → AreClean came (map row_line rs ++ [] ∷ rest)
rows_clean came [] rest h c k = subst (λ b. AreClean b ([] ∷ rest)) (sym c) (blank_clean, k)
rows_clean came (r ∷ rs) rest h c k =
    let here = row_clean came r h.0 in
    (here.0, rows_clean (came_after came (row_line r)) rs rest h.1 here.1 k)

first_clean : (rs : List RowText) (rest : List (List ℕ)) → AllByRecursion IsRowShaped rs → 0 < length rs → AreClean false rest → AreClean false (map row_line rs ++ [] ∷ rest)
first_clean [] rest h n k = absurd (omega arith)
first_clean (r ∷ rs) rest h n k =
    let here = row_clean false r h.0 in
    (here.0, rows_clean (came_after false (row_line r)) rs rest h.1 here.1 k)

comments_clean : (cs : List (List ℕ)) (rest : List (List ℕ)) → AllByRecursion IsCommentText cs → AreClean false rest → AreClean false (cs ++ rest)
comments_clean [] rest h k = k
comments_clean (c ∷ cs) rest h k =
    let here = comment_clean c h.0 in
    (here.0, subst (λ b. AreClean b (cs ++ rest)) (sym here.1) (comments_clean cs rest h.1 k))

block_clean : (b : BlockText) (rest : List (List ℕ)) → IsShaped b → AreClean false rest → AreClean false (block_lines b ++ rest)
block_clean b rest h k =
    let rows = first_clean b.rows rest h.rows h.nonempty k in
    let P : List (List ℕ) → Type 0 = AreClean false in
    subst P (simp append_assoc) (comments_clean b.comments (map row_line b.rows ++ [] ∷ rest) h.comments rows)

-- no line of a text of shaped sentences is at fault
pub lines_clean : (bs : List BlockText) → AllShaped bs → AreClean false (lines_of bs)
lines_clean [] h = tt
lines_clean (b ∷ bs) h = block_clean b (lines_of bs) h.0 (lines_clean bs h.1)

rows_cut : (rs : List RowText) (rest : List (List ℕ)) → AllByRecursion IsRowShaped rs → AreLines rest → AreLines (map row_line rs ++ rest)
rows_cut [] rest h k = k
rows_cut (r ∷ rs) rest h k = (row_cut r h.0, rows_cut rs rest h.1 k)

comments_cut : (cs : List (List ℕ)) (rest : List (List ℕ)) → AllByRecursion IsCommentText cs → AreLines rest → AreLines (cs ++ rest)
comments_cut [] rest h k = k
comments_cut (c ∷ cs) rest h k = (comment_cut c h.0, comments_cut cs rest h.1 k)

block_cut : (b : BlockText) (rest : List (List ℕ)) → IsShaped b → AreLines rest → AreLines (block_lines b ++ rest)
block_cut b rest h k =
    let P : List (List ℕ) → Type 0 = AreLines in
    subst P (simp append_assoc) (comments_cut b.comments (map row_line b.rows ++ [] ∷ rest) h.comments (rows_cut b.rows ([] ∷ rest) h.rows (refl, k)))

-- the lines of shaped sentences, and more lines, are lines
pub lines_cut_more : (bs : List BlockText) (rest : List (List ℕ)) → AllShaped bs → AreLines rest → AreLines (lines_of bs ++ rest)
lines_cut_more [] rest h k = k
lines_cut_more (b ∷ bs) rest h k =
    let P : List (List ℕ) → Type 0 = AreLines in
    subst P (sym (append_assoc (block_lines b) (lines_of bs) rest)) (block_cut b (lines_of bs ++ rest) h.0 (lines_cut_more bs rest h.1 k))

pub lines_cut : (bs : List BlockText) → AllShaped bs → AreLines (lines_of bs)
lines_cut [] h = tt
lines_cut (b ∷ bs) h = block_cut b (lines_of bs) h.0 (lines_cut bs h.1)

-- the lines that were read are lines
pub begun_cut : (b : BegunText) → IsSound b → AreLines (lines_so_far b)
begun_cut b h =
    let P : List (List ℕ) → Type 0 = AreLines in
    let rows = subst P (append-nil (map row_line b.rows)) (rows_cut b.rows [] h.rows tt) in
    lines_cut_more b.done (b.comments ++ map row_line b.rows) h.done (comments_cut b.comments (map row_line b.rows) h.comments rows)

clean_at : (came : Bool) (before : List (List ℕ)) (reported : List ℕ) (after : List (List ℕ)) → AreClean came ((before ++ reported ∷ []) ++ after) → line_code (came_through came before) reported ≡ 0
clean_at came [] reported after k = k.0
clean_at came (l ∷ before) reported after k = clean_at (came_after came l) before reported after k.1

-- a line at fault is dead, with the lines before it
pub dead : (before : List (List ℕ)) (reported : List ℕ) → AreLines (before ++ reported ∷ []) → 0 < line_code (came_through false before) reported → IsDead (before ++ reported ∷ [])
dead before reported cut fault bs rest shaped e =
    let found = ended_prefix (lines_of bs) (before ++ reported ∷ []) rest (lines_cut bs shaped) cut e in
    let P : List (List ℕ) → Type 0 = AreClean false in
    let none = clean_at false before reported found.0 (subst P found.1 (lines_clean bs shaped)) in
    omega (arith, none)

-- ---- what was read can still become a text

underscore : IsTightText (95 ∷ [])
underscore = head_field None tt

-- any row that is shaped
filler : RowText
filler = record { id = Word 1; form = 95 ∷ []; lemma = 95 ∷ []; upos = 95 ∷ []; xpos = 95 ∷ []; feats = 95 ∷ []; head = None; deprel = 95 ∷ []; deps = 95 ∷ []; misc = 95 ∷ [] }

filler_shaped : IsRowShaped filler
unfolding filler
filler_shaped = record { id = (omega arith, omega arith); form = underscore.field; lemma = underscore.field; upos = underscore; xpos = underscore; feats = underscore; head = tt; deprel = underscore; deps = underscore; misc = underscore.field }

pub all_append : {X : Type 0} (P : X → Type 0) (xs ys : List X) → AllByRecursion P xs → AllByRecursion P ys → AllByRecursion P (xs ++ ys)
all_append P [] ys h k = k
all_append P (x ∷ xs) ys h k = (h.0, all_append P xs ys h.1 k)

pub map_append : {X Y : Type 0} (f : X → Y) (xs ys : List X) → map f (xs ++ ys) ≡ map f xs ++ map f ys
map_append f [] ys = refl
map_append f (x ∷ xs) ys = ap (λ l. f x ∷ l) (map_append f xs ys)

-- the sentence begun, with one more row and its blank line
mended : BegunText → BlockText
mended b = record { comments = b.comments; rows = b.rows ++ filler ∷ [] }

mended_lines : (b : BegunText) → lines_of (b.done ++ mended b ∷ []) ≡ lines_so_far b ++ (row_line filler ∷ [] ∷ [])
unfolding mended
mended_lines b = flat_map-append block_lines b.done (mended b ∷ []) ∙ simp (map_append row_line, append_assoc, append-nil)

-- lines that were read without a fault can still become a file
pub alive : (b : BegunText) → IsSound b → IsDead (lines_so_far b) → ⊥
unfolding mended
alive b h dead =
    let more : length (b.rows ++ filler ∷ []) ≡ length b.rows + 1 = length-append b.rows (filler ∷ []) in
    let shaped : IsShaped (mended b) = record { comments = h.comments; rows = all_append IsRowShaped b.rows (filler ∷ []) h.rows (filler_shaped, tt); nonempty = omega (arith, more) } in
    dead (b.done ++ mended b ∷ []) (ended (row_line filler ∷ [] ∷ [])) (all_append IsShaped b.done (mended b ∷ []) h.done (shaped, tt))
    (ap ended (mended_lines b) ∙ flat_map-append (λ l. l ++ 10 ∷ []) (lines_so_far b) (row_line filler ∷ [] ∷ []))

-- ---- whether a word line came

pub came_append : (came : Bool) (xs ys : List (List ℕ)) → came_through came (xs ++ ys) ≡ came_through (came_through came xs) ys
came_append came [] ys = refl
came_append came (x ∷ xs) ys = came_append (came_after came x) xs ys

came_block : (came : Bool) (b : BlockText) → came_through came (block_lines b) ≡ false
came_block came b = came_append came b.comments (map row_line b.rows ++ [] ∷ []) ∙ came_append _ (map row_line b.rows) ([] ∷ [])

-- after whole sentences none came of the next
pub came_sentences : (bs : List BlockText) → came_through false (lines_of bs) ≡ false
came_sentences [] = refl
came_sentences (b ∷ bs) = came_append false (block_lines b) (lines_of bs) ∙ ap (λ c. came_through c (lines_of bs)) (came_block false b) ∙ came_sentences bs

came_comments : (cs : List (List ℕ)) → AllByRecursion IsCommentText cs → came_through false cs ≡ false
came_comments [] h = refl
came_comments (c ∷ cs) h = ap (λ t. came_through t cs) (comment_clean c h.0).1 ∙ came_comments cs h.1

came_rows : (rs : List RowText) → AllByRecursion IsRowShaped rs → came_through true (map row_line rs) ≡ true
came_rows [] h = refl
came_rows (r ∷ rs) h = ap (λ t. came_through t (map row_line rs)) (row_clean true r h.0).1 ∙ came_rows rs h.1

came_first : (rs : List RowText) → AllByRecursion IsRowShaped rs → came_through false (map row_line rs) ≡ has_rows rs
came_first [] h = refl
came_first (r ∷ rs) h = ap (λ t. came_through t (map row_line rs)) (row_clean false r h.0).1 ∙ came_rows rs h.1

-- a word line of the sentence came where one was read
pub came_so_far : (b : BegunText) → IsSound b → came_through false (lines_so_far b) ≡ has_rows b.rows
came_so_far b h =
    came_append false (lines_of b.done) (b.comments ++ map row_line b.rows) ∙ ap (λ c. came_through c (b.comments ++ map row_line b.rows)) (came_sentences b.done)
    ∙ came_append false b.comments (map row_line b.rows) ∙ ap (λ c. came_through c (map row_line b.rows)) (came_comments b.comments h.comments)
    ∙ came_first b.rows h.rows
