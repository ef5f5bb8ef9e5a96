-- What a text that is known to be a sentence's is cut into.
use Rattle.std.proofs.Common.{◌≡◌, ℕ, ◌<◌, List, [], ◌∷◌, ◌++◌, length, true, false, refl, sym, ◌∙◌, ap, arith, append_assoc, append-nil, map, Option}
use Rattle.std.specs.Prelude.{IfSome, slice_index_or, take, bytes_eq}
use Rattle.std.specs.List.{AllByRecursion}
use Rattle.std.proofs.lemmas.Bool.{both_ways}
use Rattle.std.proofs.lemmas.List.Concat.{flat_map-append}
use Rattle.tb_conllu.specs.declared.id.LineId.{LineId}
use Rattle.tb_conllu.specs.Lines.{is_comment, is_empty, is_id, is_head}
use Rattle.tb_conllu.specs.Marks.{parts}
use Rattle.tb_conllu.specs.Shape.{IsIdShaped, IsShort, IsRowShaped, IsCommentText}
use Rattle.tb_conllu.specs.Text.{RowText, BlockText, id_text, head_text, fields_of, row_line, block_lines, text_of, ended}
use Rattle.tb_conllu.specs.Reported.{IsLine}
use Rattle.tb_conllu.proofs.Cuts.{cut_same, lacks_not}
use Rattle.tb_conllu.proofs.OneList.{id_same, head_same}
use Rattle.tb_conllu.proofs.Marked.{parts_of_rows, some_parts}
use Rattle.tb_conllu.proofs.RowLines.{comment_cut, row_begins, id_field, id_passes, head_passes}

abbrev block_made : List (List ℕ) → List RowText → BlockText
block_made comments rows = record { comments = comments; rows = rows }

-- ---- a row

abbrev row_made : LineId → List ℕ → List ℕ → List ℕ → List ℕ → List ℕ → Option ℕ → List ℕ → List ℕ → List ℕ → RowText
row_made id form lemma upos xpos feats head deprel deps misc = record { id = id; form = form; lemma = lemma; upos = upos; xpos = xpos; feats = feats; head = head; deprel = deprel; deps = deps; misc = misc }

-- the k-th part
abbrev at : ℕ → List (List ℕ) → List ℕ
at k fs = slice_index_or fs k []

-- the row of ten parts that are the fields of a shaped row
pub row_known : (r : RowText) (a b c d e f g h i j : List ℕ) (more rest : List (List ℕ)) (id : LineId) (head : Option ℕ) → IsRowShaped r → a ∷ b ∷ c ∷ d ∷ e ∷ f ∷ g ∷ h ∷ i ∷ j ∷ more ≡ fields_of r ++ rest → IsIdShaped id → id_text id ≡ a → IfSome head IsShort → head_text head ≡ g → row_made id b c d e f head h i j ≡ r
row_known r a b c d e f g h i j more rest id head shaped same si ti sh th =
    let first = id_same id r.id si shaped.id (ti ∙ ap (at 0) same) in
    let seventh = head_same head r.head sh shaped.head (th ∙ ap (at 6) same) in
    ap (λ x. row_made x b c d e f head h i j) first
    ∙ ap (λ fs. row_made r.id (at 1 fs) (at 2 fs) (at 3 fs) (at 4 fs) (at 5 fs) head (at 7 fs) (at 8 fs) (at 9 fs)) same
    ∙ ap (λ x. row_made r.id r.form r.lemma r.upos r.xpos r.feats x r.deprel r.deps r.misc) seventh

-- the first of them is an ID
pub no_id : (r : RowText) (a b c d e f g h i j : List ℕ) (more rest : List (List ℕ)) → IsRowShaped r → a ∷ b ∷ c ∷ d ∷ e ∷ f ∷ g ∷ h ∷ i ∷ j ∷ more ≡ fields_of r ++ rest → is_id a ≡ false → ⊥
no_id r a b c d e f g h i j more rest shaped same none = both_ways (is_id a) none (ap (λ fs. is_id (at 0 fs)) same ∙ id_passes r.id shaped.id)

-- the seventh is a head
pub no_head : (r : RowText) (a b c d e f g h i j : List ℕ) (more rest : List (List ℕ)) → IsRowShaped r → a ∷ b ∷ c ∷ d ∷ e ∷ f ∷ g ∷ h ∷ i ∷ j ∷ more ≡ fields_of r ++ rest → is_head g ≡ false → ⊥
no_head r a b c d e f g h i j more rest shaped same none = both_ways (is_head g) none (ap (λ fs. is_head (at 6 fs)) same ∙ head_passes r.head shaped.head)

-- ---- comments

-- a line that is cut off is the first of the comments to come
pub comment_next : (line after now rest : List ℕ) (cs : List (List ℕ)) → AllByRecursion IsCommentText cs → is_comment rest ≡ false → is_comment now ≡ true → now ≡ ended cs ++ rest → IsLine line → now ≡ line ++ 10 ∷ after
    → (more : List (List ℕ)) × (cs ≡ line ∷ more) × AllByRecursion IsCommentText more × (after ≡ ended more ++ rest)
comment_next line after now rest [] h last begun whole cut parted = absurd (both_ways (is_comment now) (ap is_comment whole ∙ last) begun)
comment_next line after now rest (c ∷ cs) h last begun whole cut parted =
    let spread : now ≡ c ++ 10 ∷ (ended cs ++ rest) = whole ∙ simp append_assoc in
    let same = cut_same 10 line c after (ended cs ++ rest) cut (comment_cut c h.0) (sym parted ∙ spread) in
    (cs, ap (λ l. l ∷ cs) (sym same.0), h.1, same.1)

hashed : (c rest : List ℕ) → take 1 c ≡ 35 ∷ [] → is_comment (c ++ rest) ≡ true
hashed [] rest e = absurd cc
hashed (x ∷ c) rest e = ap (λ t. bytes_eq t (35 ∷ [])) e

-- where no comment begins, none is to come
pub comments_end : (now rest : List ℕ) (cs : List (List ℕ)) → AllByRecursion IsCommentText cs → is_comment now ≡ false → now ≡ ended cs ++ rest → (cs ≡ []) × (now ≡ rest)
comments_end now rest [] h none whole = (refl, whole)
comments_end now rest (c ∷ cs) h none whole =
    let spread : now ≡ c ++ 10 ∷ (ended cs ++ rest) = whole ∙ simp append_assoc in
    absurd (both_ways (is_comment now) none (ap is_comment spread ∙ hashed c _ h.0.hash))

-- a comment to come ends
pub comment_ends : (now rest : List ℕ) (cs : List (List ℕ)) → is_comment rest ≡ false → is_comment now ≡ true → now ≡ ended cs ++ rest → IsLine now → ⊥
comment_ends now rest [] last begun whole cut = both_ways (is_comment now) (ap is_comment whole ∙ last) begun
comment_ends now rest (c ∷ cs) last begun whole cut =
    let spread : now ≡ c ++ 10 ∷ (ended cs ++ rest) = whole ∙ simp append_assoc in
    lacks_not 10 now c (ended cs ++ rest) cut spread

-- the sentence once all its comments are taken
pub comments_taken : (old new : BlockText) (cs more : List (List ℕ)) → old.comments ++ cs ≡ new.comments ++ more → more ≡ [] → new.rows ≡ old.rows → new ≡ block_made (old.comments ++ cs) old.rows
comments_taken old new cs more all none rows =
    ap (λ x. block_made x new.rows) (sym (all ∙ ap (λ m. new.comments ++ m) none ∙ append-nil new.comments)) ∙ ap (λ x. block_made (old.comments ++ cs) x) rows

-- one comment more
pub comment_added : (old now new : BlockText) (line : List ℕ) (cs more next : List (List ℕ)) → old.comments ++ cs ≡ now.comments ++ more → more ≡ line ∷ next → now.rows ≡ old.rows → new ≡ block_made (now.comments ++ line ∷ []) now.rows
    → (old.comments ++ cs ≡ new.comments ++ next) × (new.rows ≡ old.rows)
comment_added old now new line cs more next all first rows same = (
  all ∙ ap (λ m. now.comments ++ m) first ∙ sym (append_assoc now.comments (line ∷ []) next) ∙ ap (λ (b : BlockText). b.comments ++ next) (sym same),
  ap (λ (b : BlockText). b.rows) same ∙ rows,
)

-- ---- rows

-- where no ID stands, no row is to come
pub rows_end : (id : List ℕ) (ps : List (List ℕ)) (more : List RowText) → AllByRecursion IsRowShaped more → id ∷ ps ≡ parts_of_rows more → is_empty id ≡ true → more ≡ []
rows_end id ps [] h same blank = refl
rows_end id ps (r ∷ rs) h same blank =
    let first : id ≡ id_text r.id = ap (at 0) same in
    absurd (both_ways (is_empty id) (ap is_empty first ∙ filled (id_text r.id) (id_field r.id h.0.id).field.nonempty) blank)
  where
    filled : (f : List ℕ) → 0 < length f → is_empty f ≡ false
    filled [] n = absurd (omega arith)
    filled (b ∷ bs) n = refl

-- where one stands, one is
pub row_next : (id : List ℕ) (ps : List (List ℕ)) (more : List RowText) → AllByRecursion IsRowShaped more → id ∷ ps ≡ parts_of_rows more → is_empty id ≡ false
    → (r : RowText) × (rs : List RowText) × (more ≡ r ∷ rs) × IsRowShaped r × AllByRecursion IsRowShaped rs × (id ∷ ps ≡ fields_of r ++ parts_of_rows rs)
row_next id ps [] h same some =
    let first : id ≡ [] = ap (at 0) same in
    absurd (both_ways (is_empty id) some (ap is_empty first))
row_next id ps (r ∷ rs) h same some = (r, rs, refl, h.0, h.1, same)

-- the sentence once all its rows are taken
pub rows_taken : (old new : BlockText) (rs more : List RowText) → old.rows ++ rs ≡ new.rows ++ more → more ≡ [] → new.comments ≡ old.comments → new ≡ block_made old.comments (old.rows ++ rs)
rows_taken old new rs more all none comments =
    ap (λ x. block_made x new.rows) comments ∙ ap (λ x. block_made old.comments x) (sym (all ∙ ap (λ m. new.rows ++ m) none ∙ append-nil new.rows))

-- one row more
pub row_added : (old now new : BlockText) (x r : RowText) (rs more next : List RowText) → old.rows ++ rs ≡ now.rows ++ more → more ≡ r ∷ next → x ≡ r → now.comments ≡ old.comments → new ≡ block_made now.comments (now.rows ++ x ∷ [])
    → (old.rows ++ rs ≡ new.rows ++ next) × (new.comments ≡ old.comments)
row_added old now new x r rs more next all first one comments same = (
  all ∙ ap (λ m. now.rows ++ m) first ∙ sym (append_assoc now.rows (r ∷ []) next) ∙ ap (λ y. (now.rows ++ y ∷ []) ++ next) (sym one) ∙ ap (λ (b : BlockText). b.rows ++ next) (sym same),
  ap (λ (b : BlockText). b.comments) same ∙ comments,
)

-- a text without marks has no rows, nor the blank line after them
pub some_left : (now : List ℕ) (more : List RowText) → parts now ≡ parts_of_rows more → parts now ≡ now ∷ [] → ⊥
some_left now more all none = let n = some_parts more in let e : length (parts_of_rows more) ≡ 1 = ap length (sym all ∙ none) in omega (arith, n, e)

-- ---- a sentence

-- the text of a sentence: its comments, then its rows and a blank line
pub text_spread : (b : BlockText) → text_of (b ∷ []) ≡ ended b.comments ++ ended (map row_line b.rows ++ [] ∷ [])
text_spread b = ap ended (append-nil (block_lines b)) ∙ flat_map-append (λ l. l ++ 10 ∷ []) b.comments (map row_line b.rows ++ [] ∷ [])

begun_filled : (l rest : List ℕ) → is_empty l ≡ false → is_comment (l ++ rest) ≡ is_comment l
begun_filled [] rest h = absurd cc
begun_filled (x ∷ l) rest h = refl

-- rows begin with no comment
pub rows_begin : (rs : List RowText) → AllByRecursion IsRowShaped rs → 0 < length rs → is_comment (ended (map row_line rs ++ [] ∷ [])) ≡ false
rows_begin [] h some = absurd (omega arith)
rows_begin (r ∷ rs) h some =
    let begins = row_begins r h.0 in
    ap is_comment (append_assoc (row_line r) (10 ∷ []) (ended (map row_line rs ++ [] ∷ []))) ∙ begun_filled (row_line r) _ begins.0 ∙ begins.1
