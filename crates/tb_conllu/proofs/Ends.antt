-- What is told where reading stops: at a line with a code, or at the end of the bytes.
use Rattle.std.proofs.Common.{◌≡◌, ℕ, ◌+◌, ◌<◌, inl, inr, List, [], ◌∷◌, ◌++◌, length, false, refl, sym, ◌∙◌, ap, subst, arith, append_assoc, append-nil, map}
use Rattle.std.specs.List.{AllByRecursion}
use Rattle.std.proofs.lemmas.Bool.{both_ways}
use Rattle.tb_conllu.specs.Text.{RowText, BlockText, text_of, lines_of, row_line, ended}
use Rattle.tb_conllu.specs.Shape.{IsRowShaped, IsCommentText, AllShaped}
use Rattle.tb_conllu.specs.Lines.{line_code, came_through, is_empty}
use Rattle.tb_conllu.specs.Reported.{IsLine, AreLines, IsNoFile, IsReported}
use Rattle.tb_conllu.specs.Begun.{BegunText, IsSound, lines_so_far, has_rows}
use Rattle.tb_conllu.proofs.Cuts.{begin_same, all_lines}
use Rattle.tb_conllu.proofs.RowLines.{hash_is, row_begins}
use Rattle.tb_conllu.proofs.Reported.{all_append, lines_cut, begun_cut, came_so_far, dead, alive}
use Rattle.tb_conllu.proofs.OneList.{begins_one_way, block_ends}
use Rattle.tb_conllu.proofs.Faults.{ended_more}

-- ---- at a line

-- a line with a code after lines that were read is the fault of the bytes
pub line_reported : (f : List ℕ) (b : BegunText) (reported rest : List ℕ) (code : ℕ) → IsSound b → IsLine reported → f ≡ ended (lines_so_far b) ++ (reported ++ 10 ∷ rest) → line_code (has_rows b.rows) reported ≡ code → 0 < code → IsReported f (length (lines_so_far b) + 1) code
line_reported f b reported rest code h cut whole least some =
    let came = came_so_far b h in
    let same : line_code (came_through false (lines_so_far b)) reported ≡ code = ap (λ c. line_code c reported) came ∙ least in
    let lines = all_append IsLine (lines_so_far b) (reported ∷ []) (begun_cut b h) (cut, tt) in
    inl (record {
      before = lines_so_far b;
      reported = reported;
      rest = rest;
      whole = whole ∙ ap (λ t. ended (lines_so_far b) ++ t) (sym (append_assoc reported (10 ∷ []) rest)) ∙ ap (λ t. ended (lines_so_far b) ++ (t ++ rest)) (sym (append-nil (reported ++ 10 ∷ []))) ∙ sym (ended_more (lines_so_far b) (reported ∷ []) rest);
      cut = lines;
      place = refl;
      dead = dead (lines_so_far b) reported lines (omega (arith, same, some));
      alive = alive b h;
      least = same;
    })

-- ---- at the end

pub begun_filled : (cs : List (List ℕ)) (rs : List RowText) → AllByRecursion IsCommentText cs → AllByRecursion IsRowShaped rs → AllByRecursion (λ l. is_empty l ≡ false) (cs ++ map row_line rs)
begun_filled [] [] h k = tt
begun_filled [] (r ∷ rs) h k = ((row_begins r k.0).0, begun_filled [] rs tt k.1)
begun_filled (c ∷ cs) rs h k = ((hash_is c h.0.hash).0, begun_filled cs rs h.1 k)

no_blank : (xs ys ls : List (List ℕ)) → AllByRecursion (λ l. is_empty l ≡ false) ls → ls ≡ xs ++ [] ∷ ys → ⊥
no_blank [] ys [] h e = cc
no_blank (x ∷ xs) ys [] h e = cc
no_blank [] ys (l ∷ ls) h e =
    let same : l ≡ [] = cc in
    both_ways (is_empty l) h.0 (ap is_empty same)
no_blank (x ∷ xs) ys (l ∷ ls) h e = no_blank xs ys ls h.1 cc

filled : (l more rest : List ℕ) → ((l ++ 10 ∷ []) ++ more) ++ rest ≡ [] → ⊥
filled [] more rest e = cc
filled (b ∷ l) more rest e = cc

length_none : (cs : List (List ℕ)) (rs : List RowText) (rest : List ℕ) → ended (cs ++ map row_line rs) ++ rest ≡ [] → length cs + length rs + length rest ≡ 0
length_none [] [] [] e = refl
length_none [] [] (x ∷ rest) e = absurd cc
length_none [] (r ∷ rs) rest e = absurd (filled (row_line r) (ended (map row_line rs)) rest e)
length_none (c ∷ cs) rs rest e = absurd (filled c (ended (cs ++ map row_line rs)) rest e)

-- a sentence that lacks its blank line, or bytes after the last line feed, are no file
begun_no_text : (cs : List (List ℕ)) (rs : List RowText) (rest : List ℕ) (bs : List BlockText) → AllByRecursion IsCommentText cs → AllByRecursion IsRowShaped rs → IsLine rest → AreLines (cs ++ map row_line rs) → 0 < length cs + length rs + length rest → AllShaped bs → ended (cs ++ map row_line rs) ++ rest ≡ text_of bs → ⊥
begun_no_text cs rs rest [] hc hr cut lines some hb e = let none = length_none cs rs rest e in omega arith
begun_no_text cs rs rest (b ∷ bs) hc hr cut lines some hb e =
    let whole : ended (lines_of (b ∷ bs)) ++ [] ≡ ended (cs ++ map row_line rs) ++ rest = append-nil (text_of (b ∷ bs)) ∙ sym e in
    let short = all_lines (lines_of (b ∷ bs)) (cs ++ map row_line rs) [] rest (lines_cut (b ∷ bs) hb) lines cut whole in
    let found = begin_same (lines_of (b ∷ bs)) (cs ++ map row_line rs) [] rest (lines_cut (b ∷ bs) hb) lines short whole in
    let parted = found.1 ∙ ap (λ l. l ++ found.0) (block_ends b (lines_of bs)) ∙ append_assoc (b.comments ++ map row_line b.rows) ([] ∷ lines_of bs) found.0 in
    no_blank (b.comments ++ map row_line b.rows) (lines_of bs ++ found.0) (cs ++ map row_line rs) (begun_filled cs rs hc hr) parted

cut_end : (xs ys : List (List ℕ)) → AreLines (xs ++ ys) → AreLines ys
cut_end [] ys h = h
cut_end (x ∷ xs) ys h = cut_end xs ys h.1

-- lines that end inside a sentence, or bytes after the last line feed, make no file
pub unended_no_file : (b : BegunText) (rest : List ℕ) → IsSound b → IsLine rest → 0 < length b.comments + length b.rows + length rest → IsNoFile (ended (lines_so_far b) ++ rest)
unended_no_file b rest h cut some cs hc e =
    let whole : text_of cs ≡ text_of b.done ++ (ended (b.comments ++ map row_line b.rows) ++ rest) = sym e ∙ ended_more (lines_of b.done) (b.comments ++ map row_line b.rows) rest in
    let found = begins_one_way b.done cs (ended (b.comments ++ map row_line b.rows) ++ rest) h.done hc whole in
    let lines = cut_end (lines_of b.done) (b.comments ++ map row_line b.rows) (begun_cut b h) in
    begun_no_text b.comments b.rows rest found.0 h.comments h.rows cut lines some found.2.shaped found.2.text

-- the fault that is told of them
pub end_reported : (f : List ℕ) (b : BegunText) (rest : List ℕ) → IsSound b → IsLine rest → f ≡ ended (lines_so_far b) ++ rest → 0 < length b.comments + length b.rows + length rest → IsReported f (length (lines_so_far b) + 1) 10
end_reported f b rest h cut whole some =
    let N : List ℕ → Type 0 = IsNoFile in
    inr (
      record {
        before = lines_so_far b;
        rest = rest;
        whole = whole;
        cut = begun_cut b h;
        cut_rest = cut;
        place = refl;
        alive = alive b h;
        no_file = subst N (sym whole) (unended_no_file b rest h cut some);
      },
      refl,
    )
