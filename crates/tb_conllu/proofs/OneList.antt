-- A text is the text of one list of sentences: it is read off sentence by sentence.
use Rattle.std.proofs.Common.{◌≡◌, ℕ, ◌<◌, List, [], ◌∷◌, ◌++◌, length, Bool, true, false, refl, sym, ◌∙◌, ap, arith, append_assoc, append-nil, map, Option, Some, None}
use Rattle.std.specs.Prelude.{◌==◌, IfSome, slice_index_or}
use Rattle.std.specs.Fmt.{decimal}
use Rattle.std.specs.List.{AllByRecursion}
use Rattle.std.proofs.lemmas.Bool.{both_ways}
use Rattle.std.proofs.lemmas.List.Concat.{flat_map-append}
use Rattle.std.proofs.lemmas.List.Folds.{list_any-append}
use Rattle.tb_conllu.specs.declared.id.LineId.{LineId}
use Rattle.tb_conllu.specs.declared.id.LineId.TheVariants.{Word, Span, Empty}
use Rattle.tb_conllu.specs.Text.{RowText, BlockText, id_text, head_text, fields_of, text_of, lines_of, block_lines, row_line, ended}
use Rattle.tb_conllu.specs.Shape.{IsIdShaped, IsShort, IsRowShaped, IsCommentText, IsShaped, AllShaped}
use Rattle.tb_conllu.specs.Lines.{fields, is_empty, is_comment}
use Rattle.tb_conllu.specs.Reported.{IsFile}
use Rattle.tb_conllu.proofs.Cuts.{Lacks, cut_same, lacks_not, ended_prefix}
use Rattle.tb_conllu.proofs.Decimals.{decimal_same}
use Rattle.tb_conllu.proofs.RowLines.{row_fields, row_begins, hash_is, decimal_lacks}
use Rattle.tb_conllu.proofs.Reported.{lines_cut}

-- ---- a row is known by its line

pair_same : (n m i k mark : ℕ) → Lacks mark (decimal n) → Lacks mark (decimal i) → IsShort n → IsShort m → IsShort i → IsShort k → decimal n ++ mark ∷ decimal m ≡ decimal i ++ mark ∷ decimal k → (n ≡ i) × (m ≡ k)
pair_same n m i k mark hn hi sn sm si sk e =
    let parts = cut_same mark (decimal n) (decimal i) (decimal m) (decimal k) hn hi e in
    (decimal_same n i sn si parts.0, decimal_same m k sm sk parts.1)

-- a text with a full stop isn't one of digits and a hyphen
span_not_empty : (n m i k : ℕ) → IsShort n → IsShort m → decimal n ++ 45 ∷ decimal m ≡ decimal i ++ 46 ∷ decimal k → ⊥
span_not_empty n m i k hn hm e = lacks_not 46 (decimal n ++ 45 ∷ decimal m) (decimal i) (decimal k) none e
  where
    none : Lacks 46 (decimal n ++ 45 ∷ decimal m)
    none = list_any-append (λ b. b == 46) (decimal n) (45 ∷ decimal m) ∙ rw (decimal_lacks n 46 hn refl, decimal_lacks m 46 hm refl) refl

-- two shaped ids with one text are equal
pub id_same : (a b : LineId) → IsIdShaped a → IsIdShaped b → id_text a ≡ id_text b → a ≡ b
id_same (Word n) (Word m) ha hb e = ap Word (decimal_same n m ha.1 hb.1 e)
id_same (Word n) (Span i k) ha hb e = absurd (lacks_not 45 (decimal n) (decimal i) (decimal k) (decimal_lacks n 45 ha.1 refl) e)
id_same (Word n) (Empty i k) ha hb e = absurd (lacks_not 46 (decimal n) (decimal i) (decimal k) (decimal_lacks n 46 ha.1 refl) e)
id_same (Span i k) (Word n) ha hb e = absurd (lacks_not 45 (decimal n) (decimal i) (decimal k) (decimal_lacks n 45 hb.1 refl) (sym e))
id_same (Span n m) (Span i k) ha hb e =
    let p = pair_same n m i k 45 (decimal_lacks n 45 ha.0.1 refl) (decimal_lacks i 45 hb.0.1 refl) ha.0.1 ha.1.1 hb.0.1 hb.1.1 e in
    let p0 = p.0 in let p1 = p.1 in cc
id_same (Span n m) (Empty i k) ha hb e = absurd (span_not_empty n m i k ha.0.1 ha.1.1 e)
id_same (Empty i k) (Word n) ha hb e = absurd (lacks_not 46 (decimal n) (decimal i) (decimal k) (decimal_lacks n 46 hb.1 refl) (sym e))
id_same (Empty i k) (Span n m) ha hb e = absurd (span_not_empty n m i k hb.0.1 hb.1.1 (sym e))
id_same (Empty n m) (Empty i k) ha hb e =
    let p = pair_same n m i k 46 (decimal_lacks n 46 ha.0 refl) (decimal_lacks i 46 hb.0 refl) ha.0 ha.1.1 hb.0 hb.1.1 e in
    let p0 = p.0 in let p1 = p.1 in cc

-- two shaped heads with one text are equal
pub head_same : (a b : Option ℕ) → IfSome a IsShort → IfSome b IsShort → head_text a ≡ head_text b → a ≡ b
head_same None None ha hb e = refl
head_same None (Some n) ha hb e = absurd (lacks_not 95 (decimal n) [] [] (decimal_lacks n 95 hb refl) (sym e))
head_same (Some n) None ha hb e = absurd (lacks_not 95 (decimal n) [] [] (decimal_lacks n 95 ha refl) e)
head_same (Some n) (Some m) ha hb e = ap Some (decimal_same n m ha hb e)

abbrev row_made : LineId → List ℕ → List ℕ → List ℕ → List ℕ → List ℕ → Option ℕ → List ℕ → List ℕ → List ℕ → RowText
row_made id form lemma upos xpos feats head deprel deps misc = record { id = id; form = form; lemma = lemma; upos = upos; xpos = xpos; feats = feats; head = head; deprel = deprel; deps = deps; misc = misc }

-- the k-th field
abbrev at : ℕ → List (List ℕ) → List ℕ
at k fs = slice_index_or fs k []

fields_same : (r s : RowText) → IsRowShaped r → IsRowShaped s → fields_of r ≡ fields_of s → r ≡ s
fields_same r s hr hs e =
    let id = id_same r.id s.id hr.id hs.id (ap (at 0) e) in
    let head = head_same r.head s.head hr.head hs.head (ap (at 6) e) in
    ap (λ x. row_made x r.form r.lemma r.upos r.xpos r.feats r.head r.deprel r.deps r.misc) id
    ∙ ap (λ fs. row_made s.id (at 1 fs) (at 2 fs) (at 3 fs) (at 4 fs) (at 5 fs) r.head (at 7 fs) (at 8 fs) (at 9 fs)) e
    ∙ ap (λ x. row_made s.id s.form s.lemma s.upos s.xpos s.feats x s.deprel s.deps s.misc) head

-- two shaped rows with one line are equal
pub row_same : (r s : RowText) → IsRowShaped r → IsRowShaped s → row_line r ≡ row_line s → r ≡ s
row_same r s hr hs e = fields_same r s hr hs (sym (row_fields r hr) ∙ ap fields e ∙ row_fields s hs)

-- ---- a sentence is known by its lines

-- the first element that fails the test ends those that pass it
front_same : {A : Type 0} (p : A → Bool) (xs ys : List A) (x y : A) (r s : List A) → AllByRecursion (λ a. p a ≡ true) xs → AllByRecursion (λ a. p a ≡ true) ys → p x ≡ false → p y ≡ false → xs ++ x ∷ r ≡ ys ++ y ∷ s → (xs ≡ ys) × (x ≡ y) × (r ≡ s)
front_same p [] [] x y r s hx hy ex ey e = (refl, cc, cc)
front_same p [] (b ∷ ys) x y r s hx hy ex ey e =
    let same : x ≡ b = cc in
    absurd (both_ways (p x) ex (ap p same ∙ hy.0))
front_same p (a ∷ xs) [] x y r s hx hy ex ey e =
    let same : a ≡ y = cc in
    absurd (both_ways (p y) ey (ap p (sym same) ∙ hx.0))
front_same p (a ∷ xs) (b ∷ ys) x y r s hx hy ex ey e =
    let heads : a ≡ b = cc in
    let tails : xs ++ x ∷ r ≡ ys ++ y ∷ s = cc in
    let rest = front_same p xs ys x y r s hx.1 hy.1 ex ey tails in
    ((let t = rest.0 in cc), rest.1, rest.2)

comments_pass : (cs : List (List ℕ)) → AllByRecursion IsCommentText cs → AllByRecursion (λ l. is_comment l ≡ true) cs
comments_pass [] h = tt
comments_pass (c ∷ cs) h = ((hash_is c h.0.hash).1, comments_pass cs h.1)

rows_same : (rs ss : List RowText) (r s : List (List ℕ)) → AllByRecursion IsRowShaped rs → AllByRecursion IsRowShaped ss → map row_line rs ++ [] ∷ r ≡ map row_line ss ++ [] ∷ s → (rs ≡ ss) × (r ≡ s)
rows_same [] [] r s hr hs e = (refl, cc)
rows_same [] (b ∷ ss) r s hr hs e =
    let same : [] ≡ row_line b = cc in
    absurd (both_ways (is_empty (row_line b)) (row_begins b hs.0).0 (ap is_empty (sym same)))
rows_same (a ∷ rs) [] r s hr hs e =
    let same : row_line a ≡ [] = cc in
    absurd (both_ways (is_empty (row_line a)) (row_begins a hr.0).0 (ap is_empty same))
rows_same (a ∷ rs) (b ∷ ss) r s hr hs e =
    let lines : row_line a ≡ row_line b = cc in
    let tails : map row_line rs ++ [] ∷ r ≡ map row_line ss ++ [] ∷ s = cc in
    let rest = rows_same rs ss r s hr.1 hs.1 tails in
    let first : a ≡ b = row_same a b hr.0 hs.0 lines in
    ((let t = rest.0 in cc), rest.1)

-- the comments end before the first row
parts_same : (cs ds : List (List ℕ)) (rs ss : List RowText) (r s : List (List ℕ)) → AllByRecursion IsCommentText cs → AllByRecursion IsCommentText ds → AllByRecursion IsRowShaped rs → AllByRecursion IsRowShaped ss → 0 < length rs → 0 < length ss → cs ++ (map row_line rs ++ [] ∷ r) ≡ ds ++ (map row_line ss ++ [] ∷ s) → (cs ≡ ds) × (rs ≡ ss) × (r ≡ s)
parts_same cs ds [] ss r s hc hd hr hs nr ns e = absurd (omega arith)
parts_same cs ds (a ∷ rs) [] r s hc hd hr hs nr ns e = absurd (omega arith)
parts_same cs ds (a ∷ rs) (b ∷ ss) r s hc hd hr hs nr ns e =
    let front = front_same is_comment cs ds (row_line a) (row_line b) (map row_line rs ++ [] ∷ r) (map row_line ss ++ [] ∷ s) (comments_pass cs hc) (comments_pass ds hd) (row_begins a hr.0).1 (row_begins b hs.0).1 e in
    let all = rows_same (a ∷ rs) (b ∷ ss) r s hr hs (let x = front.1 in let y = front.2 in cc) in
    (front.0, all.0, all.1)

abbrev block_made : List (List ℕ) → List RowText → BlockText
block_made comments rows = record { comments = comments; rows = rows }

block_same : (b c : BlockText) (r s : List (List ℕ)) → IsShaped b → IsShaped c → block_lines b ++ r ≡ block_lines c ++ s → (b ≡ c) × (r ≡ s)
block_same b c r s hb hc e =
    let whole : b.comments ++ (map row_line b.rows ++ [] ∷ r) ≡ c.comments ++ (map row_line c.rows ++ [] ∷ s) = sym (spread b r) ∙ e ∙ spread c s in
    let p = parts_same b.comments c.comments b.rows c.rows r s hb.comments hc.comments hb.rows hc.rows hb.nonempty hc.nonempty whole in
    (ap (λ x. block_made x b.rows) p.0 ∙ ap (λ x. block_made c.comments x) p.1, p.2)
  where
    spread : (b : BlockText) (r : List (List ℕ)) → block_lines b ++ r ≡ b.comments ++ (map row_line b.rows ++ [] ∷ r)
    spread b r = simp append_assoc

-- ---- a file is known by its text

-- a list with an element isn't empty
some_at : {A : Type 0} (xs : List A) (y : A) (ys : List A) → xs ++ y ∷ ys ≡ [] → ⊥
some_at [] y ys e = cc
some_at (x ∷ xs) y ys e = cc

-- the blank line ends a sentence
pub block_ends : (b : BlockText) (r : List (List ℕ)) → block_lines b ++ r ≡ (b.comments ++ map row_line b.rows) ++ [] ∷ r
block_ends b r = simp append_assoc

some_lines : (b : BlockText) (r : List (List ℕ)) → block_lines b ++ r ≡ [] → ⊥
some_lines b r e = some_at (b.comments ++ map row_line b.rows) [] r (sym (block_ends b r) ∙ e)

lines_begin : (bs cs : List BlockText) (zs : List (List ℕ)) → AllShaped bs → AllShaped cs → lines_of cs ≡ lines_of bs ++ zs → (more : List BlockText) × (cs ≡ bs ++ more) × AllShaped more × (zs ≡ lines_of more)
lines_begin [] cs zs hb hc e = (cs, refl, hc, sym e)
lines_begin (b ∷ bs) [] zs hb hc e = absurd (some_lines b (lines_of bs ++ zs) (sym (append_assoc (block_lines b) (lines_of bs) zs) ∙ sym e))
lines_begin (b ∷ bs) (c ∷ cs) zs hb hc e =
    let same = block_same c b (lines_of cs) (lines_of bs ++ zs) hc.0 hb.0 (e ∙ append_assoc (block_lines b) (lines_of bs) zs) in
    let rest = lines_begin bs cs zs hb.1 hc.1 same.1 in
    (rest.0, (let x = same.0 in let y = rest.1 in cc), rest.2, rest.3)

-- a file that begins with the text of shaped sentences begins with these sentences
pub begins_one_way : (bs cs : List BlockText) (rest : List ℕ) → AllShaped bs → AllShaped cs → text_of cs ≡ text_of bs ++ rest → (more : List BlockText) × (cs ≡ bs ++ more) × IsFile rest more
begins_one_way bs cs rest hb hc e =
    let found = ended_prefix (lines_of cs) (lines_of bs) rest (lines_cut cs hc) (lines_cut bs hb) e in
    let parts = lines_begin bs cs found.0 hb hc found.1 in
    (parts.0, parts.1, record { shaped = parts.2; text = sym found.2 ∙ ap ended parts.3 })

no_text : (bs : List BlockText) → text_of bs ≡ [] → bs ≡ []
no_text [] e = refl
no_text (b ∷ bs) e =
    let parted = ap ended (block_ends b (lines_of bs)) ∙ flat_map-append (λ l. l ++ 10 ∷ []) (b.comments ++ map row_line b.rows) ([] ∷ lines_of bs) in
    absurd (some_at (ended (b.comments ++ map row_line b.rows)) 10 (ended (lines_of bs)) (sym parted ∙ e))

-- two lists of shaped sentences with one text are equal
pub one_list : (f : List ℕ) (bs cs : List BlockText) → IsFile f bs → IsFile f cs → bs ≡ cs
one_list f bs cs hb hc =
    let found = begins_one_way bs cs [] hb.shaped hc.shaped (sym hc.text ∙ hb.text ∙ sym (append-nil (text_of bs))) in
    let none = no_text found.0 (sym found.2.text) in
    sym (found.1 ∙ ap (λ m. bs ++ m) none ∙ append-nil bs)
