-- The parts of a text, and those of rows.
use Rattle.std.proofs.Common.{◌≡◌, ℕ, ◌<◌, List, [], ◌∷◌, ◌++◌, length, true, false, refl, ◌∙◌, ap, arith, append_assoc, map, length-append, Option, Some, None}
use Rattle.std.specs.Prelude.{MatchOption}
use Rattle.std.specs.List.{list_any, AllByRecursion, onto_first, join_with_byte}
use Rattle.std.proofs.lemmas.Bool.{or_parts, or_from, cond-true, cond-false}
use Rattle.std.proofs.lemmas.Bool.Decides.{nat_tests}
use Rattle.tb_conllu.specs.Marks.{is_mark, parts}
use Rattle.tb_conllu.specs.Shape.{IsFieldText, IsRowShaped, is_control, is_tab}
use Rattle.tb_conllu.specs.Text.{RowText, row_line, fields_of, id_text, head_text, ended}
use Rattle.tb_conllu.proofs.RowLines.{row_fields_text, each}

-- a mark ends the part before it
pub part_ends : (m : ℕ) (f rest : List ℕ) → is_mark m ≡ true → list_any is_mark f ≡ false → parts (f ++ m ∷ rest) ≡ f ∷ parts rest
part_ends m [] rest hit h = cond-true (is_mark m) _ _ hit
part_ends m (x ∷ f) rest hit h =
    let both = or_parts (is_mark x) _ h in
    cond-false (is_mark x) _ _ both.0 ∙ ap (onto_first x) (part_ends m f rest hit both.1)

-- a text without marks is its one part
pub part_alone : (f : List ℕ) → list_any is_mark f ≡ false → parts f ≡ f ∷ []
part_alone [] h = refl
part_alone (x ∷ f) h =
    let both = or_parts (is_mark x) _ h in
    cond-false (is_mark x) _ _ both.0 ∙ ap (onto_first x) (part_alone f both.1)

abbrev pub HasNoMark : List ℕ → Type 0
HasNoMark f = list_any is_mark f ≡ false

unmarked : (f : List ℕ) → list_any is_control f ≡ false → list_any is_tab f ≡ false → HasNoMark f
unmarked [] h k = refl
unmarked (b ∷ f) h k =
    let clean = or_parts (is_control b) _ h in
    let tabless = or_parts (is_tab b) _ k in
    let here : is_mark b ≡ false = grind (arith, nat_tests) in
    or_from _ _ here (unmarked f clean.1 tabless.1)

field_unmarked : (f : List ℕ) → IsFieldText f → HasNoMark f
field_unmarked f h = unmarked f h.text.clean h.no_tab

-- the parts of a line, and of what follows it
line_parts : (f : List ℕ) (fs : List (List ℕ)) (rest : List ℕ) → AllByRecursion HasNoMark (f ∷ fs) → parts (join_with_byte 9 (f ∷ fs) ++ 10 ∷ rest) ≡ (f ∷ fs) ++ parts rest
line_parts f [] rest h = part_ends 10 f rest refl h.0
line_parts f (g ∷ fs) rest h =
    ap parts (append_assoc f (9 ∷ join_with_byte 9 (g ∷ fs)) (10 ∷ rest)) ∙ part_ends 9 f (join_with_byte 9 (g ∷ fs) ++ 10 ∷ rest) refl h.0
    ∙ ap (λ l. f ∷ l) (line_parts g fs rest h.1)

row_parts : (r : RowText) (rest : List ℕ) → IsRowShaped r → parts (row_line r ++ 10 ∷ rest) ≡ fields_of r ++ parts rest
row_parts r rest h = line_parts (id_text r.id) (r.form ∷ r.lemma ∷ r.upos ∷ r.xpos ∷ r.feats ∷ head_text r.head ∷ r.deprel ∷ r.deps ∷ r.misc ∷ []) rest (each {P = IsFieldText} {Q = HasNoMark} field_unmarked (fields_of r) (row_fields_text r h))

-- the parts of rows and of the blank line after them
abbrev pub parts_of_rows : List RowText → List (List ℕ)
parts_of_rows [] = [] ∷ [] ∷ []
parts_of_rows (r ∷ rs) = fields_of r ++ parts_of_rows rs

pub rows_parts : (rs : List RowText) → AllByRecursion IsRowShaped rs → parts (ended (map row_line rs ++ [] ∷ [])) ≡ parts_of_rows rs
rows_parts [] h = refl
rows_parts (r ∷ rs) h =
    ap parts (append_assoc (row_line r) (10 ∷ []) (ended (map row_line rs ++ [] ∷ []))) ∙ row_parts r (ended (map row_line rs ++ [] ∷ [])) h.0
    ∙ ap (λ l. fields_of r ++ l) (rows_parts rs h.1)

pub some_parts : (rs : List RowText) → 1 < length (parts_of_rows rs)
some_parts [] = omega arith
some_parts (r ∷ rs) = let more = some_parts rs in let sum = length-append (fields_of r) (parts_of_rows rs) in omega (arith, more, sum)

-- the first part, where a text was cut at a mark, or could not be
pub first_part : {X : Type 0} (f : X → List ℕ) (o : Option X) (old new : List ℕ) → MatchOption o ((list_any is_mark old ≡ false) × (new ≡ old)) (λ part. (list_any is_mark (f part) ≡ false) × ((mark : ℕ) × (is_mark mark ≡ true) × (old ≡ f part ++ mark ∷ new)))
    → MatchOption o (parts old ≡ old ∷ []) (λ part. parts old ≡ f part ∷ parts new)
first_part f None old new h = part_alone old h.0
first_part f (Some part) old new h = ap parts h.1.2 ∙ part_ends h.1.0 (f part) new h.1.1 h.0
