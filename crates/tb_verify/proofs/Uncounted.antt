-- A sentence without a revision has no course.
use Rattle.std.proofs.Common.{◌≡◌, ℕ, List, [], ◌∷◌, map, Bool, true, false, ◌&&◌, nat_eq, string_bytes, ap, refl, sym, ◌∙◌}
use Rattle.tb_conllu.specs.Text.{BlockText}
use Rattle.tb_tables.specs.declared.rows.RevisionRow.{RevisionRow}
use Rattle.tb_tables.specs.Records.{Sentence}
use Rattle.tb_tables.specs.Values.{revision_of}
use Rattle.tb_verify.specs.Course.{is_course, own_text}

no_end : (b : Bool) → (b && false) ≡ true → ⊥
no_end true h = let t : false ≡ true = h in cc
no_end false h = let t : false ≡ true = h in cc

none_read : (bs : List BlockText) → map own_text bs ≡ [] → bs ≡ []
none_read [] h = refl
none_read (b ∷ bs) h = cc

pub no_course : (n : ℕ) (s : Sentence) (rows : List RevisionRow) (bs : List BlockText) → rows ≡ []
    → map own_text bs ≡ map (λ r. string_bytes r.body) rows → is_course n s (map revision_of rows) bs ≡ true → ⊥
no_course n s rows bs none texts is =
    let blocks : bs ≡ [] = none_read bs (texts ∙ ap (map (λ (r : RevisionRow). string_bytes r.body)) none) in
    no_end (nat_eq 0 s.rev) (sym (ap (λ x. is_course n s (map revision_of rows) x) blocks ∙ ap (λ (x : List RevisionRow). is_course n s (map revision_of x) []) none) ∙ is)
