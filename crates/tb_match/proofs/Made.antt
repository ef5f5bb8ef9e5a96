-- Each tree of a bounded weight stands for a pattern in memory.
use Rattle.std.proofs.Common.{◌≡◌, ℕ, ◌<◌, ◌≤◌, ◌^◌, List, [], ◌∷◌, length, Option, Box, Vec, Global, refl, ap, ◌∙◌, le_refl, arith}
use denote.RawPtr.{null_ptr}
use Rattle.tb_match.specs.declared.pattern.Pat.{Pat}
use Rattle.tb_match.specs.declared.pattern.Pat.TheVariants.{Tok, Cat, Alt, Rep}
use Rattle.tb_match.specs.Trees.{Tree, tok, cat, alt, rep, Forest, no_more, and_more, tree, trees}
use Rattle.tb_match.specs.Weight.{weight_of, weight_of_all}
use Rattle.tb_match.proofs.Parts.{is_tok, is_cat, is_alt, is_rep}

-- lists and boxes as a program holds them

heap : Global
heap = record { memory = record { seal = tt } }

abbrev vec_of : (ps : List Pat) → length ps < 2 ^ 63 → Vec Pat Global
vec_of ps small = record { ptr = null_ptr; len = length ps; cap = length ps; alloc = heap; items = ps; ok = (refl, le_refl (length ps)); small = small }

abbrev box_of : Pat → Box Pat Global
box_of p = record { ptr = null_ptr; alloc = heap; value = p }

-- a pattern that stands for the tree, and patterns that stand for the parts

abbrev IsMade : Tree → Type 0
IsMade t = (p : Pat) × (tree p ≡ t)

abbrev AreMade : Forest → Type 0
AreMade f = (ps : List Pat) × (trees ps ≡ f) × (length ps ≤ weight_of_all f)

cat_made : (f : Forest) → weight_of_all f ≤ 1000000 → AreMade f → IsMade (cat f)
cat_made f light (ps, same, few) =
    let parts = vec_of ps (omega arith) in
    (Cat parts, is_cat (Cat parts) parts ps refl refl ∙ ap cat same)

alt_made : (f : Forest) → weight_of_all f ≤ 1000000 → AreMade f → IsMade (alt f)
alt_made f light (ps, same, few) =
    let parts = vec_of ps (omega arith) in
    (Alt parts, is_alt (Alt parts) parts ps refl refl ∙ ap alt same)

rep_made : (t : Tree) (a : ℕ) (b : Option ℕ) → IsMade t → IsMade (rep t a b)
rep_made t a b (p, same) = (Rep (box_of p) a b, is_rep (Rep (box_of p) a b) (box_of p) p a b refl refl ∙ ap (λ u. rep u a b) same)

more_made : (t : Tree) (rest : Forest) → IsMade t → AreMade rest → AreMade (and_more t rest)
more_made t rest (p, same) (ps, others, few) = (p ∷ ps, ap (λ u. and_more u (trees ps)) same ∙ ap (λ us. and_more t us) others, omega arith)

mutual
  pub made : (t : Tree) → weight_of t ≤ 1000000 → IsMade t
  made (tok e) light = (Tok e, is_tok (Tok e) e refl)
  made (cat parts) light = cat_made parts light (all_made parts light)
  made (alt parts) light = alt_made parts light (all_made parts light)
  made (rep t a b) light = rep_made t a b (made t (omega arith))

  all_made : (f : Forest) → weight_of_all f ≤ 1000000 → AreMade f
  all_made no_more light = ([], refl, omega arith)
  all_made (and_more t rest) light = more_made t rest (made t (omega arith)) (all_made rest (omega arith))
