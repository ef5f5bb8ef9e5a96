-- Lists cut at a byte, and lines cut at line feeds.
use Rattle.std.proofs.Common.{◌≡◌, ℕ, ◌≤◌, List, [], ◌∷◌, ◌++◌, length, true, false, refl, sym, ◌∙◌, ap, arith, append_assoc}
use Rattle.std.specs.Prelude.{◌==◌}
use Rattle.std.specs.List.{list_any}
use Rattle.std.proofs.lemmas.Bool.{or_parts, both_ways}
use Rattle.tb_conllu.specs.Text.{ended}
use Rattle.tb_conllu.specs.Reported.{IsLine, AreLines}

-- no byte of the list is c
abbrev pub Lacks : ℕ → List ℕ → Type 0
Lacks c bs = list_any (λ b. b == c) bs ≡ false

is_same : (c : ℕ) → (c == c) ≡ true
is_same c = grind arith

-- the first c ends the part before it
pub cut_same : (c : ℕ) (a b r s : List ℕ) → Lacks c a → Lacks c b → a ++ c ∷ r ≡ b ++ c ∷ s → (a ≡ b) × (r ≡ s)
cut_same c [] [] r s ha hb e = (refl, cc)
cut_same c [] (y ∷ b) r s ha hb e =
    let parts = or_parts (y == c) _ hb in
    let same : c ≡ y = cc in
    absurd (both_ways (y == c) parts.0 (ap (λ z. z == c) (sym same) ∙ is_same c))
cut_same c (x ∷ a) [] r s ha hb e =
    let parts = or_parts (x == c) _ ha in
    let same : x ≡ c = cc in
    absurd (both_ways (x == c) parts.0 (ap (λ z. z == c) same ∙ is_same c))
cut_same c (x ∷ a) (y ∷ b) r s ha hb e =
    let pa = or_parts (x == c) _ ha in
    let pb = or_parts (y == c) _ hb in
    let tails : a ++ c ∷ r ≡ b ++ c ∷ s = cc in
    let rest = cut_same c a b r s pa.1 pb.1 tails in
    let heads : x ≡ y = cc in
    (let e0 = rest.0 in cc, rest.1)

-- a list that lacks c doesn't hold it
pub lacks_not : (c : ℕ) (a b r : List ℕ) → Lacks c a → a ≡ b ++ c ∷ r → ⊥
lacks_not c [] [] r h e = cc
lacks_not c [] (y ∷ b) r h e = cc
lacks_not c (x ∷ a) [] r h e =
    let parts = or_parts (x == c) _ h in
    let same : x ≡ c = cc in
    both_ways (x == c) parts.0 (ap (λ z. z == c) same ∙ is_same c)
lacks_not c (x ∷ a) (y ∷ b) r h e =
    let parts = or_parts (x == c) _ h in
    let tails : a ≡ b ++ c ∷ r = cc in
    lacks_not c a b r parts.1 tails

pub ended-cons : (l : List ℕ) (ls : List (List ℕ)) (rest : List ℕ) → ended (l ∷ ls) ++ rest ≡ l ++ 10 ∷ (ended ls ++ rest)
ended-cons l ls rest = simp append_assoc

-- of two ways to cut a text into lines, the longer one begins with the shorter
pub begin_same : (xs ys : List (List ℕ)) (r s : List ℕ) → AreLines xs → AreLines ys → length xs ≤ length ys → ended xs ++ r ≡ ended ys ++ s → (zs : List (List ℕ)) × (ys ≡ xs ++ zs) × (r ≡ ended zs ++ s)
begin_same [] ys r s hx hy short e = (ys, refl, e)
begin_same (x ∷ xs) [] r s hx hy short e = absurd (omega arith)
begin_same (x ∷ xs) (y ∷ ys) r s hx hy short e =
    let f : x ++ 10 ∷ (ended xs ++ r) ≡ y ++ 10 ∷ (ended ys ++ s) = sym (ended-cons x xs r) ∙ e ∙ ended-cons y ys s in
    let same = cut_same 10 x y (ended xs ++ r) (ended ys ++ s) hx.0 hy.0 f in
    let more = begin_same xs ys r s hx.1 hy.1 (omega arith) same.1 in
    (more.0, (let a = same.0 in let b = more.1 in cc), more.2)

-- where no line feed follows, the lines are all of them
pub all_lines : (xs ys : List (List ℕ)) (r s : List ℕ) → AreLines xs → AreLines ys → IsLine s → ended xs ++ r ≡ ended ys ++ s → length xs ≤ length ys
all_lines [] ys r s hx hy hs e = omega arith
all_lines (x ∷ xs) [] r s hx hy hs e = absurd (lacks_not 10 s x (ended xs ++ r) hs (sym e ∙ ended-cons x xs r))
all_lines (x ∷ xs) (y ∷ ys) r s hx hy hs e =
    let f : x ++ 10 ∷ (ended xs ++ r) ≡ y ++ 10 ∷ (ended ys ++ s) = sym (ended-cons x xs r) ∙ e ∙ ended-cons y ys s in
    let same = cut_same 10 x y (ended xs ++ r) (ended ys ++ s) hx.0 hy.0 f in
    let more = all_lines xs ys r s hx.1 hy.1 hs same.1 in
    omega arith

-- what begins with these lines has them as its first lines
pub ended_prefix : (ls ys : List (List ℕ)) (rest : List ℕ) → AreLines ls → AreLines ys → ended ls ≡ ended ys ++ rest → (zs : List (List ℕ)) × (ls ≡ ys ++ zs) × (ended zs ≡ rest)
ended_prefix ls [] rest hl hy e = (ls, refl, e)
ended_prefix [] (y ∷ ys) rest hl hy e = absurd (lacks_not 10 [] y (ended ys ++ rest) refl (e ∙ ended-cons y ys rest))
ended_prefix (l ∷ ls) (y ∷ ys) rest hl hy e =
    let f : l ++ 10 ∷ ended ls ≡ y ++ 10 ∷ (ended ys ++ rest) = sym (append_assoc l (10 ∷ []) (ended ls)) ∙ e ∙ ended-cons y ys rest in
    let same = cut_same 10 l y (ended ls) (ended ys ++ rest) hl.0 hy.0 f in
    let more = ended_prefix ls ys rest hl.1 hy.1 same.1 in
    (more.0, (let a = same.0 in let b = more.1 in cc), more.2)
