use Rattle.std.proofs.Common.{◌≡◌, ℕ, zero, suc, ◌+◌, ◌<◌, List, [], ◌∷◌, ◌++◌, length, drop, get_or, Bool, true, false, not, ◌&&◌, refl, sym, ◌∙◌, ap, subst, arith, eqb, append_assoc, length-append, add-one}
use Rattle.std.specs.Char.{is_whitespace}
use Rattle.std.specs.List.{flat_map, list_all}
use lib.Utf8.{encode, encodes}
use Rattle.tb_conllu.specs.Text.{RowText}
use Rattle.std.proofs.Math.Seq.{drop-cons}
use Rattle.std.proofs.lemmas.Bool.{and_parts, ne_eqb}
use Rattle.std.proofs.lemmas.List.{append-nil, length_push}
use Rattle.std.proofs.lemmas.Str.{length-encode, len_utf8_bounds}
use Rattle.tb_rules.specs.Restored.{folded}
use Rattle.tb_rules.specs.Expected.{folded_after, continued}
use Rattle.tb_rules.proofs.Pieces.{folds}

-- a text that ends in a character isn't empty
begun : (xs : List ℕ) (c : ℕ) → not (eqb (length (xs ++ encode c)) 0) ≡ true
begun xs c =
    let some : length (xs ++ encode c) ≡ 0 → ⊥ = λ e. omega (arith, length-append xs (encode c), length-encode c, (len_utf8_bounds c).0) in
    ap not (ne_eqb (length (xs ++ encode c)) 0 some)

-- a character that comes after a gap
pub comes_after_gap : (out : List ℕ) (gap : Bool) (c : ℕ) (next : List ℕ) → is_whitespace c ≡ false → (not (eqb (length out) 0) && gap) ≡ true → continued ((out ++ encode 32) ++ encode c) false next ≡ continued out gap (c ∷ next)
comes_after_gap out gap c next white spaced =
    ap (λ b. ((out ++ encode 32) ++ encode c) ++ encodes (folded_after b false next)) (begun (out ++ encode 32) c) ∙
    (append_assoc (out ++ encode 32) (encode c) (encodes (folded_after true false next)) ∙
    (append_assoc out (encode 32) (encode c ++ encodes (folded_after true false next)) ∙
    (rw white (rw spaced refl))))

-- a character that comes with no gap, or first of all
pub comes_at_once : (out : List ℕ) (gap : Bool) (c : ℕ) (next : List ℕ) → is_whitespace c ≡ false → (not (eqb (length out) 0) && gap) ≡ false → continued (out ++ encode c) false next ≡ continued out gap (c ∷ next)
comes_at_once out gap c next white spaced =
    ap (λ b. (out ++ encode c) ++ encodes (folded_after b false next)) (begun out c) ∙
    (append_assoc out (encode c) (encodes (folded_after true false next)) ∙
    (rw white (rw spaced refl)))

-- the next character of a text
pub drop-turn : (cs seen : List ℕ) (c : ℕ) → (length seen < length cs) × (c ≡ get_or cs (length seen) c) → drop (length seen) cs ≡ c ∷ drop (length (seen ++ c ∷ [])) cs
drop-turn cs seen c (l, e) =
    drop-cons cs (length seen) c l ∙ (ap (λ x. x ∷ drop (suc (length seen)) cs) (sym e) ∙ ap (λ n. c ∷ drop n cs) (sym (length_push seen c ∙ add-one (length seen))))

-- all of a text has come, and nothing stood before it
pub folded_whole : (out start cs : List ℕ) (gap : Bool) → start ≡ [] → continued out gap [] ≡ continued start false (cs ++ []) → out ≡ encodes (folded cs)
folded_whole out start cs gap empty h =
    sym (append-nil out) ∙ (h ∙ (ap (λ s. continued s false (cs ++ [])) empty ∙ (ap (λ xs. encodes (folded_after false false xs)) (append-nil cs) ∙ ap encodes (folds cs))))

-- one row more
pub text_turn : (f : RowText → List ℕ) (rs : List RowText) (i : ℕ) (r : RowText) → i < length rs → r ≡ get_or rs i r
    → flat_map f (drop i rs) ≡ f r ++ flat_map f (drop (i + 1) rs)
text_turn f rs i r l e =
    ap (flat_map f) (drop-cons rs i r l ∙ ap (λ x. x ∷ drop (suc i) rs) (sym e)) ∙ ap (λ n. f r ++ flat_map f (drop n rs)) (sym (add-one i))

-- what holds of all holds of each
pub all_at : (p : ℕ → Bool) (xs : List ℕ) (k x : ℕ) (rest : List ℕ) → list_all p xs ≡ true → drop k xs ≡ x ∷ rest → p x ≡ true
all_at p [] zero x rest all here = absurd (let no : ⊥ = cc in no)
all_at p [] (suc k) x rest all here = absurd (let no : ⊥ = cc in no)
all_at p (y ∷ ys) zero x rest all here = let same : y ≡ x = cc in subst (λ z. p z ≡ true) same (and_parts (p y) (list_all p ys) all).0
all_at p (y ∷ ys) (suc k) x rest all here = all_at p ys k x rest (and_parts (p y) (list_all p ys) all).1 here
