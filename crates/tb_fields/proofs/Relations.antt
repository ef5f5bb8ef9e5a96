use Rattle.std.proofs.Common.{◌≡◌, ℕ, ◌+◌, List, [], ◌∷◌, length, Bool, true, false, not, ◌&&◌, ◌||◌, refl, sym, ◌∙◌, ap, arith, inl, inr}
use Rattle.std.specs.Prelude.{bytes_eq, codes}
use Rattle.std.specs.List.{list_any, position_or_len}
use Rattle.std.proofs.Math.Seq.{take-length}
use Rattle.std.proofs.lemmas.Bool.{cases_Bool, cond-true, or_parts, or_from}
use Rattle.std.proofs.lemmas.Slice.Eq.{bytes_eq-Decides}
use Rattle.tb_fields.specs.Relations.{is_universal_relation, is_relation_a_to_c, is_relation_d_to_m, is_relation_n_to_x, is_colon, is_relation, universal_part}
use Rattle.tb_fields.proofs.Places.{list_any-from_no_place}

and_true : (b : Bool) → (b && true) ≡ b
and_true true = refl
and_true false = refl

-- a relation without a colon
pub is_relation-plain : (bs : List ℕ) → position_or_len is_colon bs ≡ length bs → is_relation bs ≡ is_universal_relation bs
is_relation-plain bs none =
    let no : list_any is_colon bs ≡ false = list_any-from_no_place is_colon bs none in
    let whole : universal_part bs ≡ bs = rw none (take-length bs) in
    rw no (and_true (is_universal_relation (universal_part bs)) ∙ ap is_universal_relation whole)

-- one of these is found, or was before
abbrev among : Bool → List (List ℕ) → List ℕ → Bool
among found [] bs = found
among found (w ∷ ws) bs = among (found || bytes_eq bs w) ws bs

later : (a b : Bool) → a ≡ false → (a || b) ≡ true → b ≡ true
later false b miss h = h
later true b miss h = cc

same_none : (bs w : List ℕ) → list_any is_colon w ≡ false → bytes_eq bs w ≡ true → list_any is_colon bs ≡ false
same_none bs w none same = ap (list_any is_colon) ((bytes_eq-Decides bs w).0 same) ∙ none

among_none : (found : Bool) (ws : List (List ℕ)) (bs : List ℕ) → (found ≡ true → list_any is_colon bs ≡ false) → list_any (list_any is_colon) ws ≡ false → among found ws bs ≡ true → list_any is_colon bs ≡ false
among_none found [] bs before none h = before h
among_none found (w ∷ ws) bs before none h =
    let parts = or_parts (list_any is_colon w) _ none in
    among_none (found || bytes_eq bs w) ws bs (λ now. elim (cases_Bool found) [
      | inl hit ↦ before hit
      | inr miss ↦ same_none bs w parts.0 (later found _ miss now)
    ]) parts.1 h

a_to_c : (bs : List ℕ) → is_relation_a_to_c bs ≡ true → list_any is_colon bs ≡ false
a_to_c bs h = among_none (bytes_eq bs (codes "acl")) (
    codes "advcl" ∷ codes "advmod" ∷ codes "amod" ∷ codes "appos" ∷ codes "aux" ∷ codes "case" ∷
    codes "cc" ∷ codes "ccomp" ∷ codes "clf" ∷ codes "compound" ∷ codes "conj" ∷ codes "cop" ∷ codes "csubj" ∷
    []
    ) bs (same_none bs (codes "acl") refl) refl h

d_to_m : (bs : List ℕ) → is_relation_d_to_m bs ≡ true → list_any is_colon bs ≡ false
d_to_m bs h = among_none (bytes_eq bs (codes "dep")) (
    codes "det" ∷ codes "discourse" ∷ codes "dislocated" ∷ codes "expl" ∷ codes "fixed" ∷ codes "flat" ∷
    codes "goeswith" ∷ codes "iobj" ∷ codes "list" ∷ codes "mark" ∷ []
    ) bs (same_none bs (codes "dep") refl) refl h

n_to_x : (bs : List ℕ) → is_relation_n_to_x bs ≡ true → list_any is_colon bs ≡ false
n_to_x bs h = among_none (bytes_eq bs (codes "nmod")) (
    codes "nsubj" ∷ codes "nummod" ∷ codes "obj" ∷ codes "obl" ∷ codes "orphan" ∷ codes "parataxis" ∷
    codes "punct" ∷ codes "reparandum" ∷ codes "root" ∷ codes "vocative" ∷ codes "xcomp" ∷ []
    ) bs (same_none bs (codes "nmod") refl) refl h

-- no universal relation has a colon
universal_none : (bs : List ℕ) → is_universal_relation bs ≡ true → list_any is_colon bs ≡ false
universal_none bs h = elim (cases_Bool (is_relation_a_to_c bs)) [
  | inl first ↦ a_to_c bs first
  | inr no_first ↦ elim (cases_Bool (is_relation_d_to_m bs)) [
    | inl second ↦ d_to_m bs second
    | inr no_second ↦ n_to_x bs (later (is_relation_a_to_c bs || is_relation_d_to_m bs) _ (or_from _ _ no_first no_second) h)
  ]
]

no_place : (bs : List ℕ) → list_any is_colon bs ≡ false → position_or_len is_colon bs ≡ length bs
no_place [] h = refl
no_place (b ∷ bs) h =
    let parts = or_parts (is_colon b) (list_any is_colon bs) h in
    let first : position_or_len is_colon (b ∷ bs) ≡ 1 + position_or_len is_colon bs = cond-true (not (is_colon b)) _ 0 (ap not parts.0) in
    let rest = no_place bs parts.1 in
    omega (arith, first, rest)

-- a universal relation is its own universal part
pub universal_whole : (bs : List ℕ) → is_universal_relation bs ≡ true → bs ≡ universal_part bs
universal_whole bs h = let none = no_place bs (universal_none bs h) in sym (rw none (take-length bs))

pub universal_fits : (bs : List ℕ) → is_universal_relation bs ≡ true → is_relation bs ≡ true
universal_fits bs h = is_relation-plain bs (no_place bs (universal_none bs h)) ∙ h
