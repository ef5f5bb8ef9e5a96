-- A line in which no byte but its tabs may begin white space has none in its fields.
use Rattle.std.proofs.Common.{◌≡◌, ℕ, List, [], ◌∷◌, Bool, true, false, ◌||◌, not, ◌&&◌, refl, sym, subst, inl, inr}
use Rattle.std.specs.List.{list_any, AllByRecursion, onto_first}
use Rattle.std.specs.Str.{IsUtf8}
use Rattle.std.proofs.lemmas.Bool.{or_parts, or_from, cond-true, cond-false, cases_Bool}
use Rattle.tb_chars.specs.Spaces.{begins_white, has_space}
use Rattle.tb_conllu.specs.Lines.{fields}
use Rattle.tb_conllu.specs.Plain.{is_loose}
use Rattle.tb_conllu.specs.Shape.{is_tab}
use Rattle.tb_conllu.proofs.Parts.{fields_utf8}
use Rattle.tb_chars.proofs.Whites.{spaceless}

abbrev IsPlain : List ℕ → Type 0
IsPlain f = list_any begins_white f ≡ false

plain_byte : (odd tab : Bool) → (odd && not tab) ≡ false → tab ≡ false → odd ≡ false
plain_byte false tab h t = refl
plain_byte true false h t = h
plain_byte true true h t = t

onto_plain : (x : ℕ) (fs : List (List ℕ)) → begins_white x ≡ false → AllByRecursion IsPlain fs → AllByRecursion IsPlain (onto_first x fs)
onto_plain x [] p h = (or_from (begins_white x) false p refl, tt)
onto_plain x (f ∷ fs) p h = (or_from (begins_white x) (list_any begins_white f) p h.0, h.1)

plain_fields : (line : List ℕ) → list_any is_loose line ≡ false → AllByRecursion IsPlain (fields line)
plain_fields [] h = (refl, tt)
plain_fields (x ∷ line) h =
    let P : List (List ℕ) → Type 0 = AllByRecursion IsPlain in
    let parts = or_parts (is_loose x) (list_any is_loose line) h in
    let rest = plain_fields line parts.1 in
    elim (cases_Bool (is_tab x)) [
      | inl hit ↦ subst P (sym (cond-true (is_tab x) _ _ hit)) (refl, rest)
      | inr miss ↦ subst P (sym (cond-false (is_tab x) _ _ miss)) (onto_plain x (fields line) (plain_byte (begins_white x) (is_tab x) parts.0 miss) rest)
    ]

pub tight_fields : (line : List ℕ) → IsUtf8 line → (a b c d e f g h k l : List ℕ) → list_any is_loose line ≡ false → fields line ≡ a ∷ b ∷ c ∷ d ∷ e ∷ f ∷ g ∷ h ∷ k ∷ l ∷ [] → (has_space d || has_space e || has_space f || has_space g || has_space h || has_space k) ≡ false
tight_fields line utf8 a b c d e f g h k l tight same =
    let P : List (List ℕ) → Type 0 = AllByRecursion IsPlain in
    let all : AllByRecursion IsPlain (a ∷ b ∷ c ∷ d ∷ e ∷ f ∷ g ∷ h ∷ k ∷ l ∷ []) = subst P same (plain_fields line tight) in
    let texts : AllByRecursion IsUtf8 (a ∷ b ∷ c ∷ d ∷ e ∷ f ∷ g ∷ h ∷ k ∷ l ∷ []) = subst (AllByRecursion IsUtf8) same (fields_utf8 line utf8) in
    let t = all.1.1.1 in
    let u = t.1.1.1 in
    let v = texts.1.1.1 in
    let w = v.1.1.1 in
    rw (spaceless d v.0 t.0, spaceless e v.1.0 t.1.0, spaceless f v.1.1.0 t.1.1.0, spaceless g w.0 u.0, spaceless h w.1.0 u.1.0, spaceless k w.1.1.0 u.1.1.0) refl
