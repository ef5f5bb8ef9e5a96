-- One character more of an excerpt.
use Rattle.std.proofs.Common.{◌≡◌, ◌∙◌, ◌++◌, ◌∷◌, [], ℕ, List, ap, append-nil, chars, encode_utf8, encode_utf8_all, map, refl, sym, take}
use Rattle.std.proofs.lemmas.List.{map-append}
use Rattle.std.proofs.lemmas.Str.{encodes-append}
use Rattle.tb_words.specs.Shown.{visible}

pub one_more_seen : (seen : List ℕ) (c shown : ℕ) → shown ≡ visible c
    → encode_utf8_all (map visible seen) ++ encode_utf8 shown ≡ encode_utf8_all (map visible (seen ++ c ∷ []))
one_more_seen seen c shown is =
    ap (λ (s : ℕ). encode_utf8_all (map visible seen) ++ encode_utf8 s) is
    ∙ (ap (λ (xs : List ℕ). encode_utf8_all (map visible seen) ++ xs) (sym (append-nil (encode_utf8 (visible c))))
    ∙ (sym (encodes-append (map visible seen) (visible c ∷ [])) ∙ ap encode_utf8_all (sym (map-append visible seen (c ∷ [])))))

same_items : (xs : List ℕ) → map (λ c. c) xs ≡ xs
same_items [] = refl
same_items (x ∷ xs) = ap (λ (ys : List ℕ). x ∷ ys) (same_items xs)

pub all_seen : (text seen : List ℕ) → map (λ c. c) seen ≡ take 40 (chars text)
    → encode_utf8_all (map visible seen) ≡ encode_utf8_all (map visible (take 40 (chars text)))
all_seen text seen all = ap (λ (xs : List ℕ). encode_utf8_all (map visible xs)) (sym (same_items seen) ∙ all)
