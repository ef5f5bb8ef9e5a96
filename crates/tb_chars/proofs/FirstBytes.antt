-- The first byte of a character, by how many it has.
use Rattle.std.proofs.Common.{◌≡◌, ℕ, ◌+◌, ◌<◌, ◌≤◌, ◌/◌, Bool, List, [], ◌∷◌, true, false, sym, ◌∙◌, ap, arith, inl, inr}
use Rattle.std.specs.List.{list_any}
use Rattle.std.proofs.lemmas.Bool.{or_parts, cond-true, cond-false, cases_lt}
use Rattle.std.proofs.lemmas.Bool.Decides.{nat_tests}
use lib.Utf8.{encode, next}
use lib.Dec.{ltb}

not_below : (c n : ℕ) → n ≤ c → ltb c n ≡ false
not_below c n h = grind (arith, nat_tests)

below : (c n : ℕ) → c < n → ltb c n ≡ true
below c n h = grind (arith, nat_tests)

-- the first byte of c fails the test
pub data FirstFails (p : ℕ → Bool) (c : ℕ) : Type 0 where
  one : c < 128 → p c ≡ false → FirstFails p c
  two : 128 ≤ c → c < 2048 → p (192 + c / 64) ≡ false → FirstFails p c
  three : 2048 ≤ c → c < 65536 → p (224 + c / 4096) ≡ false → FirstFails p c
  four : 65536 ≤ c → p (240 + c / 262144) ≡ false → FirstFails p c

head_fails : (p : ℕ → Bool) (bs cs : List ℕ) (b : ℕ) → bs ≡ b ∷ cs → list_any p bs ≡ false → p b ≡ false
head_fails p bs cs b e h = (or_parts (p b) _ (sym (ap (list_any p) e) ∙ h)).0

pub first_fails : (p : ℕ → Bool) (c : ℕ) → list_any p (encode c) ≡ false → FirstFails p c
unfolding encode
first_fails p c h = elim (cases_lt c 128) [
  | inl small ↦ one small (head_fails p (encode c) [] c (cond-true (ltb c 128) _ _ (below c 128 small)) h)
  | inr great ↦
      let many = cond-false (ltb c 128) _ _ (not_below c 128 great) in
      elim (cases_lt c 2048) [
        | inl short ↦ two great short (head_fails p (encode c) (next c ∷ []) (192 + c / 64) (many ∙ cond-true (ltb c 2048) _ _ (below c 2048 short)) h)
        | inr long ↦
            let more = many ∙ cond-false (ltb c 2048) _ _ (not_below c 2048 long) in
            elim (cases_lt c 65536) [
              | inl mid ↦ three long mid (head_fails p (encode c) (next (c / 64) ∷ next c ∷ []) (224 + c / 4096) (more ∙ cond-true (ltb c 65536) _ _ (below c 65536 mid)) h)
              | inr far ↦ four far (head_fails p (encode c) (next (c / 4096) ∷ next (c / 64) ∷ next c ∷ []) (240 + c / 262144) (more ∙ cond-false (ltb c 65536) _ _ (not_below c 65536 far)) h)
            ]
      ]
]
