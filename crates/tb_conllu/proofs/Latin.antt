-- Characters below U+0300 are starters that NFC leaves as they are; their bytes are below 204.
use Rattle.std.proofs.Common.{◌≡◌, ℕ, ◌+◌, ◌<◌, ◌/◌, List, [], ◌∷◌, true, false, refl, sym, ◌∙◌, ap, arith}
use Rattle.std.specs.Prelude.{chars}
use Rattle.std.specs.List.{list_any, list_all}
use Rattle.std.specs.Str.{IsUtf8}
use Rattle.std.proofs.lemmas.Bool.{or_parts, and_from}
use Rattle.std.proofs.lemmas.Bool.Decides.{nat_tests}
use Rattle.std.proofs.lemmas.List.Folds.{list_any-append}
use Rattle.std.proofs.lemmas.Slice.Eq.{bytes_eq-Decides}
use Rattle.std.proofs.lemmas.Str.{encodes-chars}
use Rattle.unicode_normalization.specs.Forms.{nfc, Nfc}
use Rattle.unicode_normalization.specs.Order.{is_ordered}
use Rattle.unicode_normalization.proofs.FormsLemmas.{passes, normalize-passes, quick_check-below, class-latin}
use Rattle.unicode_normalization.proofs.OrderLemmas.{is_ordered-nil, is_ordered-starter}
use Rattle.unicode_normalization.proofs.TableFacts.{is_yes}
use Rattle.tb_conllu.specs.Plain.{is_beyond_latin}
use Rattle.tb_conllu.specs.Lines.{is_nfc_text}
use Rattle.tb_chars.proofs.FirstBytes.{one, two, three, four, first_fails}
use lib.Utf8.{encode, encodes}

low : (b : ℕ) → is_beyond_latin b ≡ false → b < 204
low b h = grind (arith, nat_tests)

latin_code : (c : ℕ) → list_any is_beyond_latin (encode c) ≡ false → c < 768
latin_code c h = elim (first_fails is_beyond_latin c h) [
  | one small f ↦ omega (arith, small)
  | two great short f ↦ omega (arith, low (192 + c / 64) f)
  | three long mid f ↦ absurd (omega (arith, low (224 + c / 4096) f))
  | four far f ↦ absurd (omega (arith, low (240 + c / 262144) f))
]

latin_passes : (cs : List ℕ) → list_any is_beyond_latin (encodes cs) ≡ false → (list_all (passes Nfc) cs ≡ true) × (is_ordered cs ≡ true)
latin_passes [] h = (refl, is_ordered-nil)
latin_passes (c ∷ cs) h =
    let parts = or_parts (list_any is_beyond_latin (encode c)) (list_any is_beyond_latin (encodes cs)) (sym (list_any-append is_beyond_latin (encode c) (encodes cs)) ∙ h) in
    let first = latin_code c parts.0 in
    let rest = latin_passes cs parts.1 in
    let starter = class-latin c first in
    (and_from _ _ (ap is_yes (quick_check-below Nfc c first)) rest.0, is_ordered-starter c cs (omega (arith, starter)) rest.1)

-- a text of such characters is NFC
pub latin_nfc : (bs : List ℕ) → IsUtf8 bs → list_any is_beyond_latin bs ≡ false → true ≡ is_nfc_text bs
latin_nfc bs u h =
    let parts = latin_passes (chars bs) (ap (list_any is_beyond_latin) (encodes-chars bs u) ∙ h) in
    let form : nfc (chars bs) ≡ chars bs = normalize-passes Nfc (chars bs) parts.0 parts.1 in
    sym ((bytes_eq-Decides (nfc (chars bs)) (chars bs)).1 form)
