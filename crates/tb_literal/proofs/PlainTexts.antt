-- A literal for which nothing is built fits no value but its own text.
use Rattle.std.proofs.Common.{◌≡◌, ◌<◌, ◌+◌, ◌&&◌, ℕ, zero, suc, List, [], ◌∷◌, ◌++◌, Option, None, Bool, true, false, IsUtf8, slice_index, refl, sym, ◌∙◌, subst, arith, Box, Global, cond, ⊎_elim, ◌/◌}
use Rattle.std.proofs.lemmas.Bool.{false≢true}
use Rattle.std.proofs.lemmas.Slice.Eq.{bytes_eq-Decides}
use lib.Dec.{ltb, T, ltb→lt}
use lib.Utf8.{next, encode, encodes, scalar, scalars, scalar_cases}
use Rattle.regex.specs.declared.string.regex.Regex.{Regex}
use Rattle.tb_syntax.specs.declared.lexeme.Flag.{Flag}
use Rattle.tb_syntax.specs.declared.lexeme.Flag.TheVariants.{Plain, NoCase, Literal}
use Rattle.tb_literal.specs.Built.{IsPatternFor}
use Rattle.tb_literal.specs.Literals.{IsPlainText}

abbrev AreBytes : List ℕ → Type 0
AreBytes bs = (k : ℕ) → slice_index bs k < 256

no_bytes : AreBytes []
no_bytes k = omega arith

one_byte : (x : ℕ) (xs : List ℕ) → x < 256 → AreBytes xs → AreBytes (x ∷ xs)
one_byte x xs lt rest zero = lt
one_byte x xs lt rest (suc k) = rest k

chosen : (y : Bool) (a b rest : List ℕ) → (y ≡ true → AreBytes (a ++ rest)) → AreBytes (b ++ rest) → AreBytes (cond y a b ++ rest)
chosen true a b rest f h = f refl
chosen false a b rest f h = h

char_bytes : (c : ℕ) (rest : List ℕ) → c < 1114112 → AreBytes rest → AreBytes (encode c ++ rest)
unfolding encode
char_bytes c rest top h =
    let x1 : next c < 256 = omega arith in
    let x2 : next (c / 64) < 256 = omega arith in
    let x3 : next (c / 4096) < 256 = omega arith in
    let last = one_byte (next c) rest x1 h in
    let last2 = one_byte (next (c / 64)) (next c ∷ rest) x2 last in
    chosen (ltb c 128) _ _ rest (λ e. let lt : c < 128 = ltb→lt c 128 (subst T (sym e) tt) in one_byte c rest (omega (arith, lt)) h)
    (chosen (ltb c 2048) _ _ rest (λ e. let lt : c < 2048 = ltb→lt c 2048 (subst T (sym e) tt) in one_byte (192 + c / 64) (next c ∷ rest) (omega (arith, lt)) last)
    (chosen (ltb c 65536) _ _ rest (λ e. let lt : c < 65536 = ltb→lt c 65536 (subst T (sym e) tt) in one_byte (224 + c / 4096) (next (c / 64) ∷ next c ∷ rest) (omega (arith, lt)) last2)
    (one_byte (240 + c / 262144) (next (c / 4096) ∷ next (c / 64) ∷ next c ∷ rest) (omega (arith, top)) (one_byte (next (c / 4096)) (next (c / 64) ∷ next c ∷ rest) x3 last2))))

both_are : (b c : Bool) → (b && c) ≡ true → (b ≡ true) × (c ≡ true)
both_are true c h = (refl, h)
both_are false c h = absurd (false≢true h)

text_bytes : (cs : List ℕ) → scalars cs ≡ true → AreBytes (encodes cs)
text_bytes [] h = no_bytes
text_bytes (c ∷ cs) h =
    let parts = both_are (scalar c) (scalars cs) h in
    let top : c < 1114112 = ⊎_elim (λ low. omega (arith, low)) (λ high. high.1) (scalar_cases c parts.0) in
    char_bytes c (encodes cs) top (text_bytes cs parts.1)

-- a text's bytes are bytes
pub utf8_bytes : (bs : List ℕ) → IsUtf8 bs → AreBytes bs
utf8_bytes bs u = subst AreBytes u.1.1 (text_bytes u.0 u.1.0)

plain_by : (flag : Flag) (text : List ℕ) → IsPatternFor flag text None → IsPlainText (record { text = text; flag = flag })
plain_by Plain text stands = record { alone = λ value utf8 h. (bytes_eq-Decides value text).0 (sym (stands.at value utf8 (utf8_bytes value utf8)) ∙ h) }
plain_by NoCase text stands = absurd stands
plain_by Literal text stands = record { alone = λ value utf8 h. (bytes_eq-Decides value text).0 h }

pub plain_where_none : (flag : Flag) (text : List ℕ) (built : Option (Box Regex Global)) → built ≡ None → IsPatternFor flag text built → IsPlainText (record { text = text; flag = flag })
plain_where_none flag text built none stands = plain_by flag text (subst (IsPatternFor flag text) none stands)
