-- A text of HTML begins no tag.
use Rattle.std.proofs.Common.{◌≡◌, ◌≢◌, ◌∙◌, ℕ, List, [], ◌∷◌, ◌++◌, Bool, true, false, cond, nat_eq, codes, refl, sym}
use Rattle.std.proofs.lemmas.Bool.{eq-eqb}
use Rattle.tb_assets.specs.Trees.{BeginsNoTag, escaped, escaped_byte}

-- a byte whose number is not that of the sign
differs : (b : ℕ) → nat_eq b 60 ≡ false → b ≢ 60
differs b other same = let both : true ≡ false = sym (eq-eqb b 60 same) ∙ other in absurd (cc)

byte_begins_none : (is_name is_sign : Bool) (b : ℕ) → (is_sign ≡ false → b ≢ 60)
    → BeginsNoTag (cond is_name (codes "&amp;") (cond is_sign (codes "&lt;") (b ∷ [])))
byte_begins_none true is_sign b h = (differs 38 refl, (differs 97 refl, (differs 109 refl, (differs 112 refl, (differs 59 refl, tt)))))
byte_begins_none false true b h = (differs 38 refl, (differs 108 refl, (differs 116 refl, (differs 59 refl, tt))))
byte_begins_none false false b h = (h refl, tt)

both_begin_none : (xs ys : List ℕ) → BeginsNoTag xs → BeginsNoTag ys → BeginsNoTag (xs ++ ys)
both_begin_none [] ys first rest = rest
both_begin_none (x ∷ xs) ys first rest = (first.0, both_begin_none xs ys first.1 rest)

pub begins_none : (text : List ℕ) → BeginsNoTag (escaped text)
begins_none [] = tt
begins_none (b ∷ bs) = both_begin_none (escaped_byte b) (escaped bs) (byte_begins_none (nat_eq b 38) (nat_eq b 60) b (differs b)) (begins_none bs)
