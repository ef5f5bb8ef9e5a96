-- Between crates: no contract of a front door cites a definition of this module.
-- The nine faults of a line, each as a condition of its own.
-- CoNLL-U format page (https://universaldependencies.org/format.html): a file is UTF-8 and NFC. A blank line ends a
-- sentence. A line that begins with a hash is a comment, and comes before the word lines. Every other line is a word
-- line of ten fields, with one tab between each two. No field is empty, and only FORM, LEMMA and MISC may hold white
-- space. An ID is an integer from 1, a range of two, or a decimal number of an empty node. A HEAD is an integer from
-- 0, or an underscore. Numbers of at most six digits, and no control character but tab, are this project's own limits.
use Rattle.std.specs.Prelude.{◌≡◌, ◌≢◌, ℕ, ◌<◌, ◌⊎◌, List, [], ◌∷◌, length, take, Any}
use Rattle.std.specs.Prelude.{Bool, true, false, IfSome}
use Rattle.std.specs.Prelude.{Option, chars}
use Rattle.std.specs.Str.{IsUtf8}
use Rattle.tb_chars.specs.Spaces.{has_space}
use Rattle.unicode_normalization.specs.Forms.{IsInForm, Nfc}
use Rattle.tb_conllu.specs.declared.id.LineId.{LineId}
use Rattle.tb_conllu.specs.Text.{id_text, head_text}
use Rattle.tb_conllu.specs.Shape.{IsIdShaped, IsShort}
use Rattle.tb_conllu.specs.Lines.{fields, field}

-- ---- the three kinds of lines

abbrev pub IsBlank : List ℕ → Type 0
IsBlank line = line ≡ []

-- it begins with a hash
abbrev pub IsComment : List ℕ → Type 0
IsComment line = take 1 line ≡ 35 ∷ []

abbrev pub IsWordLine : List ℕ → Type 0
IsWordLine line = (IsBlank line → ⊥) × (IsComment line → ⊥)

-- ---- what a word line has

-- ten fields, none of them empty
abbrev pub HasTenFields : List ℕ → Type 0
HasTenFields line = (length (fields line) ≡ 10) × (Any IsBlank (fields line) → ⊥)

-- `n`, `n-m` or `i.k`
abbrev pub IsIdText : List ℕ → Type 0
IsIdText text = (id : LineId) × IsIdShaped id × (text ≡ id_text id)

-- `_`, or a number
abbrev pub IsHeadText : List ℕ → Type 0
IsHeadText text = (head : Option ℕ) × IfSome head IsShort × (text ≡ head_text head)

-- a field other than 1, 2 and 9 (FORM, LEMMA and MISC) holds white space
abbrev pub HoldsSpace : List ℕ → Type 0
HoldsSpace line = (k : ℕ) × (k < 10) × (k ≢ 1) × (k ≢ 2) × (k ≢ 9) × (has_space (field k line) ≡ true)

-- it holds one of U+0000 to U+001F that is no tab
abbrev pub HoldsControl : List ℕ → Type 0
HoldsControl line = Any (λ b. (b < 32) × (b ≢ 9)) line

-- ---- the nine conditions

abbrev pub IsNotUtf8 : List ℕ → Type 0
IsNotUtf8 line = IsUtf8 line → ⊥

abbrev pub IsNotNfc : List ℕ → Type 0
IsNotNfc line = IsUtf8 line × (IsInForm Nfc (chars line) → ⊥)

abbrev pub IsControlled : List ℕ → Type 0
IsControlled line = IsUtf8 line × HoldsControl line

abbrev pub HasOtherColumns : List ℕ → Type 0
HasOtherColumns line = IsWordLine line × (HasTenFields line → ⊥)

abbrev pub HasNoId : List ℕ → Type 0
HasNoId line = IsWordLine line × HasTenFields line × (IsIdText (field 0 line) → ⊥)

abbrev pub IsSpaced : List ℕ → Type 0
IsSpaced line = IsWordLine line × HasTenFields line × HoldsSpace line

abbrev pub HasNoHead : List ℕ → Type 0
HasNoHead line = IsWordLine line × HasTenFields line × (IsHeadText (field 6 line) → ⊥)

-- `came`: a word line of its sentence came before
abbrev pub IsLateComment : Bool → List ℕ → Type 0
IsLateComment came line = IsComment line × (came ≡ true)

abbrev pub IsEarlyBlank : Bool → List ℕ → Type 0
IsEarlyBlank came line = IsBlank line × (came ≡ false)

-- The line has this code.
abbrev pub HasCode : Bool → List ℕ → ℕ → Type 0
HasCode came line code =
    ((code ≡ 1) × IsNotUtf8 line)
    ⊎ ((code ≡ 2) × IsNotNfc line)
    ⊎ ((code ≡ 3) × IsControlled line)
    ⊎ ((code ≡ 4) × HasOtherColumns line)
    ⊎ ((code ≡ 5) × HasNoId line)
    ⊎ ((code ≡ 6) × IsSpaced line)
    ⊎ ((code ≡ 7) × HasNoHead line)
    ⊎ ((code ≡ 8) × IsLateComment came line)
    ⊎ ((code ≡ 9) × IsEarlyBlank came line)

-- The line has none of the nine codes.
abbrev pub HasNoCode : Bool → List ℕ → Type 0
HasNoCode came line = (code : ℕ) → HasCode came line code → ⊥

-- The line has this code, and no lower one.
abbrev pub HasLeastCode : Bool → List ℕ → ℕ → Type 0
HasLeastCode came line code = HasCode came line code × ((lower : ℕ) → lower < code
    → HasCode came line lower → ⊥)
