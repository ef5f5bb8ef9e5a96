-- Between crates: no contract of a front door cites a definition of this module.
-- The numbers of a repetition, `{n}`, `{n,}` or `{n,m}`, and what is wrong with them.
use Rattle.std.specs.Prelude.{◌≡◌, ℕ, ◌-◌, ◌^◌, ◌<◌, List, length, Bool, ◌||◌, ◌==◌, nat_lt, Option, Some, None}
use Rattle.std.specs.Prelude.{if◌then◌else◌, MatchOption, unwrap_or, ◌⊎◌}
use Rattle.std.specs.List.{after_first, before_first, position_or_len}
use Rattle.std.specs.Str.{trim}
use Rattle.std.specs.Str.Parse.{IsNumeral, digits_value, without_leading_plus}
use Rattle.tb_words.specs.declared.sentences.TheConstants.{REPEAT_ABOVE, REPEAT_BACKWARD, REPEAT_ZERO}

-- these digits are a number of 32 bits
abbrev pub IsSmall : List ℕ → Type 0
IsSmall digits = IsNumeral 10 digits × (digits_value 10 digits < 2 ^ 32)

-- the number that they write; the largest one of 32 bits where they are none
abbrev pub IsWritten : List ℕ → ℕ → Type 0
IsWritten digits n =
    (IsSmall digits × (n ≡ digits_value 10 digits)) ⊎ ((IsSmall digits → ⊥) × (n ≡ 2 ^ 32 - 1))

-- a number with white space round it, where something is there
abbrev pub IsNumber : List ℕ → Option ℕ → Type 0
IsNumber text number =
    MatchOption number (length (trim text) ≡ 0) (λ n. (0 < length (trim text))
    × IsWritten (without_leading_plus (trim text)) n)

abbrev pub is_comma : ℕ → Bool
is_comma b = b == 44

-- the texts of the lower and of the upper number; one number is both
abbrev pub bound_texts : List ℕ → List ℕ × List ℕ
bound_texts text =
    if position_or_len is_comma text == length text then (text, text)
    else (before_first is_comma text, after_first is_comma text)

-- a number above 32, an upper one of 0, or one below the lower one
abbrev pub upper_sentence : ℕ → Option ℕ → Option (List ℕ)
upper_sentence lower None = None
upper_sentence lower (Some upper) =
    if upper == 0 then Some REPEAT_ZERO.now else if nat_lt upper lower then Some REPEAT_BACKWARD.now else None

abbrev pub bounds_sentence : Option ℕ → Option ℕ → Option (List ℕ)
bounds_sentence None upper = None
bounds_sentence (Some lower) upper =
    if nat_lt 32 lower || nat_lt 32 (unwrap_or upper 0) then Some REPEAT_ABOVE.now else upper_sentence lower upper

-- what is said of the text between the braces of a repetition
abbrev pub SaysBounds : List ℕ → Option (List ℕ) → Type 0
SaysBounds text said =
    (lower : Option ℕ) × (upper : Option ℕ) × IsNumber (bound_texts text).0 lower × IsNumber (bound_texts text).1 upper
    × (said ≡ bounds_sentence lower upper)
